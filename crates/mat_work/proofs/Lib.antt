pub mod StandingRows

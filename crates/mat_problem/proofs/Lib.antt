pub mod SoundProblems
pub mod ListedMatroids

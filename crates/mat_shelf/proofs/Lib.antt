pub mod FileLemmas
pub mod ShelfLemmas
pub mod WritingLemmas

pub mod Kept
pub mod Marks
pub mod Marking
pub mod Tidied
pub mod Outcome
pub mod inner

pub mod Written
pub mod Draft
pub mod Outcome
pub mod NewBook
pub mod inner

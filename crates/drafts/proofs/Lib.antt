pub mod InARow
pub mod SpellingDrafts
pub mod Outcomes
pub mod NewBooks
pub mod Settled

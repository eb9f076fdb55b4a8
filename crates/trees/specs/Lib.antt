pub mod Trees
pub mod Due
pub mod Judge
pub mod Outcome
pub mod inner

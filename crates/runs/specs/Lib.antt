pub mod Lists
pub mod Run
pub mod ReadsRun
pub mod Numbered
pub mod Figures
pub mod Outcome
pub mod inner

pub mod Taken
pub mod OnSheets
pub mod Held
pub mod Waiting

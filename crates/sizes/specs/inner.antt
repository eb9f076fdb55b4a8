pub mod Along
pub mod Entries
pub mod Rows
pub mod Told

pub mod ForCell
pub mod Told

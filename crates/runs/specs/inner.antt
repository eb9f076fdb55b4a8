pub mod Adding
pub mod Framed
pub mod Reporting

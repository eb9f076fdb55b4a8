pub mod Reason
pub mod Holds
pub mod Why
pub mod inner

pub mod Key
pub mod Parts

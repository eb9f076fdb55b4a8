pub mod Recolour
pub mod inner

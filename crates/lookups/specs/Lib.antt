pub mod Colour
pub mod Book
pub mod Sheet
pub mod inner

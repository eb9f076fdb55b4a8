pub mod Showing
pub mod BookFamily
pub mod BookRules
pub mod BookCounts
pub mod SheetSizes
pub mod SheetCells
pub mod Settled

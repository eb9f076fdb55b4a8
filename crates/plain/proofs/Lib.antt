pub mod Lying
pub mod Trying
pub mod Answering
pub mod Endings
pub mod Demand1
pub mod AsDerived
pub mod Settled
pub mod Examples

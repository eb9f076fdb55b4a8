pub mod NodesGiven
pub mod Buffers

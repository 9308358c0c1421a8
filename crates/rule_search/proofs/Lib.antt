pub mod Spreading
pub mod Layers
pub mod Nodes
pub mod Entering
pub mod Unique

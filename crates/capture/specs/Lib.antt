pub mod Paper
pub mod Step
pub mod Swap
pub mod Pieces

pub mod Paper
pub mod Step
pub mod Walk
pub mod Layout
pub mod Write
pub mod Pieces

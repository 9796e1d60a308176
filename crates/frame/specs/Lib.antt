pub mod Paper
pub mod Step
pub mod Editions
pub mod ByPlace
pub mod Range

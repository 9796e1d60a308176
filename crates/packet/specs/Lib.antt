pub mod Paper
pub mod Step
pub mod Quick
pub mod Calls
pub mod Range

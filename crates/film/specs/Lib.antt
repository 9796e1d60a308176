pub mod Paper
pub mod Step

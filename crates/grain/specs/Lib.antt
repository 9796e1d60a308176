pub mod Paper
pub mod Carry

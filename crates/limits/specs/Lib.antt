pub mod Fraction
pub mod Paper
pub mod Steps
pub mod Accepted
pub mod Exact

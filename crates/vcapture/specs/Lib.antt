pub mod Asking
pub mod Calling

pub mod Telling
pub mod Asking

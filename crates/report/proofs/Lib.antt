-- The theorems of this crate, file by file, lowest first; each file says in its first line what it shows.
pub mod Bytes
pub mod Asking
pub mod Calls
pub mod Measuring
pub mod Signed
pub mod Answering
pub mod OneAnswer

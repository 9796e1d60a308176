-- The theorems of this crate, file by file, lowest first; each file says in its first line what it shows.
pub mod Levels
pub mod Runs
pub mod Draining
pub mod ByPlace
pub mod Owner
pub mod Ranging

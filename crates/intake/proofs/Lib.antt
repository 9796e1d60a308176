-- The theorems of this crate, file by file, lowest first; each file says in its first line what it shows.
pub mod Reading
pub mod Taking
pub mod Feeding
pub mod Swapped
pub mod OneAnswer

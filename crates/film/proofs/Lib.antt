-- The theorems of this crate, file by file, lowest first; each file says in its first line what it shows.
pub mod Filming
pub mod Leaving
pub mod Editions
pub mod OneAnswer

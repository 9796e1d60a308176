-- The theorems of this crate, file by file, lowest first; each file says in its first line what it shows.
pub mod Handing
pub mod Exactly
pub mod AtOnce
pub mod Agreeing

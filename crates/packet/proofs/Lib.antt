-- The theorems of this crate, file by file, lowest first; each file says in its first line what it shows.
pub mod Refusals
pub mod Lent
pub mod Turn
pub mod Declared
pub mod Latest
pub mod Cutting
pub mod Limits
pub mod Ranging

-- The theorems of this crate, file by file, lowest first; each file says in its first line what it shows.
pub mod Width
pub mod Bytes
pub mod EitherOrder
pub mod Fields

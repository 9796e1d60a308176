-- The theorems of this crate, file by file, lowest first; each file says in its first line what it shows.
pub mod Parts
pub mod Digits
pub mod Fields
pub mod Grouping
pub mod Read
pub mod Apart
pub mod RowsApart
pub mod LastApart
pub mod Examples
pub mod OneAnswer

-- The theorems of this crate, file by file, lowest first; each file says in its first line what it shows.
pub mod Shown
pub mod Turning
pub mod Beginning
pub mod Carrying
pub mod Wholly
pub mod Output
pub mod OneAnswer

-- The theorems of this crate, file by file, lowest first; each file says in its first line what it shows.
pub mod Answers
pub mod Turning
pub mod Inside
pub mod Carrying
pub mod Beginning
pub mod Progress
pub mod Output
pub mod Examples
pub mod OneAnswer

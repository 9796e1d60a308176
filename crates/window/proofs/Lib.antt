-- The theorems of this crate, file by file, lowest first; each file says in its first line what it shows.
pub mod Showing
pub mod Answering
pub mod Keeping
pub mod Running
pub mod Program
pub mod OneAnswer

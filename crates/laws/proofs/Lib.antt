-- The laws of this crate, file by file, lowest first; each file says in its first line what it shows.
pub mod Unique
pub mod Choose
pub mod Climb
pub mod Count
pub mod Differ
pub mod Every
pub mod Fold
pub mod Lay
pub mod Most
pub mod Seek

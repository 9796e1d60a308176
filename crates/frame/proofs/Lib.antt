-- The theorems of this crate, file by file, lowest first; each file says in its first line what it shows.
pub mod Opening
pub mod FrameKinds
pub mod Stretches
pub mod Places
pub mod Duality
pub mod Keeping
pub mod Stepping
pub mod NextReads
pub mod RowOfFrame
pub mod BufferOfFrames
pub mod Editions
pub mod Ranges
pub mod RowsFit

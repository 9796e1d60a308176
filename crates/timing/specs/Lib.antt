pub mod Step
pub mod Range
pub mod Feed
pub mod Answers
pub mod Editions
pub mod Profiles
pub mod History

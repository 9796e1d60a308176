-- What vtiming promises, in the order in which a doubter reads. Each page has theorems and no work: a theorem stands under the sentence that
-- it says, and its proof cites the crate that did the work. To believe a theorem read the definitions that it names; they stand in the
-- specs/ of the crates below, each under its rule (docs/RULES.md), and nowhere else.
--
-- 1. Cases: document 01's twelve cases, both sides of each limit. The definitions give its numbers, so they mean what it means.
pub mod Cases
-- 2. Rates: where the eight frame lengths come from.
pub mod Rates
-- 3. Measurement: the owner's three demands on what is measured, call after call.
pub mod Measurement
-- 4. Editions: what an edition of the test plan decides, and what not.
pub mod Editions
-- 5. Profiles: what a profile decides, and what not.
pub mod Profiles
-- 6. RoundTrips: the record file read and written, both ways, whole and in pieces.
pub mod RoundTrips
-- 7. Calls: what a host in C gets back, and what is left in the memory that it lent.
pub mod Calls
-- 8. Output: what the program prints of a file, however it comes.
pub mod Output
-- 9. Captures: what is promised of a network capture: which frames count, a call on one, and what the program prints of it.
pub mod Captures

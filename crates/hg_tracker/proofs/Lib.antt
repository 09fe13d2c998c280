-- What a gather finds, and what a try moves.
pub mod Rounds
pub mod TableLists
pub mod Counts
pub mod Bounds
pub mod After
pub mod Entries
pub mod Tries
pub mod Made

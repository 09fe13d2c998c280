-- What the tests know of seats between two commits.
pub mod Between

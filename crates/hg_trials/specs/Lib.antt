-- What seats are between two commits of a test, and a transaction that has begun.
pub mod Between

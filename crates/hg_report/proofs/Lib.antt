-- The values of a record, and its place.
pub mod ValuesIn
pub mod Places
-- A record is guessed from the script: the guess fits, and is what was printed.
pub mod Fitting
pub mod Asking
pub mod Counts
pub mod Stands
pub mod ReadBack
pub mod Columns
pub mod Heads
pub mod Runs
pub mod Running
-- Bytes are parted into fields, and tell which records stand there.
pub mod Unquoted
pub mod Parted
pub mod Following
-- The reader: a record, a turn, the end, and the first that is refused.
pub mod Taking
pub mod Looping
pub mod Answering
pub mod Shorter

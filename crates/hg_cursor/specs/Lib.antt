-- The keys of a bucket, and a search for those that have a version.
pub mod Keys
-- What a session's log gains.
pub mod Logs
-- Which rows of several are kept.
pub mod Firsts
-- What a scan reads of each bucket.
pub mod Scans
-- What a fetch reads of one bucket, and of all.
pub mod Looks
pub mod Cursors
-- The rows of all fetches.
pub mod Given

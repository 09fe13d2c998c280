-- The bytes of records.
pub mod RecordBytes
-- A text is read as the records that were written.
pub mod Numbers
pub mod Written
pub mod Accepted
pub mod ReadBack
-- The rows of a snapshot.
pub mod Ordered
pub mod RowsShown
-- What looks leave of a session, and which histories go on from it.
pub mod Looking
-- The text of rows, and the rows of all tables.
pub mod Texts
pub mod Fetches
-- What the log of a session says without its looks.
pub mod Looks
pub mod Newest
-- The reader's records and lines.
pub mod Reading
pub mod Sessions
-- A run with the reader is a run of all these sessions.
pub mod Runs
-- What the lines of both say.
pub mod Joining
pub mod Silent
pub mod Parting
pub mod Holding
pub mod Shown
-- What is left without the reader's lines.
pub mod Quiet
pub mod Between
pub mod Alone
-- An export, as the reader's log.
pub mod Exported
-- A replay of a dump.
pub mod Stored
pub mod Images
pub mod Restored
pub mod Backup
-- The example.
pub mod Examples

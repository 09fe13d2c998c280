-- Statements are linked to the next of their session.
pub mod Links
-- A statement that is put together again is the one that was taken apart.
pub mod Unpacked
-- The table of each session's last cursor.
pub mod Opening
-- The bytes of records, and of fields byte by byte.
pub mod RecordBytes

-- What a statement asks.
pub mod Asked
-- Statements as they are kept: taken apart, linked to the next of their session, and with the table of their cursor.
pub mod Packed
pub mod Links
pub mod Cursors
-- The bytes of a record.
pub mod Bytes

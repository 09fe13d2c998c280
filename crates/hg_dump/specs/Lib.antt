-- The rows of a snapshot, and the script that puts them back. A reader meets the definitions in this order.
pub mod Rows
pub mod Dumps
-- The text of that script: its records as lists of fields, and their bytes.
pub mod Records
-- What that text is worth.
pub mod Backup
-- What an export needs of a session, and what it leaves.
pub mod Exports
-- What the parts of an export write.
pub mod Readings
pub mod Writes
-- The session that reads for a dump.
pub mod Reader
pub mod Alone
-- What is known of a run with it, at the end.
pub mod Ran
-- An example of both laws.
pub mod Worked

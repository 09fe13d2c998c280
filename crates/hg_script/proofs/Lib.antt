-- What the fields of a record say.
pub mod Rows
pub mod Names
pub mod Scopes
pub mod Places
pub mod Sets
pub mod Taken
pub mod Typed
pub mod Widths
-- A script stays lawful, record by record.
pub mod Open
pub mod Declared
pub mod Fitting
pub mod Growth
pub mod Lawful
-- Places are counted.
pub mod Numbered
-- A reader reaches every record.
pub mod Walk
pub mod Whole
-- A record that is judged when it comes.
pub mod Judging
pub mod Accepting

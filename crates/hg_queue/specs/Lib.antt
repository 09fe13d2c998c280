-- A list of records, as clauses see it.
pub mod Rids
-- What a transaction in the queue is.
pub mod Handing
-- The rule of the queue, and what its steps tell.
pub mod Lines
pub mod Queues

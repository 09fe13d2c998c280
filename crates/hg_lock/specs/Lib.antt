-- What a caller reads on a list of locks and on a loan.
pub mod Locks
-- The rule of a list of locks: for the locks themselves.
pub mod Guarded

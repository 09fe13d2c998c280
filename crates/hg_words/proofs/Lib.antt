-- A number that is read of a text, and the range in which it lies.
pub mod Numbers
mod Bounds
-- How the command is put together.
pub mod Lines

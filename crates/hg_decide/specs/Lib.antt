-- The worked examples.
pub mod Writing
pub mod Examples
pub mod Broken
-- Which part of a text is at fault.
pub mod Audit

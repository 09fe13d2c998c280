-- The rule of a lock, and the values under it.
pub mod Steps
pub mod Values

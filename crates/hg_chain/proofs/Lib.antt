-- The turns of a sweep.
pub mod Turns

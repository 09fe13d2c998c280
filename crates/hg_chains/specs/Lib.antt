pub mod Versions
pub mod Sweeps
pub mod Merging
-- The versions of many records.
pub mod Places
-- How they stand in one array: for the array itself.
pub mod Strands
pub mod Arenas
pub mod Landmarks

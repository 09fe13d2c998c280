-- A cut and a sweep, on a list of versions.
pub mod Cuts
pub mod Merges
pub mod Sweeps
pub mod Cleanness
pub mod Readers
-- Chains in the nodes of an arena, and each change of one.
pub mod Strands
pub mod Rooms
pub mod Writes
pub mod Heads
pub mod Fronts
pub mod Removals
pub mod Unlinks
-- A walk along a chain, and a sweep along it.
pub mod Walks
pub mod Settling
pub mod Tops
-- Where a read may start.
pub mod LandmarkFacts
pub mod LandmarkLists
-- What callers see.
pub mod Held
pub mod Newest
pub mod Bounds

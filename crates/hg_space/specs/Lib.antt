-- The places of a table space, and the index of records.
pub mod Places
pub mod Index
-- The table from records to places: for the index itself.
pub mod Slots
-- How free places are linked: for the space itself.
pub mod Links
pub mod Rosters

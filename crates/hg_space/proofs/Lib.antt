-- Places: which are free, and which stay taken.
pub mod LinkFacts
pub mod PlaceFacts
-- The index from records to places.
pub mod IndexFacts
-- Lists of records by table.
pub mod RosterFacts
pub mod Leaving
pub mod Entering
-- The table from records to places.
pub mod BinFacts
pub mod TableFacts

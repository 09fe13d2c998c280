-- What is found in the parts: by the index, and of a record.
pub mod Reading
pub mod Entries
pub mod Bare
-- A record or its place changes, and the others stay.
pub mod Seating
pub mod Turning
pub mod Dropping
pub mod Naming
pub mod Listing
pub mod Leaving
pub mod Listed
-- A write: what becomes of it, its number and its end.
pub mod Changing
pub mod Installing
pub mod Stamping
pub mod Refusing
pub mod Putting
-- A record is cut.
pub mod Cutting
pub mod Shortening
-- A record is swept.
pub mod Sweeps
pub mod Sweeping
pub mod Settling
-- A walk through a table, and what it costs.
pub mod Walking
pub mod Rounds
pub mod Costing
pub mod Paying
-- A record is swept that its table's list has.
pub mod LongSweeps

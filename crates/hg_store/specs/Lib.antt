-- What a bucket keeps of a content.
pub mod Kept
-- What is known of the transaction that a refused write met.
pub mod Ends
-- Locked buckets, and one that is held.
pub mod Slots
pub mod Stores
-- A pass that holds one.
pub mod Passes
pub mod Writing
-- What a pass makes of a table.
pub mod Clearing

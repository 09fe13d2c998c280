-- What a bucket keeps is the content: reads, refusals and changes.
pub mod Seeing
pub mod Refusing
pub mod Changing
pub mod Doing
pub mod Keeping
pub mod Rising
-- A pass that holds a bucket, and each step that it takes.
pub mod Bounding
pub mod Holding
pub mod Stepping
pub mod Boxing
-- What the invariant says of a bucket that is held.
pub mod Ending
pub mod Backing
pub mod Mine
-- A write: what decides it, and what it leaves.
pub mod Deciding
pub mod Storing
pub mod Owning
pub mod Firsts
-- A pass through a table, and what it costs.
pub mod Clearing
pub mod Rounding
pub mod Spending
-- A new store.
pub mod Filling
-- The bucket of a record, by a mask.
pub mod Masking

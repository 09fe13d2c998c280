-- The order of commits, and contexts.
pub mod Ordering
pub mod ContextFacts
pub mod Bound
-- What lies under the commit lock.
pub mod Booked
-- What lies under a session's lock.
pub mod Pushing
-- A batch is popped and gathered.
pub mod Popping
pub mod Listing
pub mod Recording
pub mod Collecting
-- It is stamped, and becomes a group.
pub mod Batching
pub mod Stamped
pub mod Grouped
pub mod Whole
-- It is laid down, and handed back.
pub mod Laying_down
pub mod Turning
pub mod Returning
pub mod Back
pub mod Through
pub mod Joint
pub mod Led
-- A collector takes the oldest group.
pub mod NextGroup

-- Groups, and maps from records.
pub mod Groups
pub mod SlotOrder
pub mod SpotOrder
-- Lines, one after the other.
pub mod Reading
pub mod Sequencing
pub mod Walking
pub mod Gathering
-- Printed commits, and the history that they give.
pub mod Pairs
pub mod Whole
pub mod Overwrites
pub mod Joining
pub mod Showing
pub mod Losing
-- Ends, numbers and snapshots.
pub mod Ending
pub mod Closing
pub mod Opened
-- What cursors have left.
pub mod Rests
pub mod Fresher
pub mod Hearing
pub mod Pointing
pub mod Firsts
pub mod Tallying
pub mod Asking

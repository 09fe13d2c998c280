-- Visits, and what is reported of them.
pub mod Counted
pub mod Going
pub mod Removing
pub mod Tables
pub mod Visiting
pub mod Reported
pub mod Snapshots
-- The table collector.
pub mod Moving
-- The interval collector.
pub mod Spending
-- Numbers that are drawn.
pub mod Adding
pub mod Word
-- Helpers, and a team.
pub mod Helped
pub mod Hired
pub mod Joined
pub mod Rounded

-- The state machine under every concurrent claim. A reader meets the definitions in this order.
pub mod Words
pub mod Logs
pub mod Phases
pub mod Passes
pub mod Versions
pub mod Contents
pub mod Removal
pub mod Clean
pub mod Sums
pub mod Counters
pub mod Visits
pub mod State
pub mod Events
pub mod Steps
-- What holds between any two events, part by part, and in whole.
pub mod Marks
pub mod Registers
pub mod Bounds
pub mod Reach
pub mod Ordered
pub mod OpenWrites
pub mod Covered
pub mod Placed
pub mod Replies
pub mod Judged
pub mod Invariant
pub mod Reading
pub mod Answered
pub mod Shown
-- What follows of commits and gathers, a run, and which steps would be wrong.
pub mod Commits
pub mod Missed
pub mod Causes
pub mod Held
pub mod Few
pub mod Worked
pub mod Wrong

-- The records of lines, in their order.
pub mod Sequenced
-- Lines with their transactions.
pub mod Lines
-- What each transaction stored.
pub mod Owned
-- What each group writes.
pub mod Written
-- How transactions end.
pub mod Ended
-- How many versions they made.
pub mod Tallied
-- Which lines ask for what all lines say.
pub mod Asked
-- What printed commits have to be.
pub mod Commits
-- What transactions stored, joined to groups.
pub mod Joined
pub mod Shown
-- Which numbers and snapshots were printed before.
pub mod Heard
pub mod Marked
-- What is kept of all lines, where some line asks for it.
pub mod Context
-- What is gathered of lines, one after the other.
pub mod Gathered
pub mod Before

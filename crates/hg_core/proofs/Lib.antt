-- Words on functions, records and sums.
pub mod Indices
pub mod Records
pub mod Sums
pub mod Past
-- Logs that grow.
pub mod LogSteps
pub mod Recalls
pub mod Loading
pub mod Shows
pub mod Replies
pub mod OwnKeys
-- A record's versions, and what holds of them after each event.
pub mod Versions
pub mod OpenWrites
pub mod Placing
pub mod Cuts
pub mod Clean
pub mod Covering
pub mod Visits
pub mod Lengths
pub mod Tallies
-- A new group.
pub mod Groups
pub mod NewGroup
pub mod Updates
pub mod Grouping
pub mod Backing
-- Each kind of event keeps the invariant.
pub mod Begins
pub mod Looking
pub mod Writing
pub mod Publishing
pub mod Gathers
pub mod Fences
pub mod Sweep
pub mod Reclaiming
pub mod Seats
pub mod Unions
pub mod Runs
pub mod Causes
pub mod Moves
-- What follows from it: of commits, counts, removals, and boards at rest.
pub mod Earlier
pub mod Commits
pub mod Counting
pub mod Bounded
pub mod Exact
pub mod Settling
pub mod Remaining
pub mod Few
pub mod Alone
pub mod Words
-- What logs and replies say of each other.
pub mod Right
pub mod Answering
-- What a state and its logs show of a write.
pub mod Firsts
-- Runs that there are, and steps that are refused.
pub mod WorkedParts
pub mod Worked
pub mod WorkedBegins
pub mod WorkedMasks
pub mod WorkedMoves
pub mod WorkedSweeps
pub mod Refused
pub mod Mistakes

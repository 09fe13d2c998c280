-- Words on tests, numbers and lists.
pub mod Words
-- The history that is printed, and that of the logs.
pub mod Commits
pub mod Disjoint
pub mod Same
pub mod Lives
-- A line beside its session's log.
pub mod Ties
pub mod Adds
pub mod Ended
pub mod Entries
pub mod Right
pub mod LineParts
pub mod EndLines
pub mod Lines
pub mod Reports
pub mod Whole
pub mod Lefts
pub mod Telling
pub mod Orderly
pub mod Numbers
pub mod OpenSnapshots
-- A replay is sound, and a run.
pub mod Replaying
pub mod Running
pub mod Rounds
-- A replay step by step: its history and logs go on, with an answer that is right.
pub mod Growing
pub mod Parts
pub mod OnTop
pub mod Answering
pub mod Loops
pub mod Knowledge
pub mod Stepping
pub mod Singles
-- The totals, from the lines and from the logs.
pub mod Firsts
pub mod Undone
pub mod Tidy
pub mod Counting
pub mod Tallying
pub mod OverBuckets
pub mod Totalling
pub mod Removed
pub mod Among
pub mod Wrote
pub mod Few
-- A replay whose history is known at its end alone.
pub mod Prints
pub mod Following
pub mod OpenWrites
pub mod Before
pub mod Closing
-- One list of steps that printed a text.
pub mod RunsEnd
pub mod WorkedLists
-- A replay and a run that meet all this.
pub mod Worked

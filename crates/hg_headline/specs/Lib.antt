-- What a command knows when it has printed its lines. A reader meets the definitions in this order.
pub mod Logged
-- A replay.
pub mod Timely
pub mod Met
pub mod Replayed
pub mod Answered
-- A run.
pub mod Gathered
pub mod Ran
-- The totals of both.
pub mod Counted
pub mod Boards
-- What an interval round leaves of a replay.
pub mod Few
-- A replay whose history is known at its end alone.
pub mod Following
pub mod Totalled
-- One run that prints a text.
pub mod OneRun
pub mod WorkedSteps
-- A replay and a run that meet all this.
pub mod Worked

-- The group collector takes a bucket, and cuts its records.
pub mod Going
pub mod Held
pub mod One
pub mod Stretches
-- It takes groups, and makes a round of them.
pub mod Groups
pub mod GroupRounds
-- One of a list, and one of three kinds.
pub mod Among
-- The interval collector, one or a team.
pub mod Teams
-- What rounds note.
pub mod Notes
-- A round of a collector, and what meetings with its pass leave.
pub mod Rounds
pub mod Meetings
-- Rounds one after the other, and beside each other.
pub mod Driving
pub mod Concurrent
-- What each reports is what it noted.
pub mod Told
pub mod Gave
pub mod OneNoted
pub mod AllNoted
pub mod OneRun
-- What is printed of them.
pub mod Reported

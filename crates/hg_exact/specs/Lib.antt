-- What a replay prints. A reader meets the definitions in this order.
pub mod State
pub mod Answers
pub mod Replayed
pub mod SoFar
-- What a conversation answers, how it is written, and what is known of the answers so far.
pub mod Conversed
pub mod AnswerText
pub mod Due
-- A short conversation, and texts that are sound and are not exact.
pub mod Talk
pub mod Worked
-- What is asked of a script.
pub mod Lawful
-- What makes a sound text the one that is replayed. `Shown` of `hg_core` says it of the logs of its sessions.
pub mod First
-- How many rounds a mode makes, what is open after some records, and which rows a line prints.
pub mod Modes
pub mod Opening
pub mod Rows

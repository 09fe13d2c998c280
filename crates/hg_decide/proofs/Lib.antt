-- A fact with its answer.
pub mod Decide
-- A text is sound, part by part.
pub mod DecidedCommits
pub mod DecidedReplies
pub mod Decided
-- Faults.
pub mod Audited

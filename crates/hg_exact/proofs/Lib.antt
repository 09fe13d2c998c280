-- The keys of a table, and the rows of a scan and of a fetch.
pub mod Keys
pub mod Rows
-- What the lines show of each session.
pub mod Standing
-- What holds of the open transactions.
pub mod Keeping
-- The answers.
pub mod Answering
-- The numbers that are printed.
pub mod Counting
-- The causes of refusals.
pub mod Causes
-- What is known of the lines, and a line more: in the open transaction, or one of its own.
pub mod Known
pub mod Within
pub mod Single
pub mod Stepping
-- All lines.
pub mod Sound
-- Two lists of the same rows.
pub mod Alike
-- A history that goes on.
pub mod Longer
-- A line's answer is determined.
pub mod Determined
-- Numbers that ascend follow each other.
pub mod Numbering
-- A sound text with its first causes is the one.
pub mod Unended
pub mod ExactLines
pub mod Exact
-- Commit numbers ascend in what a replay knows.
pub mod Ascending
-- The text that is replayed, itself.
pub mod Itself
-- A script that breaks no rule.
pub mod Asked
-- Where the logs show first causes, the lines have them; and logs that do.
pub mod Newest
pub mod Shown
pub mod Conflict
-- The totals of texts that are alike.
pub mod Totals
-- What is printed fits the script: how many there are of all, the records in the order of their lines, the rows, and each line.
pub mod Sessions
pub mod OpenAfter
pub mod Counts
pub mod InOrder
pub mod Opens
pub mod Fetched
pub mod PutRows
pub mod FitRows
pub mod Widths
pub mod Few
pub mod Replies
pub mod Fits
-- What a conversation answers.
mod FewSessions
pub mod Conversing
-- The records that broke no rule.
pub mod Accepted
pub mod Scripted
-- The answers that are due.
pub mod Due

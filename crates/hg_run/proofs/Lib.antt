-- What a session that has heard all logs knows, and what its reply shows.
mod Hearing
mod FreshNumbers
mod Told
-- The sessions of a list: one answers, and two meet.
mod Listing
mod Pairs
mod Turns
mod Refused
-- Each write shows its first cause.
mod Firsts
mod Caught
-- A round of a collector: what it found, and what meetings with its pass leave.
mod Gathering
mod Alone
mod Meetings
mod MeetingAll
mod Sweeping
mod CleanAfter
mod LookedAt
-- A whole script.
mod Cursors
mod Going
mod Asking
mod FewHeld
-- A conversation, and where memory runs out in it.
mod Named
mod Unsaid
mod RunningOut
mod Living
mod Stopping
mod Accepting
mod Desking
mod Conversing
-- Its totals, in the midst and at its end.
mod TakenBack
mod RolledBack
mod Counted
mod Final
mod Begun
mod Closes
mod Brought
mod StepsEnd
mod Opened
mod Dumps
mod Readers
-- A session's worker.
mod Working
mod Hiring
-- When each status comes.
mod Exactly
-- What is printed of a run, and of one that is read.
mod WholeRun
mod ToldRounds
mod OneRun
mod Closing
mod WholeDump
mod Dumped
mod ReadBoth
mod FitsDump

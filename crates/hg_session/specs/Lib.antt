-- Whose engine and session they are, and what a session keeps.
pub mod Engines
pub mod Ties
pub mod Sessions
pub mod Frames
-- What a new engine's are.
pub mod Opened
-- What a call leaves of a session, and how it replies.
pub mod Gains
pub mod Replies
pub mod Refused
pub mod Cursors
pub mod Alone
-- That a write has its first cause.
pub mod Firsts
-- What a view says of a reply that it has heard.
pub mod Right
-- The passes of its collectors.
pub mod Passing
-- What a pass knows once all others are joined to it.
pub mod Ended
pub mod OneRun
pub mod Finished
-- What it counts then.
pub mod Visited
-- What it makes of the buckets then.
pub mod Settled
-- A session at rest, as callers hand it on.
pub mod Resting
-- Sessions whose parts are with one of them, and what it counts then.
pub mod Lent
pub mod SoFar
pub mod Moment

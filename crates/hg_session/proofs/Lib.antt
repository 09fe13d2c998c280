-- What a session keeps, and what it has heard.
pub mod Tying
pub mod Done
pub mod Meetings
pub mod Settling
pub mod Refusing
-- A trip to a bucket.
pub mod Reading
pub mod Trips
pub mod Storing
pub mod Firsts
-- What a call replies, and that it is right.
pub mod Replying
pub mod Putting
pub mod Ranged
pub mod Undoing
pub mod Placed
pub mod Right
-- A cursor.
pub mod Cursors
-- A statement, in a transaction or outside.
pub mod Spending
-- A new engine.
pub mod Seating
pub mod Passing
pub mod Rested
-- The end: all parts come to one pass, which cuts and counts.
pub mod Bringing
pub mod Quiet
pub mod Committing
pub mod Leaving
pub mod Visiting
pub mod Ending
-- Between two statements: all parts come to one pass, which counts, and go back.
pub mod Handovers
pub mod SoFar
pub mod AllBack
pub mod OneHolder
pub mod AtOnce

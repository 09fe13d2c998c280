-- What the drivers know of sessions and collectors, and what they leave. A reader meets the definitions in this order.
pub mod Heard
pub mod Listed
pub mod Caught
pub mod Asked
pub mod Meeting
pub mod Collecting
pub mod Working
pub mod Driven
pub mod Few
pub mod Played
pub mod Unsaid
pub mod ForAll
pub mod Live
pub mod Untold
pub mod Desk
pub mod Closed
pub mod Reader
-- What the words ask for, what is printed, and when each status comes. A reader meets the definitions in this order.
pub mod Words
pub mod Printing
pub mod Idle
pub mod Ended
pub mod Dumping
pub mod Judging
pub mod Serving
pub mod Conversing

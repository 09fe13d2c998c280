-- The places of the words, what a seat at the board has and knows, and the rule.
pub mod Words
pub mod Codes
pub mod ViewCodes
pub mod Keys
pub mod Facts
pub mod Rules
-- What each step and each move of a seat makes of a view.
pub mod Views
pub mod Steps
pub mod Moves
pub mod Holding
pub mod Writes
pub mod Removes
pub mod Places
pub mod Handing
pub mod Sharing
-- What a round of a collector's pass is, and what it reports.
pub mod Rounds
-- Seats.
pub mod Lending
pub mod Seats
-- What a meeting shows, and the one view that has everything.
pub mod Agreed
pub mod Reading
pub mod New

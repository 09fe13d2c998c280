-- Words on counts and lists.
pub mod Counts
pub mod Lists
-- What a view says of a state that backs it.
pub mod Growing
pub mod Registers
pub mod Owned
pub mod Holders
pub mod Agreements
pub mod Found
-- Each step keeps the rule.
pub mod Reached
pub mod Keeps
pub mod Evidence
pub mod Entrance
pub mod Lifetimes
pub mod Records
pub mod Exchange
pub mod Ranges
pub mod Looks
pub mod Works
pub mod Commits
pub mod Reclaims
pub mod Members
pub mod Stamps
pub mod Publication
-- A seat that is lent, and each move of a seat keeps the rule.
pub mod Lent
pub mod Shifts
pub mod Three
pub mod Turning
pub mod Handing
-- A pass is split, and two are united.
pub mod Uses
pub mod Branches
pub mod Unity
pub mod Unions
-- A new board, boards at rest, and a round.
pub mod Opening
pub mod Rounds

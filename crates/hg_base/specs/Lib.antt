-- What a run may print. A reader meets the definitions in this order.
pub mod Lists
pub mod Values
pub mod Script
pub mod History
pub mod RidOrder
pub mod Transcript
pub mod Shape
pub mod Replies
pub mod Conflicts
pub mod Freshness
pub mod Counts
pub mod Sound
pub mod Text
-- Which fields are numbers, and which number each is.
pub mod Number
-- What a collector may take.
pub mod Lifetimes
-- The outside: reports as they are printed, faults, and the bytes that pass.
pub mod Entries
pub mod Reports
pub mod Faults
pub mod Flows
pub mod Told
pub mod Packed
pub mod Storage

-- Replies and conflicts.
pub mod Firsts
pub mod Answering
pub mod Looking
pub mod Scanned
pub mod Conflicting
-- Order of numbers.
pub mod Holding
pub mod Opening
-- Shape and totals.
pub mod Shaping
pub mod Distinct
pub mod Living
-- Cursors name tables below the limit.
pub mod Opens
-- The verdict.
pub mod Sequencing
pub mod Placing
pub mod Sounding
pub mod Finding
pub mod Exact

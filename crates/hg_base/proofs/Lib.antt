-- Words on lists, options and tests.
pub mod ListFacts
pub mod Numbers
pub mod Masks
pub mod Packing
pub mod Holding
-- Histories, and the order of records.
pub mod HistoryFacts
pub mod RidOrder
-- A line more, and a longer history.
pub mod Extending
pub mod Growth
-- What a cursor has left.
pub mod Resting
-- A text is read as what was printed.
pub mod TextNumbers
pub mod TextFits
pub mod TextReading
pub mod TextReplies
pub mod TextLines
-- A number is read digit by digit, and is written in one way.
pub mod Digits
pub mod Decimal
-- The bytes that only proofs see.
mod Walks

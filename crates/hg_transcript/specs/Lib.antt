-- The fields of each record of a text.
pub mod Piece
-- Lines that are kept as their text.
pub mod LineCode
pub mod LinesText

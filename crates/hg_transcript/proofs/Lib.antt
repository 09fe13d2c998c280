-- Records and their bytes.
pub mod RecordBytes
pub mod Plain
-- Bytes that are written from the last to the first.
pub mod Backwards
-- Lines that only proofs see.
pub mod Walks

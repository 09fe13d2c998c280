-- The gate, a device and a journal.
pub mod Gate
pub mod Device
pub mod Journal
pub mod Calls
pub mod CallCode
pub mod Asked
pub mod Recorded
pub mod Memory

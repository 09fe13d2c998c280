-- Two steps are one, and bytes are parted in one way.
mod Known
pub mod Parted

-- What a source in memory gives.
pub mod Fronts

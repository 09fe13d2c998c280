-- What is drawn from a seed, and the script that this makes.
pub mod Generator

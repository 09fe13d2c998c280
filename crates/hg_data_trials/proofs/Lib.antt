-- What the tests know of the numbers in a chain.
pub mod ChainFacts

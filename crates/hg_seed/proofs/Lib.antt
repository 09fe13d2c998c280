-- A script that is made keeps the rules, and is the only one of its seed.
pub mod Made

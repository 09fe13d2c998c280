-- What a script's bytes mean. A reader meets the definitions in this order.
pub mod Fields
pub mod Draft
pub mod Codes
pub mod Rules
pub mod Meaning
pub mod Lawful
-- What the reader keeps.
pub mod Typed
pub mod Places
pub mod Sessions
pub mod Numbered
-- A record that is judged when it comes.
pub mod Judging

-- What passes between a client and the program. A reader meets the definitions in this order.
pub mod Events
pub mod Framing
pub mod Talking
-- How a framer keeps the record that has begun, and what a host is given.
pub mod Framer
pub mod Heard
pub mod Going
-- How the log of standard input and output is kept.
pub mod Kept
pub mod Noted
pub mod Standard

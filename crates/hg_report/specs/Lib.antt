-- What the bytes of a text are, and which bytes are read. A reader meets the definitions in this order.
pub mod Readable
-- What the reader keeps: what a record's fields may say, and how far it has come.
pub mod Fields
pub mod Guess
pub mod Progress

-- What a framer keeps of bytes.
mod Framing
mod Records
-- A conversation, step by step.
mod Talking
mod Written
-- The log that only proofs see.
mod Walks

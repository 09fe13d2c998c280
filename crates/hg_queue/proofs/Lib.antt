-- The rule of the queue.
pub mod Lining

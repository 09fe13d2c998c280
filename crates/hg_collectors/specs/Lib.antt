-- What a pass of the group collector cuts, and takes, and the collector.
pub mod Cutting
pub mod Taking
pub mod GroupCollectors
-- What collectors work on, what a round is, and which rounds were made. A reader meets the definitions in this order.
pub mod Lent
pub mod Workers
pub mod Noted
pub mod Swept
pub mod Rounding
pub mod Collecting
pub mod Telling
pub mod Pacing

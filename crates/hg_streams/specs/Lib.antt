-- What a call leaves of a source and a sink, how bytes are parted, and what each status says.
pub mod Streams
pub mod Standard
pub mod Parting
pub mod Status

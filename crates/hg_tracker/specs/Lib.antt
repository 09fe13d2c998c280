-- What a gather keeps, and of what.
pub mod Entries
pub mod Gathers
-- What each call makes of a view.
pub mod Begun
pub mod Tries
pub mod Boards

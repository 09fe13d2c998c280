-- What lies under the commit lock, and what a commit makes of a view.
pub mod Contexts
pub mod Places
pub mod Lists
pub mod Order
pub mod Batch
pub mod Turns
pub mod Leading
pub mod Founded
pub mod Submitting
pub mod Pushing
pub mod Keeping
pub mod Frames
pub mod Oldest

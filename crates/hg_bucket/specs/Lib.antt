-- What a bucket holds, and what its calls do.
pub mod BucketModel
pub mod Conflicts
pub mod Sweeping
pub mod Long
pub mod Parts
pub mod Writes

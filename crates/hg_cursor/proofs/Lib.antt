-- The keys of a bucket, and its rows key by key.
pub mod Keys
pub mod Rows
pub mod Uniqueness
-- A trip to a bucket, and what a look logs.
pub mod Trips
pub mod Looking
-- One record, and a scan.
pub mod Seeing
pub mod ScanningKeys
pub mod ScanningLooks
pub mod ScanningOrder
-- The first rows of all buckets.
pub mod Counting
pub mod Gathering
pub mod Cutting
pub mod Picking
pub mod Right
pub mod Backing
pub mod Joining

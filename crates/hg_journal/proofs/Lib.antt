mod Moments
mod Gates
mod Grows
mod Appends
mod Repairs
mod Walks
mod Recording

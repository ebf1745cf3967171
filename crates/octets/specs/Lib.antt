-- The definitions that the contracts of `octets` and of the crates above it cite.
pub mod Test
pub mod Width
pub mod Table
pub mod Part
pub mod Number
pub mod Answer
pub mod Refusals

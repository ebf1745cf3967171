-- The definitions that the contracts of `grid` and of the crates above it cite.
pub mod Layout
pub mod Pair
pub mod Screen
pub mod Record
pub mod Conditions
pub mod Facts
pub mod Refusals

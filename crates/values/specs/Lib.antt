-- The small values of a screen: the definitions that the contracts of `values` and of the crates above it cite.
pub mod Attr
pub mod Cursor
pub mod Mask

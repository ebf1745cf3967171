-- The laws of `octets`' definitions, which its proofs and those of the crates above cite.
pub mod Bools
pub mod Found
pub mod Tables
pub mod PartLaws
pub mod NumberLaws
pub mod ZeroLaws
pub mod WidthLaws

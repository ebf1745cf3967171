-- The laws of `grid`'s definitions, which its proofs and those of the crates above cite.
pub mod RowLaws
pub mod RowScroll
pub mod PadLaws
pub mod Trim
pub mod Validity
pub mod Conditions
pub mod ValidLaws
pub mod Keep
pub mod TouchedLaws
pub mod Record
pub mod HeadLaws
pub mod PairLaws
pub mod Bytes
pub mod FreshLaws
pub mod RefusalLaws
pub mod ScreenLaws

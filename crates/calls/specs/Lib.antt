-- What the contracts of `calls` say of the number answered and of the lent slices.
pub mod Answers
-- what contracts inside this crate cite: no rule is here
pub mod Parts

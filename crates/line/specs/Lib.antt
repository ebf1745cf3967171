-- Document 01, "Logical lines": the definitions that the contracts of `line` and of the crates above it cite.
pub mod Line
pub mod Splice
-- what the code is given and makes: not document 01's
pub mod Given
pub mod Text
pub mod Plan

-- Every promise is kept, every example holds.
pub mod Checked
pub mod Promises

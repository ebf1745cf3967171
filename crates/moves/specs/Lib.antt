-- What contracts inside this crate cite: no rule is here.
pub mod Cells
pub mod Shown

-- Document 01, "Reports and mirror": reports.
pub mod Layout
pub mod Kind
pub mod Carried
pub mod Report
pub mod Refusals
pub mod Parts

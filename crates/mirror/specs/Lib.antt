-- Document 01, "Reports and mirror": the mirror, and demand 3.
pub mod Layout
pub mod Order
pub mod Mirror
pub mod Count
pub mod Refusals
pub mod Parts
pub mod Demand3

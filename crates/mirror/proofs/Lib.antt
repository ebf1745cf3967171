-- The laws of the mirror, and the proof of demand 3.
pub mod OneOrder
pub mod OrderLaws
pub mod Later
pub mod MirrorLaws
pub mod ArriveRows
pub mod Conditions
pub mod ArriveLeft
pub mod RoundTrips
pub mod Refusals
pub mod Counts
pub mod Screens
pub mod Papers
pub mod Runs
pub mod Arrivals
pub mod Made
pub mod Held
pub mod Claims

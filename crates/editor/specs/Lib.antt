-- The rules of document 01 on values, a file for each of its sections in its order, with (a), (g) and (l) of document 02; the calls; what an exported call answers and leaves;
-- which calls are refused; and what is promised of the checked print, of the waiting print and of typing with a limit. `Given` is no rule: contracts inside this crate cite it.
pub mod Print
pub mod Waiting
pub mod Typing
pub mod Tab
pub mod Lines
pub mod Motion
pub mod Words
pub mod Modes
pub mod Text
pub mod Call
pub mod Outcome
pub mod Lists
pub mod Refusals
pub mod CheckedPrints
pub mod WaitingPrints
pub mod LimitedTyping
pub mod Given

-- The laws of the reading and text calls.
pub mod ReadingLaws
pub mod TextLaws

-- The laws of the key table and its strip.
pub mod TableLaws
pub mod StripLaws
pub mod CallLaws
pub mod Refusals

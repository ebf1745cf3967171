-- The laws of the functions that do the work of motion, modes and texts.
pub mod MotionLaws
pub mod ModesLaws
pub mod WordsLaws
pub mod TextLaws

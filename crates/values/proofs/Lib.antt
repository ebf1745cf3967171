-- The laws of attributes, cursors and masks.
pub mod AttrLaws
pub mod CursorLaws
pub mod MaskLaws

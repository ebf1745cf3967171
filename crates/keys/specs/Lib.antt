-- Document 01, "Texts and key strip": the definitions that the contracts of `keys` cite.
pub mod Keys
pub mod Refusals

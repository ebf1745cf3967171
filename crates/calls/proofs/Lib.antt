-- The laws of the calls on a lent record.
pub mod RefusalLaws
pub mod FinishLaws
pub mod Changing
pub mod LinesLaws
pub mod WaitingLaws
pub mod FreshLaws

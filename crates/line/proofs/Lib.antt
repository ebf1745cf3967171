-- The laws of logical lines.
pub mod CharsLaws
pub mod SpanLaws
pub mod ReadingLaws
pub mod TextLaws
pub mod ContentLaws
pub mod SpliceCounts
pub mod PlanLaws
pub mod SpliceLaws
pub mod SplicedLine
pub mod Kept
pub mod KeptLine

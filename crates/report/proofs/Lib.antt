-- The laws of reports.
pub mod Carried
pub mod RowByRow
pub mod KindLaws
pub mod FrontLaws
pub mod CheckLaws
pub mod Conditions
pub mod RoundTrips
pub mod RowLaws
pub mod ReportLaws
pub mod Refusals

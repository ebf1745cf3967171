-- What is promised, on one page, and the documents' examples.
pub mod Examples
pub mod Promises

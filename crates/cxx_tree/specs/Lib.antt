pub mod MoreSpans
pub mod Spans

pub mod LineLaws
pub mod SpanLaws
pub mod AheadLaws
pub mod FieldLaws
pub mod ScriptLaws
pub mod ReadLaws
pub mod TellLaws

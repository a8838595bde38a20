pub mod ToldBytes
pub mod TableLaws
pub mod MergeLaws
pub mod AnswerLaws

pub mod MergeSteps
mod PairLaws
mod KeyGroups
mod RoseLaws
mod DigestSteps
pub mod EntryLaws
pub mod TieLaws
pub mod MergedLaws
pub mod PartLaws
pub mod UnitedLaws
mod AnswerSteps
mod LeastSteps
pub mod PartUnion
pub mod ShareLaws

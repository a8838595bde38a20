mod KeyLaws
mod WindowLaws
mod PartLaws
mod ScriptSteps

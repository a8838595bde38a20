pub mod Words
pub mod Summaries
pub mod Trees
pub mod Program

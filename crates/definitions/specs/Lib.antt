pub mod Limits
pub mod Outside
pub mod Records
pub mod Numbers
pub mod Tables
pub mod Answer

pub mod Pairs
pub mod Holds
pub mod Trees
pub mod Trades

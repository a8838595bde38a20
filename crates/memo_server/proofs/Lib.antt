pub mod TurnLists
pub mod Places
pub mod Search
pub mod Entries
pub mod Steps
pub mod OwnTurns
pub mod Played

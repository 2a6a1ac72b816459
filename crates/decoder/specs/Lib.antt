pub mod Judge
pub mod State
pub mod Runs
pub mod OldLoss
pub mod Lateness
pub mod OneAnswer
pub mod Gateway

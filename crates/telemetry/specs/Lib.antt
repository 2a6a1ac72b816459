pub mod Telemetry
pub mod Records
pub mod Nearness

pub mod Firmware
pub mod Raw
pub mod RawVersion

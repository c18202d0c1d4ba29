pub mod Tables
mod Identifiers
pub mod Codes

mod Trailers
pub mod Finding
pub mod Steps
pub mod Counting
pub mod Writing
pub mod Parts
pub mod Changes
pub mod Kin
pub mod Refusals
pub mod Rows
pub mod Fitting
pub mod Alike
pub mod Numbers
pub mod Laws
pub mod Cases
pub mod Checks

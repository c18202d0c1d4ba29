pub mod Figures
pub mod Listing

pub mod Meaning
pub mod Slots
pub mod Laws
pub mod Editions
pub mod Layers
pub mod Operators
pub mod OverAny

-- What the functions' proofs cite.
pub mod Fields
pub mod Words
pub mod Records
pub mod Calls
pub mod States
pub mod Kept
pub mod Through
pub mod Offsets

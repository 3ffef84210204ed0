-- What a write leaves.
pub mod Pasted

-- What the functions' proofs cite.
pub mod Puts
pub mod Shows
pub mod Decimal
pub mod Runs
pub mod Whole

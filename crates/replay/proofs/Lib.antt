-- Laws of fields.
pub mod Digits
pub mod Decimals

-- What the programs write.
pub mod Text
pub mod Reflist
pub mod Refshow
pub mod Promises

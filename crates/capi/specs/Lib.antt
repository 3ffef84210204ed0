-- What the calls give.
pub mod Report
pub mod Layout
pub mod Output
pub mod Promises

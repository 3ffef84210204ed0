-- What is known of writes.
pub mod Pastes
pub mod Puts

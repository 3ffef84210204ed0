-- What fields say.
pub mod Input

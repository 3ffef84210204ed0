-- Two snapshots compared: demand 3, and the same in a namespace; list and search compared.
pub mod Compared
pub mod Demand3
pub mod ListSearch

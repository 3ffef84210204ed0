-- Demand 3 and what it rests on; list and search.
-- listing
pub mod Tables
pub mod Waits
pub mod Least
pub mod Runs
pub mod Views
pub mod StoreCut
pub mod ListingCut
-- following
pub mod Clash
pub mod Match
pub mod Searches
pub mod Pointing
pub mod FollowingCut
-- demand 3
pub mod Namespaced
pub mod Bridge
pub mod Premises
pub mod Claims
-- list and search
pub mod Reached
pub mod ListSearch
-- by computation: the ● table, examples, pairs and snapshots that meet the premises, and those that fail one
pub mod Computing
pub mod Fixtures
pub mod Table
pub mod Examples
pub mod Surprises
pub mod Tested
pub mod Concrete
pub mod Apart
pub mod LeftOut
pub mod Decide
pub mod Pair
pub mod Needed
pub mod ListSearchNeeded

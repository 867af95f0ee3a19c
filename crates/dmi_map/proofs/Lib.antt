pub mod Orders
pub mod OrderedPlaces
pub mod OneOrder
pub mod Behind
pub mod RangeLemmas
pub mod RegionLemmas
pub mod PayloadPool

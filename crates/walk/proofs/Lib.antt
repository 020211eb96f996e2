-- The walk's parts joined.
pub mod Walk

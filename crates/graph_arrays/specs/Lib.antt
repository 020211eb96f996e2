-- The graph that flat arrays hold, read of them.
pub mod Arrays
pub mod NodeList

-- Laws of the definitions in specs/; Along has the walk along a node's list of arcs, Arcs what the arcs of a node offer.
pub mod Along
pub mod Arcs
pub mod OfferLaws
pub mod Relaxing
pub mod Touched
pub mod Searching

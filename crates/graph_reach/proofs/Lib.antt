-- Laws of the definitions in specs/, and the invariants of the loops.
pub mod MarksLaws
pub mod Targets
pub mod Spread

-- The laws that the proofs of the functions share.
pub mod Back
pub mod Before
pub mod Examples
pub mod Fields
pub mod Quotient
pub mod Same

-- Laws of the definitions in specs/.
pub mod Along
pub mod Kept
pub mod Walking

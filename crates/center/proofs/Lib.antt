-- Laws of the definitions in specs/.
pub mod Exact
pub mod Source

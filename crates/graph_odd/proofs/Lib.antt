-- Laws of the definitions in specs/.
pub mod Degrees
pub mod Listed

-- Laws of the definitions in specs/.
pub mod Floats
pub mod Stored

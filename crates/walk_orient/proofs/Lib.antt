-- Laws of the definitions in specs/.
pub mod Ends
pub mod Turned
pub mod Source

-- Laws of the definitions in specs/.
pub mod Chosen
pub mod Listed
pub mod Source

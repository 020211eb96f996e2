-- Laws of the definitions in specs/.
pub mod Back
pub mod Near

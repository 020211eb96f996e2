-- Laws of the definitions in specs/.
pub mod Held
pub mod Points
pub mod TableLaws

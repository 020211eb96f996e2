-- Laws of the definitions in specs/.
pub mod FillLaws
pub mod Turns

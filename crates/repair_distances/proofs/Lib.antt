-- Laws of the definitions in specs/.
pub mod Known
pub mod Rows

-- Laws of the definitions in specs/, and marks worked out.
pub mod MarksLaws
pub mod Examples

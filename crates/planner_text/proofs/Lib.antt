-- Laws of the definitions in specs/.
pub mod Answers
pub mod Examples
pub mod Points
pub mod Put
pub mod Text

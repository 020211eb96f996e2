-- Laws of the definitions in specs/.
pub mod Ends
pub mod GatherLaws
pub mod Splits

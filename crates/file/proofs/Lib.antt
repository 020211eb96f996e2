-- Laws of the definitions in specs/.
pub mod First
pub mod ReadingLaws
pub mod Whole

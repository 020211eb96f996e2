-- Laws of the definitions in specs/.
pub mod Ascending
pub mod BufferLaws
pub mod Next
pub mod Shifted
pub mod Sorted

-- Laws of the definitions in specs/.
pub mod DigitsLaws
pub mod LengthLaws
pub mod Nearest
pub mod Order
pub mod Proved
pub mod Shift
pub mod Steps
pub mod Value
pub mod Whole

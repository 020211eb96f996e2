-- Laws of the definitions in specs/.
pub mod Bits
pub mod KeyLaws
pub mod Sum

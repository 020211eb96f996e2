-- Laws of the definitions in specs/.
pub mod Follow
pub mod Lines

-- Laws of the definitions in specs/.
pub mod Follow
pub mod Left
pub mod Masks
pub mod Optimal
pub mod Places
pub mod Table

-- Laws of the definitions in specs/.
pub mod StoredLaws
pub mod FileLaws
pub mod Examples

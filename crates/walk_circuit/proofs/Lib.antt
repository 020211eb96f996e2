-- Laws of the definitions in specs/.
pub mod Cursor
pub mod EntriesLaws
pub mod Standing
pub mod Walks

-- What the writer is handed, and what it stores, record by record.
pub mod Handed
pub mod Stored

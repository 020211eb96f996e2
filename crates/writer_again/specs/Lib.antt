-- What the writer is handed for a drawing in flat arrays; what is written for a file.
pub mod Filled
pub mod Again

-- What checks 3 to 7 ask of a file's records.
pub mod Tally
pub mod Settings
pub mod Coordinates

-- Laws of the definitions in specs/.
-- what is written is read back; what was read, written again, is the file:
pub mod Parts
pub mod Back
pub mod Again
-- the lists that a drawing is handed in:
pub mod Given
-- how long a file is, and which numbers a file has room for:
pub mod Lengths
pub mod Widths
pub mod Words
-- what is written without minus zero:
pub mod SameBits
pub mod Cleaned
-- what the writer promises: the one file, the reader's verdict, a file saved again:
pub mod OneFile
pub mod Saved
pub mod Examples

-- Writing a drawing file.
-- the file of a sketch, record by record:
pub mod File
-- what the writer refuses and answers, and what it leaves in the destination:
pub mod Save
-- a drawing as a caller hands it in, in lists of numbers:
pub mod Given
-- what it means that a file reads back as a sketch, and that no other does, minus zero aside:
pub mod OneFile

-- The writer's checks, on the lists that it is handed.
pub mod Checked

-- The writer's answer.
pub mod Saved

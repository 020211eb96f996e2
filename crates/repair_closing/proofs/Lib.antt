-- What closing does, by what code finds.
pub mod Closing

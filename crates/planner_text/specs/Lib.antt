-- What the program `plan` prints.
pub mod Text
pub mod Put

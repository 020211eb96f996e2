-- What the record reader hands out.
pub mod Part

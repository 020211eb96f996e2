-- IEEE 754's values that are not negative, and their sums, by whole numbers. Stated for either format.
pub mod Key

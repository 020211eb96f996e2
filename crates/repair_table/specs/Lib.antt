-- What the lent tables hold.
pub mod Tables

-- What fix_parity answers:
pub mod Parity
-- how the code's answer says so, with the arrays as they then are:
pub mod Meaning

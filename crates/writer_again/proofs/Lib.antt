-- Laws of specs/Filled.
-- the loops that fill the lists, and what is lent of them:
pub mod Filled
pub mod Lent
-- the sketch that the lists are, of any drawing:
pub mod Sketch
-- what is asked of the arrays, and the whole answer:
pub mod Held
pub mod Again

-- The links of the drawing that is planned, for other languages.
pub mod MadeLinks

-- Laws of the links for other languages.
pub mod MadeLinks

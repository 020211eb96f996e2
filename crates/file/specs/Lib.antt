-- What the reader answers: a file's verdict and the drawing that it holds.
pub mod Reading

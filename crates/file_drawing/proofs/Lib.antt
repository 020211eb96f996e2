-- Laws of the definitions in specs/.
pub mod Back
pub mod Fit
pub mod LinesLaws
pub mod LinksLaws
pub mod Stores

-- Laws of the definitions in specs/.
pub mod CoordinatesLaws
pub mod KindsLaws
pub mod TallyLaws

-- Laws of the definitions in specs/.
pub mod Made
pub mod Numbers
pub mod Plain
pub mod View
pub mod Walk
pub mod KindsLaws

-- Laws of the definitions in specs/.
pub mod Ends
pub mod Filled
pub mod Arrays
pub mod NodeList
pub mod Listing

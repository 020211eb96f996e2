-- What the code reads of the table of partners.
pub mod Partners

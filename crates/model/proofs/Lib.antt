-- One file: the table of sets, which holds the definitions to the examples of document 01.
pub mod Table

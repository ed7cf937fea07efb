-- What the functions find at a cursor of the text.
pub mod Cursors

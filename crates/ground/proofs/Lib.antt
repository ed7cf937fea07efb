-- What the promises of the libraries come to. A reader wants OneAnswer, Calls and Room, and of the text OneText and Texts; AtP and TextAtP show that
-- their premises are met.
pub mod OneAnswer
pub mod OneText
pub mod Answers
pub mod Rows
pub mod Calls
pub mod Room
pub mod Printed
pub mod Texts
pub mod AtP
pub mod TextAtP

-- What a miss and an enabled job are promised by.
pub mod Measures

-- What the private functions of the verdicts promise. The public ones promise definitions of the model.
pub mod Tests
pub mod Rows

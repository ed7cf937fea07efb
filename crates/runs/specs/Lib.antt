-- What the private functions of the runs promise. The public ones promise definitions of the model.
pub mod Engine
pub mod Ranges

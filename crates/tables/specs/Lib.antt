-- What the private functions of the tables promise. The public one promises definitions of the model.
pub mod Slots

-- The rules, one job or one number at a time.
pub mod Rules

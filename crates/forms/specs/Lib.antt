-- The form of the plan text, as data that can be scanned.
pub mod Forms

pub mod NumberLaws
pub mod DigitLaws

pub mod HexNumber
pub mod DigitCounts
pub mod TextLaws

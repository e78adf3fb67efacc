pub mod Decimal
pub mod Text

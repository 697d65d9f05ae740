pub mod Decimal
pub mod Utf
pub mod Value

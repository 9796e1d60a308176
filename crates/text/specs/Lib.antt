pub mod Decimal
pub mod Lines

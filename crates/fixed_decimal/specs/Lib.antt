pub mod Decimal
pub mod Rows
pub mod Text
pub mod inside

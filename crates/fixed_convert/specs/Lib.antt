pub mod Convert
pub mod WholeNumber
pub mod inside

-- What private functions alone cite.
pub mod Exponent
pub mod PowExponent
pub mod Scaling

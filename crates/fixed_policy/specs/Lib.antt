pub mod DotProduct

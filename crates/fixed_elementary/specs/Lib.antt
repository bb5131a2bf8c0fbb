pub mod ElementaryRows
pub mod Enclosed
pub mod Exp2
pub mod Log2
pub mod RecipRoot
pub mod inside
pub use Rattle.fixed_root.specs.Root

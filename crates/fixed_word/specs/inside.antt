-- What no public clause cites.
pub mod WordLaws
pub mod PastSide

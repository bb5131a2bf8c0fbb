pub mod Moved
pub mod Choices
pub mod EndsLeft
pub mod PlacesLeft
pub mod Unread
pub mod NumbersLeft
pub mod DotsLeft

pub mod Numbering
pub mod Lent
pub mod LentLists
pub mod LentTicks
pub mod DoorLaws

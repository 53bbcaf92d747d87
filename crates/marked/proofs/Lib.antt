mod Rooms
mod Owed
mod Walk
mod Replies
mod Decided

mod Following
mod Cycles
mod Marked
mod Followings
mod Explaining
mod Accounting
mod Collecting
mod Remembering

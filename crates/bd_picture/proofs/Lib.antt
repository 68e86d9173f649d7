pub mod Pages
mod Rows

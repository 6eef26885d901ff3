pub mod Stretch

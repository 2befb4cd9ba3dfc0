pub mod Efforts

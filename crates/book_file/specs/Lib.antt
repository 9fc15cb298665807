pub mod Sayable

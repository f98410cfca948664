pub mod Storms

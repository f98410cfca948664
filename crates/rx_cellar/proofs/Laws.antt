pub mod ItemsAsked

pub mod HeldStaysHeld

mod Joined
mod KeptSteps

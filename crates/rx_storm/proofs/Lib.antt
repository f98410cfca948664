pub mod Common
mod CountUp
mod Emission
mod Mail
mod OutcomeTellsFigures

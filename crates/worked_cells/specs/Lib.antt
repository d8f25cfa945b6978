-- Definitions for the cases of this program.
pub mod Wants

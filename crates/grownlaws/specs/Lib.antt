-- How the laws of growth are stated on the slices.
pub mod Meets

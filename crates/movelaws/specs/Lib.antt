-- How the laws of a move are stated.
pub mod Carried
pub mod Movable
pub mod Plain
pub mod Slices

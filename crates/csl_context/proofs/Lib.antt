pub mod Affixes
pub mod Contents
pub mod StateEqual
pub mod Leaving
pub mod BodyAround

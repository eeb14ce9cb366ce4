pub mod Arrival
pub mod Enough
pub mod Going
pub mod Listed
pub mod Places
pub mod SoundParts
pub mod Whole

pub mod Calendar
pub mod Class
pub mod CodecFault
pub mod Luhn
pub mod Number
pub mod Padded

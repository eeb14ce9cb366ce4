mod Listed
mod Ranked
mod Appended
mod ReadBack

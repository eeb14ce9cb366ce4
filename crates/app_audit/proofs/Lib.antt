mod BlockSteps
mod Counts
mod Joined
mod LeastKey
mod Played
mod SameCounts
mod Zipped

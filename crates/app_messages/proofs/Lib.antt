mod BlockSteps
mod PackedAgain
mod PutFaults
mod TextFaults
mod TextSteps

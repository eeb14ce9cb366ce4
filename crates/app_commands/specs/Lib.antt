pub mod Answered
pub mod Apart
pub mod Claims
pub mod Fault
pub mod Printed

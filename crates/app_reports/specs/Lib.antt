pub mod FormAsked
pub mod Sought
pub mod Why
pub mod WhyAsked
pub mod Report
pub mod ReportAsked

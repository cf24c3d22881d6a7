pub mod FaultCodes
pub mod FirstFaults
pub mod examples

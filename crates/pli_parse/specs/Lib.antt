pub mod UnitFaults
pub mod examples

pub mod CalculationView
pub mod OperandView

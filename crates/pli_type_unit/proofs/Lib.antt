mod BuiltInsAlike
mod ExpressionsAlike
mod GlobalsAlike
pub mod LimitsAlike
mod NamedUnits
mod NamesAlike
mod NumbersAlike
pub mod PassingAlike
mod StatementsAlike
mod SymbolsAlike
mod UnitsAlike
mod ValuesAlike
mod VariablesAlike

pub mod CodeOrder
pub mod CodeTable
pub mod WrittenNames

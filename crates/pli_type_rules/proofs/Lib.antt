pub mod BasedNames
pub mod TextNumbers

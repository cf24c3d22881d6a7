pub mod Laws
pub mod MarkLaws
pub mod ParameterLaws
pub mod SameLaws
pub mod ScalarLaws
pub mod StoredLaws
pub mod SubscriptLaws
pub mod ValueLaws

pub mod BlockView
pub mod ItemView
pub mod NumberView
pub mod PlacedView
pub mod PlanView
pub mod UnitView

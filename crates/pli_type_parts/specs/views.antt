pub mod AroundView

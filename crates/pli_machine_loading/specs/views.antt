pub mod StandingView

pub mod TypingView

pub mod ValueView

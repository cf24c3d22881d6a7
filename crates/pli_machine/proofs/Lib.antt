pub mod CallLemmas
pub mod GoingLemmas
pub mod PassLemmas
pub mod RunLemmas
pub mod StepsEnd

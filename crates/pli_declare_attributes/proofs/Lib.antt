pub mod BoundsDescribed
pub mod BoundsFit
pub mod CountLemmas
pub mod CutLemmas
pub mod LimitLemmas
pub mod LimitsOfItems
pub mod TakenLemmas
pub mod WorkedExamples

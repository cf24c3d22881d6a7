pub mod LevelNeverMet
pub mod OriginsAppended
pub mod PieceIsRead
pub mod StepsKeep
pub mod TextsHeld
pub mod TraceDecides
pub mod WalkGoesOn

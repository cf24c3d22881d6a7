pub mod AskedLemmas
pub mod ExternalPlaces
pub mod LinkedGlobals
pub mod LoadingLemmas

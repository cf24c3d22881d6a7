pub mod CountLemmas
pub mod FoundPlaces
pub mod NamelessLemmas
pub mod PlacesFound
pub mod PlacesMade
pub mod PlacesViews
pub mod StaticSizes
pub mod UnitSizes

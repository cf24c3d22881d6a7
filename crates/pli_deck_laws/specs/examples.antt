pub mod DeckUnits

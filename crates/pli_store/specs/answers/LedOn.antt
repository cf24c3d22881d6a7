-- Where a place is led on to.
use Rattle.std.specs.Prelude.{◌≡◌, Option, Some, None}
use Rattle.pli_world.specs.World.{World, Answer, Yields, Wrong}
use Rattle.pli_world.specs.Storage as plain
use Rattle.pli_store.specs.declared.place.Place.{Place}
use Rattle.pli_store.specs.views.StorageView.{place_view}

-- what the definition gives in every world: a place, seen so; without one it is wrong
abbrev pub LedOn : (World → Answer plain.Place) → Option Place → Type 0
LedOn operation (Some place) = (w : World) → operation w ≡ Yields (place_view place) w
LedOn operation None = (w : World) → operation w ≡ Wrong

-- Where variables stand, as the world sees it.
use Rattle.pli_world.specs.World as plain
use Rattle.pli_store.specs.views.StorageView.{place_view}
use Rattle.pli_machine_loading.specs.declared.standing.Standing.{Standing}
use Rattle.pli_machine_loading.specs.declared.standing.Standing.TheVariants.{Lies, Stacked}

-- where a variable stands
abbrev pub standing_view : Standing → plain.Standing
standing_view (Lies place) = plain.Lies (place_view place)
standing_view (Stacked stack) = plain.Stacked stack

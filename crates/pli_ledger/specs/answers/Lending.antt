-- What is lent of the results of units.
use Rattle.std.specs.Prelude.{ℕ, Option, None, Some, List, [], map, option_map}
use Rattle.std.specs.Option.{option_to_list}
use Rattle.std.specs.Result.{result_ok}
use Rattle.pli_base.specs.Name.{Name}
use Rattle.pli_deck.specs.declared.compiled.Compiled as results
use Rattle.pli_deck.specs.views.OutcomeView.{outcome_view}
use Rattle.pli_deck_write.specs.Spelling.{deck_bytes}
use Rattle.pli_link.specs.Units.{Compiled, as_unit}

-- the unit of a result, if it has a deck
abbrev pub given_units : Name → Option results.Compiled → List Compiled
given_units name None = []
given_units name (Some c) = option_to_list (option_map (as_unit name) (result_ok (outcome_view c)))

-- the bytes of the decks of units
abbrev pub decks_of : List Compiled → List (List ℕ)
decks_of units = map (λ c. deck_bytes c.deck) units

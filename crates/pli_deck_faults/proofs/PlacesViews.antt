-- What places of the program say.
use Rattle.std.proofs.Common.{◌≡◌, ℕ, map, Vec, sym, ap, ◌∙◌}
use Rattle.std.specs.Global.{Global, Box}
use Rattle.pli_deck_faults.specs.declared.places.Places as program
use Rattle.pli_deck_faults.specs.declared.places.Places.TheVariants as made
use Rattle.pli_deck_faults.specs.declared.places.Places.TheFolds as folds
use Rattle.pli_deck_faults.specs.Places.{Places, Elements, Among, places_view, places_level, list_of_places}

pub elements_said : (bytes stride : ℕ) (element : Box program.Places) → places_view (made.Elements bytes stride element) ≡ Elements bytes stride (places_view element.value)
elements_said bytes stride element =
    ap places_view (sym (made.rolls-Elements bytes stride element)) ∙ folds.fold-roll-Places Places places_level (program.Places-F.Elements bytes stride element)

pub among_said : (starts ends : Vec ℕ Global) (members : Vec program.Places Global)
    → places_view (made.Among starts ends members) ≡ Among starts.items ends.items (list_of_places (map places_view members.items))
among_said starts ends members =
    ap places_view (sym (made.rolls-Among starts ends members)) ∙ folds.fold-roll-Places Places places_level (program.Places-F.Among starts ends members)

-- the form of places that were found to be those of members
pub among_form : (starts ends : Vec ℕ Global) (members : Vec program.Places Global) (places : program.Places) (said : Places)
    → places ≡ made.Among starts ends members → places_view places ≡ said
    → Among starts.items ends.items (list_of_places (map places_view members.items)) ≡ said
among_form starts ends members places said is e = sym (among_said starts ends members) ∙ ap places_view (sym is) ∙ e

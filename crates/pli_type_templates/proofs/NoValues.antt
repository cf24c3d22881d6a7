-- Where no values are written, no scalar has one.
use Rattle.std.proofs.Common.{◌≡◌, ◌≤◌, ◌++◌, ℕ, List, [], ◌∷◌, drop, length, refl, ap, sym, ◌∙◌}
use Rattle.std.specs.List.{flat_map}
use Rattle.std.proofs.lemmas.List.{drop_all}
use Rattle.pli_map.specs.Description.{Description}
use Rattle.pli_map.specs.PlacedParts.{PlacedPart}
use Rattle.pli_type_rules.specs.InitialScalars.{InitialItem, each_with, initial_scalars, scalars_on, values_written}
use Rattle.pli_type_templates.specs.declared.items.ValuedItem.{ValuedItem}
use Rattle.pli_type_templates.specs.views.ItemView.{items_view}

-- no value is for no scalar
pub each_none : (scalars : List PlacedPart) → each_with scalars [] ≡ []
each_none [] = refl
each_none (s ∷ ss) = refl

-- an item without values
pub item_none : (d : Description) (i : InitialItem) → i.values ≡ [] → initial_scalars d i ≡ []
item_none d i none = ap (λ vs. each_with (scalars_on d i.path 0) (values_written vs)) none ∙ each_none (scalars_on d i.path 0)

-- a variable without values, whose members have none
pub none_given : (d : Description) (own : InitialItem) (ms : List ValuedItem) (n : ℕ) → own.values ≡ [] → length ms ≤ n
    → flat_map (initial_scalars d) (items_view (drop n ms)) ≡ flat_map (initial_scalars d) (items_view ms)
    → flat_map (initial_scalars d) (own ∷ items_view ms) ≡ []
none_given d own ms n none all passed =
    let given = λ (xs : List ValuedItem). flat_map (initial_scalars d) (items_view xs) in
    ap (λ is. is ++ given ms) (item_none d own none) ∙ sym passed ∙ ap given (drop_all n ms all)

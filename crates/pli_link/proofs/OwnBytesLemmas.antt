-- The bytes of the variables that units have for themselves, unit by unit.
use Rattle.std.proofs.Common.{◌≡◌, ℕ, ◌+◌, ◌<◌, Option, List, ◌∷◌, length, map, get_or, drop, sym, ap, ◌∙◌}
use Rattle.std.proofs.lemmas.List.{at_drop_more}
use Rattle.pli_code.specs.views.CodeView.{code_view, global_view}
use Rattle.pli_link.specs.ModuleSize.{own_of, all_own}
use Rattle.pli_link.specs.answers.Counting.{counted, if_counted}
use Rattle.pli_link.specs.views.UnitView.{compiled_view}
use Rattle.pli_link.specs.declared.units.NamedUnit.{NamedUnit}
use Rattle.pli_link.proofs.ByteCountLemmas.{counted_after}

-- one unit more
pub own_more : (xs : List NamedUnit) (i : ℕ) (x : NamedUnit) (bytes : ℕ) (whole found : Option ℕ) → i < length xs → x ≡ get_or xs i x
    → found ≡ counted bytes (own_of (code_view x.deck.now.code) (map global_view x.deck.now.code.globals.items))
    → counted bytes (all_own (map compiled_view (drop i xs))) ≡ whole
    → if_counted found (λ more. counted more (all_own (map compiled_view (drop (i + 1) xs)))) ≡ whole
own_more xs i x bytes whole found within read is all =
    let rest = all_own (map compiled_view (drop (i + 1) xs)) in
    ap (λ f. if_counted f (λ more. counted more rest)) is
    ∙ sym (counted_after bytes (own_of (code_view x.deck.now.code) (map global_view x.deck.now.code.globals.items)) rest)
    ∙ sym (at_drop_more (λ us. counted bytes (all_own (map compiled_view us))) xs i x within
    ∙ ap (λ (u : NamedUnit). counted bytes (all_own (compiled_view u ∷ map compiled_view (drop (i + 1) xs)))) (sym read))
    ∙ all

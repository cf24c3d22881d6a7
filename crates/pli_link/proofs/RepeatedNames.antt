-- Names of procedures that stand before, one unit after the other.
use Rattle.std.proofs.Common.{◌≡◌, ℕ, ◌+◌, ◌<◌, ◌≤◌, Bool, true, false, not, if◌then◌else◌, List, [], ◌∷◌, ◌++◌, length, map, get_or, drop, append_assoc, append-nil, refl, sym, ap, ◌∙◌}
use Rattle.std.proofs.lemmas.List.{at_drop_more}
use Rattle.pli_base.specs.Name.{Name}
use Rattle.pli_base.specs.Words.{is_among}
use Rattle.pli_link.specs.Link.{defined_again}
use Rattle.pli_link.specs.Names.{with_name}
use Rattle.pli_link.specs.Units.{procedure_of}
use Rattle.pli_link.specs.declared.units.NamedUnit.{NamedUnit}
use Rattle.pli_link.specs.declared.units.LinkedName.{LinkedName}
use Rattle.pli_link.specs.views.UnitView.{compiled_view}
use Rattle.pli_link.proofs.MismatchLemmas.{drop_past}

turned : (b : Bool) (xs : List LinkedName) → (if not b then [] else xs) ≡ (if b then xs else [])
turned true xs = refl
turned false xs = refl

pub one_repeated : (us : List NamedUnit) (i : ℕ) (u : NamedUnit) (before later : List Name) (names more whole : List LinkedName) (is_new : Bool)
    → i < length us → u ≡ get_or us i u → is_new ≡ not (is_among (compiled_view u).deck.name before) → later ≡ with_name before (compiled_view u).deck.name
    → more ≡ names ++ (if is_new then [] else procedure_of (compiled_view u) ∷ [])
    → names ++ defined_again before (map compiled_view (drop i us)) ≡ whole
    → more ++ defined_again later (map compiled_view (drop (i + 1) us)) ≡ whole
one_repeated us i u before later names more whole is_new within is told next here all =
    let rest = map compiled_view (drop (i + 1) us) in
    let among = is_among (compiled_view u).deck.name before in
    let one = procedure_of (compiled_view u) ∷ [] in
    ap (λ ns. ns ++ defined_again later rest) here
    ∙ append_assoc names (if is_new then [] else one) (defined_again later rest)
    ∙ ap (λ b. names ++ ((if b then [] else one) ++ defined_again later rest)) told
    ∙ ap (λ ns. names ++ (ns ++ defined_again later rest)) (turned among one)
    ∙ ap (λ ks. names ++ ((if among then one else []) ++ defined_again ks rest)) next
    ∙ sym (at_drop_more (λ xs. names ++ defined_again before (map compiled_view xs)) us i u within
    ∙ ap (λ (x : NamedUnit). names ++ defined_again before (compiled_view x ∷ rest)) (sym is))
    ∙ all

pub all_repeated : (us : List NamedUnit) (i : ℕ) (before : List Name) (names whole : List LinkedName) → length us ≤ i
    → names ++ defined_again before (map compiled_view (drop i us)) ≡ whole → names ≡ whole
all_repeated us i before names whole past all =
    sym (append-nil names) ∙ sym (ap (λ xs. names ++ defined_again before (map compiled_view xs)) (drop_past us i past)) ∙ all

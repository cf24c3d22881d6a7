-- Names of globals that have a fault, one global and one unit after the other.
use Rattle.std.proofs.Common.{◌≡◌, ℕ, zero, suc, ◌+◌, ◌<◌, ◌≤◌, Option, Some, None, List, [], ◌∷◌, ◌++◌, length, map, get_or, drop, append_assoc, refl, sym, ap, ◌∙◌, arith}
use Rattle.std.proofs.lemmas.List.{at_drop_more}
use Rattle.pli_base.specs.Name.{Name}
use Rattle.pli_code.specs.CodeTables as plain
use Rattle.pli_code.specs.CodeTables.{there}
use Rattle.pli_code.specs.declared.code.CodedGlobal.{CodedGlobal}
use Rattle.pli_code.specs.views.CodeView.{global_view}
use Rattle.pli_link.specs.Mismatches.{each_once, faulty_in, faulty_names, faulty_in_unit, faulty_linked}
use Rattle.pli_link.specs.Names.{with_name}
use Rattle.pli_link.specs.Units as units
use Rattle.pli_link.specs.declared.global_fault.GlobalFault.{GlobalFault}
use Rattle.pli_link.specs.declared.units.NamedUnit.{NamedUnit}
use Rattle.pli_link.specs.declared.units.LinkedName.{LinkedName}
use Rattle.pli_link.specs.views.UnitView.{compiled_view}

-- a name that was told, if there is one
abbrev pub put : Option Name → List Name → List Name
put None names = names
put (Some name) names = with_name names name

put_then : (r : Option Name) (names more : List Name) → each_once names (there r ++ more) ≡ each_once (put r names) more
put_then None names more = refl
put_then (Some name) names more = refl

pub one_global : (cs : List units.Compiled) (f : GlobalFault) (code : plain.Code) (gs : List CodedGlobal) (i : ℕ) (g : CodedGlobal) (names new whole : List Name) (r : Option Name)
    → i < length gs → g ≡ get_or gs i g → there r ≡ faulty_in cs f code (global_view g) → new ≡ put r names
    → each_once names (faulty_names cs f code (map global_view (drop i gs))) ≡ whole
    → each_once new (faulty_names cs f code (map global_view (drop (i + 1) gs))) ≡ whole
one_global cs f code gs i g names new whole r within is told next all =
    let rest = faulty_names cs f code (map global_view (drop (i + 1) gs)) in
    ap (λ ns. each_once ns rest) next
    ∙ sym (put_then r names rest)
    ∙ ap (λ ns. each_once names (ns ++ rest)) told
    ∙ sym (at_drop_more (λ xs. each_once names (faulty_names cs f code (map global_view xs))) gs i g within
    ∙ ap (λ (x : CodedGlobal). each_once names (faulty_names cs f code (global_view x ∷ map global_view (drop (i + 1) gs)))) (sym is))
    ∙ all

-- nothing is left after the last
pub drop_past : {A : Type 0} (xs : List A) (i : ℕ) → length xs ≤ i → drop i xs ≡ []
drop_past [] zero le = refl
drop_past [] (suc i) le = refl
drop_past (x ∷ xs) zero le = absurd (omega (arith, le))
drop_past (x ∷ xs) (suc i) le = drop_past xs i (omega (arith, le))

pub all_globals : (cs : List units.Compiled) (f : GlobalFault) (code : plain.Code) (gs : List CodedGlobal) (i : ℕ) (names whole : List Name) → length gs ≤ i
    → each_once names (faulty_names cs f code (map global_view (drop i gs))) ≡ whole → names ≡ whole
all_globals cs f code gs i names whole past all = sym (ap (λ xs. each_once names (faulty_names cs f code (map global_view xs))) (drop_past gs i past)) ∙ all

pub one_unit : (cs : List units.Compiled) (f : GlobalFault) (us : List NamedUnit) (i : ℕ) (u : NamedUnit) (names new told whole : List LinkedName)
    → i < length us → u ≡ get_or us i u → new ≡ names ++ told → told ≡ faulty_in_unit cs f (compiled_view u)
    → names ++ faulty_linked cs f (map compiled_view (drop i us)) ≡ whole
    → new ++ faulty_linked cs f (map compiled_view (drop (i + 1) us)) ≡ whole
one_unit cs f us i u names new told whole within is next here all =
    let rest = faulty_linked cs f (map compiled_view (drop (i + 1) us)) in
    ap (λ ns. ns ++ rest) next
    ∙ append_assoc names told rest
    ∙ ap (λ ns. names ++ (ns ++ rest)) here
    ∙ sym (at_drop_more (λ xs. names ++ faulty_linked cs f (map compiled_view xs)) us i u within
    ∙ ap (λ (x : NamedUnit). names ++ faulty_linked cs f (compiled_view x ∷ map compiled_view (drop (i + 1) us))) (sym is))
    ∙ all

-- An expansion whose trace holds is that of the members.
use Rattle.std.proofs.Common.{◌≡◌, ℕ, zero, suc, ◌<◌, true, List, [], ◌∷◌, length, map, Option, None, Some, Ok, Err, Contains, nat_eq, get_or, refl, sym, ap, subst, ◌∙◌, arith}
use Rattle.std.specs.Cmp.{first_so, second_so}
use Rattle.std.specs.FinMap.{get}
use Rattle.std.specs.Option.{option_eq, option_map}
use Rattle.std.proofs.lemmas.Bool.{eqb-true}
use Rattle.pli_base.specs.Name.{Name}
use Rattle.pli_include.specs.Expanded.{Expanded, answered, expansion_of, outcome_of, told}
use Rattle.pli_include.specs.Expanded.{answers, holds}
use Rattle.pli_include.specs.Expansion.{Outcome}
use Rattle.pli_include.specs.laws.Laws.{AnswersAlike, looked_in}
use Rattle.pli_include.proofs.TraceDecides.{expansion_stays}
use Rattle.pli_members.specs.Members.{Store, Member, member_of, version_of}
use Rattle.pli_ledger.specs.Fits.{Knows, Seen, View, seen}
use Rattle.pli_ledger.specs.laws.Laws.{WhatHoldsIsFresh}

trace_told : (s : Store) (o : Outcome) → (told s o).trace ≡ map (answered s) (looked_in o)
trace_told s (Ok p) = refl
trace_told s (Err stop) = refl

-- a trace has each name that was looked up
pub trace_of : (s : Store) (unit : Name) → (expansion_of s unit).trace ≡ map (answered s) (looked_in (outcome_of s.entries unit))
unfolding expansion_of
trace_of s unit = trace_told s (outcome_of s.entries unit)

same_version : (a b : Option ℕ) → option_eq nat_eq a b ≡ true → a ≡ b
same_version None None h = refl
same_version None (Some n) h = cc
same_version (Some m) None h = cc
same_version (Some m) (Some n) h = ap Some (eqb-true m n h)

-- what holds of all holds of each
each_answers : (s t : Store) (names : List Name) (name : Name) → holds s (map (answered t) names) ≡ true → (k : ℕ) → k < length names → get_or names k name ≡ name → version_of s name ≡ version_of t name
each_answers s t [] name h k low is = absurd (omega arith)
each_answers s t (n ∷ names) name h zero low is =
    let first = same_version (version_of s n) (version_of t n) (first_so (answers s (answered t n)) (holds s (map (answered t) names)) h) in
    subst (λ (q : Name). version_of s q ≡ version_of t q) is first
each_answers s t (n ∷ names) name h (suc k) low is =
    each_answers s t names name (second_so (answers s (answered t n)) (holds s (map (answered t) names)) h) k (omega arith) is

-- members of one version, which the view knows, have the same lines
lines_alike : (view : View) (name : Name) (old new : Option Member) → option_map (λ m. m.version) new ≡ option_map (λ m. m.version) old
    → ((m : Member) → old ≡ Some m → Knows view name m) → ((m : Member) (x : Seen) → new ≡ Some m → get view m.version ≡ Some x → x ≡ seen name m)
    → option_map (λ m. m.lines) new ≡ option_map (λ m. m.lines) old
lines_alike view name None None same known standing = refl
lines_alike view name None (Some n) same known standing = cc
lines_alike view name (Some m) None same known standing = cc
lines_alike view name (Some m) (Some n) same known standing =
    let one : n.version ≡ m.version = cc in
    let is = standing n (seen name m) refl (ap (get view) one ∙ known m refl) in
    ap (λ (x : Seen). Some x.lines) (sym is)

pub what_holds_is_fresh : WhatHoldsIsFresh
what_holds_is_fresh units s unit e fits kept held =
    let recalled = fits.kept unit e kept in
    let looked = looked_in (outcome_of recalled.then.entries unit) in
    let trace : e.trace ≡ map (answered recalled.then) looked = ap (λ (x : Expanded). x.trace) recalled.is ∙ trace_of recalled.then unit in
    let all : holds s (map (answered recalled.then) looked) ≡ true = sym (ap (holds s) trace) ∙ held in
    let alike = λ (name : Name) (within : Contains looked name).
    let version = each_answers s recalled.then looked name all within.0 within.1 within.2 in
    let answer : AnswersAlike recalled.then s name = record {
      version = version;
      lines = lines_alike fits.view name (member_of recalled.then name) (member_of s name) version (λ m found. recalled.known name m within found) (λ m x found h. fits.standing name m x found h);
    } in answer in
    recalled.is ∙ sym (expansion_stays recalled.then s unit alike)

-- What is kept of a unit is taken out of a list, and that of other units stays.
use Rattle.std.proofs.Common.{◌≡◌, ◌≢◌, ℕ, zero, suc, ◌+◌, ◌<◌, ◌≤◌, false, List, [], ◌∷◌, ◌++◌, length, drop, set, get_or, refl, sym, ap, subst, ◌∙◌, arith, add-one, append_assoc, append-nil, take, take_all}
use mathlib.Core.Bool.{true≢false}
use Rattle.std.specs.Cmp.Lexicographic.{texts_ties}
use Rattle.std.specs.List.{AllByRecursion}
use Rattle.std.specs.List.Sorted.{IsStrictlySortedBy}
use Rattle.std.specs.Map.{keys_of}
use Rattle.std.proofs.lemmas.List.{drop_all, drop_more, map-append}
use Rattle.std.proofs.lemmas.Map.Keys.{sorted_tail}
use Rattle.pli_base.specs.Name.{Name}
use Rattle.pli_base.specs.Words.{same_name}
use Rattle.pli_members.specs.Members.{Member, is_named, name_order}
use Rattle.pli_meaning.specs.MemberParts.{source_in}
use Rattle.pli_meaning.specs.Scratch.{sources}
use Rattle.pli_ledger.specs.Kept.{Kept, Units, kept_of, nothing_kept}
use Rattle.pli_ledger.specs.answers.Aligning.{aligned}
use Rattle.pli_ledger.proofs.NamesApart.{kept_first, kept_later, named_itself, named_same, not_named, on_test}
use Rattle.pli_ledger.proofs.NamesInOrder.{all_weaker, other_way, sources_after}

-- what is kept of other units stays where nothing is kept of one any more
pub taken_others : (units : Units) (i : ℕ) (name : Name) (u : Name × Kept) → i < length units → u ≡ get_or units i u → u.0 ≡ name → (other : Name) → other ≢ name
    → kept_of (set units i (name, nothing_kept)) other ≡ kept_of units other
taken_others [] i name u low is named other differs = absurd (omega arith)
taken_others (x ∷ xs) zero name u low is named other differs =
    let here : x.0 ≡ name = sym (ap (λ (y : Name × Kept). y.0) is) ∙ named in
    kept_later other (name, nothing_kept) xs (not_named other name differs) ∙ sym (kept_later other x xs (ap (is_named other) here ∙ not_named other name differs))
taken_others (x ∷ xs) (suc i) name u low is named other differs =
    on_test (is_named other x.0)
    (λ at. kept_first other x (set xs i (name, nothing_kept)) at ∙ sym (kept_first other x xs at))
    (λ at. kept_later other x (set xs i (name, nothing_kept)) at ∙ taken_others xs i name u (omega arith) is named other differs ∙ sym (kept_later other x xs at))

-- a search from the front: the unit at the place is the one, or what is kept stands after it, or there is none
module _ (units : Units) (name : Name) (i : ℕ) (left : kept_of (drop i units) name ≡ kept_of units name) where
  pub found_here : (u : Name × Kept) → i < length units → u ≡ get_or units i u → u.0 ≡ name → u ≡ (name, kept_of units name)
  found_here u low is named =
      let split : drop i units ≡ u ∷ drop (i + 1) units = drop_more units i u low ∙ ap (λ (x : Name × Kept). x ∷ drop (i + 1) units) (sym is) in
      let here : u.1 ≡ kept_of units name =
      sym (kept_first name u (drop (i + 1) units) (ap (is_named name) named ∙ named_itself name)) ∙ sym (ap (λ (us : Units). kept_of us name) split) ∙ left in
      λ j. (named j, here j)

  pub found_later : (u : Name × Kept) → i < length units → u ≡ get_or units i u → is_named name u.0 ≡ false → kept_of (drop (i + 1) units) name ≡ kept_of units name
  found_later u low is other =
      let split : drop i units ≡ u ∷ drop (i + 1) units = drop_more units i u low ∙ ap (λ (x : Name × Kept). x ∷ drop (i + 1) units) (sym is) in
      sym (kept_later name u (drop (i + 1) units) other) ∙ sym (ap (λ (us : Units). kept_of us name) split) ∙ left

  pub found_none : length units ≤ i → ◌≡◌ {A = Name × Kept} (name, nothing_kept) (name, kept_of units name)
  found_none past = ap (λ (k : Kept). let u : Name × Kept = (name, k) in u) (sym (ap (λ (us : Units). kept_of us name) (drop_all i units past)) ∙ left)

-- where a test says that two names differ, they do
pub other_name : (a b : Name) → false ≡ same_name a b → is_named b a ≡ false
other_name a b h = other_way a b (sym (texts_ties a b) ∙ sym h)

-- what is kept of some names is the same where each has the same
pub aligned_same : (old new : Units) (names : List Name) → AllByRecursion (λ name. kept_of new name ≡ kept_of old name) names → aligned new names ≡ aligned old names
aligned_same old new [] all = refl
aligned_same old new (x ∷ xs) all = let first = all.0 in let others = aligned_same old new xs all.1 in λ i. (x, first i) ∷ others i

-- the sources after a member keep what they have
pub aligned_after : (old new : Units) (es : List (Name × Member)) (i : ℕ) (e : Name × Member) → IsStrictlySortedBy name_order (keys_of es) → i < length es → e ≡ get_or es i e
    → ((other : Name) → other ≢ e.0 → kept_of new other ≡ kept_of old other) → aligned new (sources (drop (suc i) es)) ≡ aligned old (sources (drop (suc i) es))
aligned_after old new [] i e sorted low is others = absurd (omega arith)
aligned_after old new (x ∷ xs) zero e sorted low is others =
    aligned_same old new (sources xs)
    (all_weaker (λ y. is_named x.0 y ≡ false) (λ y. kept_of new y ≡ kept_of old y)
    (λ y apart. others y (λ same. absurd (true≢false (sym (named_same x.0 y (sym (same ∙ ap (λ (u : Name × Member). u.0) is))) ∙ apart)))) (sources xs) (sources_after xs x sorted))
aligned_after old new (x ∷ xs) (suc i) e sorted low is others = aligned_after old new xs i e (sorted_tail name_order x.0 (keys_of xs) sorted) (omega arith) is others

-- one member more is moved
pub moved_more : (kept next old new all : Units) (es : List (Name × Member)) (i : ℕ) (e : Name × Member) → IsStrictlySortedBy name_order (keys_of es) → i < length es → e ≡ get_or es i e
    → kept ++ aligned old (sources (drop i es)) ≡ all → next ≡ kept ++ aligned old (source_in e.0 e.1.kind) → ((other : Name) → other ≢ e.0 → kept_of new other ≡ kept_of old other)
    → next ++ aligned new (sources (drop (i + 1) es)) ≡ all
moved_more kept next old new all es i e sorted low is so_far moved others =
    let rest = sources (drop (i + 1) es) in
    let split : drop i es ≡ e ∷ drop (i + 1) es = drop_more es i e low ∙ ap (λ (x : Name × Member). x ∷ drop (i + 1) es) (sym is) in
    let same = subst (λ (n : ℕ). aligned new (sources (drop n es)) ≡ aligned old (sources (drop n es))) (sym (add-one i)) (aligned_after old new es i e sorted low is others) in
    ap (λ (us : Units). us ++ aligned new rest) moved
    ∙ ap (λ (us : Units). (kept ++ aligned old (source_in e.0 e.1.kind)) ++ us) same
    ∙ append_assoc kept (aligned old (source_in e.0 e.1.kind)) (aligned old rest)
    ∙ ap (λ (us : Units). kept ++ us) (sym (map-append (λ (name : Name). let u : Name × Kept = (name, kept_of old name) in u) (source_in e.0 e.1.kind) rest))
    ∙ ap (λ (x : List (Name × Member)). kept ++ aligned old (sources x)) (sym split)
    ∙ so_far

-- a slice that is lent of a vector, as it is after a call that keeps its length
pub whole : (n : ℕ) (old new : Units) → length new ≡ length old → length old ≡ n → take n (new ++ drop (length new) old) ≡ new
whole n old new same is =
    ap (λ (xs : Units). take n (new ++ xs)) (drop_all (length new) old (omega arith)) ∙ ap (take n) (append-nil new) ∙ take_all n new (omega arith)

-- What holds of each name of a list, and that the names of units are apart.
use Rattle.std.proofs.Common.{◌≡◌, ℕ, zero, suc, false, List, [], ◌∷◌, ◌++◌, take, drop, ap, ◌∙◌}
use Rattle.std.specs.Cmp.Lexicographic.{nat_list_cmp_total}
use Rattle.std.specs.List.{AllByRecursion, IsDistinct}
use Rattle.std.specs.List.Sorted.{IsStrictlySortedBy}
use Rattle.std.specs.Map.{keys_of}
use Rattle.std.specs.Ordering.{eq_by_cmp, is_eq}
use Rattle.std.specs.declared.cmp.Ordering.TheVariants.{Less}
use Rattle.std.proofs.lemmas.Cmp.{eq_by_cmp_equiv}
use Rattle.std.proofs.lemmas.Map.Keys.{IsDistinct-cons, sorted_head, sorted_tail}
use Rattle.pli_base.specs.Name.{Name}
use Rattle.pli_members.specs.Members.{Member, is_named, name_order}
use Rattle.pli_members.specs.declared.kind.MemberKind.{MemberKind}
use Rattle.pli_members.specs.declared.kind.MemberKind.TheVariants.{Source, Include}
use Rattle.pli_meaning.specs.MemberParts.{source_in}
use Rattle.pli_meaning.specs.Scratch.{sources}

module _ {X : Type 0} where
  module _ (P Q : X → Type 0) where
    pub all_weaker : ((x : X) → P x → Q x) → (xs : List X) → AllByRecursion P xs → AllByRecursion Q xs
    all_weaker gives [] all = tt
    all_weaker gives (x ∷ xs) all = (gives x all.0, all_weaker gives xs all.1)

    pub all_both : (R : X → Type 0) → ((x : X) → P x → Q x → R x) → (xs : List X) → AllByRecursion P xs → AllByRecursion Q xs → AllByRecursion R xs
    all_both R gives [] one other = tt
    all_both R gives (x ∷ xs) one other = (gives x one.0 other.0, all_both R gives xs one.1 other.1)

  module _ (P : X → Type 0) where
    pub all_each : ((x : X) → P x) → (xs : List X) → AllByRecursion P xs
    all_each gives [] = tt
    all_each gives (x ∷ xs) = (gives x, all_each gives xs)

    pub all_dropped : (n : ℕ) (xs : List X) → AllByRecursion P xs → AllByRecursion P (drop n xs)
    all_dropped zero xs all = all
    all_dropped (suc n) [] all = tt
    all_dropped (suc n) (x ∷ xs) all = all_dropped n xs all.1

    pub all_taken : (n : ℕ) (xs : List X) → AllByRecursion P xs → AllByRecursion P (take n xs)
    all_taken zero xs all = tt
    all_taken (suc n) [] all = tt
    all_taken (suc n) (x ∷ xs) all = (all.0, all_taken n xs all.1)

    pub all_joined : (n : ℕ) (xs : List X) → AllByRecursion P (take n xs) → AllByRecursion P (drop n xs) → AllByRecursion P xs
    all_joined zero xs front back = back
    all_joined (suc n) [] front back = tt
    all_joined (suc n) (x ∷ xs) front back = (front.0, all_joined n xs front.1 back)

-- a name that comes before others is none of them
less_is_other : (name other : Name) → name_order name other ≡ Less → is_named name other ≡ false
less_is_other name other less = ap is_eq less

-- the same the other way round
pub other_way : (name other : Name) → is_named name other ≡ false → is_named other name ≡ false
other_way name other h = (eq_by_cmp_equiv nat_list_cmp_total).symm other name ∙ h

-- the sources are among the members
all_sources : (P : Name → Type 0) (es : List (Name × Member)) → AllByRecursion P (keys_of es) → AllByRecursion P (sources es)
all_sources P [] all = tt
all_sources P (e ∷ es) all = of_kind e.1.kind (all_sources P es all.1)
  where
    of_kind : (kind : MemberKind) → AllByRecursion P (sources es) → AllByRecursion P (source_in e.0 kind ++ sources es)
    of_kind Source others = (all.0, others)
    of_kind Include others = others

-- each source is another than those after it
pub sources_apart : (es : List (Name × Member)) → IsStrictlySortedBy name_order (keys_of es) → IsDistinct (eq_by_cmp name_order) (sources es)
unfolding IsDistinct
sources_apart [] sorted = tt
sources_apart (e ∷ es) sorted = of_kind e.1.kind (sources_apart es (sorted_tail name_order e.0 (keys_of es) sorted))
  where
    of_kind : (kind : MemberKind) → IsDistinct (eq_by_cmp name_order) (sources es) → IsDistinct (eq_by_cmp name_order) (source_in e.0 kind ++ sources es)
    of_kind Source others =
        IsDistinct-cons (eq_by_cmp name_order) e.0 (sources es)
        (all_sources (λ y. eq_by_cmp name_order e.0 y ≡ false) es
        (all_weaker (λ y. name_order e.0 y ≡ Less) (λ y. eq_by_cmp name_order e.0 y ≡ false) (λ y less. less_is_other e.0 y less) (keys_of es) (sorted_head name_order e.0 (keys_of es) sorted)))
        others
    of_kind Include others = others

-- no source after a member is of its name
pub sources_after : (es : List (Name × Member)) (e : Name × Member) → IsStrictlySortedBy name_order (keys_of (e ∷ es)) → AllByRecursion (λ y. is_named e.0 y ≡ false) (sources es)
sources_after es e sorted =
    all_sources (λ y. is_named e.0 y ≡ false) es
    (all_weaker (λ y. name_order e.0 y ≡ Less) (λ y. is_named e.0 y ≡ false) (λ y less. less_is_other e.0 y less) (keys_of es) (sorted_head name_order e.0 (keys_of es) sorted))

-- What a block keeps stands as items are added.
use Rattle.std.proofs.Common.{◌≡◌, ℕ, zero, suc, ◌+◌, ◌<◌, ◌≤◌, ◌⊎◌, inl, inr, Bool, true, false, nat_lt, ◌||◌, ◌&&◌, List, [], ◌∷◌, ◌++◌, length, get_or, length-append, Option, None, Some, IfSome, is_some, if◌then◌else◌, refl, sym, ap, subst, ◌∙◌, arith, rules}
use Rattle.std.proofs.lemmas.Bool.Decides.{nat_tests}
use Rattle.std.proofs.Math.ListN.{get_or-append}
use Rattle.std.proofs.Math.Seq.{get_or-append_seam}
use Rattle.std.specs.Cmp.Lexicographic.{same_text}
use Rattle.std.specs.Map.{lookup}
use Rattle.indexmap.specs.IndexMap.{IndexMap, IsUnchanged, get}
use Rattle.pli_base.specs.Name.{Name}
use Rattle.pli_base.specs.Words.{same_name}
use Rattle.pli_declare_scopes.specs.declared.block.Declared.{Declared}
use Rattle.pli_declare_scopes.specs.Scopes.{BlockItems, no_item, item_at, is_named, any_below}
use Rattle.pli_declare_scopes.specs.answers.Indexes.{last_below, OwnersBefore, IsIndexed}

last_below_same : (test other : ℕ → Bool) (k : ℕ) → ((j : ℕ) → j < k → test j ≡ other j) → last_below test k ≡ last_below other k
last_below_same test other zero same = refl
last_below_same test other (suc k) same =
    ap (λ b. if b then Some k else last_below test k) (same k (omega arith))
    ∙ ap (λ r. if other k then Some k else r) (last_below_same test other k (λ j lt. same j (omega arith)))

-- there is a last number that passes where one does
pub last_is_any : (test : ℕ → Bool) (k : ℕ) → is_some (last_below test k) ≡ any_below test k
last_is_any test zero = refl
last_is_any test (suc k) = by (test k) (last_is_any test k)
  where
    by : (b : Bool) → is_some (last_below test k) ≡ any_below test k → is_some (if b then Some k else last_below test k) ≡ (b || any_below test k)
    by true e = refl
    by false e = e

-- the items before another stay as they are
module _ (items : BlockItems) (i : Declared) where
  abbrev more : BlockItems
  more = items ++ i ∷ []

  pub item_front : (k : ℕ) → k < length items → item_at more k ≡ item_at items k
  item_front k lt = get_or-append items (i ∷ []) no_item k lt

  pub item_last : item_at more (length items) ≡ i
  item_last = get_or-append_seam items i [] no_item

  pub named_front : (name : Name) (k : ℕ) → k < length items → is_named more name k ≡ is_named items name k
  named_front name k lt = ap (λ (j : Declared). j.counts && same_name j.name name) (item_front k lt)

  named_last : (name : Name) → is_named more name (length items) ≡ (i.counts && same_name i.name name)
  named_last name = ap (λ (j : Declared). j.counts && same_name j.name name) item_last

  last_front : (name : Name) (k : ℕ) → k ≤ length items → last_below (is_named more name) k ≡ last_below (is_named items name) k
  last_front name k le = last_below_same (is_named more name) (is_named items name) k (λ j lt. named_front name j (omega arith))

  last_more : (name : Name) → last_below (is_named more name) (length more) ≡ (if i.counts && same_name i.name name then Some (length items) else last_below (is_named items name) (length items))
  last_more name =
      let count : length more ≡ suc (length items) = omega (arith, length-append items (i ∷ [])) in
      ap (last_below (is_named more name)) count
      ∙ ap (λ b. if b then Some (length items) else last_below (is_named more name) (length items)) (named_last name)
      ∙ ap (λ r. if i.counts && same_name i.name name then Some (length items) else r) (last_front name (length items) (omega arith))

pub both_true : (a b : Bool) → (a && b) ≡ true → (a ≡ true) × (b ≡ true)
both_true true b h = (refl, h)
both_true false b h = cc

-- a number below one more is below, or that one
pub below_or_last : (n k : ℕ) → n < k + 1 → (n < k) ⊎ (n ≡ k)
below_or_last n k lt = by (nat_lt n k) refl
  where
    by : (b : Bool) → nat_lt n k ≡ b → (n < k) ⊎ (n ≡ k)
    by true e = inl (search (rules, nat_tests))
    by false e = inr (grind (arith, nat_tests))

-- one more item belongs to one before it too
pub owners_added : (items : BlockItems) (i : Declared) → OwnersBefore items → IfSome i.owner (λ o. o < length items) → OwnersBefore (items ++ i ∷ [])
owners_added items i owners owned n lt = elim (below_or_last n (length items) (omega (arith, lt, length-append items (i ∷ [])))) [
  | inl front ↦ subst (λ (j : Declared). IfSome j.owner (λ o. o < n)) (sym (item_front items i n front)) (owners n front)
  | inr last ↦ subst (λ (k : ℕ). IfSome (item_at (items ++ i ∷ []) k).owner (λ o. o < k)) (sym last)
      (subst (λ (j : Declared). IfSome j.owner (λ o. o < length items)) (sym (item_last items i)) owned)
]

-- one more item with its links
module _ {S : Type 0} (items : BlockItems) (earlier : List (Option ℕ)) (latest later : IndexMap Name ℕ S) (kept : IsIndexed items earlier latest)
    (i : Declared) (before : Option ℕ)
    (owned : IfSome i.owner (λ o. o < length items))
    (link : i.counts ≡ true → before ≡ get same_name latest i.name)
    (found : (name : Name) → get same_name later name ≡ (if i.counts && same_name i.name name then Some (length items) else get same_name latest name)) where
  links_more : (name : Name) (n : ℕ) → n < length (items ++ i ∷ []) → is_named (items ++ i ∷ []) name n ≡ true
      → get_or (earlier ++ before ∷ []) n None ≡ last_below (is_named (items ++ i ∷ []) name) n
  links_more name n lt h = elim (below_or_last n (length items) (omega (arith, length-append items (i ∷ [])))) [
    | inl front ↦ (let long : n < length earlier = omega (arith, kept.count) in
        get_or-append earlier (before ∷ []) None n long
        ∙ kept.links name n front (sym (named_front items i name n front) ∙ h) ∙ sym (last_front items i name n (omega arith)))
    | inr last ↦ (let tests = both_true i.counts (same_name i.name name) (sym (named_last items i name) ∙ ap (is_named (items ++ i ∷ []) name) (sym last) ∙ h) in
        let same : i.name ≡ name = same_text i.name name (sym tests.1) in
        ap (λ k. get_or (earlier ++ before ∷ []) k None) (last ∙ sym kept.count) ∙ get_or-append_seam earlier before [] None
        ∙ link tests.0 ∙ ap (get same_name latest) same ∙ kept.last name
        ∙ sym (last_front items i name (length items) (omega arith)) ∙ ap (last_below (is_named (items ++ i ∷ []) name)) (sym last))
  ]

  pub owners_more : OwnersBefore (items ++ i ∷ [])
  owners_more = owners_added items i kept.owners owned

  pub indexed_more : (all : BlockItems) (links : List (Option ℕ)) → all ≡ items ++ i ∷ [] → links ≡ earlier ++ before ∷ [] → IsIndexed all links later
  indexed_more all links p q =
      let made : IsIndexed (items ++ i ∷ []) (earlier ++ before ∷ []) later = record {
        last = λ name. found name ∙ ap (λ r. if i.counts && same_name i.name name then Some (length items) else r) (kept.last name) ∙ sym (last_more items i name);
        links = links_more;
        owners = owners_more;
        count = omega (arith, length-append items (i ∷ []), length-append earlier (before ∷ []), kept.count);
      } in
      rw p (rw q made)

-- an index in which nothing has changed
pub indexed_still : {S : Type 0} (items : BlockItems) (earlier : List (Option ℕ)) (before after : IndexMap Name ℕ S)
    → IsUnchanged before after → IsIndexed items earlier before → IsIndexed items earlier after
indexed_still items earlier before after same index = record {
  last = λ name. ap (lookup (same_name name)) same ∙ index.last name;
  links = index.links;
  owners = index.owners;
  count = index.count;
}

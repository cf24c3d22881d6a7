-- Only items of a reference's last name fit it, and how they are found.
use Rattle.std.proofs.Common.{◌≡◌, ℕ, zero, suc, ◌+◌, ◌-◌, ◌<◌, ◌≤◌, min, inl, inr, Bool, true, false, nat_eq, ◌&&◌, List, [], ◌∷◌, length, get_or, take, Option, None, Some, IfSome, if◌then◌else◌, refl, sym, ap, subst, ◌∙◌, arith}
use Rattle.std.specs.Prelude.{reverse}
use Rattle.std.proofs.Math.Seq.{take-length}
use Rattle.std.proofs.lemmas.Bool.Decides.{nat_tests}
use Rattle.std.proofs.lemmas.List.{get_or_default}
use Rattle.std.specs.Option.{option_eq}
use Rattle.std.specs.Cmp.Lexicographic.{same_text}
use Rattle.indexmap.specs.IndexMap.{IndexMap}
use Rattle.pli_base.specs.Name.{Name}
use Rattle.pli_base.specs.laws.NameLaws.{pointwise-refl}
use Rattle.pli_base.specs.Words.{same_name}
use Rattle.pli_declare_scopes.specs.declared.found.Found.{Found}
use Rattle.pli_declare_scopes.specs.declared.found.Found.TheVariants.{Nothing, One, Several}
use Rattle.pli_declare_scopes.specs.Scopes.{BlockItems, item_at, is_named, chain_at, chain_over, is_part, fits_chain, is_chain, fits, fits_fully, with_number, found_below}
use Rattle.pli_declare_scopes.specs.answers.Indexes.{last_below, OwnersBefore, IsIndexed}
use Rattle.pli_declare_scopes.proofs.IndexKept.{both_true, below_or_last}
use Rattle.pli_declare_scopes.specs.answers.Leaps.{rank, IsLastUpTo}
use Rattle.pli_declare_scopes.specs.answers.Reaches.{IsReach, IsCandidate}
use Rattle.pli_declare_scopes.proofs.ChainLemmas.{chain_is, backwards}

and_false : (b : Bool) → (b && false) ≡ false
and_false true = refl
and_false false = refl

same_turned : (x y : Name) → same_name x y ≡ true → same_name y x ≡ true
same_turned x y h = subst (λ z. same_name z x ≡ true) (same_text x y (sym h)) (pointwise-refl x)

-- nothing is found where nothing passes
pub none_found : (test : ℕ → Bool) (k : ℕ) (found : Found) → ((j : ℕ) → j < k → test j ≡ false) → found_below test k found ≡ found
none_found test zero found none = refl
none_found test (suc k) found none =
    ap (λ b. found_below test k (if b then with_number k found else found)) (none k (omega arith))
    ∙ none_found test k found (λ j lt. none j (omega arith))

-- two that are found stay two
pub several_stay : (test : ℕ → Bool) (k : ℕ) → found_below test k Several ≡ Several
several_stay test zero = refl
several_stay test (suc k) = by (test k) ∙ several_stay test k
  where
    by : (b : Bool) → found_below test k (if b then with_number k Several else Several) ≡ found_below test k Several
    by true = refl
    by false = refl

-- what is found of more numbers, the last of them at last
found_with : (test : ℕ → Bool) (k m : ℕ) (found : Found) → with_number m (found_below test k found) ≡ found_below test k (with_number m found)
found_with test zero m found = refl
found_with test (suc k) m found = by (test k) (found_with test k m)
  where
    several : (f : Found) → with_number k (with_number m f) ≡ with_number m (with_number k f)
    several Nothing = refl
    several (One n) = refl
    several Several = refl

    by : (b : Bool) → ((f : Found) → with_number m (found_below test k f) ≡ found_below test k (with_number m f))
        → with_number m (found_below test k (if b then with_number k found else found)) ≡ found_below test k (if b then with_number k (with_number m found) else with_number m found)
    by true go = go (with_number k found) ∙ ap (found_below test k) (sym (several found))
    by false go = go found

pub found_more : (test : ℕ → Bool) (k : ℕ) → found_below test (suc k) Nothing ≡ (if test k then with_number k (found_below test k Nothing) else found_below test k Nothing)
found_more test k = by (test k)
  where
    by : (b : Bool) → found_below test k (if b then with_number k Nothing else Nothing) ≡ (if b then with_number k (found_below test k Nothing) else found_below test k Nothing)
    by true = sym (found_with test k k Nothing)
    by false = refl

-- what is found is found by each test that is the same
pub found_same : (test other : ℕ → Bool) (k : ℕ) (found : Found) → ((j : ℕ) → j < k → test j ≡ other j) → found_below test k found ≡ found_below other k found
found_same test other zero found same = refl
found_same test other (suc k) found same =
    ap (λ b. found_below test k (if b then with_number k found else found)) (same k (omega arith))
    ∙ found_same test other k (if other k then with_number k found else found) (λ j lt. same j (omega arith))

skipped_step : (test named : ℕ → Bool) (k : ℕ) (found : Found) (b : Bool) → named k ≡ b → (test k ≡ true → named k ≡ true)
    → found_below test k found ≡ found_below test (rank (last_below named k)) found
    → found_below test (suc k) found ≡ found_below test (rank (if b then Some k else last_below named k)) found
skipped_step test named k found true e only rest = ap (λ n. found_below test n found) (let on : suc k ≡ k + 1 = omega arith in on)
skipped_step test named k found false e only rest = by (test k) refl ∙ rest
  where
    by : (t : Bool) → test k ≡ t → found_below test (suc k) found ≡ found_below test k found
    by true f = let bad : true ≡ false = sym (only f) ∙ e in cc
    by false f = ap (λ t. found_below test k (if t then with_number k found else found)) f

-- numbers after the last that is named add nothing
pub skipped : (test named : ℕ → Bool) (k : ℕ) (found : Found) → ((j : ℕ) → j < k → test j ≡ true → named j ≡ true)
    → found_below test k found ≡ found_below test (rank (last_below named k)) found
skipped test named zero found only = refl
skipped test named (suc k) found only =
    skipped_step test named k found (named k) refl (only k (omega arith)) (skipped test named k found (λ j lt. only j (omega arith)))

-- a number that is looked at
pub looked_at : (test named : ℕ → Bool) (n : ℕ) (b : Bool) (found next : Found) → test n ≡ b → next ≡ (if b then with_number n found else found)
    → ((j : ℕ) → j < n → test j ≡ true → named j ≡ true)
    → found_below test (rank (last_below named n)) next ≡ found_below test (n + 1) found
looked_at test named n b found next e f only =
    sym (skipped test named n next only) ∙ ap (found_below test n) (f ∙ ap (λ t. if t then with_number n found else found) (sym e))
    ∙ ap (λ m. found_below test m found) (let on : suc n ≡ n + 1 = omega arith in on)

-- the last that is named lies below, and is named
pub last_within : (named : ℕ → Bool) (k : ℕ) → IfSome (last_below named k) (λ n. n < k)
last_within named zero = tt
last_within named (suc k) = by (named k) (last_within named k)
  where
    wider : (o : Option ℕ) → IfSome o (λ n. n < k) → IfSome o (λ n. n < suc k)
    wider None h = tt
    wider (Some n) h = omega (arith, h)

    by : (b : Bool) → IfSome (last_below named k) (λ n. n < k) → IfSome (if b then Some k else last_below named k) (λ n. n < suc k)
    by true h = omega arith
    by false h = wider (last_below named k) h

pub last_passes : (named : ℕ → Bool) (k : ℕ) → IfSome (last_below named k) (λ n. named n ≡ true)
last_passes named zero = tt
last_passes named (suc k) = by (named k) refl (last_passes named k)
  where
    by : (b : Bool) → named k ≡ b → IfSome (last_below named k) (λ n. named n ≡ true) → IfSome (if b then Some k else last_below named k) (λ n. named n ≡ true)
    by true e h = e
    by false e h = h

-- no names fit nothing
pub no_names : (items : BlockItems) → found_below (fits items []) (length items) Nothing ≡ Nothing
no_names items = none_found (fits items []) (length items) Nothing (λ j lt. and_false (item_at items j).counts)

module _ (items : BlockItems) (owners : OwnersBefore items) where
  pub no_names_fully : found_below (fits_fully items []) (length items) Nothing ≡ Nothing
  no_names_fully = none_found (fits_fully items []) (length items) Nothing
      (λ j lt. ap (λ chain. (item_at items j).counts && is_chain [] chain) (chain_is items j owners lt) ∙ and_false (item_at items j).counts)

  module _ (names : List Name) (some : 0 < length names) where
    abbrev pub own : Name
    own = get_or names (length names - 1) []

    abbrev pub front : List Name
    front = reverse (take (length names - 1) names)

    turned : reverse names ≡ own ∷ front
    turned =
        let whole : (length names - 1) + 1 ≡ length names = omega arith in
        sym (ap reverse (ap (λ n. take n names) whole ∙ take-length names)) ∙ backwards names (length names - 1) [] (omega arith)

    chained : (n : ℕ) → n < length items → (item_at items n).counts ≡ true → (same_name own (item_at items n).name ≡ true)
        → fits_chain (reverse names) (chain_at items n) ≡ is_part front (chain_over items (item_at items n).owner)
    chained n lt counts same =
        ap (λ ns. fits_chain ns (chain_at items n)) turned ∙ ap (fits_chain (own ∷ front)) (chain_is items n owners lt)
        ∙ ap (λ b. b && is_part front (chain_over items (item_at items n).owner)) same

    -- an item of the last name fits by the names before it
    pub fits_named : (n : ℕ) → n < length items → is_named items own n ≡ true → fits items names n ≡ is_part front (chain_over items (item_at items n).owner)
    fits_named n lt named =
        let t = both_true (item_at items n).counts (same_name (item_at items n).name own) named in
        ap (λ b. b && fits_chain (reverse names) (chain_at items n)) t.0
        ∙ chained n lt t.0 (same_turned (item_at items n).name own t.1)

    -- what fits is of the last name
    pub only_named : (n : ℕ) → n < length items → fits items names n ≡ true → is_named items own n ≡ true
    only_named n lt h =
        let t = both_true (item_at items n).counts (fits_chain (reverse names) (chain_at items n)) h in
        let split : fits_chain (own ∷ front) ((item_at items n).name ∷ chain_over items (item_at items n).owner) ≡ true =
        sym (ap (λ ns. fits_chain ns (chain_at items n)) turned ∙ ap (fits_chain (own ∷ front)) (chain_is items n owners lt)) ∙ t.1 in
        let u = both_true (same_name own (item_at items n).name) (is_part front (chain_over items (item_at items n).owner)) split in
        ap (λ b. b && same_name (item_at items n).name own) t.0 ∙ same_turned own (item_at items n).name u.0

-- the items of a name are walked from the last: what is found so far, and what those from the next on give, is what all give
pub record Looking (items : BlockItems) (names : List Name) (next : Option ℕ) (found : Found) : Type 0 where
  pub within : IfSome next (λ n. n < length items)
  pub named : IfSome next (λ n. is_named items (get_or names (length names - 1) []) n ≡ true)
  pub part : found_below (fits items names) (rank next) found ≡ found_below (fits items names) (length items) Nothing

wider_next : (next : Option ℕ) (m n : ℕ) → m ≤ n → IfSome next (λ o. o < m) → IfSome next (λ o. o < n)
wider_next None m n le h = tt
wider_next (Some o) m n le h = omega (arith, h)

rank_below : (next : Option ℕ) (n : ℕ) → IfSome next (λ o. o < n) → rank next < n + 1
rank_below None n h = omega arith
rank_below (Some o) n h = omega (arith, h)

module _ (items : BlockItems) (owners : OwnersBefore items) (names : List Name) (some : 0 < length names) where
  -- the walk begins
  pub looking_first : (next : Option ℕ) → next ≡ last_below (is_named items (get_or names (length names - 1) [])) (length items) → Looking items names next Nothing
  looking_first next e =
      let named : ℕ → Bool = is_named items (get_or names (length names - 1) []) in
      rw e (record {
        within = last_within named (length items);
        named = last_passes named (length items);
        part = sym (skipped (fits items names) named (length items) Nothing (only_named items owners names some));
      })

  -- two are found
  pub looking_several : (at : Option ℕ) (n : ℕ) (found now : Found) (p : Bool) → Looking items names at found → at ≡ Some n
      → p ≡ is_part (reverse (take (length names - 1) names)) (chain_over items (item_at items n).owner)
      → now ≡ (if p then with_number n found else found) → now ≡ Several → Several ≡ found_below (fits items names) (length items) Nothing
  looking_several at n found now p so_far is is_p told two =
      let within : n < length items = subst (λ a. IfSome a (λ o. o < length items)) is so_far.within in
      let named : is_named items (get_or names (length names - 1) []) n ≡ true = subst (λ a. IfSome a (λ o. is_named items (get_or names (length names - 1) []) o ≡ true)) is so_far.named in
      let one : fits items names n ≡ p = fits_named items owners names some n within named ∙ sym is_p in
      sym (several_stay (fits items names) n) ∙ ap (found_below (fits items names) n) (sym two ∙ told ∙ ap (λ b. if b then with_number n found else found) (sym one))
      ∙ ap (λ m. found_below (fits items names) m found) (let on : suc n ≡ n + 1 = omega arith in on)
      ∙ ap (λ a. found_below (fits items names) (rank a) found) (sym is) ∙ so_far.part

  module _ (at : Option ℕ) (n : ℕ) (found : Found) (so_far : Looking items names at found) (is : at ≡ Some n) where
    stands : n < length items
    stands = subst (λ a. IfSome a (λ o. o < length items)) is so_far.within

    is_there : is_named items (get_or names (length names - 1) []) n ≡ true
    is_there = subst (λ a. IfSome a (λ o. is_named items (get_or names (length names - 1) []) o ≡ true)) is so_far.named

    -- the link of the item leads to the one of its name before it
    pub linked : {S : Type 0} (earlier : List (Option ℕ)) (latest : IndexMap Name ℕ S) → IsIndexed items earlier latest → (next : Option ℕ) → next ≡ get_or earlier n next
        → next ≡ last_below (is_named items (get_or names (length names - 1) [])) n
    linked earlier latest kept next read = read ∙ get_or_default earlier n next None (omega (arith, stands, kept.count)) ∙ kept.links (get_or names (length names - 1) []) n stands is_there

    module _ (next : Option ℕ) (further : next ≡ last_below (is_named items (get_or names (length names - 1) [])) n) where
      -- the walk ends
      pub looking_ends : rank next < rank at
      looking_ends =
          let named : ℕ → Bool = is_named items (get_or names (length names - 1) []) in
          let less : rank next < n + 1 = rw further (rank_below (last_below named n) n (last_within named n)) in
          rw is less

      -- one more item is looked at
      pub looking_on : (now : Found) (p : Bool)
          → p ≡ is_part (reverse (take (length names - 1) names)) (chain_over items (item_at items n).owner)
          → now ≡ (if p then with_number n found else found)
          → Looking items names next now
      looking_on now p is_p told =
          let named : ℕ → Bool = is_named items (get_or names (length names - 1) []) in
          let one : fits items names n ≡ p = fits_named items owners names some n stands is_there ∙ sym is_p in
          let below : n ≤ length items = omega (arith, stands) in
          rw further (record {
            within = wider_next (last_below named n) n (length items) below (last_within named n);
            named = last_passes named n;
            part = looked_at (fits items names) named n p found now one told (λ j lt. only_named items owners names some j (omega (arith, stands)))
                ∙ ap (λ a. found_below (fits items names) (rank a) found) (sym is) ∙ so_far.part;
          })

-- numbers that do not pass are left out
between : (test : ℕ → Bool) (k m : ℕ) (found : Found) → m ≤ k → ((j : ℕ) → m ≤ j → j < k → test j ≡ false) → found_below test k found ≡ found_below test m found
between test zero m found le none = let same : zero ≡ m = omega (arith, le) in ap (λ n. found_below test n found) same
between test (suc k) m found le none = elim (below_or_last m (suc k) (omega (arith, le))) [
  | inl less ↦ ap (λ b. found_below test k (if b then with_number k found else found)) (none k (omega (arith, less)) (omega arith))
      ∙ between test k m found (omega (arith, less)) (λ j low lt. none j low (omega (arith, lt)))
  | inr same ↦ ap (λ n. found_below test n found) (sym same)
]

-- items that can't fit are leapt over
pub looking_leap : (items : BlockItems) (names : List Name) (at : Option ℕ) (n : ℕ) (found : Found) → Looking items names at found → at ≡ Some n
    → (next : Option ℕ) → IsCandidate items names n next → Looking items names next found
looking_leap items names at n found so_far is next leap = record {
  within = leap.within;
  named = leap.named;
  part = sym (between (fits items names) (n + 1) (rank next) found (short next leap.bounded) fails)
      ∙ ap (λ a. found_below (fits items names) (rank a) found) (sym is) ∙ so_far.part;
}
  where
    stands : n < length items
    stands = subst (λ a. IfSome a (λ o. o < length items)) is so_far.within

    short : (o : Option ℕ) → IfSome o (λ m. m ≤ n) → rank o ≤ n + 1
    short None h = omega arith
    short (Some m) h = omega (arith, h)

    fails : (j : ℕ) → rank next ≤ j → j < n + 1 → fits items names j ≡ false
    fails j le lt = by (fits items names j) refl
      where
        by : (b : Bool) → fits items names j ≡ b → fits items names j ≡ false
        by true e = absurd (let bad : j < rank next = leap.last j (omega (arith, stands, lt)) (omega (arith, lt)) e in omega (arith, bad, le))
        by false e = e

pub leap_ends : (next : Option ℕ) (n : ℕ) → IfSome next (λ m. m ≤ n) → option_eq nat_eq next (Some n) ≡ false → rank next < n + 1
leap_ends None n h e = omega arith
leap_ends (Some m) n h e = let other : m ≤ n = h in grind (arith, nat_tests, other, e)

-- a branch taken or not
pub if_taken : (b : Bool) (x y z : Found) → b ≡ true → z ≡ x → z ≡ (if b then x else y)
if_taken b x y z e f = f ∙ sym (ap (λ c. if c then x else y) e)

pub if_passed : (b : Bool) (x y z : Found) → b ≡ false → z ≡ y → z ≡ (if b then x else y)
if_passed b x y z e f = f ∙ sym (ap (λ c. if c then x else y) e)

-- the last item of a reference's last name, up to where items may have the names before it above them
module _ (items : BlockItems) (owners : OwnersBefore items) (names : List Name) (some : 0 < length names) (number : ℕ) where
  pub candidate_none : IsReach items names number None → IsCandidate items names number None
  candidate_none reach = record {
    within = tt;
    bounded = tt;
    named = tt;
    last = λ n lt le h.
        let named = only_named items owners names some n lt h in
        reach n lt le (both_true (item_at items n).counts (same_name (item_at items n).name (get_or names (length names - 1) [])) named).0
        (sym (fits_named items owners names some n lt named) ∙ h);
  }

  pub candidate_some : (bound upto : ℕ) → IsReach items names number (Some bound) → upto ≡ min bound number → (result : Option ℕ)
      → IsLastUpTo items (get_or names (length names - 1) []) upto result → IsCandidate items names number result
  candidate_some bound upto reach e result is = record {
    within = is.within;
    bounded = by result is.bounded;
    named = is.named;
    last = λ n lt le h.
        let named = only_named items owners names some n lt h in
        let reached : n < bound + 1 =
        reach n lt le (both_true (item_at items n).counts (same_name (item_at items n).name (get_or names (length names - 1) [])) named).0
        (sym (fits_named items owners names some n lt named) ∙ h) in
        is.last n lt (omega (arith, reached, le, e)) named;
  }
    where
      by : (o : Option ℕ) → IfSome o (λ n. n ≤ upto) → IfSome o (λ n. n ≤ number)
      by None h = tt
      by (Some n) h = omega (arith, h, e)

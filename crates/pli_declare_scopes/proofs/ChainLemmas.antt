-- An item's chain is its own name and its owner's chain.
use Rattle.std.proofs.Common.{◌≡◌, ℕ, zero, suc, ◌+◌, ◌-◌, ◌<◌, ◌≤◌, Bool, true, false, List, [], ◌∷◌, ◌++◌, length, get_or, take, length-append, Option, None, Some, IfSome, if◌then◌else◌, refl, sym, ap, subst, ◌∙◌, arith}
use Rattle.std.proofs.Math.ListN.{get_or-append}
use Rattle.std.proofs.Math.Seq.{get_or-append_seam}
use Rattle.std.proofs.lemmas.List.{take_more, reverse-append}
use Rattle.std.specs.Prelude.{reverse}
use Rattle.pli_base.specs.Name.{Name}
use Rattle.pli_base.specs.Words.{same_name}
use Rattle.pli_declare_scopes.specs.declared.block.Declared.{Declared}
use Rattle.pli_declare_scopes.specs.Scopes.{BlockItems, item_at, chain_above, chains_after, chain_over, chain_at, is_part}
use Rattle.pli_declare_scopes.specs.answers.Indexes.{OwnersBefore}
use Rattle.pli_declare_scopes.specs.answers.Leaps.{rank}
use Rattle.pli_declare_scopes.specs.laws.ScopeLaws.{NamesUpwards, ChainsAreNames}

pub chains_kept : (is : BlockItems) (chains : List (List Name)) (n : ℕ) → n < length chains → get_or (chains_after chains is) n [] ≡ get_or chains n []
chains_kept [] chains n lt = refl
chains_kept (i ∷ is) chains n lt =
    let c : List Name = i.name ∷ chain_above chains i.owner in
    chains_kept is (chains ++ c ∷ []) n (omega (arith, length-append chains (c ∷ []))) ∙ get_or-append chains (c ∷ []) [] n lt

pub above_kept : (is : BlockItems) (chains : List (List Name)) (owner : Option ℕ) → IfSome owner (λ o. o < length chains) → chain_above (chains_after chains is) owner ≡ chain_above chains owner
above_kept is chains None h = refl
above_kept is chains (Some n) h = chains_kept is chains n h

chains_step : (is : BlockItems) (chains : List (List Name)) (k : ℕ) → k < length is
    → IfSome (item_at is k).owner (λ o. o < length chains + k)
    → get_or (chains_after chains is) (length chains + k) [] ≡ (item_at is k).name ∷ chain_above (chains_after chains is) (item_at is k).owner
chains_step [] chains k lt owned = absurd (omega arith)
chains_step (i ∷ is) chains zero lt owned =
    let c : List Name = i.name ∷ chain_above chains i.owner in
    let more : List (List Name) = chains ++ c ∷ [] in
    let here : length chains + 0 ≡ length chains = omega arith in
    let shown : IfSome i.owner (λ o. o < length chains) = subst (λ (n : ℕ). IfSome i.owner (λ o. o < n)) here owned in
    ap (λ n. get_or (chains_after more is) n []) here
    ∙ chains_kept is more (length chains) (omega (arith, length-append chains (c ∷ [])))
    ∙ get_or-append_seam chains c [] []
    ∙ ap (λ a. i.name ∷ a) (sym (above_kept (i ∷ is) chains i.owner shown))
chains_step (i ∷ is) chains (suc k) lt owned =
    let c : List Name = i.name ∷ chain_above chains i.owner in
    let more : List (List Name) = chains ++ c ∷ [] in
    let there : length chains + suc k ≡ length more + k = omega (arith, length-append chains (c ∷ [])) in
    ap (λ n. get_or (chains_after more is) n []) there
    ∙ chains_step is more k (omega arith) (subst (λ (n : ℕ). IfSome (item_at is k).owner (λ o. o < n)) there owned)

-- an item's chain
pub chain_is : (items : BlockItems) (n : ℕ) → OwnersBefore items → n < length items → chain_at items n ≡ (item_at items n).name ∷ chain_over items (item_at items n).owner
chain_is items n owners lt =
    let zero_on : 0 + n ≡ n = omega arith in
    ap (λ k. get_or (chains_after [] items) k []) (sym zero_on)
    ∙ chains_step items [] n lt (subst (λ (k : ℕ). IfSome (item_at items n).owner (λ o. o < k)) (sym zero_on) (owners n lt))

-- one name more, read backwards
pub backwards : (names : List Name) (k : ℕ) (d : Name) → k < length names → reverse (take (k + 1) names) ≡ get_or names k d ∷ reverse (take k names)
backwards names k d lt = ap reverse (take_more names k d lt) ∙ reverse-append (take k names) (get_or names k d ∷ [])

-- one step up a chain
module _ (items : BlockItems) (place : ℕ) (owners : OwnersBefore items) (within : place < length items) where
  abbrev name : Name
  name = (item_at items place).name

  abbrev further : List Name
  further = chain_over items (item_at items place).owner

  up : chain_over items (Some place) ≡ name ∷ further
  up = chain_is items place owners within

  module _ (names : List Name) (left : ℕ) where
    -- a name of the reference is found
    pub part_taken : 0 < left → left ≤ length names → same_name (get_or names (left - 1) []) name ≡ true
        → is_part (reverse (take (left - 1) names)) further ≡ is_part (reverse (take left names)) (chain_over items (Some place))
    part_taken some le same =
        let whole : (left - 1) + 1 ≡ left = omega arith in
        let one : reverse (take left names) ≡ get_or names (left - 1) [] ∷ reverse (take (left - 1) names) =
        sym (ap (λ n. reverse (take n names)) whole) ∙ backwards names (left - 1) [] (omega arith) in
        sym (ap (λ ns. is_part ns (chain_over items (Some place))) one ∙ ap (is_part (get_or names (left - 1) [] ∷ reverse (take (left - 1) names))) up
        ∙ ap (λ b. is_part (if b then reverse (take (left - 1) names) else get_or names (left - 1) [] ∷ reverse (take (left - 1) names)) further) same)

    -- a name of an item is passed over
    pub part_passed : 0 < left → left ≤ length names → same_name (get_or names (left - 1) []) name ≡ false
        → is_part (reverse (take left names)) further ≡ is_part (reverse (take left names)) (chain_over items (Some place))
    part_passed some le other =
        let whole : (left - 1) + 1 ≡ left = omega arith in
        let one : reverse (take left names) ≡ get_or names (left - 1) [] ∷ reverse (take (left - 1) names) =
        sym (ap (λ n. reverse (take n names)) whole) ∙ backwards names (left - 1) [] (omega arith) in
        sym (ap (λ ns. is_part ns (chain_over items (Some place))) one ∙ ap (is_part (get_or names (left - 1) [] ∷ reverse (take (left - 1) names))) up
        ∙ ap (λ b. is_part (if b then reverse (take (left - 1) names) else get_or names (left - 1) [] ∷ reverse (take (left - 1) names)) further) other
        ∙ ap (λ ns. is_part ns further) (sym one))

-- no level is left to be looked at
pub part_ends : (items : BlockItems) (names : List Name) (left : ℕ) → 0 < left → left ≤ length names → is_part (reverse (take left names)) (chain_over items None) ≡ false
part_ends items names left some le =
    let whole : (left - 1) + 1 ≡ left = omega arith in
    let one : reverse (take left names) ≡ get_or names (left - 1) [] ∷ reverse (take (left - 1) names) =
    sym (ap (λ n. reverse (take n names)) whole) ∙ backwards names (left - 1) [] (omega arith) in
    ap (λ ns. is_part ns (chain_over items None)) one

-- no name is left to be found
pub part_found : (items : BlockItems) (names : List Name) (left : ℕ) (owner : Option ℕ) → left ≤ 0 → is_part (reverse (take left names)) (chain_over items owner) ≡ true
part_found items names left owner none = let nothing : left ≡ 0 = omega arith in ap (λ n. is_part (reverse (take n names)) (chain_over items owner)) nothing

-- what a step up keeps
pub record Stepped (items : BlockItems) (names : List Name) (i : Declared) (next : ℕ) (part : Bool) : Type 0 where
  pub left : next < length names
  pub above : IfSome i.owner (λ o. o < length items)
  pub partly : is_part (reverse (take next names)) (chain_over items i.owner) ≡ part

wider_owner : (owner : Option ℕ) (m n : ℕ) → m < n → IfSome owner (λ o. o < m) → IfSome owner (λ o. o < n)
wider_owner None m n lt h = tt
wider_owner (Some o) m n lt h = omega (arith, h)

module _ (items : BlockItems) (owners : OwnersBefore items) (above : Option ℕ) (place : ℕ) (at : above ≡ Some place) (stands : IfSome above (λ o. o < length items))
    (names : List Name) (left : ℕ) (lt : left < length names) (some : 0 < left) (partly : Bool)
    (part : is_part (reverse (take left names)) (chain_over items above) ≡ partly)
    (i : Declared) (read : i ≡ item_at items place) where
  here : place < length items
  here = subst (λ a. IfSome a (λ o. o < length items)) at stands

  stepped : (next : ℕ) → next < length names
      → is_part (reverse (take next names)) (chain_over items (item_at items place).owner) ≡ is_part (reverse (take left names)) (chain_over items (Some place))
      → Stepped items names i next partly
  stepped next le p = record {
    left = le;
    above = subst (λ (j : Declared). IfSome j.owner (λ o. o < length items)) (sym read) (wider_owner (item_at items place).owner place (length items) here (owners place here));
    partly = ap (λ (j : Declared). is_part (reverse (take next names)) (chain_over items j.owner)) read ∙ p
        ∙ ap (λ a. is_part (reverse (take left names)) (chain_over items a)) (sym at) ∙ part;
  }

  pub step_taken : (next : ℕ) → next ≡ left - 1 → same_name (get_or names (left - 1) []) (item_at items place).name ≡ true → Stepped items names i next partly
  step_taken next n same =
      stepped next (omega arith)
      (ap (λ k. is_part (reverse (take k names)) (chain_over items (item_at items place).owner)) n ∙ part_taken items place owners here names left some (omega arith) same)

  pub step_passed : (next : ℕ) → next ≡ left → same_name (get_or names (left - 1) []) (item_at items place).name ≡ false → Stepped items names i next partly
  step_passed next n other =
      stepped next (omega arith)
      (ap (λ k. is_part (reverse (take k names)) (chain_over items (item_at items place).owner)) n ∙ part_passed items place owners here names left some (omega arith) other)

-- an option that is none
pub none_is : (o : Option ℕ) → ((n : ℕ) → o ≡ Some n → ⊥) → o ≡ None
none_is None h = refl
none_is (Some n) h = absurd (h n refl)

-- names that are read are compared
pub same_read : (a x b y : Name) (r t : Bool) → r ≡ same_name x y → r ≡ t → x ≡ a → y ≡ b → same_name a b ≡ t
same_read a x b y r t e f p q = sym (ap (λ n. same_name n y) p ∙ ap (same_name a) q) ∙ sym e ∙ f

-- a chain is the names upwards, both ways
upwards : (items : BlockItems) → OwnersBefore items → (m : ℕ) (o : Option ℕ) → IfSome o (λ n. n < length items) → rank o ≤ m → NamesUpwards items o (chain_over items o)
upwards items owners m None h le = refl
upwards items owners zero (Some n) h le = absurd (omega (arith, le))
upwards items owners (suc m) (Some n) h le =
    subst (NamesUpwards items (Some n)) (sym (chain_is items n owners h))
    (refl, upwards items owners m (item_at items n).owner (further (item_at items n).owner (owners n h)) (lower (item_at items n).owner (owners n h)))
  where
    further : (o : Option ℕ) → IfSome o (λ k. k < n) → IfSome o (λ k. k < length items)
    further None g = tt
    further (Some k) g = omega (arith, g, h)

    lower : (o : Option ℕ) → IfSome o (λ k. k < n) → rank o ≤ m
    lower None g = omega arith
    lower (Some k) g = omega (arith, g, le)

-- names upwards are one list
upwards_one : (items : BlockItems) (o : Option ℕ) (xs ys : List Name) → NamesUpwards items o xs → NamesUpwards items o ys → xs ≡ ys
upwards_one items None xs ys g h = g ∙ sym h
upwards_one items (Some n) [] ys g h = absurd g
upwards_one items (Some n) (x ∷ xs) [] g h = absurd h
upwards_one items (Some n) (x ∷ xs) (y ∷ ys) g h =
    ap (λ z. z ∷ xs) (sym g.0 ∙ h.0) ∙ ap (λ zs. y ∷ zs) (upwards_one items (item_at items n).owner xs ys g.1 h.1)

pub chains_are_names : ChainsAreNames
chains_are_names items n names owners lt = (
  λ e. subst (NamesUpwards items (Some n)) e (upwards items owners (n + 1) (Some n) lt (omega arith)),
  λ h. upwards_one items (Some n) (chain_at items n) names (upwards items owners (n + 1) (Some n) lt (omega arith)) h,
)

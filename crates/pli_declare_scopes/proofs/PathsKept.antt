-- What a block keeps of paths stands as items are added, and finds what a reference qualifies fully.
use Rattle.std.proofs.Common.{◌≡◌, ℕ, zero, suc, ◌+◌, ◌<◌, ◌≤◌, inl, inr, Bool, true, false, nat_lt, nat_eq, ◌&&◌, ◌||◌, List, [], ◌∷◌, ◌++◌, length, get_or, set, take, drop, length-append, Option, None, Some, option_map, IfSome, if◌then◌else◌, refl, sym, ap, subst, ◌∙◌, arith, rules}
use Rattle.std.specs.Prelude.{reverse, not, position, slice_get}
use Rattle.std.specs.List.{list_any, position_or_len}
use Rattle.std.specs.Option.{option_eq, unwrap_or}
use Rattle.std.proofs.lemmas.Option.{slice_get_within, get_or_from_slice_get}
use Rattle.std.proofs.lemmas.List.Sums.{passes_at_first, fails_before_first}
use Rattle.std.proofs.lemmas.List.{reverse-append}
use Rattle.std.specs.Cmp.Lexicographic.{same_text}
use Rattle.std.proofs.lemmas.Bool.Decides.{nat_tests}
use Rattle.std.proofs.Math.ListN.{get_or-append}
use Rattle.std.proofs.Math.Seq.{get_or-append_seam}
use Rattle.std.proofs.lemmas.List.{get_or-set_same, get_or-set_other, length-set}
use Rattle.std.proofs.lemmas.List.Folds.{list_any_at}
use Rattle.pli_base.specs.Name.{Name}
use Rattle.pli_base.specs.Words.{same_name}
use Rattle.pli_declare_scopes.specs.declared.block.Declared.{Declared}
use Rattle.pli_declare_scopes.specs.declared.path.Step.{Step}
use Rattle.pli_declare_scopes.specs.declared.found.Found.{Found}
use Rattle.pli_declare_scopes.specs.declared.found.Found.TheVariants.{Nothing, One, Several}
use Rattle.pli_declare_scopes.specs.Scopes.{BlockItems, item_at, any_below, chain_above, chains_after, chain_at, chain_over, is_chain, fits_fully, with_number, found_below}
use Rattle.pli_declare_scopes.specs.answers.Judged.{is_found, counts_over}
use Rattle.pli_declare_scopes.specs.answers.Indexes.{OwnersBefore}
use Rattle.pli_declare_scopes.specs.answers.Paths.{no_step, step_at, Spells, ends_at, ArePaths}
use Rattle.pli_base.specs.laws.NameLaws.{pointwise-refl}
use Rattle.pli_declare_scopes.proofs.RepeatsLemmas.{same_owners}
use Rattle.pli_declare_scopes.proofs.CountedItems.{owner_refl}
use Rattle.pli_declare_scopes.proofs.ChainLemmas.{backwards, chain_is, chains_kept}
use Rattle.pli_declare_scopes.proofs.CandidateLemmas.{found_more, found_same, none_found}
use Rattle.pli_declare_scopes.proofs.IndexKept.{item_front, item_last, both_true, below_or_last}
use Rattle.pli_declare_scopes.proofs.ReferencesMeanOne.{any_from, whole_to, whole_from}

number_found : (k : ℕ) (f : Found) → is_found (with_number k f) ≡ true
number_found k Nothing = refl
number_found k (One n) = refl
number_found k Several = refl

-- anything is found where a number passes
pub found_any : (test : ℕ → Bool) (k : ℕ) → is_found (found_below test k Nothing) ≡ any_below test k
found_any test zero = refl
found_any test (suc k) = ap is_found (found_more test k) ∙ by (test k) (found_any test k)
  where
    by : (b : Bool) → is_found (found_below test k Nothing) ≡ any_below test k
        → is_found (if b then with_number k (found_below test k Nothing) else found_below test k Nothing) ≡ (b || any_below test k)
    by true e = number_found k (found_below test k Nothing)
    by false e = e

-- a path goes on spelling its chain where there are more paths
pub spells_more : (steps more : List Step) (at : Option ℕ) (chain : List Name) → Spells steps at chain → Spells (steps ++ more) at chain
spells_more steps more None [] h = tt
spells_more steps more None (n ∷ ns) h = h
spells_more steps more (Some p) [] h = h
spells_more steps more (Some p) (n ∷ ns) h =
    let same : step_at (steps ++ more) p ≡ step_at steps p = get_or-append steps more no_step p h.0 in (
      omega (arith, length-append steps more, h.0),
      ap (λ (s : Step). s.name) same ∙ h.1,
      subst (λ (s : Step). Spells (steps ++ more) s.above ns) (sym same) (spells_more steps more (step_at steps p).above ns h.2),
    )

-- a path spells one chain
pub spells_one : (steps : List Step) (at : Option ℕ) (c d : List Name) → Spells steps at c → Spells steps at d → c ≡ d
spells_one steps None [] [] g h = refl
spells_one steps None [] (n ∷ ns) g h = absurd h
spells_one steps None (n ∷ ns) d g h = absurd g
spells_one steps (Some p) [] d g h = absurd g
spells_one steps (Some p) (n ∷ ns) [] g h = absurd h
spells_one steps (Some p) (n ∷ ns) (m ∷ ms) g h =
    ap (λ x. x ∷ ns) (sym g.1 ∙ h.1) ∙ ap (λ xs. m ∷ xs) (spells_one steps (step_at steps p).above ns ms g.2 h.2)

-- some of the last names of a chain are spelled too
pub spells_after : (steps : List Step) (at : Option ℕ) (front c : List Name) → Spells steps at (front ++ c) → (q : Option ℕ) × Spells steps q c
spells_after steps at [] c h = (at, h)
spells_after steps None (n ∷ ns) c h = absurd h
spells_after steps (Some p) (n ∷ ns) c h = spells_after steps (step_at steps p).above ns c h.2

-- steps that are compared
abbrev pub same_step : Step → Step → Bool
same_step s t = same_name s.name t.name && option_eq nat_eq s.above t.above

same_step_is : (s t : Step) → s.name ≡ t.name → s.above ≡ t.above → s ≡ t
same_step_is s t e f = λ k. record { name = e k; above = f k }

same_steps : (s t : Step) → same_step s t ≡ true → s ≡ t
same_steps s t h =
    let both = both_true (same_name s.name t.name) (option_eq nat_eq s.above t.above) h in
    same_step_is s t (same_text s.name t.name (sym both.0)) (same_owners s.above t.above both.1)

step_same : (s t : Step) → s ≡ t → same_step s t ≡ true
step_same s t e = subst (λ (u : Step). same_step s u ≡ true) e (ap (λ b. b && option_eq nat_eq s.above s.above) (pointwise-refl s.name) ∙ owner_refl s.above)

-- a step that is new is none of those before
pub new_is_none : (steps : List Step) (step : Step) (is_new : Bool) → is_new ≡ not (list_any (same_step step) steps) → is_new ≡ true
    → (p : ℕ) → p < length steps → step_at steps p ≡ step → ⊥
new_is_none steps step is_new e f p lt same =
    let there : list_any (same_step step) steps ≡ true = list_any_at (same_step step) steps p no_step lt (step_same step (step_at steps p) (sym same)) in
    let bad : true ≡ false = sym f ∙ e ∙ ap not there in
    cc

pub keys_more : (steps : List Step) (step : Step) (is_new : Bool) → is_new ≡ not (list_any (same_step step) steps) → is_new ≡ true
    → (if list_any (same_step step) steps then steps else steps ++ step ∷ []) ≡ steps ++ step ∷ []
keys_more steps step is_new e f = by (list_any (same_step step) steps) (sym f ∙ e)
  where
    by : (b : Bool) → true ≡ not b → (if b then steps else steps ++ step ∷ []) ≡ steps ++ step ∷ []
    by true h = cc
    by false h = refl

-- a step that is stored
pub stored_is : (steps : List Step) (step : Step) (p : ℕ) → (k : Step) × (slice_get steps p ≡ Some k) × (same_step step k ≡ true) → (p < length steps) × (step_at steps p ≡ step)
stored_is steps step p h = (slice_get_within steps p h.0 h.1, get_or_from_slice_get steps p h.0 no_step h.1 ∙ sym (same_steps step h.0 h.2))

-- a step that is found
pub found_step : (steps : List Step) (step : Step) (p : ℕ) → position (same_step step) steps ≡ Some p → (p < length steps) × (step_at steps p ≡ step)
found_step steps step p h = by (nat_lt (position_or_len (same_step step) steps) (length steps)) refl h
  where
    by : (b : Bool) → nat_lt (position_or_len (same_step step) steps) (length steps) ≡ b → (if b then Some (position_or_len (same_step step) steps) else None) ≡ Some p
        → (p < length steps) × (step_at steps p ≡ step)
    by true e g =
        let lt : position_or_len (same_step step) steps < length steps = search (rules, nat_tests) in
        let same : position_or_len (same_step step) steps ≡ p = ap (λ (o : Option ℕ). unwrap_or o 0) g in (
          subst (λ (q : ℕ). q < length steps) same lt,
          sym (same_steps step (step_at steps p) (ap (λ q. same_step step (step_at steps q)) (sym same) ∙ passes_at_first (same_step step) steps no_step lt)),
        )
    by false e g = cc

-- a step that is not found
pub missed_step : (steps : List Step) (step : Step) → position (same_step step) steps ≡ None → (p : ℕ) → p < length steps → step_at steps p ≡ step → ⊥
missed_step steps step h p lt same = by (nat_lt (position_or_len (same_step step) steps) (length steps)) refl h
  where
    by : (b : Bool) → nat_lt (position_or_len (same_step step) steps) (length steps) ≡ b → (if b then Some (position_or_len (same_step step) steps) else None) ≡ None → ⊥
    by true e g = cc
    by false e g =
        let before : p < position_or_len (same_step step) steps = grind (arith, nat_tests, e, lt) in
        let bad : true ≡ false = sym (step_same step (step_at steps p) (sym same)) ∙ fails_before_first (same_step step) steps p no_step before in
        cc

-- a chain is spelled by one path
module _ (steps : List Step) (once : (p q : ℕ) → p < length steps → q < length steps → step_at steps p ≡ step_at steps q → p ≡ q) where
  pub spelled_once : (a b : Option ℕ) (c : List Name) → Spells steps a c → Spells steps b c → a ≡ b
  spelled_once None None c g h = refl
  spelled_once None (Some q) [] g h = absurd h
  spelled_once None (Some q) (n ∷ ns) g h = absurd g
  spelled_once (Some p) None [] g h = absurd g
  spelled_once (Some p) None (n ∷ ns) g h = absurd h
  spelled_once (Some p) (Some q) [] g h = absurd g
  spelled_once (Some p) (Some q) (n ∷ ns) g h =
      ap (λ (k : ℕ). Some k) (once p q g.0 h.0 (same_step_is (step_at steps p) (step_at steps q) (g.1 ∙ sym h.1)
      (spelled_once (step_at steps p).above (step_at steps q).above ns g.2 h.2)))

-- more chains stand after those of the items before
chains_both : (is js : BlockItems) (chains : List (List Name)) → chains_after chains (is ++ js) ≡ chains_after (chains_after chains is) js
chains_both [] js chains = refl
chains_both (i ∷ is) js chains = chains_both is js (chains ++ (i.name ∷ chain_above chains i.owner) ∷ [])

chains_count : (is : BlockItems) (chains : List (List Name)) → length (chains_after chains is) ≡ length chains + length is
chains_count [] chains = let e : length chains ≡ length chains + 0 = omega arith in e
chains_count (i ∷ is) chains =
    let c : List Name = i.name ∷ chain_above chains i.owner in
    chains_count is (chains ++ c ∷ []) ∙ (let e : length (chains ++ c ∷ []) + length is ≡ length chains + length (i ∷ is) = omega (arith, length-append chains (c ∷ [])) in e)

module _ (items : BlockItems) (i : Declared) where
  pub chain_front : (n : ℕ) → n < length items → chain_at (items ++ i ∷ []) n ≡ chain_at items n
  chain_front n lt =
      ap (λ cs. get_or cs n []) (chains_both items (i ∷ []) [])
      ∙ chains_kept (i ∷ []) (chains_after [] items) n (omega (arith, lt, chains_count items []))

  over_front : (owner : Option ℕ) → IfSome owner (λ o. o < length items) → chain_over (items ++ i ∷ []) owner ≡ chain_over items owner
  over_front None h = refl
  over_front (Some n) h = chain_front n h

  pub chain_last : OwnersBefore (items ++ i ∷ []) → IfSome i.owner (λ o. o < length items) → chain_at (items ++ i ∷ []) (length items) ≡ i.name ∷ chain_over items i.owner
  chain_last owners owned =
      chain_is (items ++ i ∷ []) (length items) owners (omega (arith, length-append items (i ∷ [])))
      ∙ ap (λ (j : Declared). j.name ∷ chain_over (items ++ i ∷ []) j.owner) (item_last items i)
      ∙ ap (λ c. i.name ∷ c) (over_front i.owner owned)

pub path_within : (steps : List Step) (p : ℕ) (c : List Name) → Spells steps (Some p) c → p < length steps
path_within steps p [] h = absurd h
path_within steps p (n ∷ ns) h = h.0

-- one more path, which no item has
pub path_made : (items : BlockItems) (steps : List Step) (paths : List ℕ) (ended : List Found) (step : Step) → ((p : ℕ) → p < length steps → step_at steps p ≡ step → ⊥)
    → ArePaths items steps paths ended → ArePaths items (steps ++ step ∷ []) paths (ended ++ Nothing ∷ [])
path_made items steps paths ended step is_new kept = record {
  spelled = λ n lt. spells_more steps (step ∷ []) (Some (get_or paths n 0)) (chain_at items n) (kept.spelled n lt);
  once = once;
  ends = ends;
  alone = kept.alone;
  counted = kept.counted;
  all = kept.all;
  count = omega (arith, kept.count, length-append steps (step ∷ []), length-append ended (Nothing ∷ []));
}
  where
    front : (p : ℕ) → p < length steps → step_at (steps ++ step ∷ []) p ≡ step_at steps p
    front p lt = get_or-append steps (step ∷ []) no_step p lt

    last : (p : ℕ) → p ≡ length steps → step_at (steps ++ step ∷ []) p ≡ step
    last p e = ap (step_at (steps ++ step ∷ [])) e ∙ get_or-append_seam steps step [] no_step

    once : (p q : ℕ) → p < length (steps ++ step ∷ []) → q < length (steps ++ step ∷ []) → step_at (steps ++ step ∷ []) p ≡ step_at (steps ++ step ∷ []) q → p ≡ q
    once p q lp lq e = elim (below_or_last p (length steps) (omega (arith, lp, length-append steps (step ∷ [])))) [
      | inl fp ↦ elim (below_or_last q (length steps) (omega (arith, lq, length-append steps (step ∷ [])))) [
        | inl fq ↦ kept.once p q fp fq (sym (front p fp) ∙ e ∙ front q fq)
        | inr eq ↦ absurd (is_new p fp (sym (front p fp) ∙ e ∙ last q eq))
      ]
      | inr ep ↦ elim (below_or_last q (length steps) (omega (arith, lq, length-append steps (step ∷ [])))) [
        | inl fq ↦ absurd (is_new q fq (sym (front q fq) ∙ sym e ∙ last p ep))
        | inr eq ↦ ep ∙ sym eq
      ]
    ]

    none : (p : ℕ) → length steps ≤ p → found_below (ends_at items paths p) (length items) Nothing ≡ Nothing
    none p le = none_found (ends_at items paths p) (length items) Nothing
        (λ j lt. let within : get_or paths j 0 < length steps = path_within steps (get_or paths j 0) (chain_at items j) (kept.spelled j lt) in
        ap (λ b. (item_at items j).counts && b) (let other : nat_eq (get_or paths j 0) p ≡ false = grind (arith, nat_tests, within, le) in other) ∙ and_none (item_at items j).counts)
      where
        and_none : (b : Bool) → (b && false) ≡ false
        and_none true = refl
        and_none false = refl

    ends : (p : ℕ) → get_or (ended ++ Nothing ∷ []) p Nothing ≡ found_below (ends_at items paths p) (length items) Nothing
    ends p = by (nat_lt p (length steps)) refl
      where
        past : get_or (ended ++ Nothing ∷ []) p Nothing ≡ get_or ended p Nothing
        past = nothing_more ended p
          where
            nothing_more : (fs : List Found) (k : ℕ) → get_or (fs ++ Nothing ∷ []) k Nothing ≡ get_or fs k Nothing
            nothing_more [] zero = refl
            nothing_more [] (suc k) = refl
            nothing_more (f ∷ fs) zero = refl
            nothing_more (f ∷ fs) (suc k) = nothing_more fs k

        by : (b : Bool) → nat_lt p (length steps) ≡ b → get_or (ended ++ Nothing ∷ []) p Nothing ≡ found_below (ends_at items paths p) (length items) Nothing
        by b e = past ∙ kept.ends p

-- an item more has a path
pub path_more : (items : BlockItems) (steps : List Step) (paths : List ℕ) (ended : List Found) (i : Declared) (p : ℕ) → OwnersBefore (items ++ i ∷ [])
    → IfSome i.owner (λ o. o < length items) → p < length steps → step_at steps p ≡ record { name = i.name; above = option_map (λ o. get_or paths o 0) i.owner }
    → (i.counts ≡ true → counts_over items i.owner ≡ true) → (i.counts ≡ true → is_found (get_or ended p Nothing) ≡ false)
    → ArePaths items steps paths ended
    → ArePaths (items ++ i ∷ []) steps (paths ++ p ∷ []) (if i.counts then set ended p (with_number (length items) (get_or ended p Nothing)) else ended)
path_more items steps paths ended i p owners owned lt is over fresh kept = record {
  spelled = spelled;
  once = kept.once;
  ends = ends;
  alone = alone;
  counted = counted_more;
  all = omega (arith, kept.all, length-append items (i ∷ []), length-append paths (p ∷ []));
  count = counted i.counts;
}
  where
    above : (owner : Option ℕ) → IfSome owner (λ o. o < length items) → Spells steps (option_map (λ o. get_or paths o 0) owner) (chain_over items owner)
    above None h = tt
    above (Some o) h = kept.spelled o h

    spelled : (n : ℕ) → n < length (items ++ i ∷ []) → Spells steps (Some (get_or (paths ++ p ∷ []) n 0)) (chain_at (items ++ i ∷ []) n)
    spelled n within = elim (below_or_last n (length items) (omega (arith, within, length-append items (i ∷ [])))) [
      | inl front ↦ subst (λ c. Spells steps (Some (get_or (paths ++ p ∷ []) n 0)) c) (sym (chain_front items i n front))
          (subst (λ (q : ℕ). Spells steps (Some q) (chain_at items n)) (sym (get_or-append paths (p ∷ []) 0 n (omega (arith, front, kept.all)))) (kept.spelled n front))
      | inr last ↦ subst (λ c. Spells steps (Some (get_or (paths ++ p ∷ []) n 0)) c) (sym (ap (chain_at (items ++ i ∷ [])) last ∙ chain_last items i owners owned))
          (subst (λ (q : ℕ). Spells steps (Some q) (i.name ∷ chain_over items i.owner)) (sym (ap (λ k. get_or (paths ++ p ∷ []) k 0) (last ∙ sym kept.all) ∙ get_or-append_seam paths p [] 0))
          (lt, ap (λ (s : Step). s.name) is, subst (λ (s : Step). Spells steps s.above (chain_over items i.owner)) (sym is) (above i.owner owned)))
    ]

    counts_front : (owner : Option ℕ) → IfSome owner (λ o. o < length items) → counts_over (items ++ i ∷ []) owner ≡ counts_over items owner
    counts_front None h = refl
    counts_front (Some o) h = ap (λ (j : Declared). j.counts) (item_front items i o h)

    owned_front : (owner : Option ℕ) (n : ℕ) → n < length items → IfSome owner (λ o. o < n) → IfSome owner (λ o. o < length items)
    owned_front None n lt h = tt
    owned_front (Some o) n lt h = omega (arith, h, lt)

    counted_more : (n : ℕ) → n < length (items ++ i ∷ []) → (item_at (items ++ i ∷ []) n).counts ≡ true → counts_over (items ++ i ∷ []) (item_at (items ++ i ∷ []) n).owner ≡ true
    counted_more n within c = elim (below_or_last n (length items) (omega (arith, within, length-append items (i ∷ [])))) [
      | inl front ↦ (let same : item_at (items ++ i ∷ []) n ≡ item_at items n = item_front items i n front in
          let before : IfSome (item_at items n).owner (λ o. o < n) = subst (λ (j : Declared). IfSome j.owner (λ o. o < n)) same (owners n within) in
          ap (λ (j : Declared). counts_over (items ++ i ∷ []) j.owner) same ∙ counts_front (item_at items n).owner (owned_front (item_at items n).owner n front before)
          ∙ kept.counted n front (ap (λ (j : Declared). j.counts) (sym same) ∙ c))
      | inr last ↦ (let same : item_at (items ++ i ∷ []) n ≡ i = ap (item_at (items ++ i ∷ [])) last ∙ item_last items i in
          ap (λ (j : Declared). counts_over (items ++ i ∷ []) j.owner) same ∙ counts_front i.owner owned ∙ over (ap (λ (j : Declared). j.counts) (sym same) ∙ c))
    ]

    path_front : (n : ℕ) → n < length items → get_or (paths ++ p ∷ []) n 0 ≡ get_or paths n 0
    path_front n front = get_or-append paths (p ∷ []) 0 n (omega (arith, front, kept.all))

    path_last : (n : ℕ) → n ≡ length items → get_or (paths ++ p ∷ []) n 0 ≡ p
    path_last n last = ap (λ k. get_or (paths ++ p ∷ []) k 0) (last ∙ sym kept.all) ∙ get_or-append_seam paths p [] 0

    item_before : (n : ℕ) → n < length items → (item_at (items ++ i ∷ []) n).counts ≡ true → (item_at items n).counts ≡ true
    item_before n front c = ap (λ (j : Declared). j.counts) (sym (item_front items i n front)) ∙ c

    item_there : (n : ℕ) → n ≡ length items → (item_at (items ++ i ∷ []) n).counts ≡ true → i.counts ≡ true
    item_there n last c = ap (λ (j : Declared). j.counts) (sym (ap (item_at (items ++ i ∷ [])) last ∙ item_last items i)) ∙ c

    free : (n : ℕ) → n < length items → (item_at items n).counts ≡ true → i.counts ≡ true → get_or paths n 0 ≡ p → ⊥
    free n front c d e =
        let test : ends_at items paths p n ≡ true = ap (λ b. b && nat_eq (get_or paths n 0) p) c ∙ (let same : nat_eq (get_or paths n 0) p ≡ true = grind (arith, nat_tests, e) in same) in
        let bad : true ≡ false =
        sym (any_from (ends_at items paths p) (length items) n front test) ∙ sym (found_any (ends_at items paths p) (length items)) ∙ ap is_found (sym (kept.ends p)) ∙ fresh d in
        cc

    alone : (m n : ℕ) → m < length (items ++ i ∷ []) → n < length (items ++ i ∷ []) → (item_at (items ++ i ∷ []) m).counts ≡ true → (item_at (items ++ i ∷ []) n).counts ≡ true
        → get_or (paths ++ p ∷ []) m 0 ≡ get_or (paths ++ p ∷ []) n 0 → m ≡ n
    alone m n lm ln cm cn e = elim (below_or_last m (length items) (omega (arith, lm, length-append items (i ∷ [])))) [
      | inl fm ↦ elim (below_or_last n (length items) (omega (arith, ln, length-append items (i ∷ [])))) [
        | inl fn ↦ kept.alone m n fm fn (item_before m fm cm) (item_before n fn cn) (sym (path_front m fm) ∙ e ∙ path_front n fn)
        | inr en ↦ absurd (free m fm (item_before m fm cm) (item_there n en cn) (sym (path_front m fm) ∙ e ∙ path_last n en))
      ]
      | inr em ↦ elim (below_or_last n (length items) (omega (arith, ln, length-append items (i ∷ [])))) [
        | inl fn ↦ absurd (free n fn (item_before n fn cn) (item_there m em cm) (sym (path_front n fn) ∙ sym e ∙ path_last m em))
        | inr en ↦ em ∙ sym en
      ]
    ]

    counted : (b : Bool) → length (if b then set ended p (with_number (length items) (get_or ended p Nothing)) else ended) ≡ length steps
    counted true = length-set ended p (with_number (length items) (get_or ended p Nothing)) ∙ kept.count
    counted false = kept.count

    before : (q k : ℕ) → k < length items → ends_at (items ++ i ∷ []) (paths ++ p ∷ []) q k ≡ ends_at items paths q k
    before q k lt =
        ap (λ (j : Declared). j.counts && nat_eq (get_or (paths ++ p ∷ []) k 0) q) (item_front items i k lt)
        ∙ ap (λ (r : ℕ). (item_at items k).counts && nat_eq r q) (get_or-append paths (p ∷ []) 0 k (omega (arith, lt, kept.all)))

    there : (q : ℕ) → ends_at (items ++ i ∷ []) (paths ++ p ∷ []) q (length items) ≡ (i.counts && nat_eq p q)
    there q =
        ap (λ (j : Declared). j.counts && nat_eq (get_or (paths ++ p ∷ []) (length items) 0) q) (item_last items i)
        ∙ ap (λ (r : ℕ). i.counts && nat_eq r q) (ap (λ k. get_or (paths ++ p ∷ []) k 0) (sym kept.all) ∙ get_or-append_seam paths p [] 0)

    all : (q : ℕ) → found_below (ends_at (items ++ i ∷ []) (paths ++ p ∷ []) q) (length (items ++ i ∷ [])) Nothing
        ≡ (if i.counts && nat_eq p q then with_number (length items) (get_or ended q Nothing) else get_or ended q Nothing)
    all q =
        let more : ℕ → Bool = ends_at (items ++ i ∷ []) (paths ++ p ∷ []) q in
        let count : length (items ++ i ∷ []) ≡ suc (length items) = omega (arith, length-append items (i ∷ [])) in
        let rest : found_below more (length items) Nothing ≡ get_or ended q Nothing = found_same more (ends_at items paths q) (length items) Nothing (before q) ∙ sym (kept.ends q) in
        ap (λ k. found_below more k Nothing) count ∙ found_more more (length items)
        ∙ ap (λ b. if b then with_number (length items) (found_below more (length items) Nothing) else found_below more (length items) Nothing) (there q)
        ∙ ap (λ f. if i.counts && nat_eq p q then with_number (length items) f else f) rest

    ends : (q : ℕ) → get_or (if i.counts then set ended p (with_number (length items) (get_or ended p Nothing)) else ended) q Nothing
        ≡ found_below (ends_at (items ++ i ∷ []) (paths ++ p ∷ []) q) (length (items ++ i ∷ [])) Nothing
    ends q = by i.counts (nat_eq p q) refl ∙ sym (all q)
      where
        by : (c b : Bool) → nat_eq p q ≡ b → get_or (if c then set ended p (with_number (length items) (get_or ended p Nothing)) else ended) q Nothing
            ≡ (if c && b then with_number (length items) (get_or ended q Nothing) else get_or ended q Nothing)
        by false b e = refl
        by true true e =
            let same : q ≡ p = grind (arith, nat_tests, e) in
            ap (λ k. get_or (set ended p (with_number (length items) (get_or ended p Nothing))) k Nothing) same
            ∙ get_or-set_same ended p (with_number (length items) (get_or ended p Nothing)) Nothing (omega (arith, lt, kept.count))
            ∙ ap (λ k. with_number (length items) (get_or ended k Nothing)) (sym same)
        by true false e = get_or-set_other ended p q (with_number (length items) (get_or ended p Nothing)) Nothing (λ same. let bad : nat_eq p q ≡ true = grind (arith, nat_tests, same) in let worse : true ≡ false = sym bad ∙ e in cc)

none_spelled : (steps : List Step) (c : List Name) → Spells steps None c → c ≡ []
none_spelled steps [] h = refl
none_spelled steps (n ∷ ns) h = absurd h

and_false : (b : Bool) → (b && false) ≡ false
and_false true = refl
and_false false = refl

module _ (items : BlockItems) (owners : OwnersBefore items) (steps : List Step) (paths : List ℕ) (ended : List Found) (kept : ArePaths items steps paths ended) (names : List Name) where
  -- the items of a path are those that its names qualify fully
  pub full_found : (p : ℕ) → Spells steps (Some p) (reverse names) → get_or ended p Nothing ≡ found_below (fits_fully items names) (length items) Nothing
  full_found p h = kept.ends p ∙ found_same (ends_at items paths p) (fits_fully items names) (length items) Nothing
      (λ j lt. ap (λ b. (item_at items j).counts && b) (by j lt (nat_eq (get_or paths j 0) p) refl (is_chain (reverse names) (chain_at items j)) refl))
    where
      by : (j : ℕ) → j < length items → (b : Bool) → nat_eq (get_or paths j 0) p ≡ b → (d : Bool) → is_chain (reverse names) (chain_at items j) ≡ d → b ≡ d
      by j lt true e true f = refl
      by j lt false e false f = refl
      by j lt true e false f =
          let same : get_or paths j 0 ≡ p = grind (arith, nat_tests, e) in
          let chain : chain_at items j ≡ reverse names = spells_one steps (Some p) (chain_at items j) (reverse names) (subst (λ (q : ℕ). Spells steps (Some q) (chain_at items j)) same (kept.spelled j lt)) h in
          let bad : true ≡ false = sym (whole_from (reverse names) (chain_at items j) (sym chain)) ∙ f in
          cc
      by j lt false e true f =
          let chain : reverse names ≡ chain_at items j = whole_to (reverse names) (chain_at items j) f in
          let one : Some (get_or paths j 0) ≡ Some p = spelled_once steps kept.once (Some (get_or paths j 0)) (Some p) (chain_at items j) (kept.spelled j lt) (subst (Spells steps (Some p)) chain h) in
          let same : get_or paths j 0 ≡ p = ap (λ (o : Option ℕ). unwrap_or o 0) one in
          let bad : nat_eq (get_or paths j 0) p ≡ true = grind (arith, nat_tests, same) in
          let worse : true ≡ false = sym bad ∙ e in
          cc

  -- no names qualify nothing
  pub none_full : Spells steps None (reverse names) → found_below (fits_fully items names) (length items) Nothing ≡ Nothing
  none_full h = none_found (fits_fully items names) (length items) Nothing
      (λ j lt. ap (λ ns. (item_at items j).counts && is_chain ns (chain_at items j)) (none_spelled steps (reverse names) h)
      ∙ ap (λ c. (item_at items j).counts && is_chain [] c) (chain_is items j owners lt) ∙ and_false (item_at items j).counts)

  -- a path that is missing: nothing is qualified fully
  pub missed_full : (k : ℕ) (d : Name) (at : Option ℕ) → k < length names → Spells steps at (reverse (take k names))
      → ((p : ℕ) → p < length steps → step_at steps p ≡ record { name = get_or names k d; above = at } → ⊥)
      → found_below (fits_fully items names) (length items) Nothing ≡ Nothing
  missed_full k d at lt h missing = none_found (fits_fully items names) (length items) Nothing
      (λ j within. ap (λ b. (item_at items j).counts && b) (by j within (is_chain (reverse names) (chain_at items j)) refl) ∙ and_false (item_at items j).counts)
    where
      split : reverse names ≡ reverse (drop (k + 1) names) ++ (get_or names k d ∷ reverse (take k names))
      split =
          ap reverse (sym (take_drop (k + 1) names)) ∙ reverse-append (take (k + 1) names) (drop (k + 1) names)
          ∙ ap (λ ns. reverse (drop (k + 1) names) ++ ns) (backwards names k d lt)
        where
          take_drop : (n : ℕ) (ns : List Name) → take n ns ++ drop n ns ≡ ns
          take_drop zero ns = refl
          take_drop (suc n) [] = refl
          take_drop (suc n) (x ∷ xs) = ap (λ ys. x ∷ ys) (take_drop n xs)

      after : (q : Option ℕ) → Spells steps q (get_or names k d ∷ reverse (take k names)) → ⊥
      after None g = absurd g
      after (Some r) g =
          missing r g.0 (same_step_is (step_at steps r) (record { name = get_or names k d; above = at }) g.1
          (spelled_once steps kept.once (step_at steps r).above at (reverse (take k names)) g.2 h))

      by : (j : ℕ) → j < length items → (b : Bool) → is_chain (reverse names) (chain_at items j) ≡ b → b ≡ false
      by j within false e = refl
      by j within true e =
          let chain : reverse names ≡ chain_at items j = whole_to (reverse names) (chain_at items j) e in
          let there = spells_after steps (Some (get_or paths j 0)) (reverse (drop (k + 1) names)) (get_or names k d ∷ reverse (take k names))
          (subst (Spells steps (Some (get_or paths j 0))) (sym chain ∙ split) (kept.spelled j within)) in
          absurd (after there.0 there.1)

-- What is looked up is what a reference means, and a reference means one thing.
use Rattle.std.proofs.Common.{◌≡◌, ℕ, zero, suc, ◌+◌, ◌<◌, ◌≤◌, ◌⊎◌, inl, inr, Bool, true, false, ◌||◌, ◌&&◌, nat_lt, List, [], ◌∷◌, reverse, length, if◌then◌else◌, refl, sym, ap, subst, ◌∙◌, arith, rules}
use Rattle.std.proofs.lemmas.Bool.Decides.{nat_tests}
use Rattle.std.specs.Cmp.Lexicographic.{same_text}
use Rattle.std.proofs.Math.Bool.{or-true}
use Rattle.pli_base.specs.Name.{Name}
use Rattle.pli_base.specs.laws.NameLaws.{pointwise-refl}
use Rattle.pli_base.specs.Words.{same_name}
use Rattle.pli_declare_scopes.specs.declared.found.Found.{Found}
use Rattle.pli_declare_scopes.specs.declared.found.Found.TheVariants.{Nothing, One, Several}
use Rattle.pli_declare_scopes.specs.declared.found.ReferenceMeaning.{ReferenceMeaning}
use Rattle.pli_declare_scopes.specs.declared.found.ReferenceMeaning.TheVariants.{Item, Ambiguous, NotDeclared}
use Rattle.pli_declare_scopes.specs.Scopes.{BlockItems, Scope, item_at, is_named, any_below, chain_at, is_part, fits_chain, is_chain, fits, fits_fully, with_number, found_below, preferred, found_in, meant_there, declares_first, meant_from}
use Rattle.pli_declare_scopes.specs.laws.ScopeLaws.{IsPart, FitsChain, Fits, FitsFully, IsNone, IsOnly, AreTwo, IsFoundIn, DeclaresFirst, Decides, MeansFrom, Means, MeansOne, MeantIsMeans}
use Rattle.pli_declare_scopes.proofs.IndexKept.{both_true}

same_to : (x y : Name) → same_name x y ≡ true → x ≡ y
same_to x y h = same_text x y (sym h)

pub same_from : (x y : Name) → x ≡ y → same_name x y ≡ true
same_from x y e = subst (λ z. same_name x z ≡ true) e (pointwise-refl x)

-- fewer names are a part too
part_less : (x : Name) (xs ys : List Name) → IsPart (x ∷ xs) ys → IsPart xs ys
part_less x [] ys h = tt
part_less x (z ∷ zs) [] h = h
part_less x (z ∷ zs) (y ∷ ys) h = elim h [ inl e ↦ inr e.1 | inr p ↦ inr (part_less x (z ∷ zs) ys p) ]

part_to_step : (x y : Name) (xs ys : List Name) (b : Bool) → same_name x y ≡ b
    → ((zs : List Name) → is_part zs ys ≡ true → IsPart zs ys) → is_part (if b then xs else x ∷ xs) ys ≡ true → IsPart (x ∷ xs) (y ∷ ys)
part_to_step x y xs ys true e go h = inl (same_to x y e, go xs h)
part_to_step x y xs ys false e go h = inr (go (x ∷ xs) h)

pub part_to : (ys xs : List Name) → is_part xs ys ≡ true → IsPart xs ys
part_to ys [] h = tt
part_to [] (x ∷ xs) h = cc
part_to (y ∷ ys) (x ∷ xs) h = part_to_step x y xs ys (same_name x y) refl (part_to ys) h

part_from_step : (x y : Name) (xs ys : List Name) (b : Bool) → same_name x y ≡ b
    → ((zs : List Name) → IsPart zs ys → is_part zs ys ≡ true) → IsPart (x ∷ xs) (y ∷ ys) → is_part (if b then xs else x ∷ xs) ys ≡ true
part_from_step x y xs ys true e go h = go xs (elim h [ inl p ↦ p.1 | inr p ↦ part_less x xs ys p ])
part_from_step x y xs ys false e go h = elim h [
  | inl p ↦ (let bad : false ≡ true = sym e ∙ same_from x y p.0 in cc)
  | inr p ↦ go (x ∷ xs) p
]

pub part_from : (ys xs : List Name) → IsPart xs ys → is_part xs ys ≡ true
part_from ys [] h = refl
part_from [] (x ∷ xs) h = absurd h
part_from (y ∷ ys) (x ∷ xs) h = part_from_step x y xs ys (same_name x y) refl (part_from ys) h

chain_to : (ns chain : List Name) → fits_chain ns chain ≡ true → FitsChain ns chain
chain_to [] chain h = cc
chain_to (n ∷ ns) [] h = cc
chain_to (n ∷ ns) (own ∷ above) h = let t = both_true (same_name n own) (is_part ns above) h in (same_to n own t.0, part_to above ns t.1)

chain_from : (ns chain : List Name) → FitsChain ns chain → fits_chain ns chain ≡ true
chain_from [] chain h = absurd h
chain_from (n ∷ ns) [] h = absurd h
chain_from (n ∷ ns) (own ∷ above) h = ap (λ b. b && is_part ns above) (same_from n own h.0) ∙ part_from above ns h.1

pub whole_to : (ns chain : List Name) → is_chain ns chain ≡ true → ns ≡ chain
whole_to [] [] h = refl
whole_to [] (c ∷ cs) h = cc
whole_to (n ∷ ns) [] h = cc
whole_to (n ∷ ns) (c ∷ cs) h =
    let t = both_true (same_name n c) (is_chain ns cs) h in
    ap (λ m. m ∷ ns) (same_to n c t.0) ∙ ap (λ ms. c ∷ ms) (whole_to ns cs t.1)

whole_same : (ns : List Name) → is_chain ns ns ≡ true
whole_same [] = refl
whole_same (n ∷ ns) = ap (λ b. b && is_chain ns ns) (pointwise-refl n) ∙ whole_same ns

pub whole_from : (ns chain : List Name) → ns ≡ chain → is_chain ns chain ≡ true
whole_from ns chain e = subst (λ c. is_chain ns c ≡ true) e (whole_same ns)

-- a number from k on, below the length, that passes
record Passes (test : ℕ → Bool) (k len n : ℕ) : Type 0 where
  from : k ≤ n
  within : n < len
  passes : test n ≡ true

-- what is found tells which numbers there are
abbrev pub Tells : (ℕ → Type 0) → Found → Type 0
Tells P Nothing = IsNone P
Tells P (One n) = IsOnly P n
Tells P Several = AreTwo P

module _ (test : ℕ → Bool) (len : ℕ) where
  wider : (k n : ℕ) → Passes test (suc k) len n → Passes test k len n
  wider k n h = record { from = omega arith; within = h.within; passes = h.passes }

  narrower : (k n : ℕ) → test k ≡ false → Passes test k len n → Passes test (suc k) len n
  narrower k n fails h = by (nat_lt k n) refl
    where
      by : (b : Bool) → nat_lt k n ≡ b → Passes test (suc k) len n
      by true e = record { from = grind (arith, nat_tests, e, h.from); within = h.within; passes = h.passes }
      by false e =
          let same : n ≡ k = grind (arith, nat_tests, e, h.from) in
          let bad : true ≡ false = sym h.passes ∙ ap test same ∙ fails in
          cc

  here_or_on : (k n : ℕ) → Passes test k len n → (n ≡ k) ⊎ Passes test (suc k) len n
  here_or_on k n h = by (nat_lt k n) refl
    where
      by : (b : Bool) → nat_lt k n ≡ b → (n ≡ k) ⊎ Passes test (suc k) len n
      by true e = inr (record { from = grind (arith, nat_tests, e, h.from); within = h.within; passes = h.passes })
      by false e = inl (grind (arith, nat_tests, e, h.from))

  passed : (k : ℕ) (found : Found) → test k ≡ false → Tells (Passes test (suc k) len) found → Tells (Passes test k len) found
  passed k Nothing fails h = λ n p. h n (narrower k n fails p)
  passed k (One m) fails h = (wider k m h.0, λ n p. h.1 n (narrower k n fails p))
  passed k Several fails h = (h.0, h.1, h.2, wider k h.0 h.3, wider k h.1 h.4)

  noted : (k : ℕ) (found : Found) → k < len → test k ≡ true → Tells (Passes test (suc k) len) found → Tells (Passes test k len) (with_number k found)
  noted k Nothing lt is h = (record { from = omega arith; within = lt; passes = is }, λ n p. elim (here_or_on k n p) [ inl e ↦ e | inr q ↦ absurd (h n q) ])
  noted k (One m) lt is h = (m, k, (λ e. absurd (omega (arith, h.0.from, e))), wider k m h.0, record { from = omega arith; within = lt; passes = is })
  noted k Several lt is h = (h.0, h.1, h.2, wider k h.0 h.3, wider k h.1 h.4)

  step : (k : ℕ) (found : Found) (b : Bool) → test k ≡ b → k < len → Tells (Passes test (suc k) len) found → Tells (Passes test k len) (if b then with_number k found else found)
  step k found true e lt h = noted k found lt e h
  step k found false e lt h = passed k found e h

  found_tells : (k : ℕ) (found : Found) → k ≤ len → Tells (Passes test k len) found → Tells (Passes test 0 len) (found_below test k found)
  found_tells zero found le h = h
  found_tells (suc k) found le h =
      found_tells k (if test k then with_number k found else found) (omega arith) (step k found (test k) refl (omega arith) h)

  all_tells : Tells (Passes test 0 len) (found_below test len Nothing)
  all_tells = found_tells len Nothing (omega arith) (λ n p. omega (arith, p.from, p.within))

tells_same : (P Q : ℕ → Type 0) → ((n : ℕ) → P n → Q n) → ((n : ℕ) → Q n → P n) → (found : Found) → Tells P found → Tells Q found
tells_same P Q to from Nothing h = λ n q. h n (from n q)
tells_same P Q to from (One m) h = (to m h.0, λ n q. h.1 n (from n q))
tells_same P Q to from Several h = (h.0, h.1, h.2, to h.0 h.3, to h.1 h.4)

-- what is found tells apart
tells_one : (P : ℕ → Type 0) (a b : Found) → Tells P a → Tells P b → a ≡ b
tells_one P Nothing Nothing p q = refl
tells_one P Nothing (One m) p q = absurd (p m q.0)
tells_one P Nothing Several p q = absurd (p q.0 q.3)
tells_one P (One n) Nothing p q = absurd (q n p.0)
tells_one P (One n) (One m) p q = ap (λ (k : ℕ). One k) (q.1 n p.0)
tells_one P (One n) Several p q = absurd (q.2 (p.1 q.0 q.3 ∙ sym (p.1 q.1 q.4)))
tells_one P Several Nothing p q = absurd (q p.0 p.3)
tells_one P Several (One m) p q = absurd (p.2 (q.1 p.0 p.3 ∙ sym (q.1 p.1 p.4)))
tells_one P Several Several p q = refl

module _ (block : BlockItems) (names : List Name) where
  fits_to : (n : ℕ) → Passes (fits block names) 0 (length block) n → Fits block names n
  fits_to n h =
      let t = both_true (item_at block n).counts (fits_chain (reverse names) (chain_at block n)) h.passes in
      record { within = h.within; counts = t.0; chain = chain_to (reverse names) (chain_at block n) t.1 }

  fits_from : (n : ℕ) → Fits block names n → Passes (fits block names) 0 (length block) n
  fits_from n h = record {
    from = omega arith;
    within = h.within;
    passes = ap (λ b. b && fits_chain (reverse names) (chain_at block n)) h.counts ∙ chain_from (reverse names) (chain_at block n) h.chain;
  }

  fully_to : (n : ℕ) → Passes (fits_fully block names) 0 (length block) n → FitsFully block names n
  fully_to n h =
      let t = both_true (item_at block n).counts (is_chain (reverse names) (chain_at block n)) h.passes in
      record { within = h.within; counts = t.0; chain = whole_to (reverse names) (chain_at block n) t.1 }

  fully_from : (n : ℕ) → FitsFully block names n → Passes (fits_fully block names) 0 (length block) n
  fully_from n h = record {
    from = omega arith;
    within = h.within;
    passes = ap (λ b. b && is_chain (reverse names) (chain_at block n)) h.counts ∙ whole_from (reverse names) (chain_at block n) h.chain;
  }

  found_by : (fully partly : Found) → Tells (FitsFully block names) fully → Tells (Fits block names) partly → IsFoundIn block names (preferred fully partly)
  found_by Nothing Nothing f p = (f, p)
  found_by Nothing (One n) f p = inr (f, p)
  found_by Nothing Several f p = inr (f, p)
  found_by (One n) partly f p = inl f
  found_by Several partly f p = inl f

  found_is : IsFoundIn block names (found_in block names)
  found_is = found_by (found_below (fits_fully block names) (length block) Nothing) (found_below (fits block names) (length block) Nothing)
      (tells_same (Passes (fits_fully block names) 0 (length block)) (FitsFully block names) fully_to fully_from
      (found_below (fits_fully block names) (length block) Nothing) (all_tells (fits_fully block names) (length block)))
      (tells_same (Passes (fits block names) 0 (length block)) (Fits block names) fits_to fits_from
      (found_below (fits block names) (length block) Nothing) (all_tells (fits block names) (length block)))

  fully_tells : Tells (FitsFully block names) (found_below (fits_fully block names) (length block) Nothing)
  fully_tells = tells_same (Passes (fits_fully block names) 0 (length block)) (FitsFully block names) fully_to fully_from
      (found_below (fits_fully block names) (length block) Nothing) (all_tells (fits_fully block names) (length block))

  partly_tells : Tells (Fits block names) (found_below (fits block names) (length block) Nothing)
  partly_tells = tells_same (Passes (fits block names) 0 (length block)) (Fits block names) fits_to fits_from
      (found_below (fits block names) (length block) Nothing) (all_tells (fits block names) (length block))

  fully_as : (f : Found) → Tells (FitsFully block names) f → f ≡ found_below (fits_fully block names) (length block) Nothing
  fully_as f h = tells_one (FitsFully block names) f (found_below (fits_fully block names) (length block) Nothing) h fully_tells

  partly_as : (f : Found) → Tells (Fits block names) f → f ≡ found_below (fits block names) (length block) Nothing
  partly_as f h = tells_one (Fits block names) f (found_below (fits block names) (length block) Nothing) h partly_tells

  by_fully : (f : Found) → f ≡ preferred f (found_below (fits block names) (length block) Nothing) → Tells (FitsFully block names) f → f ≡ found_in block names
  by_fully f e h = e ∙ ap (λ g. preferred g (found_below (fits block names) (length block) Nothing)) (fully_as f h)

  by_partly : (f : Found) → IsNone (FitsFully block names) → Tells (Fits block names) f → f ≡ found_in block names
  by_partly f none h =
      partly_as f h ∙ ap (λ g. preferred g (found_below (fits block names) (length block) Nothing)) (fully_as Nothing none)

  -- nothing else is found
  found_only : (f : Found) → IsFoundIn block names f → f ≡ found_in block names
  found_only Nothing h = by_partly Nothing h.0 h.1
  found_only (One n) h = elim h [ inl f ↦ by_fully (One n) refl f | inr p ↦ by_partly (One n) p.0 p.1 ]
  found_only Several h = elim h [ inl f ↦ by_fully Several refl f | inr p ↦ by_partly Several p.0 p.1 ]

  decided : (out : ℕ) (f : Found) → IsFoundIn block names f → Decides out block names (meant_there out f)
  decided out Nothing h = h
  decided out (One n) h = (refl, h)
  decided out Several h = h

  -- a block decides one thing
  decides_only : (out : ℕ) (m : ReferenceMeaning) → Decides out block names m → m ≡ meant_there out (found_in block names)
  decides_only out (Item n b) h = ap (λ (c : ℕ). Item n c) h.0 ∙ ap (meant_there out) (found_only (One n) h.1)
  decides_only out Ambiguous h = ap (meant_there out) (found_only Several h)
  decides_only out NotDeclared h = ap (meant_there out) (found_only Nothing h)

pub any_to : (test : ℕ → Bool) (k : ℕ) → any_below test k ≡ true → (n : ℕ) × (n < k) × (test n ≡ true)
any_to test zero h = cc
any_to test (suc k) h = by (test k) refl (any_to test k) h
  where
    by : (b : Bool) → test k ≡ b → (any_below test k ≡ true → (n : ℕ) × (n < k) × (test n ≡ true)) → (b || any_below test k) ≡ true → (n : ℕ) × (n < suc k) × (test n ≡ true)
    by true e go g = (k, omega arith, e)
    by false e go g = let r = go g in (r.0, omega (arith, r.1), r.2)

pub any_from : (test : ℕ → Bool) (k n : ℕ) → n < k → test n ≡ true → any_below test k ≡ true
any_from test zero n lt h = absurd (omega arith)
any_from test (suc k) n lt h = by (nat_lt n k) refl (any_from test k n)
  where
    by : (b : Bool) → nat_lt n k ≡ b → (n < k → test n ≡ true → any_below test k ≡ true) → (test k || any_below test k) ≡ true
    by true e go = ap (λ b. test k || b) (go (search (rules, nat_tests)) h) ∙ or-true (test k)
    by false e go = let same : n ≡ k = grind (arith, nat_tests, e, lt) in ap (λ b. b || any_below test k) (ap test (sym same) ∙ h)

first_to : (block : BlockItems) (names : List Name) → declares_first block names ≡ true → DeclaresFirst block names
first_to block [] h = cc
first_to block (name ∷ names) h =
    let r = any_to (is_named block name) (length block) h in
    let t = both_true (item_at block r.0).counts (same_name (item_at block r.0).name name) r.2 in
    record { number = r.0; within = r.1; counts = t.0; named = same_to (item_at block r.0).name name t.1 }

first_from : (block : BlockItems) (names : List Name) → DeclaresFirst block names → declares_first block names ≡ true
first_from block [] h = absurd h
first_from block (name ∷ names) h =
    any_from (is_named block name) (length block) h.number h.within
    (ap (λ b. b && same_name (item_at block h.number).name name) h.counts ∙ same_from (item_at block h.number).name name h.named)

means_step : (out : ℕ) (block : BlockItems) (outer : Scope) (names : List Name) (b : Bool) → declares_first block names ≡ b
    → MeansFrom (out + 1) outer names (meant_from (out + 1) outer names)
    → MeansFrom out (block ∷ outer) names (if b then meant_there out (found_in block names) else meant_from (out + 1) outer names)
means_step out block outer names true e go = inl (first_to block names e, decided block names out (found_in block names) (found_is block names))
means_step out block outer names false e go = inr ((λ d. let bad : false ≡ true = sym e ∙ first_from block names d in cc), go)

-- what is looked up is meant
means_from : (scope : Scope) (out : ℕ) (names : List Name) → MeansFrom out scope names (meant_from out scope names)
means_from [] out names = refl
means_from (block ∷ outer) out names = means_step out block outer names (declares_first block names) refl (means_from outer (out + 1) names)

only_step : (out : ℕ) (block : BlockItems) (outer : Scope) (names : List Name) (m : ReferenceMeaning) (b : Bool) → declares_first block names ≡ b
    → (MeansFrom (out + 1) outer names m → m ≡ meant_from (out + 1) outer names)
    → MeansFrom out (block ∷ outer) names m → m ≡ (if b then meant_there out (found_in block names) else meant_from (out + 1) outer names)
only_step out block outer names m true e go h = elim h [
  | inl d ↦ decides_only block names out m d.1
  | inr o ↦ absurd (o.0 (first_to block names e))
]
only_step out block outer names m false e go h = elim h [
  | inl d ↦ (let bad : false ≡ true = sym e ∙ first_from block names d.0 in cc)
  | inr o ↦ go o.1
]

-- nothing else is meant
means_only : (scope : Scope) (out : ℕ) (names : List Name) (m : ReferenceMeaning) → MeansFrom out scope names m → m ≡ meant_from out scope names
means_only [] out names m h = h
means_only (block ∷ outer) out names m h = only_step out block outer names m (declares_first block names) refl (means_only outer (out + 1) names m) h

pub meant_is_means : MeantIsMeans
meant_is_means scope names m = ((λ e. subst (Means scope names) e (means_from scope 0 names)), (λ h. sym (means_only scope 0 names m h)))

pub means_one : MeansOne
means_one scope names m o g h = means_only scope 0 names m g ∙ sym (means_only scope 0 names o h)

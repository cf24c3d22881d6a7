-- Generations whose numbers rise: a number is found where it stands, and changes and ends keep the order.
use Rattle.std.proofs.Common.{◌≡◌, ℕ, zero, suc, ◌+◌, ◌<◌, ◌≤◌, ◌≢◌, Bool, true, false, nat_eq, nat_le, ◌&&◌, ◌||◌, not, cond, if◌then◌else◌, List, [], ◌∷◌, ◌++◌, length, set, Some, None, slice_get, refl, sym, ap, ◌∙◌, subst, arith, eq-eqb, ne_eqb}
use Rattle.std.specs.List.{list_any, remove}
use Rattle.std.proofs.lemmas.Bool.{and_parts, leb-true, le-leb}
use Rattle.std.proofs.lemmas.List.Folds.{list_any-append}
use Rattle.std.proofs.lemmas.Option.{same_Some, none-some}
use Rattle.pli_map.specs.Sizes.{size_of}
use Rattle.pli_value.specs.Value.{Value}
use Rattle.pli_world.specs.Storage.{Block, Generation, generation_in, with_blocks, with_values, without, live_bytes}
use Rattle.pli_store.specs.answers.Kept.{rise}

-- ---- what rising numbers are

record Rises (from : ℕ) (g : Generation) (gs : List Generation) (to : ℕ) : Type 0 where
  low : from ≤ g.number
  rest : rise (suc g.number) gs to ≡ true

rises : (from : ℕ) (g : Generation) (gs : List Generation) (to : ℕ) → rise from (g ∷ gs) to ≡ true → Rises from g gs to
rises from g gs to h =
    let p = and_parts (nat_le from g.number) (rise (suc g.number) gs to) h in
    record { low = leb-true from g.number p.0; rest = p.1 }

pub tail : (from : ℕ) (g : Generation) (gs : List Generation) (to : ℕ) → rise from (g ∷ gs) to ≡ true → rise (suc g.number) gs to ≡ true
tail from g gs to h = (rises from g gs to h).rest

rising : (from : ℕ) (g : Generation) (gs : List Generation) (to : ℕ) → Rises from g gs to → rise from (g ∷ gs) to ≡ true
rising from g gs to r = rw (le-leb from g.number r.low) r.rest

pub rise_lower : (low from : ℕ) (gs : List Generation) (to : ℕ) → low ≤ from → rise from gs to ≡ true → rise low gs to ≡ true
rise_lower low from [] to h r = le-leb low to (let e = leb-true from to r in omega (arith, e, h))
rise_lower low from (g ∷ gs) to h r =
    let p = rises from g gs to r in
    rising low g gs to (record { low = omega (arith, p.low, h); rest = p.rest })

pub record Within (from : ℕ) (g : Generation) (to : ℕ) : Type 0 where
  pub low : from ≤ g.number
  pub high : g.number < to

pub rise_bounds : (from : ℕ) (gs : List Generation) (to : ℕ) → rise from gs to ≡ true → from ≤ to
rise_bounds from [] to r = leb-true from to r
rise_bounds from (g ∷ gs) to r =
    let p = rises from g gs to r in
    let e = rise_bounds (suc g.number) gs to p.rest in
    let low = p.low in
    omega (arith, e, low)

pub number_within : (from : ℕ) (gs : List Generation) (to at : ℕ) (g : Generation) → rise from gs to ≡ true → slice_get gs at ≡ Some g → Within from g to
number_within from [] to at g r h = absurd (none-some g h)
number_within from (x ∷ gs) to zero g r h =
    let p = rises from x gs to r in
    let e = rise_bounds (suc x.number) gs to p.rest in
    subst (λ y. Within from y to) (same_Some x g h) (record { low = p.low; high = omega (arith, e) })
number_within from (x ∷ gs) to (suc at) g r h =
    let p = rises from x gs to r in
    let inner = number_within (suc x.number) gs to at g p.rest h in
    let low = p.low in
    let above = inner.low in
    record { low = omega (arith, low, above); high = inner.high }

-- the number of one that stands after another is greater
later : (x : Generation) (gs : List Generation) (to at : ℕ) (g : Generation) → rise (suc x.number) gs to ≡ true → slice_get gs at ≡ Some g → x.number ≢ g.number
later x gs to at g r h e =
    let low = (number_within (suc x.number) gs to at g r h).low in
    omega (arith, low, e)

-- ---- look-ups

pub found_at : (from : ℕ) (gs : List Generation) (to at : ℕ) (g : Generation) → rise from gs to ≡ true → slice_get gs at ≡ Some g → generation_in gs g.number ≡ Some g
found_at from [] to at g r h = absurd (none-some g h)
found_at from (x ∷ gs) to zero g r h =
    subst (λ y. generation_in (x ∷ gs) y.number ≡ Some y) (same_Some x g h) (rw (eq-eqb x.number x.number refl) refl)
found_at from (x ∷ gs) to (suc at) g r h =
    let p = rises from x gs to r in
    rw (ne_eqb x.number g.number (later x gs to at g p.rest h)) (found_at (suc x.number) gs to at g p.rest h)

pub not_found : (gs : List Generation) (number : ℕ) → ((at : ℕ) (g : Generation) → slice_get gs at ≡ Some g → g.number ≢ number) → generation_in gs number ≡ None
not_found [] number others = refl
not_found (x ∷ gs) number others =
    rw (ne_eqb x.number number (others 0 x refl)) (not_found gs number (λ at g h. others (suc at) g h))

-- ---- changes

pub changed_at : (from : ℕ) (gs : List Generation) (to at : ℕ) (g : Generation) (vs : List Value) → rise from gs to ≡ true → slice_get gs at ≡ Some g → with_values gs g.number vs ≡ set gs at (record g { values = vs })
changed_at from [] to at g vs r h = absurd (none-some g h)
changed_at from (x ∷ gs) to zero g vs r h =
    subst (λ y. with_values (x ∷ gs) y.number vs ≡ record y { values = vs } ∷ gs) (same_Some x g h) (rw (eq-eqb x.number x.number refl) refl)
changed_at from (x ∷ gs) to (suc at) g vs r h =
    let p = rises from x gs to r in
    rw (ne_eqb x.number g.number (later x gs to at g p.rest h)) (ap (λ l. x ∷ l) (changed_at (suc x.number) gs to at g vs p.rest h))

-- another of the same number, or of the same description, in its place
pub rise_changed : (from : ℕ) (gs : List Generation) (to at : ℕ) (g h : Generation) → h.number ≡ g.number → slice_get gs at ≡ Some g → rise from gs to ≡ true → rise from (set gs at h) to ≡ true
rise_changed from [] to at g h same e r = r
rise_changed from (x ∷ gs) to zero g h same e r =
    subst (λ n. (nat_le from n && rise (suc n) gs to) ≡ true) (ap (λ (y : Generation). y.number) (same_Some x g e) ∙ sym same) r
rise_changed from (x ∷ gs) to (suc at) g h same e r =
    let p = rises from x gs to r in
    rising from x (set gs at h) to (record { low = p.low; rest = rise_changed (suc x.number) gs to at g h same e p.rest })

pub live_changed : (gs : List Generation) (at : ℕ) (g h : Generation) → h.description ≡ g.description → slice_get gs at ≡ Some g → live_bytes (set gs at h) ≡ live_bytes gs
live_changed [] at g h same e = refl
live_changed (x ∷ gs) zero g h same e =
    ap (λ d. size_of d + live_bytes gs) (same ∙ sym (ap (λ (y : Generation). y.description) (same_Some x g e)))
live_changed (x ∷ gs) (suc at) g h same e = ap (λ n. size_of x.description + n) (live_changed gs at g h same e)

-- other blocks of one

pub blocks_changed_at : (from : ℕ) (gs : List Generation) (to at : ℕ) (g : Generation) (change : List Block → List Block) → rise from gs to ≡ true → slice_get gs at ≡ Some g
    → with_blocks gs g.number change ≡ set gs at (record g { blocks = change g.blocks })
blocks_changed_at from [] to at g change r h = absurd (none-some g h)
blocks_changed_at from (x ∷ gs) to zero g change r h =
    subst (λ y. with_blocks (x ∷ gs) y.number change ≡ record y { blocks = change y.blocks } ∷ gs) (same_Some x g h) (rw (eq-eqb x.number x.number refl) refl)
blocks_changed_at from (x ∷ gs) to (suc at) g change r h =
    let p = rises from x gs to r in
    rw (ne_eqb x.number g.number (later x gs to at g p.rest h)) (ap (λ l. x ∷ l) (blocks_changed_at (suc x.number) gs to at g change p.rest h))

pub no_blocks_changed : (gs : List Generation) (number : ℕ) (change : List Block → List Block) → generation_in gs number ≡ None → with_blocks gs number change ≡ gs
no_blocks_changed [] number change none = refl
no_blocks_changed (x ∷ gs) number change none = by (nat_eq x.number number) none (no_blocks_changed gs number change)
  where
    by : (b : Bool) → (if b then Some x else generation_in gs number) ≡ None → (generation_in gs number ≡ None → with_blocks gs number change ≡ gs)
        → (if b then record x { blocks = change x.blocks } ∷ gs else x ∷ with_blocks gs number change) ≡ x ∷ gs
    by true e rest = absurd (none-some x (sym e))
    by false e rest = ap (λ l. x ∷ l) (rest e)

-- as many as there are stand below their end
pub rise_length : (from : ℕ) (gs : List Generation) (to : ℕ) → rise from gs to ≡ true → from + length gs ≤ to
rise_length from [] to r = let e = leb-true from to r in omega (arith, e)
rise_length from (g ∷ gs) to r =
    let p = rises from g gs to r in
    let e = rise_length (suc g.number) gs to p.rest in
    let low = p.low in
    omega (arith, e, low)

-- ---- a new one

pub rise_added : (from : ℕ) (gs : List Generation) (to : ℕ) (g : Generation) → rise from gs to ≡ true → to ≤ g.number → rise from (gs ++ g ∷ []) (suc g.number) ≡ true
rise_added from [] to g r h =
    let low = leb-true from to r in
    rising from g [] (suc g.number) (record { low = omega (arith, low, h); rest = le-leb (suc g.number) (suc g.number) (omega arith) })
rise_added from (x ∷ gs) to g r h =
    let p = rises from x gs to r in
    rising from x (gs ++ g ∷ []) (suc g.number) (record { low = p.low; rest = rise_added (suc x.number) gs to g p.rest h })

pub live_added : (gs : List Generation) (g : Generation) → live_bytes (gs ++ g ∷ []) ≡ live_bytes gs + size_of g.description
live_added [] g = omega arith
live_added (x ∷ gs) g = let rest = live_added gs g in omega (arith, rest)

-- ---- ends

pub size_at : (gs : List Generation) (at : ℕ) (g : Generation) → slice_get gs at ≡ Some g → size_of g.description ≤ live_bytes gs
size_at [] at g h = absurd (none-some g h)
size_at (x ∷ gs) zero g h = subst (λ y. size_of y.description ≤ size_of x.description + live_bytes gs) (same_Some x g h) (omega arith)
size_at (x ∷ gs) (suc at) g h = let rest = size_at gs at g h in omega (arith, rest)

pub live_ended : (gs : List Generation) (at : ℕ) (g : Generation) → slice_get gs at ≡ Some g → live_bytes (remove gs at) + size_of g.description ≡ live_bytes gs
live_ended [] at g h = absurd (none-some g h)
live_ended (x ∷ gs) zero g h = subst (λ y. live_bytes gs + size_of y.description ≡ size_of x.description + live_bytes gs) (same_Some x g h) (omega arith)
live_ended (x ∷ gs) (suc at) g h = let rest = live_ended gs at g h in omega (arith, rest)

pub rise_ended : (from : ℕ) (gs : List Generation) (to at : ℕ) (g : Generation) → slice_get gs at ≡ Some g → rise from gs to ≡ true → rise from (remove gs at) to ≡ true
rise_ended from [] to at g h r = absurd (none-some g h)
rise_ended from (x ∷ gs) to zero g h r =
    let p = rises from x gs to r in
    let low = p.low in
    rise_lower from (suc x.number) gs to (omega (arith, low)) p.rest
rise_ended from (x ∷ gs) to (suc at) g h r =
    let p = rises from x gs to r in
    rising from x (remove gs at) to (record { low = p.low; rest = rise_ended (suc x.number) gs to at g h p.rest })

-- where no other number ends
pub all_kept : (gs : List Generation) (number : ℕ) → ((at : ℕ) (g : Generation) → slice_get gs at ≡ Some g → g.number ≢ number) → without (number ∷ []) gs ≡ gs
all_kept [] number others = refl
all_kept (x ∷ gs) number others =
    rw (ne_eqb x.number number (others 0 x refl)) (ap (λ l. x ∷ l) (all_kept gs number (λ at g h. others (suc at) g h)))

pub ended_at : (from : ℕ) (gs : List Generation) (to at : ℕ) (g : Generation) → rise from gs to ≡ true → slice_get gs at ≡ Some g → without (g.number ∷ []) gs ≡ remove gs at
ended_at from [] to at g r h = absurd (none-some g h)
ended_at from (x ∷ gs) to zero g r h =
    let p = rises from x gs to r in
    subst (λ y. without (y.number ∷ []) (x ∷ gs) ≡ gs) (same_Some x g h)
    (rw (eq-eqb x.number x.number refl) (all_kept gs x.number (λ k y e same. later x gs to k y p.rest e (sym same))))
ended_at from (x ∷ gs) to (suc at) g r h =
    let p = rises from x gs to r in
    rw (ne_eqb x.number g.number (later x gs to at g p.rest h)) (ap (λ l. x ∷ l) (ended_at (suc x.number) gs to at g p.rest h))

-- ---- some numbers end, and then others

pub none_end : (gs : List Generation) → without [] gs ≡ gs
none_end [] = refl
none_end (x ∷ gs) = ap (λ l. x ∷ l) (none_end gs)

pub without_append : (xs ys : List ℕ) (gs : List Generation) → without (xs ++ ys) gs ≡ without ys (without xs gs)
without_append xs ys [] = refl
without_append xs ys (g ∷ gs) =
    rw (list_any-append (nat_eq g.number) xs ys) (by (list_any (nat_eq g.number) xs) (list_any (nat_eq g.number) ys) refl refl (without_append xs ys gs))
  where
    by : (a b : Bool) → list_any (nat_eq g.number) xs ≡ a → list_any (nat_eq g.number) ys ≡ b → without (xs ++ ys) gs ≡ without ys (without xs gs) → cond (not (a || b)) (g ∷ without (xs ++ ys) gs) (without (xs ++ ys) gs) ≡ without ys (cond (not a) (g ∷ without xs gs) (without xs gs))
    by true b p q rest = rest
    by false true p q rest = rw q rest
    by false false p q rest = rw q (ap (λ l. g ∷ l) rest)

-- the first number ends after the others
pub without_first : (n : ℕ) (ns : List ℕ) (gs : List Generation) → without (n ∷ ns) gs ≡ without (n ∷ []) (without ns gs)
without_first n ns [] = refl
without_first n ns (g ∷ gs) = by (nat_eq g.number n) (list_any (nat_eq g.number) ns) refl refl (without_first n ns gs)
  where
    by : (a b : Bool) → nat_eq g.number n ≡ a → list_any (nat_eq g.number) ns ≡ b → without (n ∷ ns) gs ≡ without (n ∷ []) (without ns gs) → cond (not (a || b)) (g ∷ without (n ∷ ns) gs) (without (n ∷ ns) gs) ≡ without (n ∷ []) (cond (not b) (g ∷ without ns gs) (without ns gs))
    by true true p q rest = rest
    by true false p q rest = rw p rest
    by false true p q rest = rest
    by false false p q rest = rw p (ap (λ l. g ∷ l) rest)

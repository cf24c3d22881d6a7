-- No two marked descriptions have one mark.
use Rattle.std.proofs.Common.{◌≡◌, ℕ, ◌+◌, ◌-◌, ◌*◌, ◌<◌, ◌≤◌, int_lt, ◌&&◌, Bool, true, false, nat_eq, nat_lt, pos, negsuc, ℤ, unsigned_abs, if◌then◌else◌, List, [], ◌∷◌, length, drop, get_or, refl, sym, ap, ◌∙◌, subst, arith}
use Rattle.std.proofs.lemmas.Bool.{and_from, and_parts, true≢false, lt-ltb, ltb-true, ltb-false, eqb-true}
use Rattle.std.proofs.lemmas.List.{drop_more}
use Rattle.pli_map.specs.declared.description.Bounds.{Bounds}
use Rattle.pli_map.specs.declared.description.Description as declared
use Rattle.pli_map.specs.views.DescriptionView.{description_view, members_view}
use Rattle.pli_map.specs.Description.{Description, FixedBinary, Character, Varying, Bit, Pointer, Offset}
use Rattle.pli_map.specs.Description.{Area, Array, Structure, Members, NoMembers, MemberThen}
use Rattle.pli_map.specs.Marks.{bound_mark, with_bounds, with_dimensions, with_member, mark_of, mark_of_members}
use Rattle.pli_map.specs.Marks.{are_short, are_all_short, is_marked, are_marked, scalar_mark, HasMark, HaveMark}

-- ---- bounds

same_bound : (z w : ℤ) → bound_mark z ≡ bound_mark w → z ≡ w
same_bound (pos n) (pos m) e = ap pos (omega (arith, e))
same_bound (pos n) (negsuc m) e = absurd (omega (arith, e))
same_bound (negsuc n) (pos m) e = absurd (omega (arith, e))
same_bound (negsuc n) (negsuc m) e = ap negsuc (omega (arith, e))

pub below_zero : (z : ℤ) → int_lt z (pos 0) ≡ true → unsigned_abs z * 2 + 1 ≡ bound_mark z
below_zero (pos n) h = absurd (omega (arith, ltb-true n 0 h))
below_zero (negsuc n) h = refl

pub not_below_zero : (z : ℤ) → int_lt z (pos 0) ≡ false → unsigned_abs z * 2 ≡ bound_mark z
not_below_zero (pos n) h = refl
not_below_zero (negsuc n) h = absurd (true≢false h)

-- a low bound of one digit and one of sixteen are told by the last digit
same_low : (one other : Bool) (low low' m m' : ℕ) → nat_eq low 2 ≡ one → nat_eq low' 2 ≡ other → low < 65536 → low' < 65536
    → (if one then m * 2 else (m * 65536 + low) * 2 + 1) ≡ (if other then m' * 2 else (m' * 65536 + low') * 2 + 1)
    → (low ≡ low') × (m ≡ m')
same_low true true low low' m m' l l' s s' e = (eqb-true low 2 l ∙ sym (eqb-true low' 2 l'), omega (arith, e))
same_low true false low low' m m' l l' s s' e = absurd (omega (arith, e))
same_low false true low low' m m' l l' s s' e = absurd (omega (arith, e))
same_low false false low low' m m' l l' s s' e = (omega (arith, e, s, s'), omega (arith, e, s, s'))

parts : (b c : Bounds) → b.low ≡ c.low → b.high ≡ c.high → b ≡ c
parts b c l h =
    let bounds : ℤ → ℤ → Bounds = λ low high. record { low = low; high = high } in
    ap (λ low. bounds low b.high) l ∙ ap (bounds c.low) h

same_bounds_from : (b c : Bounds) (m m' : ℕ) → are_short b ≡ true → are_short c ≡ true → with_bounds b m ≡ with_bounds c m' → (b ≡ c) × (m ≡ m')
same_bounds_from b c m m' s t e =
    let bs = and_parts _ _ s in
    let cs = and_parts _ _ t in
    let low = ltb-true (bound_mark b.low) 65536 bs.0 in
    let low' = ltb-true (bound_mark c.low) 65536 cs.0 in
    let high = ltb-true (bound_mark b.high) 65536 bs.1 in
    let high' = ltb-true (bound_mark c.high) 65536 cs.1 in
    let both = same_low (nat_eq (bound_mark b.low) 2) (nat_eq (bound_mark c.low) 2) (bound_mark b.low) (bound_mark c.low)
    (m * 65536 + bound_mark b.high) (m' * 65536 + bound_mark c.high) refl refl low low' e in
    let inner = both.1 in
    let highs : bound_mark b.high ≡ bound_mark c.high = omega (arith, inner, high, high') in
    let others : m ≡ m' = omega (arith, inner, high, high') in
    (parts b c (same_bound b.low c.low both.0) (same_bound b.high c.high highs), others)

same_dimensions : (bs cs : List Bounds) (m m' : ℕ) → are_all_short bs ≡ true → are_all_short cs ≡ true → with_dimensions bs m ≡ with_dimensions cs m' → (bs ≡ cs) × (m ≡ m')
same_dimensions [] [] m m' s t e = (refl, omega (arith, e))
same_dimensions [] (c ∷ cs) m m' s t e = absurd (omega (arith, e))
same_dimensions (b ∷ bs) [] m m' s t e = absurd (omega (arith, e))
same_dimensions (b ∷ bs) (c ∷ cs) m m' s t e =
    let ss = and_parts (are_short b) (are_all_short bs) s in
    let ts = and_parts (are_short c) (are_all_short cs) t in
    let whole : with_bounds b (with_dimensions bs m) ≡ with_bounds c (with_dimensions cs m') = omega (arith, e) in
    let first = same_bounds_from b c (with_dimensions bs m) (with_dimensions cs m') ss.0 ts.0 whole in
    let others = same_dimensions bs cs m m' ss.1 ts.1 first.1 in
    (ap (λ x. x ∷ bs) first.0 ∙ ap (λ xs. c ∷ xs) others.0, others.1)

-- ---- members

-- a member of ten digits and one of twenty are told by the last digit
same_member : (small other : Bool) (m n ms ns : ℕ) → nat_lt m 512 ≡ small → nat_lt n 512 ≡ other → m < 524288 → n < 524288
    → (if small then ms * 1024 + m * 2 else ms * 1048576 + m * 2 + 1) ≡ (if other then ns * 1024 + n * 2 else ns * 1048576 + n * 2 + 1)
    → (m ≡ n) × (ms ≡ ns)
same_member true true m n ms ns l l' s s' e =
    let small = ltb-true m 512 l in
    let small' = ltb-true n 512 l' in
    (omega (arith, e, small, small'), omega (arith, e, small, small'))
same_member true false m n ms ns l l' s s' e = absurd (omega (arith, e))
same_member false true m n ms ns l l' s s' e = absurd (omega (arith, e))
same_member false false m n ms ns l l' s s' e = (omega (arith, e, s, s'), omega (arith, e, s, s'))

-- no members have a mark of their own
no_member : (small : Bool) (m ms : ℕ) → nat_lt m 512 ≡ small → 1 ≡ (if small then ms * 1024 + m * 2 else ms * 1048576 + m * 2 + 1) → ⊥
no_member true m ms l e = omega (arith, e)
no_member false m ms l e =
    let great = ltb-false m 512 l in
    omega (arith, e, great)

-- ---- descriptions

mutual
  pub same_from_mark : (d e : Description) → is_marked d ≡ true → is_marked e ≡ true → mark_of d ≡ mark_of e → d ≡ e
  same_from_mark (Area n) (Area m) s t h = ap Area (omega (arith, h))
  same_from_mark (FixedBinary n) (FixedBinary m) s t h = ap FixedBinary (omega (arith, h))
  same_from_mark (Character n) (Character m) s t h = ap Character (omega (arith, h))
  same_from_mark (Varying n) (Varying m) s t h = ap Varying (omega (arith, h))
  same_from_mark (Bit n) (Bit m) s t h = ap Bit (omega (arith, h))
  same_from_mark Pointer Pointer s t h = refl
  same_from_mark Offset Offset s t h = refl
  same_from_mark (Array bs d) (Array cs e) s t h =
      let ss = and_parts (are_all_short bs) (is_marked d) s in
      let ts = and_parts (are_all_short cs) (is_marked e) t in
      let inner : with_dimensions bs (mark_of d) ≡ with_dimensions cs (mark_of e) = omega (arith, h) in
      let both = same_dimensions bs cs (mark_of d) (mark_of e) ss.0 ts.0 inner in
      ap (λ x. Array x d) both.0 ∙ ap (Array cs) (same_from_mark d e ss.1 ts.1 both.1)
  same_from_mark (Structure ds) (Structure es) s t h = ap Structure (same_from_marks ds es s t (omega (arith, h)))
  same_from_mark d e s t h = absurd (omega (arith, h))

  same_from_marks : (ds es : Members) → are_marked ds ≡ true → are_marked es ≡ true → mark_of_members ds ≡ mark_of_members es → ds ≡ es
  same_from_marks NoMembers NoMembers s t h = refl
  same_from_marks NoMembers (MemberThen e es) s t h = absurd (no_member (nat_lt (mark_of e) 512) (mark_of e) (mark_of_members es) refl h)
  same_from_marks (MemberThen d ds) NoMembers s t h = absurd (no_member (nat_lt (mark_of d) 512) (mark_of d) (mark_of_members ds) refl (sym h))
  same_from_marks (MemberThen d ds) (MemberThen e es) s t h =
      let ss = and_parts (nat_lt (mark_of d) 524288) (is_marked d && are_marked ds) s in
      let ts = and_parts (nat_lt (mark_of e) 524288) (is_marked e && are_marked es) t in
      let inner = and_parts (is_marked d) (are_marked ds) ss.1 in
      let inner' = and_parts (is_marked e) (are_marked es) ts.1 in
      let both = same_member (nat_lt (mark_of d) 512) (nat_lt (mark_of e) 512) (mark_of d) (mark_of e) (mark_of_members ds) (mark_of_members es)
      refl refl (ltb-true (mark_of d) 524288 ss.0) (ltb-true (mark_of e) 524288 ts.0) h in
      ap (λ x. MemberThen x ds) (same_from_mark d e inner.0 inner'.0 both.0)
      ∙ ap (MemberThen e) (same_from_marks ds es inner.1 inner'.1 both.1)

-- descriptions of one mark that is none of 0 are equal
pub same_of_one : (d e : Description) (m : ℕ) → (m ≡ 0 → ⊥) → HasMark d m → HasMark e m → d ≡ e
same_of_one d e m some here there =
    let a = here some in
    let b = there some in
    same_from_mark d e a.0 b.0 (a.1 ∙ sym b.1)

-- ---- marks that are computed

-- a structure of marked members
pub structure_marked : (ds : Members) (m whole : ℕ) → HaveMark ds m → ((whole ≡ 0 → ⊥) → (m ≡ 0 → ⊥) × (m * 8 + 7 ≡ whole)) → HasMark (Structure ds) whole
structure_marked ds m whole here told = λ some.
    let t = told some in
    let members = here t.0 in
    (members.0, ap (λ n. n * 8 + 7) members.1 ∙ t.1)

-- an array of marked elements
pub array_marked : (bs : List Bounds) (d : Description) (m dimensions whole : ℕ) → HasMark d m
    → ((dimensions ≡ 0 → ⊥) → (m ≡ 0 → ⊥) × (are_all_short bs ≡ true) × (with_dimensions bs m ≡ dimensions))
    → ((whole ≡ 0 → ⊥) → (dimensions ≡ 0 → ⊥) × (dimensions * 8 + 6 ≡ whole)) → HasMark (Array bs d) whole
array_marked bs d m dimensions whole here bounds told = λ some.
    let t = told some in
    let b = bounds t.0 in
    let element = here b.0 in
    (and_from (are_all_short bs) (is_marked d) b.1 element.0, ap (λ n. with_dimensions bs n * 8 + 6) element.1 ∙ ap (λ n. n * 8 + 6) b.2 ∙ t.1)

-- a member before others
pub member_marked : (d : Description) (ds : Members) (m ms whole : ℕ) → HasMark d m → HaveMark ds ms
    → ((whole ≡ 0 → ⊥) → (m ≡ 0 → ⊥) × (m < 524288) × (ms ≡ 0 → ⊥) × (with_member m ms ≡ whole)) → HaveMark (MemberThen d ds) whole
member_marked d ds m ms whole here others both = λ some.
    let b = both some in
    let first = here b.0 in
    let after = others b.2 in
    let short : nat_lt (mark_of d) 524288 ≡ true = lt-ltb (mark_of d) 524288 (omega (arith, first.1, b.1)) in (
      and_from _ _ short (and_from (is_marked d) (are_marked ds) first.0 after.0),
      ap (λ n. with_member n (mark_of_members ds)) first.1 ∙ ap (with_member m) after.1 ∙ b.3,
    )

-- bounds before others
pub bounds_marked : (b : Bounds) (bs : List Bounds) (element after whole : ℕ)
    → ((after ≡ 0 → ⊥) → (element ≡ 0 → ⊥) × (are_all_short bs ≡ true) × (with_dimensions bs element ≡ after))
    → ((whole ≡ 0 → ⊥) → (after ≡ 0 → ⊥) × (are_short b ≡ true) × (with_bounds b after * 2 + 1 ≡ whole))
    → (whole ≡ 0 → ⊥) → (element ≡ 0 → ⊥) × (are_all_short (b ∷ bs) ≡ true) × (with_dimensions (b ∷ bs) element ≡ whole)
bounds_marked b bs element after whole others first = λ some.
    let f = first some in
    let o = others f.0 in
    (o.0, and_from (are_short b) (are_all_short bs) f.1 o.1, ap (λ n. with_bounds b n * 2 + 1) o.2 ∙ f.2)

-- a scalar has its mark
pub scalar_marked : (d : Description) (m : ℕ) → m ≡ scalar_mark d → HasMark d m
scalar_marked (Area n) m is = λ some. absurd (some is)
scalar_marked (Array bs d) m is = λ some. absurd (some is)
scalar_marked (Structure ds) m is = λ some. absurd (some is)
scalar_marked (FixedBinary p) m is = λ some. (refl, sym is)
scalar_marked (Character n) m is = λ some. (refl, sym is)
scalar_marked (Varying n) m is = λ some. (refl, sym is)
scalar_marked (Bit n) m is = λ some. (refl, sym is)
scalar_marked Pointer m is = λ some. (refl, sym is)
scalar_marked Offset m is = λ some. (refl, sym is)

-- ---- from the last to the first

-- what is told of the dimensions from here on
abbrev pub Told : List Bounds → (element mark : ℕ) → Type 0
Told bs element mark = (mark ≡ 0 → ⊥) → (element ≡ 0 → ⊥) × (are_all_short bs ≡ true) × (with_dimensions bs element ≡ mark)

pub dimension_before : (bs : List Bounds) (at : ℕ) (d : Bounds) (element after whole : ℕ) → 0 < at → at ≤ length bs → Told (drop at bs) element after
    → ((whole ≡ 0 → ⊥) → (after ≡ 0 → ⊥) × (are_short (get_or bs (at - 1) d) ≡ true) × (with_bounds (get_or bs (at - 1) d) after * 2 + 1 ≡ whole))
    → Told (drop (at - 1) bs) element whole
dimension_before bs at d element after whole some within others first =
    let next : at - 1 + 1 ≡ at = omega arith in
    let cut : drop (at - 1) bs ≡ get_or bs (at - 1) d ∷ drop at bs = drop_more bs (at - 1) d (omega arith) ∙ ap (λ n. get_or bs (at - 1) d ∷ drop n bs) next in
    subst (λ l. Told l element whole) (sym cut) (bounds_marked (get_or bs (at - 1) d) (drop at bs) element after whole others first)

pub all_dimensions : (bs : List Bounds) (at element mark : ℕ) → at ≤ 0 → Told (drop at bs) element mark → Told bs element mark
all_dimensions bs at element mark none told =
    let first : at ≡ 0 = omega arith in
    subst (λ n. Told (drop n bs) element mark) first told

pub member_before : (ds : List declared.Description) (at : ℕ) (x : declared.Description) (m after whole : ℕ) → 0 < at → at ≤ length ds → x ≡ get_or ds (at - 1) x
    → HasMark (description_view x) m → HaveMark (members_view (drop at ds)) after
    → ((whole ≡ 0 → ⊥) → (m ≡ 0 → ⊥) × (m < 524288) × (after ≡ 0 → ⊥) × (with_member m after ≡ whole)) → HaveMark (members_view (drop (at - 1) ds)) whole
member_before ds at x m after whole some within is here others both =
    let next : at - 1 + 1 ≡ at = omega arith in
    let cut : drop (at - 1) ds ≡ x ∷ drop at ds = drop_more ds (at - 1) x (omega arith) ∙ ap (λ y. y ∷ drop (at - 1 + 1) ds) (sym is) ∙ ap (λ n. x ∷ drop n ds) next in
    subst (λ l. HaveMark (members_view l) whole) (sym cut) (member_marked (description_view x) (members_view (drop at ds)) m after whole here others both)

pub all_members : (ds : List declared.Description) (at mark : ℕ) → at ≤ 0 → HaveMark (members_view (drop at ds)) mark → HaveMark (members_view ds) mark
all_members ds at mark none have =
    let first : at ≡ 0 = omega arith in
    subst (λ n. HaveMark (members_view (drop n ds)) mark) first have

-- What is found by the places of a description is what stands there.
use Rattle.std.proofs.Common.{◌≡◌, ℕ, zero, suc, ◌+◌, ◌-◌, ◌%◌, ◌<◌, ◌≤◌, nat_eq, nat_lt, Bool, true, false, cond, List, [], ◌∷◌, length, get_or, map, Option, Some, None, refl, sym, ap, ◌∙◌, arith}
use Rattle.std.specs.Int.{next_multiple_of}
use Rattle.std.proofs.lemmas.Bool.{lt-ltb, le-ltb, eqb-true}
use Rattle.pli_map.specs.Description.{Description, FixedBinary, Character, Varying, Bit, Pointer, Offset, Area, Array, Structure, Members, NoMembers, MemberThen}
use Rattle.pli_map.specs.Sizes.{alignment_of, size_of, stride_of}
use Rattle.pli_deck_write.specs.DeckFaults.{scalar_at, scalar_among}
use Rattle.pli_deck_faults.specs.Places.{Places, Nothing, One, Elements, Among, PlacesList, starts_from, ends_from, places_of, places_among, list_of_places}

-- ---- members

abbrev pub member_number : Members → ℕ → Option Description
member_number NoMembers k = None
member_number (MemberThen d ds) zero = Some d
member_number (MemberThen d ds) (suc k) = member_number ds k

abbrev pub how_many : Members → ℕ
how_many NoMembers = 0
how_many (MemberThen d ds) = suc (how_many ds)

abbrev pub in_member : Option Description → (start offset : ℕ) → Option Description
in_member None start offset = None
in_member (Some d) start offset = cond (nat_lt offset start) None (scalar_at d (offset - start))

-- members end after the byte that they begin after
end_later : (at : ℕ) (ds : Members) (k : ℕ) → k < how_many ds → at ≤ get_or (ends_from at ds) k 0
end_later at NoMembers k within = absurd (omega (arith, within))
end_later at (MemberThen d ds) zero within = omega arith
end_later at (MemberThen d ds) (suc k) within =
    let more = end_later (next_multiple_of at (alignment_of d) + size_of d) ds k (omega (arith, within)) in
    omega (arith, more)

end_first : (e : ℕ) (ds : Members) (k : ℕ) → k < suc (how_many ds) → e ≤ get_or (e ∷ ends_from e ds) k 0
end_first e ds zero within = omega arith
end_first e ds (suc k) within = end_later e ds k (omega (arith, within))

here_it_ends : (before inside : Bool) (found others : Option Description) → inside ≡ true → cond before None (cond inside found others) ≡ cond before None found
here_it_ends before inside found others e = rw e refl

it_is_passed : (before inside : Bool) (found others : Option Description) → before ≡ false → inside ≡ false → cond before None (cond inside found others) ≡ others
it_is_passed before inside found others p q = rw (p, q) refl

passed_before : (e : ℕ) (rest : List ℕ) (k o : ℕ) → get_or (e ∷ rest) (suc k - 1) 0 ≤ o → get_or (e ∷ rest) k 0 ≤ o
passed_before e rest k o h = let same : suc k - 1 ≡ k = omega arith in omega (arith, h, ap (λ n. get_or (e ∷ rest) n 0) same)

earlier_passed : (e : ℕ) (rest : List ℕ) (k o : ℕ) → get_or (e ∷ rest) k 0 ≤ o → 0 < k → get_or rest (k - 1) 0 ≤ o
earlier_passed e rest zero o h some = absurd (omega (arith, some))
earlier_passed e rest (suc k) o h some = let same : suc k - 1 ≡ k = omega arith in omega (arith, h, ap (λ n. get_or rest n 0) same)

-- the first member that does not end before an offset has it, if one has
pub found_among : (at : ℕ) (ds : Members) (o k : ℕ) → k ≤ how_many ds → (0 < k → get_or (ends_from at ds) (k - 1) 0 ≤ o)
    → (k < how_many ds → o < get_or (ends_from at ds) k 0) → scalar_among at ds o ≡ in_member (member_number ds k) (get_or (starts_from at ds) k 0) o
found_among at NoMembers o k within before here = refl
found_among at (MemberThen d ds) o zero within before here =
    let start = next_multiple_of at (alignment_of d) in
    here_it_ends (nat_lt o start) (nat_lt o (start + size_of d)) (scalar_at d (o - start)) (scalar_among (start + size_of d) ds o) (lt-ltb _ _ (here (omega arith)))
found_among at (MemberThen d ds) o (suc k) within before here =
    let start = next_multiple_of at (alignment_of d) in
    let e = start + size_of d in
    let rest = ends_from e ds in
    let last : get_or (e ∷ rest) k 0 ≤ o = passed_before e rest k o (before (omega arith)) in
    let first = end_first e ds k (omega (arith, within)) in
    it_is_passed (nat_lt o start) (nat_lt o e) (scalar_at d (o - start)) (scalar_among e ds o) (le-ltb _ _ (omega (arith, last, first))) (le-ltb _ _ (omega (arith, last, first)))
    ∙ found_among e ds o k (omega (arith, within)) (λ some. earlier_passed e rest k o last some) (λ more. here (omega (arith, more)))

-- ---- forms

pub record InArray (d : Description) (bytes stride : ℕ) (element : Places) : Type 0 where
  pub inner : Description
  pub inner_is : element ≡ places_of inner
  pub found : (o : ℕ) → cond (nat_lt o bytes) (scalar_at inner (o % stride)) None ≡ scalar_at d o

array_form : (size stride bytes across : ℕ) (inner : Description) (element : Places) (none : Bool) → Elements bytes across element ≡ cond none Nothing (Elements size stride (places_of inner))
    → (element ≡ places_of inner) × (bytes ≡ size) × (across ≡ stride)
array_form size stride bytes across inner element true e = absurd cc
array_form size stride bytes across inner element false e = (cc, cc, cc)

pub in_array : (d : Description) (bytes stride : ℕ) (element : Places) → Elements bytes stride element ≡ places_of d → InArray d bytes stride element
in_array (FixedBinary p) bytes stride element e = absurd cc
in_array (Character n) bytes stride element e = absurd cc
in_array (Varying n) bytes stride element e = absurd cc
in_array (Bit n) bytes stride element e = absurd cc
in_array Pointer bytes stride element e = absurd cc
in_array Offset bytes stride element e = absurd cc
in_array (Area n) bytes stride element e = absurd cc
in_array (Structure ms) bytes stride element e = absurd cc
in_array (Array bs inner) bytes stride element e =
    let size = size_of (Array bs inner) in
    let form = array_form size (stride_of inner) bytes stride inner element (nat_eq size 0) e in
    record {
      inner = inner;
      inner_is = form.0;
      found = λ o. ap (λ n. cond (nat_lt o n) (scalar_at inner (o % stride)) None) form.1
          ∙ ap (λ n. cond (nat_lt o size) (scalar_at inner (o % n)) None) form.2;
    }

pub in_bytes : (inside : Bool) (found : Option Description) → inside ≡ true → cond inside found None ≡ found
in_bytes inside found e = rw e refl

no_bytes : (o size : ℕ) (found : Option Description) (across : ℕ) (inner : Places) (none : Bool) → nat_eq size 0 ≡ none → Nothing ≡ cond none Nothing (Elements size across inner) → cond (nat_lt o size) found None ≡ None
no_bytes o size found across inner false is e = absurd cc
no_bytes o size found across inner true is e = ap (λ b. cond b found None) (le-ltb o size (omega (arith, eqb-true size 0 is)))

pub in_nothing : (d : Description) (o : ℕ) → Nothing ≡ places_of d → scalar_at d o ≡ None
in_nothing (FixedBinary p) o e = absurd cc
in_nothing (Character n) o e = absurd cc
in_nothing (Varying n) o e = absurd cc
in_nothing (Bit n) o e = absurd cc
in_nothing Pointer o e = absurd cc
in_nothing Offset o e = absurd cc
in_nothing (Area n) o e = absurd cc
in_nothing (Structure ms) o e = absurd cc
in_nothing (Array bs inner) o e =
    let size = size_of (Array bs inner) in
    no_bytes o size (scalar_at inner (o % stride_of inner)) (stride_of inner) (places_of inner) (nat_eq size 0) refl e

abbrev itself : Description → (offset : ℕ) → Option Description
itself d o = cond (nat_eq o 0) (Some d) None

not_one : (d : Description) (size stride : ℕ) (inner : Places) (none : Bool) → One d ≡ cond none Nothing (Elements size stride inner) → ⊥
not_one d size stride inner true e = cc
not_one d size stride inner false e = cc

pub in_scalar : (d scalar : Description) (o : ℕ) → One scalar ≡ places_of d → itself scalar o ≡ scalar_at d o
in_scalar (FixedBinary p) s o e = let same : s ≡ FixedBinary p = cc in ap (λ x. itself x o) same
in_scalar (Character n) s o e = let same : s ≡ Character n = cc in ap (λ x. itself x o) same
in_scalar (Varying n) s o e = let same : s ≡ Varying n = cc in ap (λ x. itself x o) same
in_scalar (Bit n) s o e = let same : s ≡ Bit n = cc in ap (λ x. itself x o) same
in_scalar Pointer s o e = let same : s ≡ Pointer = cc in ap (λ x. itself x o) same
in_scalar Offset s o e = let same : s ≡ Offset = cc in ap (λ x. itself x o) same
in_scalar (Area n) s o e = let same : s ≡ Area n = cc in ap (λ x. itself x o) same
in_scalar (Structure ms) s o e = absurd cc
in_scalar (Array bs inner) s o e = absurd (not_one s (size_of (Array bs inner)) (stride_of inner) (places_of inner) (nat_eq (size_of (Array bs inner)) 0) e)

pub record InStructure (d : Description) (starts ends : List ℕ) (inner : PlacesList) : Type 0 where
  pub members : Members
  pub starts_are : starts ≡ starts_from 0 members
  pub ends_are : ends ≡ ends_from 0 members
  pub inner_are : inner ≡ places_among members
  pub found : (o : ℕ) → scalar_among 0 members o ≡ scalar_at d o

not_among : (starts ends : List ℕ) (ps : PlacesList) (size stride : ℕ) (inner : Places) (none : Bool) → Among starts ends ps ≡ cond none Nothing (Elements size stride inner) → ⊥
not_among starts ends ps size stride inner true e = cc
not_among starts ends ps size stride inner false e = cc

pub in_structure : (d : Description) (starts ends : List ℕ) (ps : PlacesList) → Among starts ends ps ≡ places_of d → InStructure d starts ends ps
in_structure (FixedBinary p) starts ends ps e = absurd cc
in_structure (Character n) starts ends ps e = absurd cc
in_structure (Varying n) starts ends ps e = absurd cc
in_structure (Bit n) starts ends ps e = absurd cc
in_structure Pointer starts ends ps e = absurd cc
in_structure Offset starts ends ps e = absurd cc
in_structure (Area n) starts ends ps e = absurd cc
in_structure (Structure ms) starts ends ps e = record { members = ms; starts_are = cc; ends_are = cc; inner_are = cc; found = λ o. refl }
in_structure (Array bs inner) starts ends ps e =
    absurd (not_among starts ends ps (size_of (Array bs inner)) (stride_of inner) (places_of inner) (nat_eq (size_of (Array bs inner)) 0) e)

-- ---- the member that has an offset

starts_counted : (at : ℕ) (ms : Members) → length (starts_from at ms) ≡ how_many ms
starts_counted at NoMembers = refl
starts_counted at (MemberThen d ds) = ap suc (starts_counted (next_multiple_of at (alignment_of d) + size_of d) ds)

ends_counted : (at : ℕ) (ms : Members) → length (ends_from at ms) ≡ how_many ms
ends_counted at NoMembers = refl
ends_counted at (MemberThen d ds) = ap suc (ends_counted (next_multiple_of at (alignment_of d) + size_of d) ds)

member_past : (ms : Members) (k : ℕ) → how_many ms ≤ k → member_number ms k ≡ None
member_past NoMembers k past = refl
member_past (MemberThen d ds) zero past = absurd (omega (arith, past))
member_past (MemberThen d ds) (suc k) past = member_past ds k (omega (arith, past))

places_counted : (ms : Members) (ps : List Places) → list_of_places ps ≡ places_among ms → length ps ≡ how_many ms
places_counted NoMembers [] e = refl
places_counted NoMembers (p ∷ ps) e = absurd cc
places_counted (MemberThen d ds) [] e = absurd cc
places_counted (MemberThen d ds) (p ∷ ps) e = let rest : list_of_places ps ≡ places_among ds = cc in ap suc (places_counted ds ps rest)

record IsMember (ms : Members) (k : ℕ) (place : Places) : Type 0 where
  inner : Description
  there : member_number ms k ≡ Some inner
  is : place ≡ places_of inner

member_there : (ms : Members) (ps : List Places) (k : ℕ) (p other : Places) → list_of_places ps ≡ places_among ms → k < length ps → p ≡ get_or ps k other → IsMember ms k p
member_there ms [] k p other e within is = absurd (omega (arith, within))
member_there NoMembers (q ∷ ps) k p other e within is = absurd cc
member_there (MemberThen d ds) (q ∷ ps) zero p other e within is =
    let same : q ≡ places_of d = cc in
    record { inner = d; there = refl; is = is ∙ same }
member_there (MemberThen d ds) (q ∷ ps) (suc k) p other e within is =
    let rest : list_of_places ps ≡ places_among ds = cc in
    let inner = member_there ds ps k p other rest (omega (arith, within)) is in
    record { inner = inner.inner; there = inner.there; is = inner.is }

early : (before : Bool) (found : Option Description) → before ≡ true → cond before None found ≡ None
early before found e = rw e refl

late : (before : Bool) (found : Option Description) → before ≡ false → cond before None found ≡ found
late before found e = rw e refl

pub mapped_item : {X Y : Type 0} (f : X → Y) (xs : List X) (k : ℕ) (x : X) → x ≡ get_or xs k x → f x ≡ get_or (map f xs) k (f x)
mapped_item f [] k x e = refl
mapped_item f (y ∷ xs) zero x e = ap f e
mapped_item f (y ∷ xs) (suc k) x e = mapped_item f xs k x e

module _ (d : Description) (starts ends seen : List ℕ) (ps : List Places) (o k : ℕ) (form : Among starts ends (list_of_places ps) ≡ places_of d) (seen_is : seen ≡ ends)
    (bound : k ≤ length seen) (before : 0 < k → get_or seen (k - 1) 0 ≤ o) (here : k < length seen → o < get_or seen k 0) where
  whole : InStructure d starts ends (list_of_places ps)
  whole = in_structure d starts ends (list_of_places ps) form

  ends_are : seen ≡ ends_from 0 whole.members
  ends_are = seen_is ∙ whole.ends_are

  count : length seen ≡ how_many whole.members
  count = ap length ends_are ∙ ends_counted 0 whole.members

  found_is : scalar_at d o ≡ in_member (member_number whole.members k) (get_or starts k 0) o
  found_is =
      let passed : 0 < k → get_or (ends_from 0 whole.members) (k - 1) 0 ≤ o = λ some. omega (arith, before some, ap (λ (es : List ℕ). get_or es (k - 1) 0) ends_are) in
      let not_passed : k < how_many whole.members → o < get_or (ends_from 0 whole.members) k 0 =
      λ more. omega (arith, here (omega (arith, more, count)), ap (λ (es : List ℕ). get_or es k 0) ends_are) in
      sym (whole.found o) ∙ found_among 0 whole.members o k (omega (arith, bound, count)) passed not_passed
      ∙ ap (λ (ss : List ℕ). in_member (member_number whole.members k) (get_or ss k 0) o) (sym whole.starts_are)

  past_all : how_many whole.members ≤ k → None ≡ scalar_at d o
  past_all past = sym (found_is ∙ ap (λ m. in_member m (get_or starts k 0) o) (member_past whole.members k past))

  pub no_start : length starts ≤ k → None ≡ scalar_at d o
  no_start past = past_all (omega (arith, past, ap length whole.starts_are, starts_counted 0 whole.members))

  pub no_member : length ps ≤ k → None ≡ scalar_at d o
  no_member past = past_all (omega (arith, past, places_counted whole.members ps whole.inner_are))

  before_it : (m : Option Description) → o < get_or starts k 0 → in_member m (get_or starts k 0) o ≡ None
  before_it None lt = refl
  before_it (Some inner) lt = early (nat_lt o (get_or starts k 0)) (scalar_at inner (o - get_or starts k 0)) (lt-ltb _ _ lt)

  pub before_member : o < get_or starts k 0 → None ≡ scalar_at d o
  before_member lt = sym (found_is ∙ before_it (member_number whole.members k) lt)

  pub in_it : (p other : Places) (inner_offset : ℕ) (result : Option Description) → k < length ps → p ≡ get_or ps k other → get_or starts k 0 ≤ o
      → inner_offset ≡ o - get_or starts k 0
      → ((inner : Description) → p ≡ places_of inner → result ≡ scalar_at inner inner_offset) → result ≡ scalar_at d o
  in_it p other inner_offset result within is le offset_is found =
      let m = member_there whole.members ps k p other whole.inner_are within is in
      found m.inner m.is ∙ ap (scalar_at m.inner) offset_is
      ∙ sym (late (nat_lt o (get_or starts k 0)) (scalar_at m.inner (o - get_or starts k 0)) (le-ltb _ _ le))
      ∙ sym (found_is ∙ ap (λ m. in_member m (get_or starts k 0) o) m.there)

-- What items take whose members are known, and members among the first entries.
use Rattle.std.proofs.Common.{◌≡◌, ℕ, zero, suc, ◌+◌, ◌<◌, ◌≤◌, ◌≢◌, ◌==◌, Bool, true, false, cond, Option, Some, None, option_map, List, [], ◌∷◌, ◌++◌, map, length, get_or, set, refl, ap, sym, ◌∙◌, subst, arith, inl, inr, ◌-◌, append-nil, eq-eqb}
use Rattle.std.specs.List.{filter}
use Rattle.std.specs.Option.{unwrap_or}
use Rattle.std.proofs.lemmas.List.{get_or-map, length-map, get_or-set_same, get_or-set_other}
use Rattle.std.proofs.lemmas.Bool.{cases_eq}
use Rattle.pli_base.specs.declared.code.Code.{Code}
use Rattle.pli_map.specs.Description.{Description}
use Rattle.pli_declare.specs.Extents.{all_bounds}
use Rattle.pli_declare.specs.Faults.{with_bounds}
use Rattle.pli_declare.specs.answers.Owners.{AreAfterOwners}
use Rattle.pli_declare.specs.Tables.{Entry, no_entry, numbers_from}
use Rattle.pli_declare_tables.specs.views.TableView.{entry_view, entries_view}
use Rattle.pli_declare_tables.specs.declared.entry.Entry as program
use Rattle.pli_declare.specs.Places.{owner_is, members_of, item_of}
use Rattle.pli_declare.specs.Descriptions.{is_of_shape, scalar_at, inside, described}
use Rattle.pli_declare_variables.specs.answers.Measures.{IsMeasured, AreMeasured}
use Rattle.pli_declare_variables.specs.declared.sizes.Measured.{Measured}
use Rattle.pli_declare_variables.specs.declared.sizes.Measured.TheVariants.{Unknown}
use Rattle.pli_declare.proofs.NumberListLemmas.{length_numbers, numbers_more, map_at, map_same, set_at_number, filter_push}
use Rattle.pli_declare.proofs.MembersFound.{members_stand, enough}

-- an item with one of A3 to A7
pub shapeless : (bound : ℕ) (entries : List Entry) (codes : List (Option Code)) (n : ℕ) → is_of_shape (get_or codes n None) ≡ true
    → IsMeasured Unknown (described bound entries codes n)
shapeless zero entries codes n h = tt
shapeless (suc bound) entries codes n h = rw h tt

-- an item of a good shape, where what the items after it take is known
pub shaped : (size : ℕ) (entries : List Entry) → AreAfterOwners entries → (codes : List (Option Code)) → size ≡ length entries → (measured : List Measured) (n : ℕ)
    → n < size → is_of_shape (get_or codes n None) ≡ false → (members : List ℕ) → members ≡ members_of entries n
    → ((k : ℕ) → n < k → k < size → IsMeasured (get_or measured k Unknown) (described size entries codes k)) → (taken : Measured)
    → ((describe : ℕ → Option Description) → AreMeasured describe measured members
    → IsMeasured taken (option_map (with_bounds (all_bounds (item_of entries n).dimensions)) (inside describe (scalar_at entries n) members)))
    → IsMeasured taken (described size entries codes n)
shaped zero entries owners codes is measured n within shape members found others taken says = absurd (omega (arith, within))
shaped (suc b) entries owners codes is measured n within shape members found others taken says =
    let there : AreMeasured (described b entries codes) measured (members_of entries n) = λ i at.
    let stands = members_stand entries owners n i at in
    let k = get_or (members_of entries n) i 0 in
    subst (IsMeasured (get_or measured k Unknown)) (enough entries owners codes (suc b) b k stands.1 (omega (arith, is)) (omega (arith, is, stands.0)))
    (others k stands.0 (omega (arith, is, stands.1))) in
    let whole : ℕ → Type 0 = λ unused. IsMeasured taken (option_map (with_bounds (all_bounds (item_of entries n).dimensions)) (inside (described b entries codes) (scalar_at entries n) (members_of entries n))) in
    let says_so : whole 0 =
    subst (λ ks. IsMeasured taken (option_map (with_bounds (all_bounds (item_of entries n).dimensions)) (inside (described b entries codes) (scalar_at entries n) ks))) found
    (says (described b entries codes) (subst (λ ks. AreMeasured (described b entries codes) measured ks) (sym found) there)) in
    rw shape says_so

-- the members of an item among the first entries
abbrev pub first_members : List Entry → (count n : ℕ) → List ℕ
first_members entries count n = filter (λ k. owner_is n (get_or entries k no_entry)) (numbers_from 0 count)

first_more : (entries : List Entry) (count n : ℕ) → first_members entries (suc count) n ≡ first_members entries count n ++ cond (owner_is n (get_or entries count no_entry)) (count ∷ []) []
first_more entries count n =
    let test : ℕ → Bool = λ k. owner_is n (get_or entries k no_entry) in
    ap (filter test) (numbers_more 0 count ∙ ap (λ m. numbers_from 0 count ++ m ∷ []) (omega arith)) ∙ filter_push test (numbers_from 0 count) count

unowned : (x : Option ℕ) (count n : ℕ) → x ≡ None → cond (unwrap_or (option_map (λ o. o == n) x) false) (count ∷ []) [] ≡ []
unowned None count n h = refl
unowned (Some o) count n h = cc

owned : (x : Option ℕ) (count o : ℕ) → x ≡ Some o → cond (unwrap_or (option_map (λ q. q == o) x) false) (count ∷ []) [] ≡ count ∷ []
owned x count o h = rw (h, eq-eqb o o refl) refl

owned_else : (x : Option ℕ) (count o n : ℕ) → x ≡ Some o → n ≢ o → cond (unwrap_or (option_map (λ q. q == n) x) false) (count ∷ []) [] ≡ []
owned_else x count o n h other = rw (h, not_same o n other) refl
  where
    not_same : (o n : ℕ) → n ≢ o → (o == n) ≡ false
    not_same o n other = grind arith

-- an entry that is a member of nothing
pub passed : (entries : List Entry) (count size : ℕ) → (get_or entries count no_entry).owner ≡ None
    → map (first_members entries count) (numbers_from 0 size) ≡ map (first_members entries (suc count)) (numbers_from 0 size)
passed entries count size is =
    map_same (first_members entries count) (first_members entries (suc count)) 0 size
    (λ n. sym (first_more entries count n ∙ ap (λ xs. first_members entries count n ++ xs) (unowned _ count n is) ∙ append-nil (first_members entries count n)))

-- an entry that is a member
pub added : (entries : List Entry) (count size o : ℕ) → (get_or entries count no_entry).owner ≡ Some o → o < size
    → set (map (first_members entries count) (numbers_from 0 size)) o (get_or (map (first_members entries count) (numbers_from 0 size)) o [] ++ count ∷ [])
    ≡ map (first_members entries (suc count)) (numbers_from 0 size)
added entries count size o is within =
    let f = first_members entries count in
    let g = first_members entries (suc count) in
    let plus : (k : ℕ) → k ≢ o → f k ≡ g k = λ k other. sym (first_more entries count k ∙ ap (λ xs. f k ++ xs) (owned_else _ count o k is other) ∙ append-nil (f k)) in
    let here : get_or (map f (numbers_from 0 size)) o [] ++ count ∷ [] ≡ g (0 + o) =
    ap (λ xs. xs ++ count ∷ []) (map_at f 0 size o [] within ∙ ap f (omega arith)) ∙ sym (first_more entries count o ∙ ap (λ xs. f o ++ xs) (owned _ count o is)) ∙ ap g (omega arith) in
    set_at_number f g 0 size o _ within here (λ k other. plus k (λ same. other (same ∙ omega arith)))

-- there are as many rows as entries
pub rows_length : (entries : List Entry) (rows : List (List ℕ)) (count size : ℕ) → rows ≡ map (first_members entries count) (numbers_from 0 size) → length rows ≡ size
rows_length entries rows count size h = ap length h ∙ length-map (numbers_from 0 size) (first_members entries count) ∙ length_numbers 0 size

-- an entry as it is read
pub viewed : (entries : List program.Entry) (n : ℕ) (e : program.Entry) → n < length entries → e ≡ get_or entries n e → get_or (entries_view entries) n no_entry ≡ entry_view e
viewed entries n e within is = get_or-map entry_view entries n e no_entry within ∙ ap entry_view (sym is)

pub nothing_else : (x : Option ℕ) → ((o : ℕ) → x ≡ Some o → ⊥) → x ≡ None
nothing_else None h = refl
nothing_else (Some o) h = absurd (h o refl)

-- one item more, from the last on
pub one_more : (P : ℕ → Measured → Type 0) (measured : List Measured) (size done : ℕ) (taken : Measured) → length measured ≡ size → done < size
    → ((k : ℕ) → size ≤ k + done → k < size → P k (get_or measured k Unknown)) → P (size - 1 - done) taken
    → (k : ℕ) → size ≤ k + (done + 1) → k < size → P k (get_or (set measured (size - 1 - done) taken) k Unknown)
one_more P measured size done taken count within known here k from to =
    let n = size - 1 - done in
    elim (cases_eq k n) [
      | inl e ↦ subst (λ j. P j (get_or (set measured n taken) j Unknown)) (sym e) (subst (P n) (sym (get_or-set_same measured n taken Unknown (omega (arith, count, within)))) here)
      | inr other ↦ subst (P k) (sym (get_or-set_other measured n k taken Unknown other)) (known k (omega (arith, from, other, within)) to)
    ]

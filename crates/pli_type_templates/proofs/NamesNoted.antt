-- Names that are noted one by one, and what the notes tell.
use Rattle.std.proofs.Common.{◌≡◌, ℕ, zero, suc, ◌+◌, ◌<◌, Option, Some, None, option_and_then, slice_get, List, [], ◌∷◌, ◌++◌, length, get_or, take, Contains, inl, inr, refl, sym, ap, ◌∙◌, subst, arith}
use Rattle.std.specs.Option.{option_flatten}
use Rattle.std.proofs.lemmas.Bool.{cases_lt}
use Rattle.std.proofs.lemmas.List.{take_more}
use Rattle.std.proofs.lemmas.List.Elements.{Contains-push_cases}
use Rattle.std.proofs.lemmas.Option.{none-some, same_Some, slice_get-get_or}
use Rattle.pli_base.specs.Declarations.{Item}
use Rattle.pli_base.specs.declared.syntax.Identifier.{Identifier}
use Rattle.pli_declare_outline.specs.Outlines.{PlacedMark}
use Rattle.pli_type_templates.specs.ItemNames.{IsNameOf, item_at, items_of}
use Rattle.pli_type_templates.specs.NotedNames.{AreOfOne, IsNoted, IsOnly, IsSame, KeepNotes, Note, NoteItems, NoteMarks, NoteNames, TellItems}
use Rattle.pli_type_templates.specs.declared.item_number.ItemNumber.{ItemNumber}

-- ---- the front of a list

taken_at : {A : Type 0} (xs : List A) (m k : ℕ) (x : A) → slice_get (take m xs) k ≡ Some x → (k < m) × (slice_get xs k ≡ Some x)
taken_at xs zero k x e = absurd (none-some x e)
taken_at [] (suc m) k x e = absurd (none-some x e)
taken_at (y ∷ ys) (suc m) zero x e = (omega arith, e)
taken_at (y ∷ ys) (suc m) (suc k) x e =
    let rest = taken_at ys m k x e in
    (omega (arith, rest.0), rest.1)

at_taken : {A : Type 0} (xs : List A) (m k : ℕ) (x : A) → slice_get xs k ≡ Some x → k < m → slice_get (take m xs) k ≡ Some x
at_taken xs zero k x e lt = absurd (omega (arith, lt))
at_taken [] (suc m) k x e lt = absurd (none-some x e)
at_taken (y ∷ ys) (suc m) zero x e lt = e
at_taken (y ∷ ys) (suc m) (suc k) x e lt = at_taken ys m k x e (omega (arith, lt))

-- the last of one more
last_is : {A : Type 0} (xs : List A) (n k : ℕ) (x y : A) → n < length xs → x ≡ get_or xs n x → slice_get xs k ≡ Some y → k ≡ n → x ≡ y
last_is xs n k x y lt is e same =
    same_Some x y (ap Some is ∙ sym (slice_get-get_or xs n x lt) ∙ ap (slice_get xs) (sym same) ∙ e)

-- ---- one more is noted

pub names_more : (old new : ℕ → Note) (names : List Identifier) (n : ℕ) (x : Identifier) (number : ItemNumber) → n < length names → x ≡ get_or names n x
    → NoteNames old (take n names) number → KeepNotes old new → IsNoted (new x.at) number → NoteNames new (take (n + 1) names) number
names_more old new names n x number lt is h kept here i c =
    let step : take (n + 1) names ≡ take n names ++ x ∷ [] = take_more names n x lt ∙ ap (λ y. take n names ++ y ∷ []) (sym is) in
    elim (Contains-push_cases (take n names) x i (subst (λ (xs : List Identifier). Contains xs i) step c)) [
      | inl before ↦ kept i.at number (h i before)
      | inr last ↦ subst (λ (y : Identifier). IsNoted (new y.at) number) last here
    ]

pub items_more : (old new : ℕ → Note) (mark : ℕ) (items : List Item) (n : ℕ) (x : Item) → n < length items → x ≡ get_or items n x
    → NoteItems old mark (take n items) → KeepNotes old new → NoteNames new x.names (record { mark = mark; item = n })
    → NoteItems new mark (take (n + 1) items)
items_more old new mark items n x lt is h kept here k item e =
    let found = taken_at items (n + 1) k item e in
    elim (cases_lt k n) [
      | inl low ↦ (λ i c. kept i.at (record { mark = mark; item = k }) (h k item (at_taken items n k item found.1 low) i c))
      | inr past ↦ (let same : n ≡ k = omega (arith, found.0, past) in
          let one = last_is items n k x item lt is found.1 (sym same) in
          subst (λ (y : Item). NoteNames new y.names (record { mark = mark; item = k })) one
          (subst (λ (j : ℕ). NoteNames new x.names (record { mark = mark; item = j })) same here))
    ]

pub marks_more : (old new : ℕ → Note) (marks : List PlacedMark) (n : ℕ) (p : PlacedMark) → n < length marks → p ≡ get_or marks n p
    → NoteMarks old (take n marks) → KeepNotes old new → NoteItems new n (items_of p.mark) → NoteMarks new (take (n + 1) marks)
marks_more old new marks n p lt is h kept here at number item name = by (slice_get (take (n + 1) marks) number.mark) refl
  where
    by : (o : Option PlacedMark) → slice_get (take (n + 1) marks) number.mark ≡ o → IsNoted (new at) number
    by None e = absurd (none-some item (sym (ap (option_and_then (λ (q : PlacedMark). slice_get (items_of q.mark) number.item)) e) ∙ name.there))
    by (Some q) e =
        let found = taken_at marks (n + 1) number.mark q e in
        let of : slice_get (items_of q.mark) number.item ≡ Some item =
        sym (ap (option_and_then (λ (r : PlacedMark). slice_get (items_of r.mark) number.item)) e) ∙ name.there in
        elim (cases_lt number.mark n) [
          | inl low ↦ kept at number (h at number item (record {
            there = ap (option_and_then (λ (r : PlacedMark). slice_get (items_of r.mark) number.item)) (at_taken marks n number.mark q found.1 low) ∙ of;
            identifier = name.identifier;
            named = name.named;
            here = name.here;
          }))
          | inr past ↦ (let same : number.mark ≡ n = omega (arith, found.0, past) in
              let one = last_is marks n number.mark p q lt is found.1 same in
              let noted = here number.item item (ap (λ (r : PlacedMark). slice_get (items_of r.mark) number.item) one ∙ of) name.identifier name.named in
              subst (λ (a : ℕ). IsNoted (new a) number) name.here
              (subst (λ (m : ℕ). IsNoted (new name.identifier.at) (record { mark = m; item = number.item })) (sym same) noted))
        ]

-- ---- what the notes tell

pub notes_tell : (notes : ℕ → Note) (marks : List PlacedMark) → NoteMarks notes marks → TellItems notes marks
notes_tell notes marks h at only number item e name =
    let P : Note → Type 0 = λ x. IsNoted x number in
    subst P e (h at number item name)

pub only_known : (note : Note) (number : ItemNumber) → ((only : ItemNumber) → note ≡ Some (Some only) → IsSame number only) → IsOnly (option_flatten note) number
only_known None number h = tt
only_known (Some None) number h = tt
only_known (Some (Some only)) number h = h only refl

one_item : (marks : List PlacedMark) (k l : ItemNumber) (x y : Item) → IsSame k l → item_at marks k ≡ Some x → item_at marks l ≡ Some y → x ≡ y
one_item marks k l x y s a b =
    let there : ℕ → ℕ → Option Item = λ m i. option_and_then (λ p. slice_get (items_of p.mark) i) (slice_get marks m) in
    same_Some x y (sym a ∙ ap (λ m. there m k.item) s.0 ∙ ap (there l.mark) s.1 ∙ b)

-- names of which one item is known are of that item
pub are_of_one : (marks : List PlacedMark) (left right : ℕ) (first second : ItemNumber) → IsSame first second
    → ((number : ItemNumber) (item : Item) → IsNameOf marks left number item → IsSame number first)
    → ((number : ItemNumber) (item : Item) → IsNameOf marks right number item → IsSame number second) → AreOfOne marks left right
are_of_one marks left right first second s h g k l x y a b =
    let p = h k x a in
    let q = g l y b in
    one_item marks k l x y (p.0 ∙ s.0 ∙ sym q.0, p.1 ∙ s.1 ∙ sym q.1) a.there b.there

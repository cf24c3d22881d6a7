-- What is read is spelled so: lists, and what stands in parentheses; numbers, names and values; simple attributes.
use Rattle.std.proofs.Common.{⊎_elim, ◌≡◌, ◌+◌, ℕ, suc, zero, Bool, true, false, cond, List, [], ◌∷◌, ◌++◌, Option, Some, None, Result, Ok, length, codes, refl, ap, ◌∙◌, sym, subst, arith, ◌⊎◌, inl, inr, append_assoc, length-append}
use Rattle.pli_base.specs.Name.{Name}
use Rattle.pli_base.specs.laws.NameLaws.{equal_from_pointwise}
use Rattle.pli_base.specs.Words.{Tokens, same_name, is_open, is_close, is_comma, rest_after, name_first, is_colon, SpellsIdentifier}
use Rattle.pli_base.specs.Results.{◌>>=◌}
use Rattle.pli_base.specs.Reading.{Front, read_as, mapped, expected, taken, enclosed, if_open, or_none}
use Rattle.pli_base.specs.declared.code.Code.TheVariants.{ParenthesisExpected, ConstantExpected}
use Rattle.pli_base.specs.declared.token.Fault.{Fault}
use Rattle.pli_base.specs.declared.token.Sign.TheVariants.{Colon, Comma, OpenParenthesis, CloseParenthesis, Plus, Minus, Times}
use Rattle.pli_base.specs.declared.token.TokenText.{TokenText}
use Rattle.pli_base.specs.declared.token.TokenText.TheVariants.{Word, Decimal, Binary, Characters, Bits, Sign}
use Rattle.pli_parse_declaration.specs.DeclarationWords.{data_word, storage_word, nesting_word, word_or, attribute_word, with_rest, attribute_first, is_zero}
use Rattle.pli_base.specs.Declarations as tree
use Rattle.pli_parse_declaration.specs.DeclarationReading.{listed_after, listed_at, list_at, number_at, signed, integer_at, bounds_from, stated_at, bounds_at, dimensions_at, extent_at, length_at, with_scale, scaled_at, precision_at, name_at, identifier_at, area_at, locator_at, repeated_at, null_from, value_at, values_at, simple_of}
use Rattle.pli_parse_declaration.specs.DeclarationGrammar.{SpellsFront, between, SpellsListed, Anywhere, SpellsList, SpellsEnclosed, SpellsOptional, SpellsNumber, SpellsInteger, SpellsBounds, SpellsDimensions, SpellsLength, SpellsScaled, SpellsName, SpellsValue, word_of, SpellsAfter, SpellsSimple}
use Rattle.pli_base.specs.declared.declaration.Integer.{Integer}
use Rattle.pli_base.specs.declared.declaration.WrittenBounds.{WrittenBounds}
use Rattle.pli_base.specs.declared.declaration.WrittenBounds.TheVariants as limits
use Rattle.pli_base.specs.declared.declaration.WrittenLength.TheVariants as extent
use Rattle.pli_base.specs.declared.declaration.InitialValue.{InitialValue}
use Rattle.pli_base.specs.declared.declaration.InitialValue.TheVariants as initial
use Rattle.pli_parse_declaration.specs.declared.word.SimpleWord.{SimpleWord}
use Rattle.pli_parse_declaration.specs.declared.word.SimpleWord.TheVariants as words
use Rattle.pli_parse_declaration.specs.declared.word.AttributeWord.{AttributeWord}
use Rattle.pli_parse_declaration.specs.declared.word.AttributeWord.TheVariants as attribute
use Rattle.pli_parse_declaration.proofs.DeclarationSteps.{mapped_ok, open_first, close_first, comma_first, colon_first, zero_first, taken_ok, enclosed_ok, two, separator_first, separator_place}
use Rattle.pli_parse_fault.proofs.StepLemmas.{same_ok, some_same, bind_ok}
use Rattle.pli_parse_declaration.specs.Separators.{separated, after_separator}
use Rattle.pli_parse_declaration.specs.declared.list.Separator.{Separator}
use Rattle.pli_parse_declaration.specs.declared.list.Separator.TheVariants.{Commas, Periods}

-- what `one` reads is spelled so
abbrev pub Reads : {A : Type 0} → (one : ℕ → Tokens → Result (Front A) Fault) → (Spells : ℕ → Tokens → A → Type 0) → Type 0
Reads {A = A} one Spells = (p : ℕ) (ts : Tokens) (x : Front A) → one p ts ≡ Ok x → SpellsFront Spells p ts x

pub mapped_reads : {A B : Type 0} (f : A → B) (one : ℕ → Tokens → Result (Front A) Fault) (Spells : ℕ → Tokens → A → Type 0) (So : ℕ → Tokens → B → Type 0)
    → Reads one Spells → ((p : ℕ) (ts : Tokens) (x : A) → Spells p ts x → So p ts (f x)) → Reads (λ p ts. mapped f (one p ts)) So
mapped_reads f one Spells So reads so p ts y h =
    let g = mapped_ok f (one p ts) y h in
    let r = reads p ts g.0 g.1 in
    subst (SpellsFront So p ts) g.2 (r.0, r.1, r.2, so p r.0 g.0.value r.3)

-- in parentheses, the first of which is at p
abbrev pub EnclosedAt : {A : Type 0} → (Spells : ℕ → Tokens → A → Type 0) → ℕ → Tokens → A → Type 0
EnclosedAt Spells p ts x = (inner : Tokens) × (ts ≡ Sign OpenParenthesis ∷ inner ++ Sign CloseParenthesis ∷ []) × Spells (p + 1) inner x

pub enclosed_spelled : {A : Type 0} (one : ℕ → Tokens → Result (Front A) Fault) (Spells : ℕ → Tokens → A → Type 0) → Reads one Spells → (p : ℕ) (ts us : Tokens) → ts ≡ Sign OpenParenthesis ∷ us
    → (y : Front A) → enclosed (one (p + 1) us) ≡ Ok y → SpellsFront (EnclosedAt Spells) p ts y
enclosed_spelled one Spells reads p ts us e y h =
    let g = enclosed_ok (one (p + 1) us) y h in
    let f = reads (p + 1) us g.0 g.1 in
    let inside : us ≡ f.0 ++ Sign CloseParenthesis ∷ y.rest = f.1 ∙ ap (λ vs. f.0 ++ vs) g.2 in
    subst (SpellsFront (EnclosedAt Spells) p ts) g.3 (
      Sign OpenParenthesis ∷ f.0 ++ Sign CloseParenthesis ∷ [],
      e ∙ ap (λ vs. Sign OpenParenthesis ∷ vs) (inside ∙ sym (append_assoc f.0 (Sign CloseParenthesis ∷ []) y.rest)),
      omega (arith, f.2, length-append f.0 (Sign CloseParenthesis ∷ [])),
      (f.0, refl, f.3),
    )

pub optional_reads : {A : Type 0} (one : ℕ → Tokens → Result (Front A) Fault) (Spells : Tokens → A → Type 0) → Reads one (Anywhere Spells)
    → Reads (λ p ts. if_open one p ts (rest_after is_open ts)) (Anywhere (SpellsOptional Spells))
optional_reads {A = A} one Spells reads p ts y h = by (rest_after is_open ts) refl h
  where
    by : (o : Option Tokens) → rest_after is_open ts ≡ o → if_open one p ts o ≡ Ok y → SpellsFront (Anywhere (SpellsOptional Spells)) p ts y
    by None e g = subst (SpellsFront (Anywhere (SpellsOptional Spells)) p ts) (same_ok g) ([], refl, omega arith, refl)
    by (Some us) e g =
        let m = mapped_ok Some (enclosed (one (p + 1) us)) y g in
        let f = enclosed_spelled one (Anywhere Spells) reads p ts us (open_first ts us e) m.0 m.1 in
        subst (SpellsFront (Anywhere (SpellsOptional Spells)) p ts) m.2 (f.0, f.1, f.2, f.3)

-- a list
module _ {A : Type 0} (s : Separator) (one : ℕ → Tokens → Result (Front A) Fault) (Spells : ℕ → Tokens → A → Type 0) (reads : Reads one Spells) where
  -- a value before those of a list
  longer : (p : ℕ) (front us : Tokens) (value : A) (values : List A) → Spells p front value → SpellsListed s Spells (after_separator s (p + length front)) us values → SpellsListed s Spells p (front ++ (between s ++ us)) (value ∷ values)
  longer p front us value [] spelled more = absurd more
  longer p front us value (v ∷ values) spelled more = (front, us, refl, spelled, more)

  after_spelled : (more : ℕ → Tokens → Result (Front (List A)) Fault) → Reads more (SpellsListed s Spells)
      → (p : ℕ) (ts front : Tokens) (x : Front A) → ts ≡ front ++ x.rest → x.next ≡ p + length front → Spells p front x.value
      → (o : Option Tokens) → separated s x.rest ≡ o → (y : Front (List A)) → listed_after s more x o ≡ Ok y → SpellsFront (SpellsListed s Spells) p ts y
  after_spelled more more_reads p ts front x shape place spelled None e y h =
      subst (SpellsFront (SpellsListed s Spells) p ts) (same_ok h) (front, shape, place, spelled)
  after_spelled more more_reads p ts front x shape place spelled (Some us) e y h =
      let g = bind_ok (more (after_separator s x.next) us) _ y h in
      let m = more_reads (after_separator s x.next) us g.0 g.1 in
      let first : x.rest ≡ between s ++ us = separator_first s x.rest us e in
      let a = two p x.next (after_separator s x.next) ts x.rest us front (between s) shape place first (separator_place s x.next) in
      let b = two p (after_separator s x.next) g.0.next ts us g.0.rest (front ++ between s) m.0 a.0 a.1 m.1 m.2 in
      let grouped : (front ++ between s) ++ m.0 ≡ front ++ (between s ++ m.0) = append_assoc front (between s) m.0 in
      subst (SpellsFront (SpellsListed s Spells) p ts) (same_ok g.2) (
        front ++ (between s ++ m.0),
        b.0 ∙ ap (λ vs. vs ++ g.0.rest) grouped,
        b.1 ∙ ap (λ (vs : Tokens). p + length vs) grouped,
        longer p front m.0 x.value g.0.value spelled (subst (λ q. SpellsListed s Spells (after_separator s q) m.0 g.0.value) place m.3),
      )

  pub listed_reads : (bound : ℕ) → Reads (listed_at s one bound) (SpellsListed s Spells)
  unfolding listed_at
  listed_reads zero p ts y h = cc
  listed_reads (suc bound) p ts y h =
      let g = bind_ok (one p ts) _ y h in
      let f = reads p ts g.0 g.1 in
      after_spelled (listed_at s one bound) (listed_reads bound) p ts f.0 g.0 f.1 f.2 f.3 (separated s g.0.rest) refl y g.2

-- where the place is of no account
pub any_place : {A : Type 0} (s : Separator) (Spells : Tokens → A → Type 0) (xs : List A) (p q : ℕ) (ts : Tokens) → SpellsListed s (Anywhere Spells) p ts xs → SpellsListed s (Anywhere Spells) q ts xs
any_place s Spells [] p q ts h = h
any_place s Spells (x ∷ []) p q ts h = h
any_place s Spells (x ∷ y ∷ more) p q ts (front, rest, shape, first, later) =
    (front, rest, shape, first, any_place s Spells (y ∷ more) (after_separator s (p + length front)) (after_separator s (q + length front)) rest later)

pub list_reads : {A : Type 0} (s : Separator) (one : ℕ → Tokens → Result (Front A) Fault) (Spells : Tokens → A → Type 0) → Reads one (Anywhere Spells) → Reads (list_at s one) (Anywhere (SpellsList s Spells))
list_reads s one Spells reads p ts y h =
    let f = listed_reads s one (Anywhere Spells) reads (length ts + 1) p ts y h in
    (f.0, f.1, f.2, any_place s Spells y.value p 0 f.0 f.3)

pub number_reads : Reads number_at (Anywhere SpellsNumber)
unfolding number_at
number_reads p [] x h = cc
number_reads p (Decimal v d ∷ ts) x h = subst (SpellsFront (Anywhere SpellsNumber) p (Decimal v d ∷ ts)) (same_ok h) (Decimal v d ∷ [], refl, refl, (d, inl refl))
number_reads p (Binary v d ∷ ts) x h = subst (SpellsFront (Anywhere SpellsNumber) p (Binary v d ∷ ts)) (same_ok h) (Binary v d ∷ [], refl, refl, (d, inr refl))
number_reads p (t ∷ ts) x h = cc

unsigned_reads : Reads (λ p ts. signed false (number_at p ts)) (Anywhere SpellsInteger)
unsigned_reads = mapped_reads (λ v. record { negative = false; value = v }) number_at (Anywhere SpellsNumber) (Anywhere SpellsInteger) number_reads (λ p ts n s. inl s)

plus_spelled : (p : ℕ) (ts : Tokens) (x : Front Integer) → signed false (number_at (p + 1) ts) ≡ Ok x → SpellsFront (Anywhere SpellsInteger) p (Sign Plus ∷ ts) x
plus_spelled p ts x h =
    let g = mapped_ok _ (number_at (p + 1) ts) x h in
    let f = number_reads (p + 1) ts g.0 g.1 in
    subst (SpellsFront (Anywhere SpellsInteger) p (Sign Plus ∷ ts)) g.2 (Sign Plus ∷ f.0, ap (λ us. Sign Plus ∷ us) f.1, omega (arith, f.2), inr (f.0, refl, f.3))

minus_spelled : (p : ℕ) (ts : Tokens) (x : Front Integer) → signed true (number_at (p + 1) ts) ≡ Ok x → SpellsFront (Anywhere SpellsInteger) p (Sign Minus ∷ ts) x
minus_spelled p ts x h =
    let g = mapped_ok _ (number_at (p + 1) ts) x h in
    let f = number_reads (p + 1) ts g.0 g.1 in
    subst (SpellsFront (Anywhere SpellsInteger) p (Sign Minus ∷ ts)) g.2 (Sign Minus ∷ f.0, ap (λ us. Sign Minus ∷ us) f.1, omega (arith, f.2), (f.0, refl, f.3))

pub integer_reads : Reads integer_at (Anywhere SpellsInteger)
unfolding integer_at
integer_reads p [] x h = unsigned_reads p [] x h
integer_reads p (Sign Plus ∷ ts) x h = plus_spelled p ts x h
integer_reads p (Sign Minus ∷ ts) x h = minus_spelled p ts x h
integer_reads p (t ∷ ts) x h = unsigned_reads p (t ∷ ts) x h

-- a value, and more after a token, if that comes
more_reads : {A B : Type 0} (one : ℕ → Tokens → Result (Front A) Fault) (fits : TokenText → Bool)
    (after : Front A → Option Tokens → Result (Front B) Fault) (Spells : ℕ → Tokens → A → Type 0)
    (SpellsMore : ℕ → Tokens → B → Type 0) → Reads one Spells
    → ((p : ℕ) (ts : Tokens) (x : Front A) → SpellsFront Spells p ts x → (o : Option Tokens) → rest_after fits x.rest ≡ o
    → (y : Front B) → after x o ≡ Ok y → SpellsFront SpellsMore p ts y)
    → Reads (λ p ts. one p ts >>= λ x. after x (rest_after fits x.rest)) SpellsMore
more_reads one fits after Spells SpellsMore reads so p ts y h =
    let g = bind_ok (one p ts) _ y h in
    so p ts g.0 (reads p ts g.0 g.1) (rest_after fits g.0.rest) refl y g.2

bounds_spelled : (p : ℕ) (ts : Tokens) (x : Front Integer) → SpellsFront (Anywhere SpellsInteger) p ts x → (o : Option Tokens)
    → rest_after is_colon x.rest ≡ o → (y : Front WrittenBounds) → bounds_from x o ≡ Ok y → SpellsFront (Anywhere SpellsBounds) p ts y
bounds_spelled p ts x f None e y g = subst (SpellsFront (Anywhere SpellsBounds) p ts) (same_ok g) (f.0, f.1, f.2, f.3)
bounds_spelled p ts x f (Some us) e y g =
    let m = mapped_ok (limits.Stated (Some x.value)) (integer_at (x.next + 1) us) y g in
    let r = integer_reads (x.next + 1) us m.0 m.1 in
    let b = two p x.next m.0.next ts x.rest m.0.rest f.0 (Sign Colon ∷ r.0) f.1 f.2 (colon_first x.rest us e ∙ ap (λ vs. Sign Colon ∷ vs) r.1) (omega (arith, r.2)) in
    subst (SpellsFront (Anywhere SpellsBounds) p ts) m.2 (f.0 ++ Sign Colon ∷ r.0, b.0, b.1, (f.0, r.0, refl, f.3, r.3))

stated_reads : Reads stated_at (Anywhere SpellsBounds)
stated_reads = more_reads integer_at is_colon bounds_from (Anywhere SpellsInteger) (Anywhere SpellsBounds) integer_reads bounds_spelled

-- what a `*` says
star_spelled : {A : Type 0} (Spells : Tokens → A → Type 0) (x : A) → Spells (Sign Times ∷ []) x → (p : ℕ) (ts : Tokens) (y : Front A) → read_as x (p + 1) ts ≡ Ok y → SpellsFront (Anywhere Spells) p (Sign Times ∷ ts) y
star_spelled Spells x s p ts y h = subst (SpellsFront (Anywhere Spells) p (Sign Times ∷ ts)) (same_ok h) (Sign Times ∷ [], refl, refl, s)

pub bounds_reads : Reads bounds_at (Anywhere SpellsBounds)
unfolding bounds_at
bounds_reads p [] x h = stated_reads p [] x h
bounds_reads p (Sign Times ∷ ts) x h = star_spelled SpellsBounds limits.Any refl p ts x h
bounds_reads p (t ∷ ts) x h = stated_reads p (t ∷ ts) x h

dimensions_so : (p : ℕ) (ts : Tokens) (o : Option (List WrittenBounds)) → SpellsOptional (SpellsList Commas SpellsBounds) ts o → SpellsDimensions ts (or_none o)
dimensions_so p ts None s = s
dimensions_so p ts (Some []) s = absurd s.2
dimensions_so p ts (Some (b ∷ bs)) s = s

pub dimensions_reads : Reads dimensions_at (Anywhere SpellsDimensions)
unfolding dimensions_at
dimensions_reads =
    mapped_reads or_none (λ p ts. if_open (list_at Commas bounds_at) p ts (rest_after is_open ts)) (Anywhere (SpellsOptional (SpellsList Commas SpellsBounds))) (Anywhere SpellsDimensions)
    (optional_reads (list_at Commas bounds_at) (SpellsList Commas SpellsBounds) (list_reads Commas bounds_at SpellsBounds bounds_reads)) dimensions_so

number_extents : Reads (λ p ts. mapped extent.Stated (number_at p ts)) (Anywhere SpellsLength)
number_extents = mapped_reads extent.Stated number_at (Anywhere SpellsNumber) (Anywhere SpellsLength) number_reads (λ p ts n s. s)

extent_reads : Reads extent_at (Anywhere SpellsLength)
unfolding extent_at
extent_reads p [] x h = number_extents p [] x h
extent_reads p (Sign Times ∷ ts) x h = star_spelled SpellsLength extent.Any refl p ts x h
extent_reads p (t ∷ ts) x h = number_extents p (t ∷ ts) x h

pub length_reads : Reads length_at (Anywhere (SpellsOptional SpellsLength))
unfolding length_at
length_reads = optional_reads extent_at SpellsLength extent_reads

scaled_spelled : (p : ℕ) (ts : Tokens) (x : Front ℕ) → SpellsFront (Anywhere SpellsNumber) p ts x → (o : Option Tokens)
    → rest_after is_comma x.rest ≡ o → (y : Front ℕ) → with_scale x o ≡ Ok y → SpellsFront (Anywhere SpellsScaled) p ts y
scaled_spelled p ts x f None e y g = subst (SpellsFront (Anywhere SpellsScaled) p ts) (same_ok g) (f.0, f.1, f.2, inl f.3)
scaled_spelled p ts x f (Some us) e y g =
    let m = bind_ok (taken is_zero ConstantExpected (x.next + 1) us) _ y g in
    let z = zero_first us m.0 (taken_ok is_zero ConstantExpected (x.next + 1) us m.0 m.1) in
    let b = two p x.next (x.next + 2) ts x.rest m.0 f.0 (Sign Comma ∷ Decimal 0 1 ∷ []) f.1 f.2 (comma_first x.rest us e ∙ ap (λ vs. Sign Comma ∷ vs) z) refl in
    subst (SpellsFront (Anywhere SpellsScaled) p ts) (same_ok m.2) (f.0 ++ Sign Comma ∷ Decimal 0 1 ∷ [], b.0, b.1, inr (f.0, refl, f.3))

scaled_reads : Reads scaled_at (Anywhere SpellsScaled)
unfolding scaled_at
scaled_reads = more_reads number_at is_comma with_scale (Anywhere SpellsNumber) (Anywhere SpellsScaled) number_reads scaled_spelled

pub precision_reads : Reads precision_at (Anywhere (SpellsOptional SpellsScaled))
unfolding precision_at
precision_reads = optional_reads scaled_at SpellsScaled scaled_reads

pub name_reads : Reads name_at (Anywhere SpellsName)
unfolding name_at name_first
name_reads p [] x h = cc
name_reads p (Word n ∷ ts) x h = subst (SpellsFront (Anywhere SpellsName) p (Word n ∷ ts)) (same_ok h) (Word n ∷ [], refl, refl, refl)
name_reads p (t ∷ ts) x h = cc

pub identifier_reads : Reads identifier_at SpellsIdentifier
unfolding identifier_at
identifier_reads p ts y h =
    let g = mapped_ok (λ n. record { name = n; at = p }) (name_at p ts) y h in
    let f = name_reads p ts g.0 g.1 in
    subst (SpellsFront SpellsIdentifier p ts) g.2 (f.0, f.1, f.2, (f.3, refl))

area_reads : Reads area_at (Anywhere (SpellsOptional SpellsName))
unfolding area_at
area_reads = optional_reads name_at SpellsName name_reads

locator_reads : Reads locator_at (Anywhere (SpellsOptional (SpellsList Periods SpellsName)))
unfolding locator_at
locator_reads = optional_reads (list_at Periods name_at) (SpellsList Periods SpellsName) (list_reads Periods name_at SpellsName name_reads)

repeated_spelled : (p : ℕ) (ts : Tokens) (y : Front InitialValue) → repeated_at (p + 1) ts ≡ Ok y → SpellsFront (Anywhere SpellsValue) p (Sign OpenParenthesis ∷ ts) y
unfolding repeated_at
repeated_spelled p ts y h =
    let g = bind_ok (enclosed (number_at (p + 1) ts)) _ y h in
    let f = enclosed_spelled number_at (Anywhere SpellsNumber) number_reads p (Sign OpenParenthesis ∷ ts) ts refl g.0 g.1 in
    let m = mapped_ok (initial.Integer (Some g.0.value)) (integer_at g.0.next g.0.rest) y g.2 in
    let r = integer_reads g.0.next g.0.rest m.0 m.1 in
    let b = two p g.0.next m.0.next (Sign OpenParenthesis ∷ ts) g.0.rest m.0.rest f.0 r.0 f.1 f.2 r.1 r.2 in
    let shape : f.0 ++ r.0 ≡ Sign OpenParenthesis ∷ f.3.0 ++ Sign CloseParenthesis ∷ r.0 =
    ap (λ us. us ++ r.0) f.3.1 ∙ ap (λ us. Sign OpenParenthesis ∷ us) (append_assoc f.3.0 (Sign CloseParenthesis ∷ []) r.0) in
    subst (SpellsFront (Anywhere SpellsValue) p (Sign OpenParenthesis ∷ ts)) m.2 (f.0 ++ r.0, b.0, b.1, (f.3.0, r.0, shape, f.3.2, r.3))

null_spelled : (p : ℕ) (ts : Tokens) (y : Front InitialValue) → null_from (p + 1) ts (rest_after is_open ts) ≡ Ok y → SpellsFront (Anywhere SpellsValue) p (Word (codes "NULL") ∷ ts) y
null_spelled p ts y h = by (rest_after is_open ts) refl h
  where
    by : (o : Option Tokens) → rest_after is_open ts ≡ o → null_from (p + 1) ts o ≡ Ok y → SpellsFront (Anywhere SpellsValue) p (Word (codes "NULL") ∷ ts) y
    by None e g = subst (SpellsFront (Anywhere SpellsValue) p (Word (codes "NULL") ∷ ts)) (same_ok g) (Word (codes "NULL") ∷ [], refl, refl, inl refl)
    by (Some us) e g =
        let m = bind_ok (taken is_close ParenthesisExpected (p + 1 + 1) us) _ y g in
        let z = close_first us m.0 (taken_ok is_close ParenthesisExpected (p + 1 + 1) us m.0 m.1) in
        let place : p + 1 + 2 ≡ p + 3 = omega arith in
        subst (SpellsFront (Anywhere SpellsValue) p (Word (codes "NULL") ∷ ts)) (same_ok m.2) (
          Word (codes "NULL") ∷ Sign OpenParenthesis ∷ Sign CloseParenthesis ∷ [],
          ap (λ vs. Word (codes "NULL") ∷ vs) (open_first ts us e ∙ ap (λ vs. Sign OpenParenthesis ∷ vs) z),
          place,
          inr refl,
        )

integer_value_reads : Reads (λ p ts. mapped (initial.Integer None) (integer_at p ts)) (Anywhere SpellsValue)
integer_value_reads = mapped_reads (initial.Integer None) integer_at (Anywhere SpellsInteger) (Anywhere SpellsValue) integer_reads (λ p ts n s. s)

value_reads : Reads value_at (Anywhere SpellsValue)
unfolding value_at
value_reads p [] y h = integer_value_reads p [] y h
value_reads p (Characters s ∷ ts) y h = subst (SpellsFront (Anywhere SpellsValue) p (Characters s ∷ ts)) (same_ok h) (Characters s ∷ [], refl, refl, refl)
value_reads p (Bits s ∷ ts) y h = subst (SpellsFront (Anywhere SpellsValue) p (Bits s ∷ ts)) (same_ok h) (Bits s ∷ [], refl, refl, refl)
value_reads p (Sign OpenParenthesis ∷ ts) y h = repeated_spelled p ts y h
value_reads p (Word n ∷ ts) y h = by (same_name n (codes "NULL")) refl h
  where
    by : (b : Bool) → same_name n (codes "NULL") ≡ b → cond b (null_from (p + 1) ts (rest_after is_open ts)) (expected ConstantExpected p (Word n ∷ ts)) ≡ Ok y → SpellsFront (Anywhere SpellsValue) p (Word n ∷ ts) y
    by true e g = subst (λ m. SpellsFront (Anywhere SpellsValue) p (Word m ∷ ts) y) (sym (equal_from_pointwise n (codes "NULL") e)) (null_spelled p ts y g)
    by false e g = cc
value_reads p (t ∷ ts) y h = integer_value_reads p (t ∷ ts) y h

values_spelled : (p : ℕ) (ts : Tokens) (y : Front (List InitialValue)) → values_at p ts ≡ Ok y → SpellsFront (Anywhere (SpellsEnclosed (SpellsList Commas SpellsValue))) p ts y
unfolding values_at
values_spelled p ts y h =
    let g = bind_ok (taken is_open ParenthesisExpected p ts) _ y h in
    let f = enclosed_spelled (list_at Commas value_at) (Anywhere (SpellsList Commas SpellsValue)) (list_reads Commas value_at SpellsValue value_reads) p ts g.0 (open_first ts g.0 (taken_ok is_open ParenthesisExpected p ts g.0 g.1)) y g.2 in
    (f.0, f.1, f.2, f.3)

-- a simple attribute after its keyword
abbrev pub SpellsOf : SimpleWord → ℕ → Tokens → tree.SimpleAttribute → Type 0
SpellsOf w p ts a = (word_of a ≡ w) × SpellsAfter ts a

bare_reads : (w : SimpleWord) (a : tree.SimpleAttribute) → word_of a ≡ w → SpellsAfter [] a → Reads (read_as a) (SpellsOf w)
bare_reads w a is spelled p ts y h = subst (SpellsFront (SpellsOf w) p ts) (same_ok h) ([], refl, omega arith, (is, spelled))

pub simple_reads : (w : SimpleWord) → Reads (simple_of w) (SpellsOf w)
unfolding simple_of
simple_reads words.Fixed = mapped_reads tree.Fixed precision_at (Anywhere (SpellsOptional SpellsScaled)) (SpellsOf words.Fixed) precision_reads (λ p ts n s. (refl, s))
simple_reads words.Binary = mapped_reads tree.Binary precision_at (Anywhere (SpellsOptional SpellsScaled)) (SpellsOf words.Binary) precision_reads (λ p ts n s. (refl, s))
simple_reads words.Character = mapped_reads tree.Character length_at (Anywhere (SpellsOptional SpellsLength)) (SpellsOf words.Character) length_reads (λ p ts n s. (refl, s))
simple_reads words.Bit = mapped_reads tree.Bit length_at (Anywhere (SpellsOptional SpellsLength)) (SpellsOf words.Bit) length_reads (λ p ts n s. (refl, s))
simple_reads words.Area = mapped_reads tree.Area length_at (Anywhere (SpellsOptional SpellsLength)) (SpellsOf words.Area) length_reads (λ p ts n s. (refl, s))
simple_reads words.Offset = mapped_reads tree.Offset area_at (Anywhere (SpellsOptional SpellsName)) (SpellsOf words.Offset) area_reads (λ p ts n s. (refl, s))
simple_reads words.Based = mapped_reads tree.Based locator_at (Anywhere (SpellsOptional (SpellsList Periods SpellsName))) (SpellsOf words.Based) locator_reads (λ p ts n s. (refl, s))
simple_reads words.Initial = mapped_reads tree.Initial values_at (Anywhere (SpellsEnclosed (SpellsList Commas SpellsValue))) (SpellsOf words.Initial) values_spelled (λ p ts n s. (refl, s))
simple_reads words.Varying = bare_reads words.Varying tree.Varying refl refl
simple_reads words.Pointer = bare_reads words.Pointer tree.Pointer refl refl
simple_reads words.Controlled = bare_reads words.Controlled tree.Controlled refl refl
simple_reads words.Static = bare_reads words.Static tree.Static refl refl
simple_reads words.Automatic = bare_reads words.Automatic tree.Automatic refl refl
simple_reads words.External = bare_reads words.External tree.External refl refl
simple_reads words.Internal = bare_reads words.Internal tree.Internal refl refl
simple_reads words.Builtin = bare_reads words.Builtin tree.Builtin refl refl

-- the first token is an attribute's keyword
pub word_first : (ts us : Tokens) (w : AttributeWord) → attribute_first ts ≡ Some (w, us) → (k : Name) × (ts ≡ Word k ∷ us) × (attribute_word k ≡ Some w)
unfolding attribute_first
word_first [] us w h = cc
word_first (Word k ∷ ts) us w h = by (attribute_word k) refl h
  where
    by : (o : Option AttributeWord) → attribute_word k ≡ o → with_rest ts o ≡ Some (w, us) → (j : Name) × (Word k ∷ ts ≡ Word j ∷ us) × (attribute_word j ≡ Some w)
    by (Some v) e g =
        let pair : ◌≡◌ {A = AttributeWord × Tokens} (v, ts) (w, us) = some_same g in
        (k, ap (λ (x : AttributeWord × Tokens). Word k ∷ x.1) pair, e ∙ ap (λ (x : AttributeWord × Tokens). Some x.0) pair)
    by None e g = cc
word_first (t ∷ ts) us w h = cc

-- after its keyword a simple attribute is whole
pub simple_spelled : (p : ℕ) (ts us : Tokens) (w : SimpleWord) → attribute_first ts ≡ Some (attribute.Simple w, us) → (x : Front tree.SimpleAttribute) → simple_of w (p + 1) us ≡ Ok x → SpellsFront (Anywhere SpellsSimple) p ts x
simple_spelled p ts us w first x h =
    let k = word_first ts us (attribute.Simple w) first in
    let f = simple_reads w (p + 1) us x h in
    (Word k.0 ∷ f.0, k.1 ∙ ap (λ vs. Word k.0 ∷ vs) f.1, omega (arith, f.2), (k.0, f.0, refl, k.2 ∙ ap (λ v. Some (attribute.Simple v)) (sym f.3.0), f.3.1))

-- of ENTRY and RETURNS there is one spelling each
nesting_is : (k : Name) (w : AttributeWord) → nesting_word k ≡ Some w → ((w ≡ attribute.Entry) × (k ≡ codes "ENTRY")) ⊎ ((w ≡ attribute.Returns) × (k ≡ codes "RETURNS"))
unfolding nesting_word
nesting_is k w h = entry (same_name k (codes "ENTRY")) refl h
  where
    returns : (b : Bool) → same_name k (codes "RETURNS") ≡ b → cond b (Some attribute.Returns) None ≡ Some w → ((w ≡ attribute.Entry) × (k ≡ codes "ENTRY")) ⊎ ((w ≡ attribute.Returns) × (k ≡ codes "RETURNS"))
    returns true e g = inr (sym (some_same g), equal_from_pointwise k (codes "RETURNS") e)
    returns false e g = cc

    entry : (b : Bool) → same_name k (codes "ENTRY") ≡ b → cond b (Some attribute.Entry) (cond (same_name k (codes "RETURNS")) (Some attribute.Returns) None) ≡ Some w → ((w ≡ attribute.Entry) × (k ≡ codes "ENTRY")) ⊎ ((w ≡ attribute.Returns) × (k ≡ codes "RETURNS"))
    entry true e g = inl (sym (some_same g), equal_from_pointwise k (codes "ENTRY") e)
    entry false e g = returns (same_name k (codes "RETURNS")) refl g

no_simple : (o q : Option SimpleWord) (n : Option AttributeWord) (w : AttributeWord) → word_or o (word_or q n) ≡ Some w → ((v : SimpleWord) → w ≡ attribute.Simple v → ⊥) → n ≡ Some w
no_simple (Some v) q n w h not = absurd (not v (sym (some_same h)))
no_simple None (Some v) n w h not = absurd (not v (sym (some_same h)))
no_simple None None n w h not = h

pub entry_is : (k : Name) → attribute_word k ≡ Some attribute.Entry → k ≡ codes "ENTRY"
unfolding attribute_word
entry_is k h =
    ⊎_elim (λ e. e.1) (λ e. absurd (cc (e.0)))
    (nesting_is k attribute.Entry (no_simple (data_word k) (storage_word k) (nesting_word k) attribute.Entry h (λ v e. cc)))

pub returns_is : (k : Name) → attribute_word k ≡ Some attribute.Returns → k ≡ codes "RETURNS"
unfolding attribute_word
returns_is k h =
    ⊎_elim (λ e. absurd (cc (e.0))) (λ e. e.1)
    (nesting_is k attribute.Returns (no_simple (data_word k) (storage_word k) (nesting_word k) attribute.Returns h (λ v e. cc)))

-- A fault of reading stands at one of the tokens, or at the last where they have ended.
use Rattle.std.proofs.Common.{◌≡◌, ◌<◌, ◌≤◌, ◌+◌, ℕ, suc, zero, Bool, true, false, cond, List, [], ◌∷◌, ◌++◌, Option, Some, None, Result, Ok, Err, length, codes, refl, ap, arith, length-append}
use Rattle.pli_base.specs.FaultPlaces.{FaultStands, Passes}
use Rattle.pli_base.specs.laws.FaultPlaceLaws.{passes_none, passes_one, passes_on}
use Rattle.pli_parse_fault.specs.FaultCodes.{is_of_part, IsToldOf}
use Rattle.pli_parse_fault.proofs.ToldFaults.{told_after, told_stands}
use Rattle.pli_base.specs.Words.{Tokens, same_name, is_open, is_close, is_comma, is_semicolon}
use Rattle.pli_base.specs.Results.{◌>>=◌}
use Rattle.pli_base.specs.Reading.{Front}
use Rattle.pli_base.specs.declared.code.Code.{Code}
use Rattle.pli_base.specs.declared.code.Code.TheVariants.{ParenthesisExpected, SemicolonExpected, NameExpected, BadAttribute, ConstantExpected}
use Rattle.pli_base.specs.declared.token.Fault.{Fault}
use Rattle.pli_base.specs.declared.token.Sign.TheVariants.{OpenParenthesis, Plus, Minus, Times}
use Rattle.pli_base.specs.declared.token.TokenText.{TokenText}
use Rattle.pli_base.specs.declared.token.TokenText.TheVariants.{Word, Decimal, Binary, Characters, Bits, Sign}
use Rattle.pli_base.specs.Declarations as tree
use Rattle.pli_base.specs.declared.syntax.Identifier.{Identifier}
use Rattle.pli_base.specs.declared.declaration.Integer.{Integer}
use Rattle.pli_base.specs.declared.declaration.WrittenBounds.TheVariants as limits
use Rattle.pli_base.specs.declared.declaration.WrittenLength.TheVariants as extent
use Rattle.pli_base.specs.declared.declaration.InitialValue.{InitialValue}
use Rattle.pli_base.specs.declared.declaration.InitialValue.TheVariants as initial
use Rattle.pli_parse_declaration.specs.DeclarationWords.{attribute_first, with_attribute, begins_description, is_zero}
use Rattle.pli_base.specs.Words.{rest_after, name_first, is_colon}
use Rattle.pli_parse_declaration.specs.DeclarationReading.{listed_after, listed_at, list_at, number_at, signed, integer_at, bounds_from, stated_at, bounds_at, dimensions_at, extent_at, length_at, with_scale, scaled_at, precision_at, name_at, identifier_at, area_at, locator_at, repeated_at, null_from, value_at, values_at, simple_of, Walk, description_walk, parameters_walk, entry_walk, word_walk, closed_walk, comma_walk, after_attributes_walk, no_word_walk, walk_by, step_at, walked_after, walked, nest_at, described_from, described_at, parameter_at, parameters_from, parameters_at, entry_from, entry_at, returned_at, attribute_from, attribute_at, attributes_from, attributes_at, level_at, names_from, names_at, item_at, items_at, declaration_at}
use Rattle.pli_base.specs.Reading.{expected, read_as, mapped, taken, taken_or, enclosed, if_open, or_none}
use Rattle.pli_parse_declaration.specs.declared.list.Separator.{Separator}
use Rattle.pli_parse_declaration.specs.declared.list.Separator.TheVariants.{Commas, Periods, Nothing}
use Rattle.pli_parse_declaration.specs.Separators.{separated, after_separator}
use Rattle.pli_parse_declaration.specs.DeclarationGrammar.{between}
use Rattle.pli_parse_declaration.specs.declared.nest.Open.{Open}
use Rattle.pli_parse_declaration.specs.declared.nest.Open.TheVariants as opened
use Rattle.pli_parse_declaration.specs.declared.nest.Expects.{Expects}
use Rattle.pli_parse_declaration.specs.declared.nest.Expects.TheVariants as expects
use Rattle.pli_parse_declaration.specs.declared.word.SimpleWord.{SimpleWord}
use Rattle.pli_parse_declaration.specs.declared.word.SimpleWord.TheVariants as words
use Rattle.pli_parse_declaration.specs.declared.word.AttributeWord.{AttributeWord}
use Rattle.pli_parse_declaration.specs.declared.word.AttributeWord.TheVariants as attribute
use Rattle.pli_parse_fault.proofs.ReadingFaults.{Stands, misfit_stands, at_least, stands_after, stands_then, stands_made, mapped_stands, fault_of}
use Rattle.pli_parse_declaration.proofs.DeclarationSteps.{first_is, separator_first, separator_place}
use Rattle.pli_parse_declaration.proofs.DeclarationRead.{word_first}

-- a reader passes over a token at least
abbrev pub IsSound : {A : Type 0} → (one : ℕ → Tokens → Result (Front A) Fault) → Type 0
IsSound one = (p : ℕ) (ts : Tokens) → Stands 1 p ts (one p ts)

pub mapped_sound : {A B : Type 0} (f : A → B) (one : ℕ → Tokens → Result (Front A) Fault) → IsSound one → IsSound (λ p ts. mapped f (one p ts))
mapped_sound f one sound p ts = mapped_stands 1 p ts f (one p ts) (sound p ts)

-- the first token fits
pub one_less : (fits : TokenText → Bool) (ts us : Tokens) → rest_after fits ts ≡ Some us → length ts ≡ suc (length us)
one_less fits ts us h = let f = first_is fits ts us h in ap length f.2

-- after a token that must stand
pub taken_then : {A : Type 0} (fits : TokenText → Bool) (code : Code) → is_of_part code ≡ true → (b p : ℕ) (ts : Tokens) (f : Tokens → Result (Front A) Fault)
    → ((us : Tokens) → Stands b (p + 1) us (f us)) → Stands (1 + b) p ts (taken fits code p ts >>= f)
unfolding taken
taken_then {A = A} fits code part b p ts f more = by (rest_after fits ts) refl
  where
    by : (o : Option Tokens) → rest_after fits ts ≡ o → Stands {A = A} (1 + b) p ts (taken_or code p ts o >>= f)
    by None e = misfit_stands code part p ts
    by (Some us) e = stands_after 1 b p (p + 1) ts us (f us) (passes_one p ts us (one_less fits ts us e)) (more us)

pub enclosed_stands : {A : Type 0} (a p : ℕ) (ts : Tokens) (r : Result (Front A) Fault) → Stands a p ts r → Stands (a + 1) p ts (enclosed r)
enclosed_stands a p ts r h =
    stands_then a 1 p ts r (λ x. taken is_close ParenthesisExpected x.next x.rest >>= λ rest. read_as x.value (x.next + 1) rest) h
    (λ x s. taken_then is_close ParenthesisExpected refl 0 x.next x.rest (λ rest. read_as x.value (x.next + 1) rest) (λ us. passes_none (x.next + 1) us))

pub optional_stands : {A : Type 0} (one : ℕ → Tokens → Result (Front A) Fault) → IsSound one → (p : ℕ) (ts : Tokens) → Stands 0 p ts (if_open one p ts (rest_after is_open ts))
optional_stands {A = A} one sound p ts = by (rest_after is_open ts) refl
  where
    by : (o : Option Tokens) → rest_after is_open ts ≡ o → Stands {A = Option A} 0 p ts (if_open one p ts o)
    by None e = passes_none p ts
    by (Some us) e =
        at_least 3 0 p ts (mapped Some (enclosed (one (p + 1) us))) (omega arith)
        (stands_after 1 2 p (p + 1) ts us (mapped Some (enclosed (one (p + 1) us))) (passes_one p ts us (one_less is_open ts us e))
        (mapped_stands 2 (p + 1) us Some (enclosed (one (p + 1) us)) (enclosed_stands 1 (p + 1) us (one (p + 1) us) (sound (p + 1) us))))

-- a list
module _ {A : Type 0} (s : Separator) (one : ℕ → Tokens → Result (Front A) Fault) (sound : IsSound one) where
  after_stands : (more : ℕ → Tokens → Result (Front (List A)) Fault) → (x : Front A) → ((p : ℕ) (ts : Tokens) → length ts ≤ length x.rest → Stands 1 p ts (more p ts))
      → (o : Option Tokens) → separated s x.rest ≡ o → Stands {A = List A} 0 x.next x.rest (listed_after s more x o)
  after_stands more x more_stands None e = passes_none x.next x.rest
  after_stands more x more_stands (Some us) e =
      let first : x.rest ≡ between s ++ us = separator_first s x.rest us e in
      let whole : length x.rest ≡ length (between s) + length us = omega (arith, ap length first, length-append (between s) us) in
      let place : after_separator s x.next ≡ x.next + length (between s) = separator_place s x.next in
      let read : Result (Front (List A)) Fault = more (after_separator s x.next) us in
      let made : Result (Front (List A)) Fault = read >>= λ y. read_as (x.value ∷ y.value) y.next y.rest in
      at_least 1 0 x.next x.rest made (omega arith)
      (stands_after 0 1 x.next (after_separator s x.next) x.rest us made (omega arith, omega arith)
      (stands_made 1 (after_separator s x.next) us read (λ y. x.value ∷ y.value) (more_stands (after_separator s x.next) us (omega arith))))

  pub listed_stands : (bound p : ℕ) (ts : Tokens) → length ts < bound → Stands {A = List A} 1 p ts (listed_at s one bound p ts)
  unfolding listed_at
  listed_stands zero p ts small = absurd (omega arith)
  listed_stands (suc bound) p ts small =
      stands_then 1 0 p ts (one p ts) (λ x. listed_after s (listed_at s one bound) x (separated s x.rest)) (sound p ts)
      (λ x t. after_stands (listed_at s one bound) x (λ q us less. listed_stands bound q us (omega (arith, t.0, t.1))) (separated s x.rest) refl)

  pub list_sound : IsSound (list_at s one)
  list_sound p ts = listed_stands (length ts + 1) p ts (omega arith)

number_sound : IsSound number_at
unfolding number_at
number_sound p [] = misfit_stands ConstantExpected refl p []
number_sound p (Decimal v d ∷ ts) = passes_one p (Decimal v d ∷ ts) ts (omega arith)
number_sound p (Binary v d ∷ ts) = passes_one p (Binary v d ∷ ts) ts (omega arith)
number_sound p (t ∷ ts) = misfit_stands ConstantExpected refl p (t ∷ ts)

signed_sound : (negative : Bool) → IsSound (λ p ts. signed negative (number_at p ts))
signed_sound negative = mapped_sound (λ v. record { negative = negative; value = v }) number_at number_sound

after_sign : (negative : Bool) (p : ℕ) (t : TokenText) (ts : Tokens) → Stands 1 p (t ∷ ts) (signed negative (number_at (p + 1) ts))
after_sign negative p t ts =
    let read : Result (Front Integer) Fault = signed negative (number_at (p + 1) ts) in
    at_least 2 1 p (t ∷ ts) read (omega arith) (stands_after 1 1 p (p + 1) (t ∷ ts) ts read (passes_one p (t ∷ ts) ts (omega arith)) (signed_sound negative (p + 1) ts))

integer_sound : IsSound integer_at
unfolding integer_at
integer_sound p [] = signed_sound false p []
integer_sound p (Sign Plus ∷ ts) = after_sign false p (Sign Plus) ts
integer_sound p (Sign Minus ∷ ts) = after_sign true p (Sign Minus) ts
integer_sound p (t ∷ ts) = signed_sound false p (t ∷ ts)

-- a value, and more after a token, if that comes
more_sound : {A B : Type 0} (one : ℕ → Tokens → Result (Front A) Fault) (fits : TokenText → Bool)
    (after : Front A → Option Tokens → Result (Front B) Fault) → IsSound one
    → ((x : Front A) → Stands 0 x.next x.rest (after x None))
    → ((x : Front A) (us : Tokens) → Stands 1 (x.next + 1) us (after x (Some us)))
    → IsSound (λ p ts. one p ts >>= λ x. after x (rest_after fits x.rest))
more_sound one fits after sound alone more p ts =
    stands_then 1 0 p ts (one p ts) (λ x. after x (rest_after fits x.rest)) (sound p ts) (λ x s. by x (rest_after fits x.rest) refl)
  where
    by : (x : Front _) (o : Option Tokens) → rest_after fits x.rest ≡ o → Stands 0 x.next x.rest (after x o)
    by x None e = alone x
    by x (Some us) e =
        at_least 2 0 x.next x.rest (after x (Some us)) (omega arith)
        (stands_after 1 1 x.next (x.next + 1) x.rest us (after x (Some us)) (passes_one x.next x.rest us (one_less fits x.rest us e)) (more x us))

stated_sound : IsSound stated_at
stated_sound =
    more_sound integer_at is_colon bounds_from integer_sound (λ x. passes_none x.next x.rest)
    (λ x us. mapped_stands 1 (x.next + 1) us (limits.Stated (Some x.value)) (integer_at (x.next + 1) us) (integer_sound (x.next + 1) us))

bounds_sound : IsSound bounds_at
unfolding bounds_at
bounds_sound p [] = stated_sound p []
bounds_sound p (Sign Times ∷ ts) = passes_one p (Sign Times ∷ ts) ts (omega arith)
bounds_sound p (t ∷ ts) = stated_sound p (t ∷ ts)

pub dimensions_stand : (p : ℕ) (ts : Tokens) → Stands 0 p ts (dimensions_at p ts)
unfolding dimensions_at
dimensions_stand p ts =
    mapped_stands 0 p ts or_none (if_open (list_at Commas bounds_at) p ts (rest_after is_open ts)) (optional_stands (list_at Commas bounds_at) (list_sound Commas bounds_at bounds_sound) p ts)

number_extents : IsSound (λ p ts. mapped extent.Stated (number_at p ts))
number_extents = mapped_sound extent.Stated number_at number_sound

extent_sound : IsSound extent_at
unfolding extent_at
extent_sound p [] = number_extents p []
extent_sound p (Sign Times ∷ ts) = passes_one p (Sign Times ∷ ts) ts (omega arith)
extent_sound p (t ∷ ts) = number_extents p (t ∷ ts)

length_stands : (p : ℕ) (ts : Tokens) → Stands 0 p ts (length_at p ts)
unfolding length_at
length_stands p ts = optional_stands extent_at extent_sound p ts

scaled_sound : IsSound scaled_at
unfolding scaled_at
scaled_sound =
    more_sound number_at is_comma with_scale number_sound (λ x. passes_none x.next x.rest)
    (λ x us. taken_then is_zero ConstantExpected refl 0 (x.next + 1) us (λ rest. read_as x.value (x.next + 2) rest) (λ rest. (omega arith, omega arith)))

precision_stands : (p : ℕ) (ts : Tokens) → Stands 0 p ts (precision_at p ts)
unfolding precision_at
precision_stands p ts = optional_stands scaled_at scaled_sound p ts

name_sound : IsSound name_at
unfolding name_at name_first
name_sound p [] = misfit_stands NameExpected refl p []
name_sound p (Word n ∷ ts) = passes_one p (Word n ∷ ts) ts (omega arith)
name_sound p (t ∷ ts) = misfit_stands NameExpected refl p (t ∷ ts)

pub identifier_sound : IsSound identifier_at
unfolding identifier_at
identifier_sound p ts = mapped_stands 1 p ts (λ n. record { name = n; at = p }) (name_at p ts) (name_sound p ts)

area_stands : (p : ℕ) (ts : Tokens) → Stands 0 p ts (area_at p ts)
unfolding area_at
area_stands p ts = optional_stands name_at name_sound p ts

locator_stands : (p : ℕ) (ts : Tokens) → Stands 0 p ts (locator_at p ts)
unfolding locator_at
locator_stands p ts = optional_stands (list_at Periods name_at) (list_sound Periods name_at name_sound) p ts

repeated_stands : (p : ℕ) (ts : Tokens) → Stands 3 p ts (repeated_at p ts)
unfolding repeated_at
repeated_stands p ts =
    stands_then 2 1 p ts (enclosed (number_at p ts)) (λ factor. mapped (initial.Integer (Some factor.value)) (integer_at factor.next factor.rest)) (enclosed_stands 1 p ts (number_at p ts) (number_sound p ts))
    (λ factor s. mapped_stands 1 factor.next factor.rest (initial.Integer (Some factor.value)) (integer_at factor.next factor.rest) (integer_sound factor.next factor.rest))

null_stands : (p : ℕ) (ts : Tokens) → Stands 0 p ts (null_from p ts (rest_after is_open ts))
null_stands p ts = by (rest_after is_open ts) refl
  where
    by : (o : Option Tokens) → rest_after is_open ts ≡ o → Stands 0 p ts (null_from p ts o)
    by None e = passes_none p ts
    by (Some us) e =
        let read : Result (Front InitialValue) Fault = taken is_close ParenthesisExpected (p + 1) us >>= λ rest. read_as initial.Null (p + 2) rest in
        at_least 2 0 p ts read (omega arith)
        (stands_after 1 1 p (p + 1) ts us read (passes_one p ts us (one_less is_open ts us e))
        (taken_then is_close ParenthesisExpected refl 0 (p + 1) us (λ rest. read_as initial.Null (p + 2) rest) (λ rest. (omega arith, omega arith))))

integer_value_sound : IsSound (λ p ts. mapped (initial.Integer None) (integer_at p ts))
integer_value_sound = mapped_sound (initial.Integer None) integer_at integer_sound

value_sound : IsSound value_at
unfolding value_at
value_sound p [] = integer_value_sound p []
value_sound p (Characters s ∷ ts) = passes_one p (Characters s ∷ ts) ts (omega arith)
value_sound p (Bits s ∷ ts) = passes_one p (Bits s ∷ ts) ts (omega arith)
value_sound p (Sign OpenParenthesis ∷ ts) =
    let us : Tokens = Sign OpenParenthesis ∷ ts in
    at_least 4 1 p us (repeated_at (p + 1) ts) (omega arith) (stands_after 1 3 p (p + 1) us ts (repeated_at (p + 1) ts) (passes_one p us ts (omega arith)) (repeated_stands (p + 1) ts))
value_sound p (Word n ∷ ts) = by (same_name n (codes "NULL"))
  where
    by : (b : Bool) → Stands 1 p (Word n ∷ ts) (cond b (null_from (p + 1) ts (rest_after is_open ts)) (expected ConstantExpected p (Word n ∷ ts)))
    by true = stands_after 1 0 p (p + 1) (Word n ∷ ts) ts (null_from (p + 1) ts (rest_after is_open ts)) (passes_one p (Word n ∷ ts) ts (omega arith)) (null_stands (p + 1) ts)
    by false = misfit_stands ConstantExpected refl p (Word n ∷ ts)
value_sound p (t ∷ ts) = integer_value_sound p (t ∷ ts)

values_stand : (p : ℕ) (ts : Tokens) → Stands 3 p ts (values_at p ts)
unfolding values_at
values_stand p ts =
    taken_then is_open ParenthesisExpected refl 2 p ts (λ us. enclosed (list_at Commas value_at (p + 1) us))
    (λ us. enclosed_stands 1 (p + 1) us (list_at Commas value_at (p + 1) us) (list_sound Commas value_at value_sound (p + 1) us))

simple_stands : (w : SimpleWord) (p : ℕ) (ts : Tokens) → Stands 0 p ts (simple_of w p ts)
unfolding simple_of
simple_stands words.Fixed p ts = mapped_stands 0 p ts tree.Fixed (precision_at p ts) (precision_stands p ts)
simple_stands words.Binary p ts = mapped_stands 0 p ts tree.Binary (precision_at p ts) (precision_stands p ts)
simple_stands words.Character p ts = mapped_stands 0 p ts tree.Character (length_at p ts) (length_stands p ts)
simple_stands words.Bit p ts = mapped_stands 0 p ts tree.Bit (length_at p ts) (length_stands p ts)
simple_stands words.Area p ts = mapped_stands 0 p ts tree.Area (length_at p ts) (length_stands p ts)
simple_stands words.Offset p ts = mapped_stands 0 p ts tree.Offset (area_at p ts) (area_stands p ts)
simple_stands words.Based p ts = mapped_stands 0 p ts tree.Based (locator_at p ts) (locator_stands p ts)
simple_stands words.Initial p ts = at_least 3 0 p ts (mapped tree.Initial (values_at p ts)) (omega arith) (mapped_stands 3 p ts tree.Initial (values_at p ts) (values_stand p ts))
simple_stands w p ts = passes_none p ts

-- the first token is an attribute's keyword
keyword_less : (ts us : Tokens) (w : AttributeWord) → attribute_first ts ≡ Some (w, us) → length ts ≡ suc (length us)
keyword_less ts us w h = ap length (word_first ts us w h).1

-- nests: a step of the walk
abbrev WalkStands : (least p : ℕ) → Tokens → Result Walk Fault → Type 0
WalkStands least p ts (Ok w) = Passes least p ts w.next w.rest
WalkStands least p ts (Err f) = IsToldOf p ts f

walk_after : (a b p q : ℕ) (ts us : Tokens) (r : Result Walk Fault) → Passes a p ts q us → WalkStands b q us r → WalkStands (a + b) p ts r
walk_after a b p q ts us (Ok w) passed h = passes_on a b p q w.next ts us w.rest passed h
walk_after a b p q ts us (Err f) passed h = told_after a p q ts us f passed h

walk_least : (most least p : ℕ) (ts : Tokens) (r : Result Walk Fault) → least ≤ most → WalkStands most p ts r → WalkStands least p ts r
walk_least most least p ts (Ok w) less h = (omega (arith, h.0), h.1)
walk_least most least p ts (Err f) less h = h

walk_made : {A : Type 0} (a p : ℕ) (ts : Tokens) (r : Result (Front A) Fault) (opens : List Open) (what : Expects) → Stands a p ts r → WalkStands a p ts (r >>= λ x. Ok (record { opens = opens; expects = what; next = x.next; rest = x.rest }))
walk_made a p ts (Ok x) opens what h = h
walk_made a p ts (Err e) opens what h = h

description_stands : (opens : List Open) (p : ℕ) (ts : Tokens) → WalkStands 0 p ts (description_walk opens p ts)
unfolding description_walk
description_stands opens p ts = walk_made 0 p ts (dimensions_at p ts) (opened.Entry ∷ opens) expects.Attribute (dimensions_stand p ts)

parameters_walk_stands : (opens : List Open) (p : ℕ) (us : Tokens) (o : Option Tokens) → rest_after is_close us ≡ o → WalkStands 0 p us (parameters_walk opens p us o)
parameters_walk_stands opens p us (Some vs) e =
    walk_least 1 0 p us (Ok (record { opens = opens; expects = expects.More; next = p + 1; rest = vs })) (omega arith) (passes_one p us vs (one_less is_close us vs e))
parameters_walk_stands opens p us None e = by (begins_description us)
  where
    by : (b : Bool) → WalkStands 0 p us (cond b (description_walk opens p us) (expected ParenthesisExpected p us))
    by true = description_stands opens p us
    by false = misfit_stands ParenthesisExpected refl p us

entry_walk_stands : (opens : List Open) (p : ℕ) (ts : Tokens) (o : Option Tokens) → rest_after is_open ts ≡ o → WalkStands 0 p ts (entry_walk opens p ts o)
entry_walk_stands opens p ts None e = passes_none p ts
entry_walk_stands opens p ts (Some us) e =
    let read : Result Walk Fault = parameters_walk opens (p + 1) us (rest_after is_close us) in
    walk_least 1 0 p ts read (omega arith) (walk_after 1 0 p (p + 1) ts us read (passes_one p ts us (one_less is_open ts us e)) (parameters_walk_stands opens (p + 1) us (rest_after is_close us) refl))

word_walk_stands : (opens : List Open) (w : AttributeWord) (p : ℕ) (ts : Tokens) → WalkStands 0 p ts (word_walk opens w p ts)
unfolding word_walk taken
word_walk_stands opens (attribute.Simple w) p ts = walk_made 0 p ts (simple_of w p ts) opens expects.More (simple_stands w p ts)
word_walk_stands opens attribute.Entry p ts = entry_walk_stands opens p ts (rest_after is_open ts) refl
word_walk_stands opens attribute.Returns p ts = by (rest_after is_open ts) refl
  where
    by : (o : Option Tokens) → rest_after is_open ts ≡ o → WalkStands 0 p ts (taken_or ParenthesisExpected p ts o >>= λ us. Ok (record { opens = opened.Returns ∷ opens; expects = expects.Attribute; next = p + 1; rest = us }))
    by (Some us) e =
        walk_least 1 0 p ts (Ok (record { opens = opened.Returns ∷ opens; expects = expects.Attribute; next = p + 1; rest = us })) (omega arith) (passes_one p ts us (one_less is_open ts us e))
    by None e = misfit_stands ParenthesisExpected refl p ts

closed_walk_stands : (opens : List Open) (p : ℕ) (ts : Tokens) (o : Option Tokens) → rest_after is_close ts ≡ o → WalkStands 1 p ts (closed_walk opens p ts o)
closed_walk_stands opens p ts (Some us) e = passes_one p ts us (one_less is_close ts us e)
closed_walk_stands opens p ts None e = misfit_stands ParenthesisExpected refl p ts

comma_walk_stands : (opens : List Open) (p : ℕ) (ts : Tokens) (o : Option Tokens) → rest_after is_comma ts ≡ o → WalkStands 1 p ts (comma_walk opens p ts o)
comma_walk_stands opens p ts (Some us) e = walk_after 1 0 p (p + 1) ts us (description_walk opens (p + 1) us) (passes_one p ts us (one_less is_comma ts us e)) (description_stands opens (p + 1) us)
comma_walk_stands opens p ts None e = closed_walk_stands opens p ts (rest_after is_close ts) refl

after_attributes_walk_stands : (opens : List Open) (p : ℕ) (ts : Tokens) → WalkStands 1 p ts (after_attributes_walk opens p ts)
unfolding after_attributes_walk
after_attributes_walk_stands [] p ts = misfit_stands ParenthesisExpected refl p ts
after_attributes_walk_stands (opened.Entry ∷ opens) p ts = comma_walk_stands opens p ts (rest_after is_comma ts) refl
after_attributes_walk_stands (opened.Returns ∷ opens) p ts = closed_walk_stands opens p ts (rest_after is_close ts) refl

step_stands : (opens : List Open) (what : Expects) (p : ℕ) (ts : Tokens) → WalkStands 1 p ts (step_at opens what p ts)
unfolding step_at
step_stands opens what p ts = by (attribute_first ts) refl
  where
    no_word : (e : Expects) → WalkStands 1 p ts (no_word_walk opens e p ts)
    no_word expects.Attribute = misfit_stands BadAttribute refl p ts
    no_word expects.More = after_attributes_walk_stands opens p ts

    by : (o : Option (AttributeWord × Tokens)) → attribute_first ts ≡ o → WalkStands 1 p ts (walk_by opens what p ts o)
    by (Some x) e = walk_after 1 0 p (p + 1) ts x.1 (word_walk opens x.0 (p + 1) x.1) (passes_one p ts x.1 (keyword_less ts x.1 x.0 e)) (word_walk_stands opens x.0 (p + 1) x.1)
    by None e = no_word what

walk_then : (a b p : ℕ) (ts : Tokens) (r : Result Walk Fault) (f : Walk → Result (Front (Unit {0})) Fault)
    → WalkStands a p ts r → ((w : Walk) → Passes a p ts w.next w.rest → Stands b w.next w.rest (f w)) → Stands (a + b) p ts (r >>= f)
walk_then a b p ts (Ok w) f h more = stands_after a b p w.next ts w.rest (f w) h (more w h)
walk_then a b p ts (Err e) f h more = h

after_walk : (more : List Open → Expects → ℕ → Tokens → Result (Front (Unit {0})) Fault) (opens : List Open) (what : Expects) (p : ℕ) (ts : Tokens)
    → ((opens : List Open) (what : Expects) → Stands 1 p ts (more opens what p ts)) → Stands 0 p ts (walked_after more opens what p ts)
after_walk more [] expects.More p ts stands = passes_none p ts
after_walk more [] expects.Attribute p ts stands = at_least 1 0 p ts (more [] expects.Attribute p ts) (omega arith) (stands [] expects.Attribute)
after_walk more (o ∷ opens) what p ts stands = at_least 1 0 p ts (more (o ∷ opens) what p ts) (omega arith) (stands (o ∷ opens) what)

walk_stands : (bound : ℕ) (opens : List Open) (what : Expects) (p : ℕ) (ts : Tokens) → length ts < bound → Stands 1 p ts (walked bound opens what p ts)
unfolding walked
walk_stands zero opens what p ts small = absurd (omega arith)
walk_stands (suc bound) opens what p ts small =
    walk_then 1 0 p ts (step_at opens what p ts) (λ w. walked_after (walked bound) w.opens w.expects w.next w.rest) (step_stands opens what p ts)
    (λ w s. after_walk (walked bound) w.opens w.expects w.next w.rest (λ o e. walk_stands bound o e w.next w.rest (omega (arith, s.0, s.1))))

nest_sound : IsSound nest_at
unfolding nest_at
nest_sound p ts = walk_stands (length ts + 1) [] expects.Attribute p ts (omega arith)

-- after the keyword of an attribute
keyword_stands : {A B : Type 0} (b p : ℕ) (ts us : Tokens) (w : AttributeWord) → attribute_first ts ≡ Some (w, us) → (make : A → B)
    (r : Result (Front A) Fault) → Stands b (p + 1) us r → Stands (1 + b) p ts (mapped make r)
keyword_stands b p ts us w e make r h =
    stands_after 1 b p (p + 1) ts us (mapped make r) (passes_one p ts us (keyword_less ts us w e)) (mapped_stands b (p + 1) us make r h)

described_stands : (p : ℕ) (ts : Tokens) (o : Option (AttributeWord × Tokens)) → attribute_first ts ≡ o
    → Stands 1 p ts (described_from p ts o)
described_stands p ts None e = misfit_stands BadAttribute refl p ts
described_stands p ts (Some (attribute.Simple w, us)) e =
    keyword_stands 0 p ts us (attribute.Simple w) e tree.Plain (simple_of w (p + 1) us) (simple_stands w (p + 1) us)
described_stands p ts (Some (attribute.Entry, us)) e = mapped_stands 1 p ts (λ nothing. tree.AnyEntry) (nest_at p ts) (nest_sound p ts)
described_stands p ts (Some (attribute.Returns, us)) e = mapped_stands 1 p ts (λ nothing. tree.AnyReturns) (nest_at p ts) (nest_sound p ts)

described_sound : IsSound described_at
unfolding described_at
described_sound p ts = described_stands p ts (attribute_first ts) refl

parameter_sound : IsSound parameter_at
unfolding parameter_at
parameter_sound p ts =
    stands_then 0 1 p ts (dimensions_at p ts) (λ d. list_at Nothing described_at d.next d.rest >>= λ a. read_as (record { dimensions = d.value; attributes = a.value }) a.next a.rest) (dimensions_stand p ts)
    (λ d s. stands_made 1 d.next d.rest (list_at Nothing described_at d.next d.rest) (λ a. record { dimensions = d.value; attributes = a.value }) (list_sound Nothing described_at described_sound d.next d.rest))

parameters_sound : IsSound parameters_at
unfolding parameters_at
parameters_sound p us = by (rest_after is_close us) refl
  where
    descriptions : (b : Bool) → Stands 1 p us (cond b (enclosed (list_at Commas parameter_at p us)) (expected ParenthesisExpected p us))
    descriptions true =
        at_least 2 1 p us (enclosed (list_at Commas parameter_at p us)) (omega arith) (enclosed_stands 1 p us (list_at Commas parameter_at p us) (list_sound Commas parameter_at parameter_sound p us))
    descriptions false = misfit_stands ParenthesisExpected refl p us

    by : (o : Option Tokens) → rest_after is_close us ≡ o → Stands 1 p us (parameters_from p us o)
    by (Some vs) e = passes_one p us vs (one_less is_close us vs e)
    by None e = descriptions (begins_description us)

entry_stands : (p : ℕ) (ts : Tokens) → Stands 0 p ts (entry_at p ts)
unfolding entry_at
entry_stands p ts = by (rest_after is_open ts) refl
  where
    by : (o : Option Tokens) → rest_after is_open ts ≡ o → Stands 0 p ts (entry_from p ts o)
    by None e = passes_none p ts
    by (Some us) e =
        let read : Result (Front (Option (List tree.ParameterDescription))) Fault = mapped Some (parameters_at (p + 1) us) in
        at_least 2 0 p ts read (omega arith)
        (stands_after 1 1 p (p + 1) ts us read (passes_one p ts us (one_less is_open ts us e)) (mapped_stands 1 (p + 1) us Some (parameters_at (p + 1) us) (parameters_sound (p + 1) us)))

pub returned_stands : (p : ℕ) (ts : Tokens) → Stands 3 p ts (returned_at p ts)
unfolding returned_at
returned_stands p ts =
    taken_then is_open ParenthesisExpected refl 2 p ts (λ us. enclosed (list_at Nothing described_at (p + 1) us))
    (λ us. enclosed_stands 1 (p + 1) us (list_at Nothing described_at (p + 1) us) (list_sound Nothing described_at described_sound (p + 1) us))

attribute_stands : (p : ℕ) (ts : Tokens) (o : Option (AttributeWord × Tokens)) → attribute_first ts ≡ o
    → Stands 1 p ts (attribute_from p ts o)
attribute_stands p ts None e = misfit_stands BadAttribute refl p ts
attribute_stands p ts (Some (attribute.Simple w, us)) e =
    keyword_stands 0 p ts us (attribute.Simple w) e tree.Simple (simple_of w (p + 1) us) (simple_stands w (p + 1) us)
attribute_stands p ts (Some (attribute.Entry, us)) e =
    keyword_stands 0 p ts us attribute.Entry e tree.Entry (entry_at (p + 1) us) (entry_stands (p + 1) us)
attribute_stands p ts (Some (attribute.Returns, us)) e =
    at_least 4 1 p ts (mapped tree.Returns (returned_at (p + 1) us)) (omega arith)
    (keyword_stands 3 p ts us attribute.Returns e tree.Returns (returned_at (p + 1) us) (returned_stands (p + 1) us))

attribute_sound : IsSound attribute_at
unfolding attribute_at
attribute_sound p ts = attribute_stands p ts (attribute_first ts) refl

attributes_stand : (p : ℕ) (ts : Tokens) → Stands 0 p ts (attributes_at p ts)
unfolding attributes_at
attributes_stand p ts = by (with_attribute ts)
  where
    by : (o : Option Tokens) → Stands 0 p ts (attributes_from p ts o)
    by None = passes_none p ts
    by (Some us) = at_least 1 0 p ts (list_at Nothing attribute_at p ts) (omega arith) (list_sound Nothing attribute_at attribute_sound p ts)

names_sound : IsSound names_at
unfolding names_at
names_sound p ts = by (rest_after is_open ts) refl
  where
    by : (o : Option Tokens) → rest_after is_open ts ≡ o → Stands 1 p ts (names_from p ts o)
    by None e = mapped_stands 1 p ts (λ x. x ∷ []) (identifier_at p ts) (identifier_sound p ts)
    by (Some us) e =
        let read : Result (Front (List Identifier)) Fault = enclosed (list_at Commas identifier_at (p + 1) us) in
        at_least 3 1 p ts read (omega arith)
        (stands_after 1 2 p (p + 1) ts us read (passes_one p ts us (one_less is_open ts us e))
        (enclosed_stands 1 (p + 1) us (list_at Commas identifier_at (p + 1) us) (list_sound Commas identifier_at identifier_sound (p + 1) us)))

level_passes : (p : ℕ) (ts : Tokens) → Passes 0 p ts (level_at p ts).next (level_at p ts).rest
unfolding level_at
level_passes p [] = passes_none p []
level_passes p (Decimal v d ∷ ts) = (omega arith, omega arith)
level_passes p (Binary v d ∷ ts) = (omega arith, omega arith)
level_passes p (t ∷ ts) = passes_none p (t ∷ ts)

-- an item after its level
item_after : (level : Front (Option ℕ)) → Stands {A = tree.Item} 1 level.next level.rest
    (names_at level.next level.rest >>= λ n. dimensions_at n.next n.rest >>= λ d. attributes_at d.next d.rest
    >>= λ a. read_as (record { level = level.value; names = n.value; dimensions = d.value; attributes = a.value }) a.next a.rest)
item_after level =
    stands_then 1 0 level.next level.rest (names_at level.next level.rest)
    (λ n. dimensions_at n.next n.rest >>= λ d. attributes_at d.next d.rest
    >>= λ a. read_as (record { level = level.value; names = n.value; dimensions = d.value; attributes = a.value }) a.next a.rest) (names_sound level.next level.rest)
    (λ n s. stands_then 0 0 n.next n.rest (dimensions_at n.next n.rest)
    (λ d. attributes_at d.next d.rest >>= λ a. read_as (record { level = level.value; names = n.value; dimensions = d.value; attributes = a.value }) a.next a.rest) (dimensions_stand n.next n.rest)
    (λ d t. stands_made 0 d.next d.rest (attributes_at d.next d.rest) (λ a. record { level = level.value; names = n.value; dimensions = d.value; attributes = a.value }) (attributes_stand d.next d.rest)))

item_sound : IsSound item_at
unfolding item_at
item_sound p ts = stands_after 0 1 p (level_at p ts).next ts (level_at p ts).rest _ (level_passes p ts) (item_after (level_at p ts))

pub items_sound : IsSound items_at
items_sound = list_sound Commas item_at item_sound

pub declaration_stands : (p : ℕ) (ts : Tokens) → Stands 2 p ts (declaration_at p ts)
unfolding declaration_at
declaration_stands p ts =
    stands_then 1 1 p ts (items_at p ts) (λ x. taken is_semicolon SemicolonExpected x.next x.rest >>= λ rest. read_as x.value (x.next + 1) rest) (items_sound p ts)
    (λ x s. taken_then is_semicolon SemicolonExpected refl 0 x.next x.rest (λ rest. read_as x.value (x.next + 1) rest) (λ us. passes_none (x.next + 1) us))

pub items_fault_stands : (p : ℕ) (ts : Tokens) (f : Fault) → items_at p ts ≡ Err f → FaultStands p ts f
items_fault_stands p ts f h = told_stands p ts f (fault_of 1 p ts (items_at p ts) f (items_sound p ts) h)

pub declaration_fault_stands : (p : ℕ) (ts : Tokens) (f : Fault) → declaration_at p ts ≡ Err f → FaultStands p ts f
declaration_fault_stands p ts f h = told_stands p ts f (fault_of 2 p ts (declaration_at p ts) f (declaration_stands p ts) h)

pub returned_fault_stands : (p : ℕ) (ts : Tokens) (f : Fault) → returned_at p ts ≡ Err f → FaultStands p ts f
returned_fault_stands p ts f h = told_stands p ts f (fault_of 3 p ts (returned_at p ts) f (returned_stands p ts) h)

-- The parts of declarations are read the same, up to one attribute.
use Rattle.std.specs.Prelude.{◌≡◌, ℕ, ◌+◌, Bool, true, false, ◌||◌, Option, Some, None, Result, Ok, Err, List, [], ◌∷◌, ◌++◌, map, codes, refl, is_some, option_map, if◌then◌else◌}
use Rattle.std.proofs.Common.{ap, sym, ◌∙◌, arith}
use Rattle.pli_base.specs.Name.{Name}
use Rattle.pli_base.specs.Words.{Tokens, same_name, is_among, is_open, is_close, is_comma, is_period, is_colon, rest_after}
use Rattle.pli_base.specs.Results.{◌>>=◌}
use Rattle.pli_base.specs.Reading.{Front, expected, misfit, read_as, mapped, taken, enclosed, or_none}
use Rattle.pli_base.specs.Declarations as tree
use Rattle.pli_base.specs.declared.code.Code.TheVariants.{ParenthesisExpected, ConstantExpected, BadAttribute}
use Rattle.pli_base.specs.declared.declaration.WrittenBounds.TheVariants as limits
use Rattle.pli_base.specs.declared.declaration.WrittenLength.TheVariants as extents
use Rattle.pli_base.specs.declared.declaration.InitialValue.{InitialValue}
use Rattle.pli_base.specs.declared.declaration.InitialValue.TheVariants as initial
use Rattle.pli_base.specs.declared.declaration.Integer.{Integer}
use Rattle.pli_base.specs.declared.token.Fault.{Fault}
use Rattle.pli_base.specs.declared.token.Sign.TheVariants as signs
use Rattle.pli_base.specs.declared.token.TokenText.TheVariants.{Word, Decimal, Binary, Characters, Bits, Sign}
use Rattle.pli_parse_declaration.specs.DeclarationWords.{data_word, storage_word, nesting_word, word_or, attribute_word, with_rest, attribute_first, is_zero, if_first, with_attribute, begins_description}
use Rattle.pli_parse_declaration.specs.DeclarationReading.{list_at, number_at, integer_at, bounds_from, stated_at, bounds_at, dimensions_at, extent_at, length_at, with_scale, scaled_at, precision_at, name_at, area_at, locator_at, repeated_at, null_from, value_at, values_at, simple_of}
use Rattle.pli_parse_declaration.specs.Separators.{separated}
use Rattle.pli_parse_declaration.specs.declared.list.Separator.TheVariants.{Periods, Nothing}
use Rattle.pli_parse_declaration.specs.declared.word.SimpleWord.{SimpleWord}
use Rattle.pli_parse_declaration.specs.declared.word.SimpleWord.TheVariants as words
use Rattle.pli_parse_declaration.specs.declared.word.AttributeWord.{AttributeWord}
use Rattle.pli_parse_declaration.specs.declared.word.AttributeWord.TheVariants as attribute
use Rattle.pli_parse_statement.specs.StatementReading.{paired}
use Rattle.pli_grammar.specs.Readers.{Reader, made, token, either, after_token, optional, begun, closed, in_parentheses, list_by, list_of, parenthesized, by_meaning, meaning_in}
use Rattle.pli_grammar.specs.Declarations as new
use Rattle.pli_grammar.proofs.ReadersAlike.{grouped, after, both, alike, closed_same, parenthesized_then, opened_same, found, list_by_same, list_of_same, row, row_of_two}

-- a token after another, in whose place a value is read
then_token : {A : Type 0} (x : A) (p : ℕ) (r : Result Tokens Fault)
    → (r >>= (λ us. read_as (p + 1) (p + 1 + 1) us) >>= (λ y. read_as (Some y.value) y.next y.rest) >>= λ y. read_as x y.next y.rest) ≡ (r >>= λ us. read_as x (p + 2) us)
then_token x p (Err e) = refl
then_token x p (Ok us) = ap (λ (q : ℕ). read_as x q us) two
  where
    two : p + 1 + 1 ≡ p + 2
    two = omega arith

-- ---- dimensions, lengths and precisions

-- where no `*` stands in front
abbrev Plain : Tokens → Type 0
Plain ts = (rest_after new.is_times ts ≡ None) × ((p : ℕ) → bounds_at p ts ≡ stated_at p ts) × ((p : ℕ) → extent_at p ts ≡ mapped extents.Stated (number_at p ts))

times_or_not : (P : Tokens → Type 0) → ((us : Tokens) → P (Sign signs.Times ∷ us)) → ((ts : Tokens) → Plain ts → P ts) → (ts : Tokens) → P ts
unfolding rest_after bounds_at extent_at
times_or_not P star plain (Sign signs.Times ∷ us) = star us
times_or_not P star plain ([]) = plain ([]) (refl, (λ p. refl), (λ p. refl))
times_or_not P star plain (Word n ∷ us) = plain (Word n ∷ us) (refl, (λ p. refl), (λ p. refl))
times_or_not P star plain (Decimal v d ∷ us) = plain (Decimal v d ∷ us) (refl, (λ p. refl), (λ p. refl))
times_or_not P star plain (Binary v d ∷ us) = plain (Binary v d ∷ us) (refl, (λ p. refl), (λ p. refl))
times_or_not P star plain (Characters s ∷ us) = plain (Characters s ∷ us) (refl, (λ p. refl), (λ p. refl))
times_or_not P star plain (Bits s ∷ us) = plain (Bits s ∷ us) (refl, (λ p. refl), (λ p. refl))
times_or_not P star plain (Sign signs.Plus ∷ us) = plain (Sign signs.Plus ∷ us) (refl, (λ p. refl), (λ p. refl))
times_or_not P star plain (Sign signs.Minus ∷ us) = plain (Sign signs.Minus ∷ us) (refl, (λ p. refl), (λ p. refl))
times_or_not P star plain (Sign signs.OpenParenthesis ∷ us) = plain (Sign signs.OpenParenthesis ∷ us) (refl, (λ p. refl), (λ p. refl))
times_or_not P star plain (Sign signs.CloseParenthesis ∷ us) = plain (Sign signs.CloseParenthesis ∷ us) (refl, (λ p. refl), (λ p. refl))
times_or_not P star plain (Sign signs.Comma ∷ us) = plain (Sign signs.Comma ∷ us) (refl, (λ p. refl), (λ p. refl))
times_or_not P star plain (Sign signs.Period ∷ us) = plain (Sign signs.Period ∷ us) (refl, (λ p. refl), (λ p. refl))
times_or_not P star plain (Sign signs.Semicolon ∷ us) = plain (Sign signs.Semicolon ∷ us) (refl, (λ p. refl), (λ p. refl))
times_or_not P star plain (Sign signs.Colon ∷ us) = plain (Sign signs.Colon ∷ us) (refl, (λ p. refl), (λ p. refl))
times_or_not P star plain (Sign signs.Equals ∷ us) = plain (Sign signs.Equals ∷ us) (refl, (λ p. refl), (λ p. refl))
times_or_not P star plain (Sign signs.NotEqual ∷ us) = plain (Sign signs.NotEqual ∷ us) (refl, (λ p. refl), (λ p. refl))
times_or_not P star plain (Sign signs.Less ∷ us) = plain (Sign signs.Less ∷ us) (refl, (λ p. refl), (λ p. refl))
times_or_not P star plain (Sign signs.LessOrEqual ∷ us) = plain (Sign signs.LessOrEqual ∷ us) (refl, (λ p. refl), (λ p. refl))
times_or_not P star plain (Sign signs.Greater ∷ us) = plain (Sign signs.Greater ∷ us) (refl, (λ p. refl), (λ p. refl))
times_or_not P star plain (Sign signs.GreaterOrEqual ∷ us) = plain (Sign signs.GreaterOrEqual ∷ us) (refl, (λ p. refl), (λ p. refl))
times_or_not P star plain (Sign signs.And ∷ us) = plain (Sign signs.And ∷ us) (refl, (λ p. refl), (λ p. refl))
times_or_not P star plain (Sign signs.Or ∷ us) = plain (Sign signs.Or ∷ us) (refl, (λ p. refl), (λ p. refl))
times_or_not P star plain (Sign signs.Not ∷ us) = plain (Sign signs.Not ∷ us) (refl, (λ p. refl), (λ p. refl))
times_or_not P star plain (Sign signs.Percent ∷ us) = plain (Sign signs.Percent ∷ us) (refl, (λ p. refl), (λ p. refl))
times_or_not P star plain (Sign signs.Arrow ∷ us) = plain (Sign signs.Arrow ∷ us) (refl, (λ p. refl), (λ p. refl))
times_or_not P star plain (Sign signs.Concatenate ∷ us) = plain (Sign signs.Concatenate ∷ us) (refl, (λ p. refl), (λ p. refl))

stated_same : (p : ℕ) (ts : Tokens) → (integer_at p ts >>= λ x. after_token is_colon (made (limits.Stated (Some x.value)) integer_at) (read_as (limits.Stated None x.value)) x.next x.rest) ≡ stated_at p ts
stated_same p ts = after (integer_at p ts) _ _ (λ x. by x (rest_after is_colon x.rest))
  where
    by : (x : Front Integer) (o : Option Tokens) → either (made (limits.Stated (Some x.value)) integer_at) (read_as (limits.Stated None x.value)) x.next x.rest o ≡ bounds_from x o
    by x None = refl
    by x (Some us) = refl

bounds_same : (p : ℕ) (ts : Tokens) → new.bounds p ts ≡ bounds_at p ts
unfolding rest_after bounds_at
bounds_same p = times_or_not (λ ts. new.bounds p ts ≡ bounds_at p ts) (λ us. refl) (λ ts plain.
    ap (either (read_as limits.Any) (λ q us. integer_at q us >>= λ x. after_token is_colon (made (limits.Stated (Some x.value)) integer_at) (read_as (limits.Stated None x.value)) x.next x.rest) p ts) plain.0
    ∙ stated_same p ts ∙ sym (plain.1 p))

pub dimensions_same : (p : ℕ) (ts : Tokens) → new.dimensions p ts ≡ dimensions_at p ts
unfolding dimensions_at
dimensions_same p ts = ap (mapped or_none) (opened_same (list_of_same bounds_same) p ts)

extent_in : (p : ℕ) (ts : Tokens) → after_token new.is_times (read_as extents.Any) (made extents.Stated number_at) p ts ≡ extent_at p ts
unfolding rest_after extent_at
extent_in p = times_or_not (λ ts. after_token new.is_times (read_as extents.Any) (made extents.Stated number_at) p ts ≡ extent_at p ts) (λ us. refl) (λ ts plain.
    ap (either (read_as extents.Any) (made extents.Stated number_at) p ts) plain.0 ∙ sym (plain.2 p))

extent_same : (p : ℕ) (ts : Tokens) → new.extent p ts ≡ length_at p ts
unfolding length_at
extent_same = opened_same extent_in

scaled_same : (p : ℕ) (ts : Tokens) → (number_at p ts >>= λ x. optional is_comma (token is_zero ConstantExpected) x.next x.rest >>= λ y. read_as x.value y.next y.rest) ≡ scaled_at p ts
unfolding scaled_at
scaled_same p ts = after (number_at p ts) _ _ (λ x. by x (rest_after is_comma x.rest))
  where
    by : (x : Front ℕ) (o : Option Tokens) → (either (made Some (token is_zero ConstantExpected)) (read_as None) x.next x.rest o >>= λ y. read_as x.value y.next y.rest) ≡ with_scale x o
    by x None = refl
    by x (Some us) = then_token x.value x.next (taken is_zero ConstantExpected (x.next + 1) us)

precision_same : (p : ℕ) (ts : Tokens) → new.precision p ts ≡ precision_at p ts
unfolding precision_at
precision_same = opened_same scaled_same

-- ---- values

null_same : (p : ℕ) (ts : Tokens) → (optional is_open (token is_close ParenthesisExpected) p ts >>= λ y. read_as initial.Null y.next y.rest) ≡ null_from p ts (rest_after is_open ts)
null_same p ts = by (rest_after is_open ts)
  where
    by : (o : Option Tokens) → (either (made Some (token is_close ParenthesisExpected)) (read_as None) p ts o >>= λ y. read_as initial.Null y.next y.rest) ≡ null_from p ts o
    by None = refl
    by (Some us) = then_token initial.Null p (taken is_close ParenthesisExpected (p + 1) us)

abbrev null : Reader InitialValue
null p ts = optional is_open (token is_close ParenthesisExpected) p ts >>= λ y. read_as initial.Null y.next y.rest

abbrev repeated : Reader InitialValue
repeated p ts = in_parentheses number_at p ts >>= λ f. integer_at f.next f.rest >>= λ i. read_as (initial.Integer f.value i.value) i.next i.rest

factor_same : (p : ℕ) (us : Tokens) → (made Some (closed number_at) (p + 1) us >>= λ f. integer_at f.next f.rest >>= λ i. read_as (initial.Integer f.value i.value) i.next i.rest) ≡ repeated_at (p + 1) us
unfolding repeated_at
factor_same p us = grouped (closed number_at (p + 1) us) _ _ ∙ both (closed_same number_at (p + 1) us) (λ f. refl)

value_same : (p : ℕ) (ts : Tokens) → new.value p ts ≡ value_at p ts
unfolding value_at integer_at number_at rest_after misfit
value_same p (Word n ∷ us) = by (same_name n (codes "NULL"))
  where
    by : (b : Bool) → either null repeated p (Word n ∷ us) (if b then Some us else None) ≡ (if b then null_from (p + 1) us (rest_after is_open us) else expected ConstantExpected p (Word n ∷ us))
    by true = null_same (p + 1) us
    by false = refl
value_same p (Sign signs.OpenParenthesis ∷ us) = factor_same p us
value_same p ([]) = refl
value_same p (Decimal v d ∷ us) = refl
value_same p (Binary v d ∷ us) = refl
value_same p (Characters s ∷ us) = refl
value_same p (Bits s ∷ us) = refl
value_same p (Sign signs.Plus ∷ us) = refl
value_same p (Sign signs.Minus ∷ us) = refl
value_same p (Sign signs.Times ∷ us) = refl
value_same p (Sign signs.CloseParenthesis ∷ us) = refl
value_same p (Sign signs.Comma ∷ us) = refl
value_same p (Sign signs.Period ∷ us) = refl
value_same p (Sign signs.Semicolon ∷ us) = refl
value_same p (Sign signs.Colon ∷ us) = refl
value_same p (Sign signs.Equals ∷ us) = refl
value_same p (Sign signs.NotEqual ∷ us) = refl
value_same p (Sign signs.Less ∷ us) = refl
value_same p (Sign signs.LessOrEqual ∷ us) = refl
value_same p (Sign signs.Greater ∷ us) = refl
value_same p (Sign signs.GreaterOrEqual ∷ us) = refl
value_same p (Sign signs.And ∷ us) = refl
value_same p (Sign signs.Or ∷ us) = refl
value_same p (Sign signs.Not ∷ us) = refl
value_same p (Sign signs.Percent ∷ us) = refl
value_same p (Sign signs.Arrow ∷ us) = refl
value_same p (Sign signs.Concatenate ∷ us) = refl

values_same : (p : ℕ) (ts : Tokens) → parenthesized (list_of new.value) p ts ≡ values_at p ts
unfolding values_at
values_same p ts =
    parenthesized_then (list_of new.value) p ts
    ∙ after (taken is_open ParenthesisExpected p ts) _ _ (λ us. closed_same (list_of new.value) (p + 1) us ∙ ap enclosed (list_of_same value_same (p + 1) us))

-- ---- the keywords of attributes

period_found : (read : Reader (List Name)) (p : ℕ) (ts : Tokens) → optional is_period read p ts ≡ found Periods read p ts (separated Periods ts)
period_found read p ts = by (rest_after is_period ts)
  where
    by : (o : Option Tokens) → either (made Some read) (read_as None) p ts o ≡ found Periods read p ts o
    by None = refl
    by (Some us) = refl

names_same : (p : ℕ) (ts : Tokens) → list_by (optional is_period) name_at p ts ≡ list_at Periods name_at p ts
names_same = list_by_same Periods (optional is_period) period_found (λ q us. refl)

fixed_same : made tree.Fixed new.precision ≡ simple_of words.Fixed
unfolding simple_of
fixed_same = alike (λ p ts. ap (mapped tree.Fixed) (precision_same p ts))

binary_same : made tree.Binary new.precision ≡ simple_of words.Binary
unfolding simple_of
binary_same = alike (λ p ts. ap (mapped tree.Binary) (precision_same p ts))

character_same : made tree.Character new.extent ≡ simple_of words.Character
unfolding simple_of
character_same = alike (λ p ts. ap (mapped tree.Character) (extent_same p ts))

bit_same : made tree.Bit new.extent ≡ simple_of words.Bit
unfolding simple_of
bit_same = alike (λ p ts. ap (mapped tree.Bit) (extent_same p ts))

area_same : made tree.Area new.extent ≡ simple_of words.Area
unfolding simple_of
area_same = alike (λ p ts. ap (mapped tree.Area) (extent_same p ts))

offset_same : made tree.Offset (in_parentheses name_at) ≡ simple_of words.Offset
unfolding simple_of area_at
offset_same = alike (λ p ts. ap (mapped tree.Offset) (opened_same {read = name_at} {was = name_at} (λ q us. refl) p ts))

based_same : made tree.Based (in_parentheses (list_by (optional is_period) name_at)) ≡ simple_of words.Based
unfolding simple_of locator_at
based_same = alike (λ p ts. ap (mapped tree.Based) (opened_same names_same p ts))

initial_same : made tree.Initial (parenthesized (list_of new.value)) ≡ simple_of words.Initial
unfolding simple_of
initial_same = alike (λ p ts. ap (mapped tree.Initial) (values_same p ts))

-- the first of two words that is there
abbrev first_of : Option SimpleWord → Option SimpleWord → Option SimpleWord
first_of (Some w) other = Some w
first_of None other = other

abbrev readers : Option SimpleWord → Option (Reader tree.SimpleAttribute)
readers = option_map simple_of

simple_meaning : (n : Name) → meaning_in new.simple_attributes n ≡ readers (first_of (data_word n) (storage_word n))
unfolding data_word storage_word simple_of
simple_meaning n =
    let f : Option (Reader tree.SimpleAttribute) → Option (Reader tree.SimpleAttribute) = λ o. o in
    let g : Option SimpleWord → Option (Reader tree.SimpleAttribute) = λ o. readers (first_of o (storage_word n)) in
    row f g (same_name n (codes "FIXED")) (ap Some fixed_same)
    (row_of_two f g (same_name n (codes "BINARY")) (same_name n (codes "BIN")) (ap Some binary_same)
    (row_of_two f g (same_name n (codes "CHARACTER")) (same_name n (codes "CHAR")) (ap Some character_same)
    (row f g (same_name n (codes "BIT")) (ap Some bit_same)
    (row_of_two f g (same_name n (codes "VARYING")) (same_name n (codes "VAR")) refl
    (row_of_two f g (same_name n (codes "POINTER")) (same_name n (codes "PTR")) refl
    (row f g (same_name n (codes "OFFSET")) (ap Some offset_same)
    (row f g (same_name n (codes "AREA")) (ap Some area_same)
    (row f readers (same_name n (codes "BASED")) (ap Some based_same)
    (row_of_two f readers (same_name n (codes "CONTROLLED")) (same_name n (codes "CTL")) refl
    (row f readers (same_name n (codes "STATIC")) refl
    (row_of_two f readers (same_name n (codes "AUTOMATIC")) (same_name n (codes "AUTO")) refl
    (row_of_two f readers (same_name n (codes "EXTERNAL")) (same_name n (codes "EXT")) refl
    (row_of_two f readers (same_name n (codes "INTERNAL")) (same_name n (codes "INT")) refl
    (row f readers (same_name n (codes "BUILTIN")) refl
    (row_of_two f readers (same_name n (codes "INITIAL")) (same_name n (codes "INIT")) (ap Some initial_same) refl)))))))))))))))

attribute_word_same : (n : Name) → new.is_attribute (Word n) ≡ is_some (attribute_word n)
unfolding attribute_word nesting_word
attribute_word_same n =
    ap (λ (o : Option (Reader tree.SimpleAttribute)). is_some o || is_among n (codes "ENTRY" ∷ codes "RETURNS" ∷ [])) (simple_meaning n)
    ∙ by (data_word n) (storage_word n)
  where
    nesting : (a b : Bool) → (a || (b || false)) ≡ is_some (if a then Some attribute.Entry else (if b then Some attribute.Returns else None))
    nesting true b = refl
    nesting false true = refl
    nesting false false = refl

    by : (d s : Option SimpleWord) → (is_some (readers (first_of d s)) || is_among n (codes "ENTRY" ∷ codes "RETURNS" ∷ [])) ≡ is_some (word_or d (word_or s (nesting_word n)))
    by (Some w) s = refl
    by None (Some w) = refl
    by None None = nesting (same_name n (codes "ENTRY")) (same_name n (codes "RETURNS"))

-- ---- an attribute

-- the meanings of rows that are made into others, before more rows
abbrev or_else : {A B : Type 0} → (A → B) → Option A → Option B → Option B
or_else f (Some x) other = Some (f x)
or_else f None other = other

rows_made : {A B : Type 0} (f : A → B) (rows : List (Name × A)) (more : List (Name × B)) (n : Name)
    → meaning_in (map (λ row. (row.0, f row.1)) rows ++ more) n ≡ or_else f (meaning_in rows n) (meaning_in more n)
rows_made f [] more n = refl
rows_made {A = A} {B = B} f (r ∷ rows) more n = row (λ (o : Option B). o) (λ (o : Option A). or_else f o (meaning_in more n)) (same_name n r.0) refl (rows_made f rows more n)

module _ {A : Type 0} (simple : tree.SimpleAttribute → A) (entry returns : Reader A) where
  -- what reads after the keyword of an attribute
  abbrev pub after_keyword : AttributeWord → Reader A
  after_keyword (attribute.Simple w) = made simple (simple_of w)
  after_keyword attribute.Entry = entry
  after_keyword attribute.Returns = returns

  abbrev pub read_by : ℕ → Tokens → Option (AttributeWord × Tokens) → Result (Front A) Fault
  read_by p ts None = expected BadAttribute p ts
  read_by p ts (Some (w, us)) = after_keyword w (p + 1) us

  abbrev nesting_rows : List (Name × Reader A)
  nesting_rows = (codes "ENTRY", entry) ∷ (codes "RETURNS", returns) ∷ []

  attribute_meaning : (n : Name) → meaning_in (map (λ (r : Name × Reader tree.SimpleAttribute). (r.0, made simple r.1)) new.simple_attributes ++ nesting_rows) n ≡ option_map after_keyword (attribute_word n)
  unfolding attribute_word nesting_word
  attribute_meaning n =
      rows_made (made simple) new.simple_attributes nesting_rows n
      ∙ ap (λ (o : Option (Reader tree.SimpleAttribute)). or_else (made simple) o (meaning_in nesting_rows n)) (simple_meaning n)
      ∙ by (data_word n) (storage_word n)
    where
      by : (d s : Option SimpleWord) → or_else (made simple) (readers (first_of d s)) (meaning_in nesting_rows n) ≡ option_map after_keyword (word_or d (word_or s (nesting_word n)))
      by (Some w) s = refl
      by None (Some w) = refl
      by None None =
          let f : Option (Reader A) → Option (Reader A) = λ o. o in
          row f (option_map after_keyword) (same_name n (codes "ENTRY")) refl (row f (option_map after_keyword) (same_name n (codes "RETURNS")) refl refl)

  pub attribute_same : (p : ℕ) (ts : Tokens) → new.attribute_with simple entry returns p ts ≡ read_by p ts (attribute_first ts)
  unfolding attribute_first
  attribute_same p (Word n ∷ us) =
      ap (λ (o : Option (Reader A)). by_meaning (λ (read : Reader A). read) (expected BadAttribute) p (Word n ∷ us) (paired us o)) (attribute_meaning n)
      ∙ by (attribute_word n)
    where
      by : (o : Option AttributeWord) → by_meaning (λ (read : Reader A). read) (expected BadAttribute) p (Word n ∷ us) (paired us (option_map after_keyword o)) ≡ read_by p (Word n ∷ us) (with_rest us o)
      by None = refl
      by (Some w) = refl
  attribute_same p [] = refl
  attribute_same p (Decimal v d ∷ us) = refl
  attribute_same p (Binary v d ∷ us) = refl
  attribute_same p (Characters s ∷ us) = refl
  attribute_same p (Bits s ∷ us) = refl
  attribute_same p (Sign s ∷ us) = refl

-- ---- lists of attributes

-- a part that a token begins, or none
abbrev started : {A : Type 0} → Reader A → ℕ → Tokens → Option Tokens → Result (Front (Option A)) Fault
started read p ts o = either (λ q us. made Some read p ts) (read_as None) p ts o

pub attribute_found : {A : Type 0} (read : Reader A) (p : ℕ) (ts : Tokens) → begun new.is_attribute read p ts ≡ found Nothing read p ts (with_attribute ts)
unfolding rest_after attribute_first
attribute_found read p (Word n ∷ us) =
    ap (λ (b : Bool). started read p (Word n ∷ us) (if b then Some us else None)) (attribute_word_same n)
    ∙ by (attribute_word n)
  where
    by : (o : Option AttributeWord) → started read p (Word n ∷ us) (if is_some o then Some us else None) ≡ found Nothing read p (Word n ∷ us) (if_first (Word n ∷ us) (with_rest us o))
    by None = refl
    by (Some w) = refl
attribute_found read p [] = refl
attribute_found read p (Decimal v d ∷ us) = refl
attribute_found read p (Binary v d ∷ us) = refl
attribute_found read p (Characters s ∷ us) = refl
attribute_found read p (Bits s ∷ us) = refl
attribute_found read p (Sign s ∷ us) = refl

pub description_found : {A : Type 0} (read : Reader A) (p : ℕ) (ts : Tokens)
    → begun (λ t. is_open t || new.is_attribute t) read p ts ≡ (if begins_description ts then mapped Some (read p ts) else read_as None p ts)
unfolding rest_after attribute_first begins_description
description_found read p (Word n ∷ us) =
    ap (λ (b : Bool). started read p (Word n ∷ us) (if b then Some us else None)) (attribute_word_same n)
    ∙ by (attribute_word n)
  where
    by : (o : Option AttributeWord) → started read p (Word n ∷ us) (if is_some o then Some us else None) ≡ (if is_some (with_rest us o) then mapped Some (read p (Word n ∷ us)) else read_as None p (Word n ∷ us))
    by None = refl
    by (Some w) = refl
description_found read p (Sign s ∷ us) = by (is_open (Sign s))
  where
    by : (b : Bool) → started read p (Sign s ∷ us) (if b || false then Some us else None) ≡ (if is_some (if b then Some us else None) || false then mapped Some (read p (Sign s ∷ us)) else read_as None p (Sign s ∷ us))
    by true = refl
    by false = refl
description_found read p [] = refl
description_found read p (Decimal v d ∷ us) = refl
description_found read p (Binary v d ∷ us) = refl
description_found read p (Characters s ∷ us) = refl
description_found read p (Bits s ∷ us) = refl

pub attributes_same : {A : Type 0} {one was : Reader A} → ((p : ℕ) (ts : Tokens) → one p ts ≡ was p ts) → (p : ℕ) (ts : Tokens) → new.attributes one p ts ≡ list_at Nothing was p ts
attributes_same = list_by_same Nothing (begun new.is_attribute) attribute_found

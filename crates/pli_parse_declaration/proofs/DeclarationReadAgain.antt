-- What is spelled so is read: lists, and what stands in parentheses; numbers, names and values; simple attributes.
use Rattle.std.proofs.Common.{⊎_elim, ◌≡◌, ◌+◌, ◌<◌, ℕ, suc, zero, Bool, true, false, List, [], ◌∷◌, ◌++◌, Option, Some, None, Result, Ok, length, codes, refl, ap, ◌∙◌, sym, subst, arith, append_assoc, length-append}
use Rattle.std.proofs.lemmas.List.{append-nil}
use Rattle.pli_base.specs.Name.{Name}
use Rattle.pli_base.specs.Words.{Tokens, is_open, is_close, is_comma, rest_after, name_first, is_colon, SpellsIdentifier}
use Rattle.pli_base.specs.Results.{◌>>=◌}
use Rattle.pli_base.specs.Reading.{Front, read_as, mapped, taken, enclosed, if_open, or_none}
use Rattle.pli_base.specs.declared.code.Code.TheVariants.{ParenthesisExpected}
use Rattle.pli_base.specs.declared.token.Fault.{Fault}
use Rattle.pli_base.specs.declared.token.Sign.TheVariants.{Colon, Comma, OpenParenthesis, CloseParenthesis}
use Rattle.pli_base.specs.declared.token.TokenText.TheVariants.{Word, Decimal, Sign}
use Rattle.pli_parse_declaration.specs.DeclarationWords.{attribute_word, with_rest, attribute_first}
use Rattle.pli_base.specs.Declarations as tree
use Rattle.pli_parse_declaration.specs.DeclarationReading.{listed_after, listed_at, list_at, number_at, signed, integer_at, bounds_from, stated_at, bounds_at, dimensions_at, extent_at, length_at, with_scale, scaled_at, precision_at, name_at, identifier_at, area_at, locator_at, repeated_at, null_from, value_at, values_at, simple_of}
use Rattle.pli_parse_declaration.specs.DeclarationGrammar.{between, SpellsListed, Anywhere, SpellsList, SpellsEnclosed, SpellsOptional, SpellsNumber, SpellsSigned, SpellsInteger, SpellsRange, SpellsBounds, SpellsDimensions, SpellsLength, SpellsScaled, SpellsName, SpellsValue, word_of, SpellsAfter}
use Rattle.pli_base.specs.declared.declaration.Integer.{Integer}
use Rattle.pli_base.specs.declared.declaration.WrittenBounds.{WrittenBounds}
use Rattle.pli_base.specs.declared.declaration.WrittenBounds.TheVariants as limits
use Rattle.pli_base.specs.declared.declaration.WrittenLength.TheVariants as extent
use Rattle.pli_base.specs.declared.declaration.InitialValue.{InitialValue}
use Rattle.pli_base.specs.declared.declaration.InitialValue.TheVariants as initial
use Rattle.pli_parse_declaration.specs.declared.word.AttributeWord.{AttributeWord}
use Rattle.pli_parse_declaration.specs.ItemEnds.{OptionEnds, SimpleEnds, DimensionsEnd, LastEnds}
use Rattle.pli_parse_declaration.proofs.DeclarationRead.{any_place}
use Rattle.pli_parse_declaration.specs.Separators.{separated, after_separator}
use Rattle.pli_parse_declaration.specs.declared.list.Separator.{Separator}
use Rattle.pli_parse_declaration.specs.declared.list.Separator.TheVariants.{Commas, Periods, Nothing}

-- what spells it is read at the front of tokens that end it
abbrev pub ReadAgain : {A : Type 0} → (one : ℕ → Tokens → Result (Front A) Fault) → (Spells : ℕ → Tokens → A → Type 0) → (Ends : Tokens → Type 0) → Type 0
ReadAgain {A = A} one Spells Ends = (p : ℕ) (ts more : Tokens) (x : A) → Spells p ts x → Ends more → one p (ts ++ more) ≡ read_as x (p + length ts) more

-- the same where what was read tells what ends it
abbrev pub ReadBefore : {A : Type 0} → (one : ℕ → Tokens → Result (Front A) Fault) → (Spells : ℕ → Tokens → A → Type 0) → (Ends : A → Tokens → Type 0) → Type 0
ReadBefore {A = A} one Spells Ends = (p : ℕ) (ts more : Tokens) (x : A) → Spells p ts x → Ends x more → one p (ts ++ more) ≡ read_as x (p + length ts) more

-- any tokens end it
abbrev pub Anyhow : Tokens → Type 0
Anyhow more = Unit {0}

-- no parenthesis opens there
abbrev pub NoOpen : Tokens → Type 0
NoOpen more = rest_after is_open more ≡ None

abbrev pub NoColon : Tokens → Type 0
NoColon more = rest_after is_colon more ≡ None

abbrev pub NoComma : Tokens → Type 0
NoComma more = rest_after is_comma more ≡ None

-- tokens that open no parenthesis end all of these
pub any_option : {A : Type 0} (x : Option A) (more : Tokens) → NoOpen more → OptionEnds x more
any_option None more stops = stops
any_option (Some x) more stops = tt

pub any_simple : (a : tree.SimpleAttribute) (more : Tokens) → NoOpen more → SimpleEnds a more
any_simple (tree.Fixed n) more stops = any_option n more stops
any_simple (tree.Binary n) more stops = any_option n more stops
any_simple (tree.Character n) more stops = any_option n more stops
any_simple (tree.Bit n) more stops = any_option n more stops
any_simple (tree.Area n) more stops = any_option n more stops
any_simple (tree.Offset n) more stops = any_option n more stops
any_simple (tree.Based n) more stops = any_option n more stops
any_simple a more stops = tt

pub any_dimensions : (bs : List WrittenBounds) (more : Tokens) → NoOpen more → DimensionsEnd bs more
any_dimensions [] more stops = stops
any_dimensions (b ∷ bs) more stops = tt

pub any_last : {A : Type 0} (Ends : A → Tokens → Type 0) (xs : List A) (more : Tokens) → ((x : A) → Ends x more) → LastEnds Ends xs more
any_last Ends [] more stops = tt
any_last Ends (x ∷ []) more stops = stops x
any_last Ends (x ∷ y ∷ xs) more stops = any_last Ends (y ∷ xs) more stops

-- a list does not go on there
abbrev pub ListEnds : Separator → (Tokens → Type 0) → Tokens → Type 0
ListEnds s Ends more = (separated s more ≡ None) × Ends more

pub no_open_close : (zs : Tokens) → NoOpen (Sign CloseParenthesis ∷ zs)
unfolding rest_after
no_open_close zs = refl

pub no_open_comma : (zs : Tokens) → NoOpen (Sign Comma ∷ zs)
unfolding rest_after
no_open_comma zs = refl

pub no_open_word : (k : Name) (zs : Tokens) → NoOpen (Word k ∷ zs)
unfolding rest_after
no_open_word k zs = refl

-- read to another place that is the same
pub placed : {A : Type 0} (x : A) (p q : ℕ) (ts : Tokens) → p ≡ q → ◌≡◌ {A = Result (Front A) Fault} (read_as x p ts) (read_as x q ts)
placed x p q ts e = ap (λ (r : ℕ). read_as x r ts) e

pub close_taken : (p : ℕ) (zs : Tokens) → taken is_close ParenthesisExpected p (Sign CloseParenthesis ∷ zs) ≡ Ok zs
unfolding taken rest_after
close_taken p zs = refl

pub open_taken : (p : ℕ) (zs : Tokens) → taken is_open ParenthesisExpected p (Sign OpenParenthesis ∷ zs) ≡ Ok zs
unfolding taken rest_after
open_taken p zs = refl

pub open_after : (zs : Tokens) → rest_after is_open (Sign OpenParenthesis ∷ zs) ≡ Some zs
unfolding rest_after
open_after zs = refl

-- the inside of parentheses that begin at p
pub enclosed_again : {A : Type 0} (one : ℕ → Tokens → Result (Front A) Fault) (Spells : ℕ → Tokens → A → Type 0) (Ends : Tokens → Type 0) → ReadAgain one Spells Ends → ((zs : Tokens) → Ends (Sign CloseParenthesis ∷ zs))
    → (p : ℕ) (inner more : Tokens) (x : A) → Spells (p + 1) inner x
    → enclosed (one (p + 1) ((inner ++ Sign CloseParenthesis ∷ []) ++ more)) ≡ read_as x (p + length (Sign OpenParenthesis ∷ inner ++ Sign CloseParenthesis ∷ [])) more
enclosed_again one Spells Ends again closes p inner more x spelled =
    ap (λ us. enclosed (one (p + 1) us)) (append_assoc inner (Sign CloseParenthesis ∷ []) more)
    ∙ ap enclosed (again (p + 1) inner (Sign CloseParenthesis ∷ more) x spelled (closes more))
    ∙ ap (λ r. r >>= λ rest. read_as x (p + 1 + length inner + 1) rest) (close_taken (p + 1 + length inner) more)
    ∙ placed x (p + 1 + length inner + 1) (p + length (Sign OpenParenthesis ∷ inner ++ Sign CloseParenthesis ∷ [])) more (omega (arith, length-append inner (Sign CloseParenthesis ∷ [])))

pub optional_again : {A : Type 0} (one : ℕ → Tokens → Result (Front A) Fault) (Spells : Tokens → A → Type 0) (Ends : Tokens → Type 0) → ReadAgain one (Anywhere Spells) Ends → ((zs : Tokens) → Ends (Sign CloseParenthesis ∷ zs))
    → ReadBefore (λ p ts. if_open one p ts (rest_after is_open ts)) (Anywhere (SpellsOptional Spells)) OptionEnds
optional_again one Spells Ends again closes p ts more None spelled stops =
    ap (λ us. if_open one p (us ++ more) (rest_after is_open (us ++ more))) spelled
    ∙ ap (λ o. if_open one p more o) stops
    ∙ placed None p (p + length ts) more (omega (arith, ap length spelled))
optional_again one Spells Ends again closes p ts more (Some x) (inner, shape, spelled) stops =
    ap (λ us. if_open one p (us ++ more) (rest_after is_open (us ++ more))) shape
    ∙ ap (λ o. if_open one p ((Sign OpenParenthesis ∷ inner ++ Sign CloseParenthesis ∷ []) ++ more) o) (open_after ((inner ++ Sign CloseParenthesis ∷ []) ++ more))
    ∙ ap (λ r. mapped Some r) (enclosed_again one (Anywhere Spells) Ends again closes p inner more x spelled)
    ∙ placed (Some x) (p + length (Sign OpenParenthesis ∷ inner ++ Sign CloseParenthesis ∷ [])) (p + length ts) more (ap (λ (us : Tokens). p + length us) (sym shape))

-- a list
module _ {A : Type 0} (s : Separator) (one : ℕ → Tokens → Result (Front A) Fault) (Spells : ℕ → Tokens → A → Type 0) (Ends : A → Tokens → Type 0) (again : ReadBefore one Spells Ends)
    (goes : (p : ℕ) (ts zs : Tokens) (x : A) → Spells p ts x → (separated s (between s ++ (ts ++ zs)) ≡ Some (ts ++ zs)) × ((y : A) → Ends y (between s ++ (ts ++ zs))))
    (some : (p : ℕ) (ts : Tokens) (x : A) → Spells p ts x → 0 < length ts) where
  -- the list begins with its first value
  first_of : (p : ℕ) (ts : Tokens) (x : A) (xs : List A) → SpellsListed s Spells p ts (x ∷ xs) → (front : Tokens) × (rest : Tokens) × (ts ≡ front ++ rest) × Spells p front x
  first_of p ts x [] spelled = (ts, [], sym (append-nil ts), spelled)
  first_of p ts x (y ∷ xs) (front, rest, shape, spelled, later) = (front, between s ++ rest, shape, spelled)

  goes_on : (p : ℕ) (ts zs : Tokens) (x : A) (xs : List A) → SpellsListed s Spells p ts (x ∷ xs) → (separated s (between s ++ (ts ++ zs)) ≡ Some (ts ++ zs)) × ((y : A) → Ends y (between s ++ (ts ++ zs)))
  goes_on p ts zs x xs spelled =
      let f = first_of p ts x xs spelled in
      let e : f.0 ++ (f.1 ++ zs) ≡ ts ++ zs = sym (append_assoc f.0 f.1 zs) ∙ ap (λ us. us ++ zs) (sym f.2) in
      subst (λ us. (separated s (between s ++ us) ≡ Some us) × ((y : A) → Ends y (between s ++ us))) e (goes p f.0 (f.1 ++ zs) x f.3)

  place_of : (t : Separator) (p : ℕ) (front rest : Tokens) → after_separator t (p + length front) + length rest ≡ p + length (front ++ (between t ++ rest))
  place_of Commas p front rest = omega (arith, length-append front (Sign Comma ∷ rest))
  place_of Periods p front rest = omega (arith, length-append front (between Periods ++ rest))
  place_of Nothing p front rest = omega (arith, length-append front rest)

  pub listed_before : (xs : List A) (bound p : ℕ) (ts more : Tokens) → SpellsListed s Spells p ts xs → (separated s more ≡ None) × LastEnds Ends xs more → length (ts ++ more) < bound
      → listed_at s one bound p (ts ++ more) ≡ read_as xs (p + length ts) more
  unfolding listed_at
  listed_before xs zero p ts more spelled stops small = absurd (omega arith)
  listed_before [] (suc bound) p ts more spelled stops small = absurd spelled
  listed_before (x ∷ []) (suc bound) p ts more spelled stops small =
      ap (λ r. r >>= λ y. listed_after s (listed_at s one bound) y (separated s y.rest)) (again p ts more x spelled stops.1)
      ∙ ap (λ o. listed_after s (listed_at s one bound) (record { value = x; next = p + length ts; rest = more }) o) stops.0
  listed_before (x ∷ y ∷ xs) (suc bound) p ts more (front, rest, shape, spelled, later) stops small =
      let step = goes_on (after_separator s (p + length front)) rest more y xs later in
      let whole : ts ++ more ≡ front ++ (between s ++ (rest ++ more)) = ap (λ us. us ++ more) shape ∙ append_assoc front (between s ++ rest) more ∙ ap (λ us. front ++ us) (append_assoc (between s) rest more) in
      let first : 0 < length front = some p front x spelled in
      let less : length (rest ++ more) < bound = omega (arith, small, ap length whole, length-append front (between s ++ (rest ++ more)), length-append (between s) (rest ++ more)) in
      ap (listed_at s one (suc bound) p) whole
      ∙ ap (λ r. r >>= λ z. listed_after s (listed_at s one bound) z (separated s z.rest)) (again p front (between s ++ (rest ++ more)) x spelled (step.1 x))
      ∙ ap (λ o. listed_after s (listed_at s one bound) (record { value = x; next = p + length front; rest = between s ++ (rest ++ more) }) o) step.0
      ∙ ap (λ r. r >>= λ z. read_as (x ∷ z.value) z.next z.rest) (listed_before (y ∷ xs) bound (after_separator s (p + length front)) rest more later stops less)
      ∙ placed (x ∷ y ∷ xs) (after_separator s (p + length front) + length rest) (p + length ts) more (place_of s p front rest ∙ ap (λ (us : Tokens). p + length us) (sym shape))

pub listed_again : {A : Type 0} (s : Separator) (one : ℕ → Tokens → Result (Front A) Fault) (Spells : ℕ → Tokens → A → Type 0) (Ends : Tokens → Type 0) → ReadAgain one Spells Ends
    → ((p : ℕ) (ts zs : Tokens) (x : A) → Spells p ts x → (separated s (between s ++ (ts ++ zs)) ≡ Some (ts ++ zs)) × Ends (between s ++ (ts ++ zs))) → ((p : ℕ) (ts : Tokens) (x : A) → Spells p ts x → 0 < length ts)
    → (xs : List A) (bound p : ℕ) (ts more : Tokens) → SpellsListed s Spells p ts xs → ListEnds s Ends more → length (ts ++ more) < bound → listed_at s one bound p (ts ++ more) ≡ read_as xs (p + length ts) more
listed_again {A = A} s one Spells Ends again goes some xs bound p ts more spelled stops small =
    listed_before s one Spells (λ (x : A). Ends) again (λ q us zs x t. ((goes q us zs x t).0, λ y. (goes q us zs x t).1)) some xs bound p ts more spelled (stops.0, any_last (λ (x : A). Ends) xs more (λ x. stops.1)) small

pub list_again : {A : Type 0} (s : Separator) (one : ℕ → Tokens → Result (Front A) Fault) (Spells : Tokens → A → Type 0) (Ends : Tokens → Type 0) → ReadAgain one (Anywhere Spells) Ends
    → ((p : ℕ) (ts zs : Tokens) (x : A) → Spells ts x → (separated s (between s ++ (ts ++ zs)) ≡ Some (ts ++ zs)) × Ends (between s ++ (ts ++ zs))) → ((p : ℕ) (ts : Tokens) (x : A) → Spells ts x → 0 < length ts)
    → ReadAgain (list_at s one) (Anywhere (SpellsList s Spells)) (ListEnds s Ends)
list_again s one Spells Ends again goes some p ts more xs spelled stops =
    listed_again s one (Anywhere Spells) Ends again goes some xs (length (ts ++ more) + 1) p ts more (any_place s Spells xs 0 p ts spelled) stops (omega arith)

-- after a comma or a period a list goes on
pub comma_goes : (zs : Tokens) → separated Commas (between Commas ++ zs) ≡ Some zs
unfolding rest_after
comma_goes zs = refl

pub period_goes : (zs : Tokens) → separated Periods (between Periods ++ zs) ≡ Some zs
unfolding rest_after
period_goes zs = refl

pub commas_close : (zs : Tokens) → separated Commas (Sign CloseParenthesis ∷ zs) ≡ None
unfolding rest_after
commas_close zs = refl

periods_close : (zs : Tokens) → separated Periods (Sign CloseParenthesis ∷ zs) ≡ None
unfolding rest_after
periods_close zs = refl

pub number_again : ReadAgain number_at (Anywhere SpellsNumber) Anyhow
unfolding number_at
number_again p ts more n (d, s) stops =
    ⊎_elim (λ e. subst (λ us. number_at p (us ++ more) ≡ read_as n (p + length us) more) (sym e) refl)
    (λ e. subst (λ us. number_at p (us ++ more) ≡ read_as n (p + length us) more) (sym e) refl) s

signed_again : (negative : Bool) (p : ℕ) (ts more : Tokens) (n : ℕ) → SpellsSigned ts negative n → integer_at p (ts ++ more) ≡ read_as (record { negative = negative; value = n }) (p + length ts) more
unfolding integer_at number_at
signed_again true p ts more n (us, e, s) =
    ap (λ vs. integer_at p (vs ++ more)) e ∙ ap (signed true) (number_again (p + 1) us more n s tt)
    ∙ placed (record { negative = true; value = n }) (p + 1 + length us) (p + length ts) more (omega (arith, ap length e))
signed_again false p ts more n s =
    ⊎_elim
    (λ number. ⊎_elim (λ e. subst (λ us. integer_at p (us ++ more) ≡ read_as (record { negative = false; value = n }) (p + length us) more) (sym e) refl)
    (λ e. subst (λ us. integer_at p (us ++ more) ≡ read_as (record { negative = false; value = n }) (p + length us) more) (sym e) refl) number.1)
    (λ plus. ap (λ vs. integer_at p (vs ++ more)) plus.1 ∙ ap (signed false) (number_again (p + 1) plus.0 more n plus.2 tt)
    ∙ placed (record { negative = false; value = n }) (p + 1 + length plus.0) (p + length ts) more (omega (arith, ap length plus.1))) s

pub integer_again : ReadAgain integer_at (Anywhere SpellsInteger) Anyhow
integer_again p ts more i spelled stops = signed_again i.negative p ts more i.value spelled

colon_after : (zs : Tokens) → rest_after is_colon (Sign Colon ∷ zs) ≡ Some zs
unfolding rest_after
colon_after zs = refl

range_again : (low : Option Integer) (high : Integer) (p : ℕ) (ts more : Tokens) → SpellsRange ts low high → NoColon more → stated_at p (ts ++ more) ≡ read_as (limits.Stated low high) (p + length ts) more
range_again None high p ts more spelled stops =
    ap (λ r. r >>= λ x. bounds_from x (rest_after is_colon x.rest)) (integer_again p ts more high spelled tt)
    ∙ ap (bounds_from (record { value = high; next = p + length ts; rest = more })) stops
range_again (Some low) high p ts more (ls, hs, shape, lows, highs) stops =
    ap (stated_at p) (ap (λ us. us ++ more) shape ∙ append_assoc ls (Sign Colon ∷ hs) more)
    ∙ ap (λ r. r >>= λ x. bounds_from x (rest_after is_colon x.rest)) (integer_again p ls (Sign Colon ∷ hs ++ more) low lows tt)
    ∙ ap (bounds_from (record { value = low; next = p + length ls; rest = Sign Colon ∷ hs ++ more })) (colon_after (hs ++ more))
    ∙ ap (mapped (limits.Stated (Some low))) (integer_again (p + length ls + 1) hs more high highs tt)
    ∙ placed (limits.Stated (Some low) high) (p + length ls + 1 + length hs) (p + length ts) more (omega (arith, ap length shape, length-append ls (Sign Colon ∷ hs)))

-- what begins an integer is no `*`
signed_stated : (negative : Bool) (p : ℕ) (ts more : Tokens) (n : ℕ) → SpellsSigned ts negative n → bounds_at p (ts ++ more) ≡ stated_at p (ts ++ more)
unfolding bounds_at
signed_stated true p ts more n (us, e, s) = subst (λ vs. bounds_at p (vs ++ more) ≡ stated_at p (vs ++ more)) (sym e) refl
signed_stated false p ts more n s =
    ⊎_elim
    (λ number. ⊎_elim (λ e. subst (λ vs. bounds_at p (vs ++ more) ≡ stated_at p (vs ++ more)) (sym e) refl)
    (λ e. subst (λ vs. bounds_at p (vs ++ more) ≡ stated_at p (vs ++ more)) (sym e) refl) number.1)
    (λ plus. subst (λ vs. bounds_at p (vs ++ more) ≡ stated_at p (vs ++ more)) (sym plus.1) refl) s

range_stated : (low : Option Integer) (high : Integer) (p : ℕ) (ts more : Tokens) → SpellsRange ts low high → bounds_at p (ts ++ more) ≡ stated_at p (ts ++ more)
range_stated None high p ts more spelled = signed_stated high.negative p ts more high.value spelled
range_stated (Some low) high p ts more (ls, hs, shape, lows, highs) =
    let whole : ts ++ more ≡ ls ++ (Sign Colon ∷ hs ++ more) = ap (λ us. us ++ more) shape ∙ append_assoc ls (Sign Colon ∷ hs) more in
    ap (bounds_at p) whole ∙ signed_stated low.negative p ls (Sign Colon ∷ hs ++ more) low.value lows ∙ ap (stated_at p) (sym whole)

bounds_again : ReadAgain bounds_at (Anywhere SpellsBounds) NoColon
unfolding bounds_at
bounds_again p ts more (limits.Stated low high) spelled stops = range_stated low high p ts more spelled ∙ range_again low high p ts more spelled stops
bounds_again p ts more limits.Any spelled stops = subst (λ us. bounds_at p (us ++ more) ≡ read_as limits.Any (p + length us) more) (sym spelled) refl

-- what spells a number, an integer or bounds has a token
number_some : (ts : Tokens) (n : ℕ) → SpellsNumber ts n → 0 < length ts
number_some ts n (d, s) = ⊎_elim (λ e. omega (arith, ap length e)) (λ e. omega (arith, ap length e)) s

signed_some : (negative : Bool) (ts : Tokens) (n : ℕ) → SpellsSigned ts negative n → 0 < length ts
signed_some true ts n (us, e, s) = omega (arith, ap length e)
signed_some false ts n s = ⊎_elim (λ number. number_some ts n number) (λ plus. omega (arith, ap length plus.1)) s

range_some : (low : Option Integer) (high : Integer) (ts : Tokens) → SpellsRange ts low high → 0 < length ts
range_some None high ts s = signed_some high.negative ts high.value s
range_some (Some low) high ts (ls, hs, shape, lows, highs) = omega (arith, ap length shape, length-append ls (Sign Colon ∷ hs))

bounds_some : (b : WrittenBounds) (ts : Tokens) → SpellsBounds ts b → 0 < length ts
bounds_some (limits.Stated low high) ts s = range_some low high ts s
bounds_some limits.Any ts s = omega (arith, ap length s)

no_colon_comma : (zs : Tokens) → NoColon (Sign Comma ∷ zs)
unfolding rest_after
no_colon_comma zs = refl

no_colon_close : (zs : Tokens) → NoColon (Sign CloseParenthesis ∷ zs)
unfolding rest_after
no_colon_close zs = refl

dimensions_so : (p : ℕ) (ts more : Tokens) (bounds : List WrittenBounds) (o : Option (List WrittenBounds)) → or_none o ≡ bounds → SpellsOptional (SpellsList Commas SpellsBounds) ts o → OptionEnds o more
    → dimensions_at p (ts ++ more) ≡ read_as bounds (p + length ts) more
unfolding dimensions_at
dimensions_so p ts more bounds o e spelled stops =
    ap (mapped or_none)
    (optional_again (list_at Commas bounds_at) (SpellsList Commas SpellsBounds) (ListEnds Commas NoColon)
    (list_again Commas bounds_at SpellsBounds NoColon bounds_again (λ q us zs b s. (comma_goes (us ++ zs), no_colon_comma (us ++ zs))) (λ q us b s. bounds_some b us s))
    (λ zs. (commas_close zs, no_colon_close zs)) p ts more o spelled stops)
    ∙ ap (λ (bs : List WrittenBounds). read_as bs (p + length ts) more) e

pub dimensions_before : ReadBefore dimensions_at (Anywhere SpellsDimensions) DimensionsEnd
dimensions_before p ts more [] spelled stops = dimensions_so p ts more [] None refl spelled stops
dimensions_before p ts more (b ∷ bs) spelled stops = dimensions_so p ts more (b ∷ bs) (Some (b ∷ bs)) refl spelled stops

pub dimensions_again : ReadAgain dimensions_at (Anywhere SpellsDimensions) NoOpen
dimensions_again p ts more bounds spelled stops = dimensions_before p ts more bounds spelled (any_dimensions bounds more stops)

extent_again : ReadAgain extent_at (Anywhere SpellsLength) Anyhow
unfolding extent_at number_at
extent_again p ts more (extent.Stated n) (d, s) stops =
    ⊎_elim (λ e. subst (λ us. extent_at p (us ++ more) ≡ read_as (extent.Stated n) (p + length us) more) (sym e) refl)
    (λ e. subst (λ us. extent_at p (us ++ more) ≡ read_as (extent.Stated n) (p + length us) more) (sym e) refl) s
extent_again p ts more extent.Any spelled stops = subst (λ us. extent_at p (us ++ more) ≡ read_as extent.Any (p + length us) more) (sym spelled) refl

length_again : ReadBefore length_at (Anywhere (SpellsOptional SpellsLength)) OptionEnds
unfolding length_at
length_again = optional_again extent_at SpellsLength Anyhow extent_again (λ zs. tt)

no_comma_close : (zs : Tokens) → NoComma (Sign CloseParenthesis ∷ zs)
unfolding rest_after
no_comma_close zs = refl

zero_scale : (n q : ℕ) (more : Tokens) → with_scale (record { value = n; next = q; rest = Sign Comma ∷ Decimal 0 1 ∷ more }) (rest_after is_comma (Sign Comma ∷ Decimal 0 1 ∷ more)) ≡ read_as n (q + 2) more
unfolding taken rest_after
zero_scale n q more = refl

scaled_again : ReadAgain scaled_at (Anywhere SpellsScaled) NoComma
unfolding scaled_at
scaled_again p ts more n spelled stops =
    ⊎_elim
    (λ s. ap (λ r. r >>= λ x. with_scale x (rest_after is_comma x.rest)) (number_again p ts more n s tt) ∙ ap (with_scale (record { value = n; next = p + length ts; rest = more })) stops)
    (λ s. ap (scaled_at p) (ap (λ us. us ++ more) s.1 ∙ append_assoc s.0 (Sign Comma ∷ Decimal 0 1 ∷ []) more)
    ∙ ap (λ r. r >>= λ x. with_scale x (rest_after is_comma x.rest)) (number_again p s.0 (Sign Comma ∷ Decimal 0 1 ∷ more) n s.2 tt)
    ∙ zero_scale n (p + length s.0) more
    ∙ placed n (p + length s.0 + 2) (p + length ts) more (omega (arith, ap length s.1, length-append s.0 (Sign Comma ∷ Decimal 0 1 ∷ [])))) spelled

precision_again : ReadBefore precision_at (Anywhere (SpellsOptional SpellsScaled)) OptionEnds
unfolding precision_at
precision_again = optional_again scaled_at SpellsScaled NoComma scaled_again no_comma_close

name_again : ReadAgain name_at (Anywhere SpellsName) Anyhow
unfolding name_at name_first
name_again p ts more n e stops = subst (λ us. name_at p (us ++ more) ≡ read_as n (p + length us) more) (sym e) refl

pub identifier_again : ReadAgain identifier_at SpellsIdentifier Anyhow
unfolding identifier_at name_at name_first
identifier_again p ts more i (e, at) stops =
    subst (λ us. identifier_at p (us ++ more) ≡ read_as i (p + length us) more) (sym e) (ap (λ (q : ℕ). read_as (record { name = i.name; at = q }) (p + 1) more) (sym at))

area_again : ReadBefore area_at (Anywhere (SpellsOptional SpellsName)) OptionEnds
unfolding area_at
area_again = optional_again name_at SpellsName Anyhow name_again (λ zs. tt)

locator_again : ReadBefore locator_at (Anywhere (SpellsOptional (SpellsList Periods SpellsName))) OptionEnds
unfolding locator_at
locator_again =
    optional_again (list_at Periods name_at) (SpellsList Periods SpellsName) (ListEnds Periods Anyhow)
    (list_again Periods name_at SpellsName Anyhow name_again (λ q us zs n s. (period_goes (us ++ zs), tt)) (λ q us n s. omega (arith, ap length s))) (λ zs. (periods_close zs, tt))

-- what spells an integer is read as a value
integer_value : (negative : Bool) (p : ℕ) (ts more : Tokens) (n : ℕ) → SpellsSigned ts negative n → value_at p (ts ++ more) ≡ mapped (initial.Integer None) (integer_at p (ts ++ more))
unfolding value_at
integer_value true p ts more n (us, e, s) = subst (λ vs. value_at p (vs ++ more) ≡ mapped (initial.Integer None) (integer_at p (vs ++ more))) (sym e) refl
integer_value false p ts more n s =
    ⊎_elim
    (λ number. ⊎_elim (λ e. subst (λ vs. value_at p (vs ++ more) ≡ mapped (initial.Integer None) (integer_at p (vs ++ more))) (sym e) refl)
    (λ e. subst (λ vs. value_at p (vs ++ more) ≡ mapped (initial.Integer None) (integer_at p (vs ++ more))) (sym e) refl) number.1)
    (λ plus. subst (λ vs. value_at p (vs ++ more) ≡ mapped (initial.Integer None) (integer_at p (vs ++ more))) (sym plus.1) refl) s

null_alone : (p : ℕ) (more : Tokens) → NoOpen more → value_at p (Word (codes "NULL") ∷ more) ≡ read_as initial.Null (p + 1) more
unfolding value_at
null_alone p more stops = ap (null_from (p + 1) more) stops

null_with : (p : ℕ) (more : Tokens) → value_at p (Word (codes "NULL") ∷ Sign OpenParenthesis ∷ Sign CloseParenthesis ∷ more) ≡ read_as initial.Null (p + 1 + 2) more
unfolding value_at rest_after taken
null_with p more = refl

factor_value : (p : ℕ) (us : Tokens) → value_at p (Sign OpenParenthesis ∷ us) ≡ (enclosed (number_at (p + 1) us) >>= λ factor. mapped (initial.Integer (Some factor.value)) (integer_at factor.next factor.rest))
unfolding value_at repeated_at
factor_value p us = refl

value_again : ReadAgain value_at (Anywhere SpellsValue) NoOpen
unfolding value_at
value_again p ts more (initial.Integer None v) spelled stops =
    integer_value v.negative p ts more v.value spelled ∙ ap (mapped (initial.Integer None)) (integer_again p ts more v spelled tt)
value_again p ts more (initial.Integer (Some factor) v) (fs, vs, shape, factors, values) stops =
    let back : (fs ++ Sign CloseParenthesis ∷ vs) ++ more ≡ (fs ++ Sign CloseParenthesis ∷ []) ++ (vs ++ more) = simp append_assoc in
    let q : ℕ = p + length (Sign OpenParenthesis ∷ fs ++ Sign CloseParenthesis ∷ []) in
    ap (λ us. value_at p (us ++ more)) shape
    ∙ factor_value p ((fs ++ Sign CloseParenthesis ∷ vs) ++ more)
    ∙ ap (λ us. enclosed (number_at (p + 1) us) >>= λ factor. mapped (initial.Integer (Some factor.value)) (integer_at factor.next factor.rest)) back
    ∙ ap (λ r. r >>= λ factor. mapped (initial.Integer (Some factor.value)) (integer_at factor.next factor.rest)) (enclosed_again number_at (Anywhere SpellsNumber) Anyhow number_again (λ zs. tt) p fs (vs ++ more) factor factors)
    ∙ ap (mapped (initial.Integer (Some factor))) (integer_again q vs more v values tt)
    ∙ placed (initial.Integer (Some factor) v) (q + length vs) (p + length ts) more
    (omega (arith, ap length shape, length-append fs (Sign CloseParenthesis ∷ vs), length-append fs (Sign CloseParenthesis ∷ [])))
value_again p ts more (initial.Characters s) e stops = subst (λ us. value_at p (us ++ more) ≡ read_as (initial.Characters s) (p + length us) more) (sym e) refl
value_again p ts more (initial.Bits s) e stops = subst (λ us. value_at p (us ++ more) ≡ read_as (initial.Bits s) (p + length us) more) (sym e) refl
value_again p ts more initial.Null spelled stops =
    ⊎_elim (λ e. subst (λ us. value_at p (us ++ more) ≡ read_as initial.Null (p + length us) more) (sym e) (null_alone p more stops))
    (λ e. subst (λ us. value_at p (us ++ more) ≡ read_as initial.Null (p + length us) more) (sym e) (null_with p more ∙ placed initial.Null (p + 1 + 2) (p + 3) more (omega arith))) spelled

value_some : (p : ℕ) (ts : Tokens) (v : InitialValue) → SpellsValue ts v → 0 < length ts
value_some p ts (initial.Integer None v) s = signed_some v.negative ts v.value s
value_some p ts (initial.Integer (Some factor) v) (fs, vs, shape, factors, values) = omega (arith, ap length shape)
value_some p ts (initial.Characters s) e = omega (arith, ap length e)
value_some p ts (initial.Bits s) e = omega (arith, ap length e)
value_some p ts initial.Null s = ⊎_elim (λ e. omega (arith, ap length e)) (λ e. omega (arith, ap length e)) s

values_again : (p : ℕ) (ts more : Tokens) (values : List InitialValue) → SpellsEnclosed (SpellsList Commas SpellsValue) ts values → values_at p (ts ++ more) ≡ read_as values (p + length ts) more
unfolding values_at
values_again p ts more values (inner, shape, spelled) =
    ap (λ us. values_at p (us ++ more)) shape
    ∙ ap (λ r. r >>= λ us. enclosed (list_at Commas value_at (p + 1) us)) (open_taken p ((inner ++ Sign CloseParenthesis ∷ []) ++ more))
    ∙ enclosed_again (list_at Commas value_at) (Anywhere (SpellsList Commas SpellsValue)) (ListEnds Commas NoOpen)
    (list_again Commas value_at SpellsValue NoOpen value_again (λ q us zs v s. (comma_goes (us ++ zs), no_open_comma (us ++ zs))) value_some)
    (λ zs. (commas_close zs, no_open_close zs)) p inner more values spelled
    ∙ placed values (p + length (Sign OpenParenthesis ∷ inner ++ Sign CloseParenthesis ∷ [])) (p + length ts) more (ap (λ (us : Tokens). p + length us) (sym shape))

bare_again : (a : tree.SimpleAttribute) (p : ℕ) (ts more : Tokens) → ts ≡ [] → read_as a p (ts ++ more) ≡ read_as a (p + length ts) more
bare_again a p ts more e = ap (λ us. read_as a p (us ++ more)) e ∙ placed a p (p + length ts) more (omega (arith, ap length e))

-- after its keyword
pub simple_before : (a : tree.SimpleAttribute) (p : ℕ) (ts more : Tokens) → SpellsAfter ts a → SimpleEnds a more → simple_of (word_of a) p (ts ++ more) ≡ read_as a (p + length ts) more
unfolding simple_of
simple_before (tree.Fixed n) p ts more s stops = ap (mapped tree.Fixed) (precision_again p ts more n s stops)
simple_before (tree.Binary n) p ts more s stops = ap (mapped tree.Binary) (precision_again p ts more n s stops)
simple_before (tree.Character n) p ts more s stops = ap (mapped tree.Character) (length_again p ts more n s stops)
simple_before (tree.Bit n) p ts more s stops = ap (mapped tree.Bit) (length_again p ts more n s stops)
simple_before (tree.Area n) p ts more s stops = ap (mapped tree.Area) (length_again p ts more n s stops)
simple_before (tree.Offset n) p ts more s stops = ap (mapped tree.Offset) (area_again p ts more n s stops)
simple_before (tree.Based n) p ts more s stops = ap (mapped tree.Based) (locator_again p ts more n s stops)
simple_before (tree.Initial n) p ts more s stops = ap (mapped tree.Initial) (values_again p ts more n s)
simple_before tree.Varying p ts more s stops = bare_again tree.Varying p ts more s
simple_before tree.Pointer p ts more s stops = bare_again tree.Pointer p ts more s
simple_before tree.Controlled p ts more s stops = bare_again tree.Controlled p ts more s
simple_before tree.Static p ts more s stops = bare_again tree.Static p ts more s
simple_before tree.Automatic p ts more s stops = bare_again tree.Automatic p ts more s
simple_before tree.External p ts more s stops = bare_again tree.External p ts more s
simple_before tree.Internal p ts more s stops = bare_again tree.Internal p ts more s
simple_before tree.Builtin p ts more s stops = bare_again tree.Builtin p ts more s

pub simple_again : (a : tree.SimpleAttribute) (p : ℕ) (ts more : Tokens) → SpellsAfter ts a → NoOpen more → simple_of (word_of a) p (ts ++ more) ≡ read_as a (p + length ts) more
simple_again a p ts more s stops = simple_before a p ts more s (any_simple a more stops)

-- an attribute's keyword is the first token
pub word_again : (k : Name) (us : Tokens) (w : AttributeWord) → attribute_word k ≡ Some w → attribute_first (Word k ∷ us) ≡ Some (w, us)
unfolding attribute_first
word_again k us w h = ap (with_rest us) h

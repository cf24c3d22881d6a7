-- A nest in a description is read as it is walked.
use Rattle.std.specs.Prelude.{◌≡◌, ℕ, zero, suc, ◌+◌, ◌≤◌, ◌<◌, Bool, true, false, ◌||◌, Option, Some, None, Result, Ok, Err, List, [], ◌∷◌, ◌++◌, length, refl, if◌then◌else◌}
use Rattle.std.proofs.Common.{ap, sym, subst, ◌∙◌, arith, length-append}
use Rattle.pli_base.specs.Words.{Tokens, is_open, is_close, is_comma, rest_after}
use Rattle.pli_base.specs.Results.{◌>>=◌}
use Rattle.pli_base.specs.Reading.{Front, read_as, mapped, expected, taken, taken_or, or_none}
use Rattle.pli_base.specs.Declarations as tree
use Rattle.pli_base.specs.declared.declaration.WrittenBounds.{WrittenBounds}
use Rattle.pli_base.specs.declared.code.Code.TheVariants.{ParenthesisExpected}
use Rattle.pli_base.specs.declared.token.Fault.{Fault}
use Rattle.pli_base.specs.declared.token.TokenText.{TokenText}
use Rattle.pli_base.specs.declared.token.Sign.TheVariants.{CloseParenthesis}
use Rattle.pli_base.specs.declared.token.TokenText.TheVariants.{Sign}
use Rattle.pli_parse_declaration.specs.DeclarationWords.{attribute_first, if_first, begins_description}
use Rattle.pli_parse_declaration.specs.DeclarationReading.{dimensions_at, simple_of, Walk, description_walk, parameters_walk, entry_walk, word_walk, closed_walk, comma_walk, after_attributes_walk, walk_by, step_at, walked_after, walked, nest_at, described_from, described_at}
use Rattle.pli_parse_declaration.specs.declared.nest.Open.{Open}
use Rattle.pli_parse_declaration.specs.declared.nest.Open.TheVariants as opened
use Rattle.pli_parse_declaration.specs.declared.nest.Expects.TheVariants as expects
use Rattle.pli_parse_declaration.specs.declared.list.Separator.TheVariants.{Nothing}
use Rattle.pli_parse_declaration.specs.declared.word.AttributeWord.{AttributeWord}
use Rattle.pli_parse_declaration.specs.declared.word.AttributeWord.TheVariants as attribute
use Rattle.pli_parse_declaration.proofs.DeclarationSteps.{first_is, close_first}
use Rattle.pli_parse_declaration.proofs.DeclarationRead.{dimensions_reads, simple_reads, word_first}
use Rattle.pli_grammar.specs.Readers.{Reader, made, token, either, optional, begun, closed, listed, list_of}
use Rattle.pli_grammar.specs.Declarations.{dimensions, is_attribute, attributes, parameter, entry, returned, described_within, described}
use Rattle.pli_grammar.proofs.ReadersAlike.{found, parenthesized_then}
use Rattle.pli_grammar.proofs.AttributesAlike.{dimensions_same, read_by, attribute_same, attribute_found, description_found}

-- ---- lengths

shorter : (fits : TokenText → Bool) (ts us : Tokens) → rest_after fits ts ≡ Some us → length us < length ts
shorter fits ts us h =
    let f = first_is fits ts us h in
    let e : length ts ≡ suc (length us) = ap length f.2 in
    omega (arith, e)

keyword_shorter : (ts us : Tokens) (w : AttributeWord) → attribute_first ts ≡ Some (w, us) → length us < length ts
keyword_shorter ts us w h =
    let f = word_first ts us w h in
    let e : length ts ≡ suc (length us) = ap length f.1 in
    omega (arith, e)

front_shorter : (ts front rest : Tokens) → ts ≡ front ++ rest → length rest ≤ length ts
front_shorter ts front rest h =
    let e : length ts ≡ length front + length rest = ap length h ∙ length-append front rest in
    omega (arith, e)

-- ---- what a walk makes after what is read

abbrev Total : Type 0
Total = Result (Front (Unit {0})) Fault

-- the walk goes on with what a step gives
abbrev going : ℕ → Walk → Total
going b w = walked_after (walked b) w.opens w.expects w.next w.rest

-- the walk stops at the fault, or goes on after an attribute, of fewer than n tokens
abbrev Follows : List Open → ℕ → Total → {A : Type 0} → Result (Front A) Fault → Type 0
Follows opens n total (Err e) = total ≡ Err e
Follows opens n total (Ok x) = (length x.rest < n) × ((b : ℕ) × (length x.rest < b) × (total ≡ walked_after (walked b) opens expects.More x.next x.rest))

-- the same, where no attribute comes next
abbrev Stops : Open → List Open → ℕ → Total → {A : Type 0} → Result (Front A) Fault → Type 0
Stops o opens n total (Err e) = total ≡ Err e
Stops o opens n total (Ok x) = (length x.rest < n) × ((b : ℕ) × (length x.rest ≤ b) × (total ≡ (after_attributes_walk (o ∷ opens) x.next x.rest >>= going b)))

follows_made : {A B : Type 0} (opens : List Open) (n : ℕ) (total : Total) (f : A → B) (r : Result (Front A) Fault) → Follows opens n total r → Follows opens n total (mapped f r)
follows_made opens n total f (Err e) h = h
follows_made opens n total f (Ok x) h = h

stops_made : {A B : Type 0} (o : Open) (opens : List Open) (m n : ℕ) (total : Total) (f : A → B) (r : Result (Front A) Fault) → m ≤ n → Stops o opens m total r → Stops o opens n total (mapped f r)
stops_made o opens m n total f (Err e) few h = h
stops_made o opens m n total f (Ok x) few h = (omega (arith, few, h.0), h.1)

-- what is read, and the `)` after it
abbrev closing : {A : Type 0} → Result (Front A) Fault → Result (Front A) Fault
closing read = read >>= λ x. token is_close ParenthesisExpected x.next x.rest >>= λ y. read_as x.value y.next y.rest

follows_closing : {A B : Type 0} (opens : List Open) (m n : ℕ) (total : Total) (f : A → B) (r : Result (Front A) Fault) → m ≤ n → Follows opens m total (closing r) → Follows opens n total (closing (mapped f r))
follows_closing opens m n total f (Err e) few h = h
follows_closing opens m n total f (Ok x) few h = by (taken is_close ParenthesisExpected x.next x.rest) h
  where
    by : (t : Result Tokens Fault) → Follows opens m total (t >>= (λ us. read_as x.next (x.next + 1) us) >>= λ y. read_as x.value y.next y.rest)
        → Follows opens n total (t >>= (λ us. read_as x.next (x.next + 1) us) >>= λ y. read_as (f x.value) y.next y.rest)
    by (Err e) h = h
    by (Ok us) h = (omega (arith, few, h.0), h.1)

closes : {A : Type 0} (opens : List Open) (c n : ℕ) (total : Total) (x : A) (p : ℕ) (ts : Tokens) → length ts ≤ c → length ts < n
    → total ≡ (closed_walk opens p ts (rest_after is_close ts) >>= going c) → Follows opens n total (closing (read_as x p ts))
unfolding taken
closes opens c n total x p ts some few = by (rest_after is_close ts) refl
  where
    by : (o : Option Tokens) → rest_after is_close ts ≡ o → total ≡ (closed_walk opens p ts o >>= going c)
        → Follows opens n total (taken_or ParenthesisExpected p ts o >>= (λ us. read_as p (p + 1) us) >>= λ y. read_as x y.next y.rest)
    by None e h = h
    by (Some us) e h = let s = shorter is_close ts us e in (omega (arith, s, few), (c, omega (arith, s, some), h))

-- ---- attributes and descriptions, where one attribute is known

abbrev One : ℕ → Type 0
One k = (opens : List Open) (b p : ℕ) (ts : Tokens) → length ts ≤ k → length ts < b → Follows opens (length ts) (walked b opens expects.Attribute p ts) (described_within k p ts)

module _ (k : ℕ) (one : One k) where
  abbrev read : Reader tree.DescribedAttribute
  read = described_within k

  abbrev rest_read : ℕ → Reader (List tree.DescribedAttribute)
  rest_read bound = listed (begun is_attribute) read bound

  abbrev AttributesIn : ℕ → Type 0
  AttributesIn bound = (o : Open) (opens : List Open) (b p : ℕ) (ts : Tokens) → length ts ≤ k → length ts < bound → length ts < b
      → Stops o opens (length ts) (walked b (o ∷ opens) expects.Attribute p ts) (rest_read bound p ts)

  -- after an attribute: others, of which the same is known, or none
  module _ (bound : ℕ) (more : AttributesIn bound) (o : Open) (opens : List Open) (ts : Tokens) (small : length ts ≤ k) (short : length ts ≤ bound) (total : Total) where
    others_in : (x : Front tree.DescribedAttribute) (c : ℕ) → length x.rest < length ts → length x.rest ≤ c → total ≡ walked (suc c) (o ∷ opens) expects.More x.next x.rest
        → (w : Option (AttributeWord × Tokens)) → attribute_first x.rest ≡ w
        → Stops o opens (length ts) total (mapped (λ xs. x.value ∷ or_none xs) (found Nothing (rest_read bound) x.next x.rest (if_first x.rest w)))
    unfolding walked step_at
    others_in x c less some same None e = (less, (c, some, same ∙ ap (λ (w : Option (AttributeWord × Tokens)). walk_by (o ∷ opens) expects.More x.next x.rest w >>= going c) e))
    others_in x c less some same (Some w) e =
        let again : total ≡ walked (suc c) (o ∷ opens) expects.Attribute x.next x.rest =
        same ∙ ap (λ (w : Option (AttributeWord × Tokens)). walk_by (o ∷ opens) expects.More x.next x.rest w >>= going c) e
        ∙ sym (ap (λ (w : Option (AttributeWord × Tokens)). walk_by (o ∷ opens) expects.Attribute x.next x.rest w >>= going c) e) in
        let others = more o opens (suc c) x.next x.rest (omega (arith, less, small)) (omega (arith, less, short)) (omega (arith, some)) in
        let few : length x.rest ≤ length ts = omega (arith, less) in
        stops_made o opens (length ts) (length ts) total (λ xs. x.value ∷ or_none xs) (mapped Some (rest_read bound x.next x.rest)) (omega arith)
        (stops_made o opens (length x.rest) (length ts) total Some (rest_read bound x.next x.rest) few
        (subst (λ (t : Total). Stops o opens (length x.rest) t (rest_read bound x.next x.rest)) (sym again) others))

    after_one : (x : Front tree.DescribedAttribute) (c : ℕ) → length x.rest < length ts → length x.rest < c → total ≡ walked c (o ∷ opens) expects.More x.next x.rest
        → Stops o opens (length ts) total (mapped (λ xs. x.value ∷ or_none xs) (begun is_attribute (rest_read bound) x.next x.rest))
    after_one x zero less some same = let bad : ⊥ = omega (arith, some) in absurd bad
    after_one x (suc c) less some same =
        subst (λ (r : Result (Front (Option (List tree.DescribedAttribute))) Fault). Stops o opens (length ts) total (mapped (λ xs. x.value ∷ or_none xs) r))
        (sym (attribute_found (rest_read bound) x.next x.rest))
        (others_in x c less (omega (arith, some)) same (attribute_first x.rest) refl)

    after_read : (r : Result (Front tree.DescribedAttribute) Fault) → Follows (o ∷ opens) (length ts) total r
        → Stops o opens (length ts) total (r >>= λ x. mapped (λ xs. x.value ∷ or_none xs) (begun is_attribute (rest_read bound) x.next x.rest))
    after_read (Err e) h = h
    after_read (Ok x) h = after_one x h.1.0 h.0 h.1.1 h.1.2

  attributes_in : (bound : ℕ) → AttributesIn bound
  unfolding listed
  attributes_in zero o opens b p ts small short enough = let bad : ⊥ = omega (arith, short) in absurd bad
  attributes_in (suc bound) o opens b p ts small short enough =
      after_read bound (attributes_in bound) o opens ts small (omega (arith, short)) (walked b (o ∷ opens) expects.Attribute p ts) (read p ts) (one (o ∷ opens) b p ts small enough)

  abbrev parameters : ℕ → Reader (List tree.ParameterDescription)
  parameters bound = listed (optional is_comma) (parameter read) bound

  abbrev ParametersIn : ℕ → Type 0
  ParametersIn bound = (opens : List Open) (b p : ℕ) (ts : Tokens) → length ts ≤ k → length ts < bound → length ts < b
      → Follows opens (length ts) (description_walk opens p ts >>= going b) (closing (parameters bound p ts))

  abbrev as_parameter : Front (List WrittenBounds) → Result (Front (List tree.DescribedAttribute)) Fault → Result (Front tree.ParameterDescription) Fault
  as_parameter d a = a >>= λ a. read_as (record { dimensions = d.value; attributes = a.value }) a.next a.rest

  abbrev rest_of : ℕ → Front tree.ParameterDescription → Result (Front (List tree.ParameterDescription)) Fault
  rest_of bound x = mapped (λ xs. x.value ∷ or_none xs) (optional is_comma (parameters bound) x.next x.rest)

  abbrev whole : ℕ → Result (Front (List WrittenBounds)) Fault → Result (Front (List tree.ParameterDescription)) Fault
  whole bound d = d >>= (λ d. as_parameter d (attributes read d.next d.rest)) >>= rest_of bound

  -- after a description: others, of which the same is known, or none
  module _ (bound : ℕ) (more : ParametersIn bound) (opens : List Open) (ts : Tokens) (small : length ts ≤ k) (short : length ts ≤ bound) where
    others_after : (total : Total) (x : Front tree.ParameterDescription) (c : ℕ) → length x.rest < length ts → length x.rest ≤ c
        → total ≡ (comma_walk opens x.next x.rest (rest_after is_comma x.rest) >>= going c) → (o : Option Tokens) → rest_after is_comma x.rest ≡ o
        → Follows opens (length ts) total (closing (mapped (λ xs. x.value ∷ or_none xs) (either (made Some (parameters bound)) (read_as None) x.next x.rest o)))
    others_after total x c less some same None e = closes opens c (length ts) total (x.value ∷ []) x.next x.rest some less
        (same ∙ ap (λ (o : Option Tokens). comma_walk opens x.next x.rest o >>= going c) e)
    others_after total x c less some same (Some us) e =
        let s = shorter is_comma x.rest us e in
        let again : total ≡ (description_walk opens (x.next + 1) us >>= going c) = same ∙ ap (λ (o : Option Tokens). comma_walk opens x.next x.rest o >>= going c) e in
        let others = more opens c (x.next + 1) us (omega (arith, s, less, small)) (omega (arith, s, less, short)) (omega (arith, s, some)) in
        let u : length us ≤ length ts = omega (arith, s, less) in
        follows_closing opens (length ts) (length ts) total (λ xs. x.value ∷ or_none xs) (mapped Some (parameters bound (x.next + 1) us)) (omega arith)
        (follows_closing opens (length us) (length ts) total Some (parameters bound (x.next + 1) us) u
        (subst (λ (t : Total). Follows opens (length us) t (closing (parameters bound (x.next + 1) us))) (sym again) others))

    after_attributes : (total : Total) (d : Front (List WrittenBounds)) → length d.rest ≤ length ts → (a : Result (Front (List tree.DescribedAttribute)) Fault)
        → Stops opened.Entry opens (length d.rest) total a → Follows opens (length ts) total (closing (as_parameter d a >>= rest_of bound))
    unfolding after_attributes_walk
    after_attributes total d few (Err e) h = h
    after_attributes total d few (Ok a) h =
        others_after total (record { value = record { dimensions = d.value; attributes = a.value }; next = a.next; rest = a.rest }) h.1.0 (omega (arith, h.0, few)) h.1.1 h.1.2
        (rest_after is_comma a.rest) refl

    after_dimensions : (b p : ℕ) → length ts < b → (d : Result (Front (List WrittenBounds)) Fault) → dimensions_at p ts ≡ d
        → Follows opens (length ts) (d >>= (λ x. Ok (record { opens = opened.Entry ∷ opens; expects = expects.Attribute; next = x.next; rest = x.rest })) >>= going b) (closing (whole bound d))
    after_dimensions b p enough (Err e) same = refl
    after_dimensions b p enough (Ok d) same =
        let f = dimensions_reads p ts d same in
        let few : length d.rest ≤ length ts = front_shorter ts f.0 d.rest f.1 in
        after_attributes (walked b (opened.Entry ∷ opens) expects.Attribute d.next d.rest) d few (attributes read d.next d.rest)
        (attributes_in (length d.rest + 1) opened.Entry opens b d.next d.rest (omega (arith, few, small)) (omega arith) (omega (arith, few, enough)))

  parameters_in : (bound : ℕ) → ParametersIn bound
  unfolding listed description_walk
  parameters_in zero opens b p ts small short enough = let bad : ⊥ = omega (arith, short) in absurd bad
  parameters_in (suc bound) opens b p ts small short enough =
      subst (λ (d : Result (Front (List WrittenBounds)) Fault). Follows opens (length ts) (description_walk opens p ts >>= going b) (closing (whole bound d))) (sym (dimensions_same p ts))
      (after_dimensions bound (parameters_in bound) opens ts small (omega (arith, short)) b p enough (dimensions_at p ts) refl)

  -- ---- one attribute of one level more

  abbrev any_entry : Reader tree.DescribedAttribute
  any_entry = made (λ parameters. tree.AnyEntry) (entry read)

  abbrev any_returns : Reader tree.DescribedAttribute
  any_returns = made (λ others. tree.AnyReturns) (returned read)

  abbrev in_entry : Reader (List tree.ParameterDescription)
  in_entry = made or_none (begun (λ t. is_open t || is_attribute t) (list_of (parameter read)))

  entry_in : (opens : List Open) (n c p : ℕ) (ts : Tokens) → length ts ≤ k → length ts < n → length ts < c
      → Follows opens n (parameters_walk opens p ts (rest_after is_close ts) >>= going c) (closed in_entry p ts)
  unfolding rest_after taken
  entry_in opens n c p ts small less some = by (rest_after is_close ts) refl
    where
      none : (us : Tokens) → ts ≡ Sign CloseParenthesis ∷ us → Follows opens n (walked_after (walked c) opens expects.More (p + 1) us) (closed in_entry p (Sign CloseParenthesis ∷ us))
      none us e =
          let s : length ts ≡ suc (length us) = ap length e in
          (omega (arith, s, less), (c, omega (arith, s, some), refl))

      begins : (b : Bool) → rest_after is_close ts ≡ None
          → Follows opens n ((if b then description_walk opens p ts else expected ParenthesisExpected p ts) >>= going c)
          (closing (mapped or_none (if b then mapped Some (list_of (parameter read) p ts) else read_as None p ts)))
      begins true e =
          let m : length ts ≤ n = omega (arith, less) in
          follows_closing opens n n (description_walk opens p ts >>= going c) or_none (mapped Some (list_of (parameter read) p ts)) (omega arith)
          (follows_closing opens (length ts) n (description_walk opens p ts >>= going c) Some (list_of (parameter read) p ts) m
          (parameters_in (length ts + 1) opens c p ts small (omega arith) some))
      begins false e =
          closes opens c n (expected ParenthesisExpected p ts) [] p ts (omega (arith, some)) less
          (sym (ap (λ (o : Option Tokens). closed_walk opens p ts o >>= going c) e))

      by : (o : Option Tokens) → rest_after is_close ts ≡ o → Follows opens n (parameters_walk opens p ts o >>= going c) (closed in_entry p ts)
      by (Some us) e =
          let f = close_first ts us e in
          subst (λ (vs : Tokens). Follows opens n (walked_after (walked c) opens expects.More (p + 1) us) (closed in_entry p vs)) (sym f) (none us f)
      by None e =
          subst (λ (r : Result (Front (Option (List tree.ParameterDescription))) Fault). Follows opens n (parameters_walk opens p ts None >>= going c) (closing (mapped or_none r)))
          (sym (description_found (list_of (parameter read)) p ts)) (begins (begins_description ts) e)

  returns_in : (opens : List Open) (n c p : ℕ) (ts : Tokens) → length ts ≤ k → length ts < n → length ts < c
      → Follows opens n (walked c (opened.Returns ∷ opens) expects.Attribute p ts) (closed (attributes read) p ts)
  unfolding after_attributes_walk
  returns_in opens n c p ts small less some = by (attributes read p ts) (attributes_in (length ts + 1) opened.Returns opens c p ts small (omega arith) some)
    where
      by : (a : Result (Front (List tree.DescribedAttribute)) Fault) → Stops opened.Returns opens (length ts) (walked c (opened.Returns ∷ opens) expects.Attribute p ts) a
          → Follows opens n (walked c (opened.Returns ∷ opens) expects.Attribute p ts) (closing a)
      by (Err e) h = h
      by (Ok a) h = closes opens h.1.0 n (walked c (opened.Returns ∷ opens) expects.Attribute p ts) a.value a.next a.rest h.1.1 (omega (arith, h.0, less)) h.1.2

  one_more : (opens : List Open) (c p : ℕ) (ts : Tokens) → length ts ≤ suc k → length ts ≤ c → (o : Option (AttributeWord × Tokens)) → attribute_first ts ≡ o
      → Follows opens (length ts) (walk_by opens expects.Attribute p ts o >>= going c) (read_by tree.Plain any_entry any_returns p ts o)
  unfolding word_walk taken
  one_more opens c p ts small some None e = refl
  one_more opens c p ts small some (Some (attribute.Simple w, us)) e = by (simple_of w (p + 1) us) refl
    where
      by : (r : Result (Front tree.SimpleAttribute) Fault) → simple_of w (p + 1) us ≡ r
          → Follows opens (length ts) (r >>= (λ x. Ok (record { opens = opens; expects = expects.More; next = x.next; rest = x.rest })) >>= going c) (mapped tree.Plain r)
      by (Err f) same = refl
      by (Ok x) same =
          let f = simple_reads w (p + 1) us x same in
          let few = front_shorter us f.0 x.rest f.1 in
          let less = keyword_shorter ts us (attribute.Simple w) e in
          (omega (arith, few, less), (c, omega (arith, few, less, some), refl))
  one_more opens c p ts small some (Some (attribute.Entry, us)) e = by (rest_after is_open us) refl
    where
      less : length us < length ts
      less = keyword_shorter ts us attribute.Entry e

      by : (o : Option Tokens) → rest_after is_open us ≡ o
          → Follows opens (length ts) (entry_walk opens (p + 1) us o >>= going c) (mapped (λ parameters. tree.AnyEntry) (either (made Some (closed in_entry)) (read_as None) (p + 1) us o))
      by None same = (less, (c, omega (arith, less, some), refl))
      by (Some vs) same =
          let s = shorter is_open us vs same in
          let total : Total = parameters_walk opens (p + 1 + 1) vs (rest_after is_close vs) >>= going c in
          follows_made opens (length ts) total (λ parameters. tree.AnyEntry) (mapped Some (closed in_entry (p + 1 + 1) vs))
          (follows_made opens (length ts) total Some (closed in_entry (p + 1 + 1) vs)
          (entry_in opens (length ts) c (p + 1 + 1) vs (omega (arith, s, less, small)) (omega (arith, s, less)) (omega (arith, s, less, some))))
  one_more opens c p ts small some (Some (attribute.Returns, us)) e =
      subst (λ (r : Result (Front (List tree.DescribedAttribute)) Fault). Follows opens (length ts) (word_walk opens attribute.Returns (p + 1) us >>= going c) (mapped (λ others. tree.AnyReturns) r))
      (sym (parenthesized_then (attributes read) (p + 1) us)) (by (rest_after is_open us) refl)
    where
      less : length us < length ts
      less = keyword_shorter ts us attribute.Returns e

      by : (o : Option Tokens) → rest_after is_open us ≡ o
          → Follows opens (length ts) (taken_or ParenthesisExpected (p + 1) us o >>= (λ vs. Ok (record { opens = opened.Returns ∷ opens; expects = expects.Attribute; next = p + 1 + 1; rest = vs })) >>= going c)
          (mapped (λ others. tree.AnyReturns) (taken_or ParenthesisExpected (p + 1) us o >>= λ vs. closed (attributes read) (p + 1 + 1) vs))
      by None same = refl
      by (Some vs) same =
          let s = shorter is_open us vs same in
          follows_made opens (length ts) (walked c (opened.Returns ∷ opens) expects.Attribute (p + 1 + 1) vs) (λ others. tree.AnyReturns) (closed (attributes read) (p + 1 + 1) vs)
          (returns_in opens (length ts) c (p + 1 + 1) vs (omega (arith, s, less, small)) (omega (arith, s, less)) (omega (arith, s, less, some)))

  one_deeper : One (suc k)
  unfolding described_within walked step_at
  one_deeper opens zero p ts small enough = let bad : ⊥ = omega (arith, enough) in absurd bad
  one_deeper opens (suc c) p ts small enough =
      subst (λ (r : Result (Front tree.DescribedAttribute) Fault). Follows opens (length ts) (walk_by opens expects.Attribute p ts (attribute_first ts) >>= going c) r)
      (sym (attribute_same tree.Plain any_entry any_returns p ts))
      (one_more opens c p ts small (omega (arith, enough)) (attribute_first ts) refl)

one_of : (k : ℕ) → One k
unfolding described_within walked step_at attribute_first
one_of zero opens zero p ts small enough = let bad : ⊥ = omega (arith, enough) in absurd bad
one_of zero opens (suc b) p [] small enough = refl
one_of zero opens (suc b) p (t ∷ ts) small enough = let bad : ⊥ = omega (arith, small) in absurd bad
one_of (suc k) opens b p ts small enough = one_deeper k (one_of k) opens b p ts small enough

-- ---- an attribute of a description

nest_same : {A : Type 0} (v : tree.DescribedAttribute) (n : ℕ) (total : Total) (r : Result (Front A) Fault) → Follows [] n total (mapped (λ x. v) r) → mapped (λ x. v) r ≡ mapped (λ nothing. v) total
nest_same v n total (Err e) h = sym (ap (mapped (λ nothing. v)) h)
nest_same v n total (Ok x) h = sym (ap (mapped (λ nothing. v)) h.1.2)

module _ (p : ℕ) (t : TokenText) (us : Tokens) where
  abbrev inner : Reader tree.DescribedAttribute
  inner = described_within (length us)

  abbrev reading : Option (AttributeWord × Tokens) → Result (Front tree.DescribedAttribute) Fault
  reading = read_by tree.Plain (made (λ parameters. tree.AnyEntry) (entry inner)) (made (λ others. tree.AnyReturns) (returned inner)) p (t ∷ us)

  read_so : described p (t ∷ us) ≡ reading (attribute_first (t ∷ us))
  unfolding described_within
  read_so = attribute_same tree.Plain (made (λ parameters. tree.AnyEntry) (entry inner)) (made (λ others. tree.AnyReturns) (returned inner)) p (t ∷ us)

  walked_so : (o : Option (AttributeWord × Tokens)) → attribute_first (t ∷ us) ≡ o → Follows [] (length (t ∷ us)) (nest_at p (t ∷ us)) (reading o)
  unfolding nest_at
  walked_so o e =
      subst (λ (r : Result (Front tree.DescribedAttribute) Fault). Follows [] (length (t ∷ us)) (nest_at p (t ∷ us)) r) (read_so ∙ ap reading e)
      (one_of (length (t ∷ us)) [] (length (t ∷ us) + 1) p (t ∷ us) (omega arith) (omega arith))

  described_by : (o : Option (AttributeWord × Tokens)) → attribute_first (t ∷ us) ≡ o → reading o ≡ described_from p (t ∷ us) o
  described_by None e = refl
  described_by (Some (attribute.Simple w, vs)) e = refl
  described_by (Some (attribute.Entry, vs)) e =
      nest_same tree.AnyEntry (length (t ∷ us)) (nest_at p (t ∷ us)) (entry inner (p + 1) vs) (walked_so (Some (attribute.Entry, vs)) e)
  described_by (Some (attribute.Returns, vs)) e =
      nest_same tree.AnyReturns (length (t ∷ us)) (nest_at p (t ∷ us)) (returned inner (p + 1) vs) (walked_so (Some (attribute.Returns, vs)) e)

pub described_same : (p : ℕ) (ts : Tokens) → described p ts ≡ described_at p ts
unfolding described_within described_at attribute_first
described_same p [] = refl
described_same p (t ∷ us) = read_so p t us ∙ described_by p t us (attribute_first (t ∷ us)) refl

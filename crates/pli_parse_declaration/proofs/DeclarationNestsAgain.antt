-- What is well formed is walked through.
use Rattle.std.proofs.Common.{◌≡◌, ◌+◌, ◌<◌, ℕ, suc, zero, true, cond, List, [], ◌∷◌, ◌++◌, Some, None, Result, Ok, length, codes, refl, ap, ◌∙◌, sym, subst, arith, append_assoc, length-append}
use Rattle.std.specs.Prelude.{is_some}
use Rattle.pli_base.specs.Name.{Name}
use Rattle.pli_base.specs.Words.{Tokens, is_close, rest_after}
use Rattle.pli_base.specs.Results.{◌>>=◌}
use Rattle.pli_base.specs.Reading.{Front, read_as, expected}
use Rattle.pli_base.specs.declared.code.Code.TheVariants.{ParenthesisExpected}
use Rattle.pli_base.specs.declared.token.Fault.{Fault}
use Rattle.pli_base.specs.declared.token.Sign.TheVariants.{Comma, OpenParenthesis, CloseParenthesis}
use Rattle.pli_base.specs.declared.token.TokenText.TheVariants.{Word, Sign}
use Rattle.pli_parse_declaration.specs.DeclarationWords.{data_word, storage_word, nesting_word, attribute_word, attribute_first, begins_description}
use Rattle.pli_base.specs.Declarations.{SimpleAttribute}
use Rattle.pli_parse_declaration.specs.DeclarationReading.{simple_of, Walk, description_walk, parameters_walk, entry_walk, word_walk, after_attributes_walk, walk_by, step_at, walked_after, walked, nest_at}
use Rattle.pli_parse_declaration.specs.DeclarationGrammar.{SpellsDimensions, SpellsSimple, word_of, Part, OneAttribute, Attributes, OneDescription, Descriptions, IsWellFormed, simple, entry, entry_of_none, entry_of, returns_of, last_attribute, more_attributes, description, last_description, more_descriptions}
use Rattle.pli_base.specs.declared.declaration.WrittenBounds.{WrittenBounds}
use Rattle.pli_parse_declaration.specs.declared.nest.Open.{Open}
use Rattle.pli_parse_declaration.specs.declared.nest.Open.TheVariants as opened
use Rattle.pli_parse_declaration.specs.declared.nest.Expects.{Expects}
use Rattle.pli_parse_declaration.specs.declared.nest.Expects.TheVariants as expects
use Rattle.pli_parse_declaration.specs.declared.word.AttributeWord.{AttributeWord}
use Rattle.pli_parse_declaration.specs.declared.word.AttributeWord.TheVariants as attribute
use Rattle.pli_parse_declaration.proofs.DeclarationReadAgain.{NoOpen, no_open_close, no_open_comma, no_open_word, open_taken, open_after, dimensions_again, simple_again, word_again}

pub entry_word : attribute_word (codes "ENTRY") ≡ Some attribute.Entry
unfolding attribute_word data_word storage_word nesting_word
entry_word = refl

pub returns_word : attribute_word (codes "RETURNS") ≡ Some attribute.Returns
unfolding attribute_word data_word storage_word nesting_word
returns_word = refl

-- the first token is an attribute's keyword
abbrev pub FirstWord : Tokens → Type 0
FirstWord ts = (k : Name) × (us : Tokens) × (w : AttributeWord) × (ts ≡ Word k ∷ us) × (attribute_word k ≡ Some w)

-- the first token begins a description, and is no `)`
abbrev pub FirstOfDescription : Tokens → Type 0
FirstOfDescription ts = (zs : Tokens) → (rest_after is_close (ts ++ zs) ≡ None) × (begins_description (ts ++ zs) ≡ true)

abbrev BeginsPart : Part → Tokens → Type 0
BeginsPart OneAttribute ts = FirstWord ts
BeginsPart Attributes ts = FirstWord ts
BeginsPart OneDescription ts = FirstOfDescription ts
BeginsPart Descriptions ts = FirstOfDescription ts

word_describes : (k : Name) (us : Tokens) (w : AttributeWord) → attribute_word k ≡ Some w → FirstOfDescription (Word k ∷ us)
unfolding rest_after begins_description
word_describes k us w h zs = (refl, ap is_some (word_again k (us ++ zs) w h))

open_describes : (us : Tokens) → FirstOfDescription (Sign OpenParenthesis ∷ us)
unfolding rest_after begins_description
open_describes us zs = (refl, refl)

-- a description begins with its dimensions or its first attribute
pub dimensions_describe : (front rest : Tokens) (bounds : List WrittenBounds) → SpellsDimensions front bounds → FirstWord rest → FirstOfDescription (front ++ rest)
dimensions_describe front rest [] spelled (k, us, w, e, word) =
    subst (λ vs. FirstOfDescription vs) (sym (ap (λ vs. vs ++ rest) spelled ∙ e)) (word_describes k us w word)
dimensions_describe front rest (b ∷ bs) (inner, e, spelled) first =
    subst (λ vs. FirstOfDescription vs) (sym (ap (λ vs. vs ++ rest) e)) (open_describes ((inner ++ Sign CloseParenthesis ∷ []) ++ rest))

front_describes : (ts front rest : Tokens) → ts ≡ front ++ rest → FirstOfDescription front → FirstOfDescription ts
front_describes ts front rest e first zs =
    subst (λ us. (rest_after is_close us ≡ None) × (begins_description us ≡ true)) (sym (ap (λ us. us ++ zs) e ∙ append_assoc front rest zs)) (first (rest ++ zs))

pub begins : (part : Part) (ts : Tokens) → IsWellFormed part ts → BeginsPart part ts
begins part ts (simple us a (k, vs, e, word, spelled)) = (k, vs, attribute.Simple (word_of a), e, word)
begins part ts (entry us e) = (codes "ENTRY", [], attribute.Entry, e, entry_word)
begins part ts (entry_of_none us e) = (codes "ENTRY", _, attribute.Entry, e, entry_word)
begins part ts (entry_of us inner e more) = (codes "ENTRY", _, attribute.Entry, e, entry_word)
begins part ts (returns_of us inner e more) = (codes "RETURNS", _, attribute.Returns, e, returns_word)
begins part ts (last_attribute us one) = begins OneAttribute us one
begins part ts (more_attributes us front rest e one more) =
    let f = begins OneAttribute front one in
    (f.0, f.1 ++ rest, f.2, e ∙ ap (λ vs. vs ++ rest) f.3, f.4)
begins part ts (description us front rest bounds e spelled more) =
    subst (λ vs. FirstOfDescription vs) (sym e) (dimensions_describe front rest bounds spelled (begins Attributes rest more))
begins part ts (last_description us one) = begins OneDescription us one
begins part ts (more_descriptions us front rest e one more) = front_describes us front (Sign Comma ∷ rest) e (begins OneDescription front one)

pub first_no_open : (ts zs : Tokens) → FirstWord ts → NoOpen (ts ++ zs)
first_no_open ts zs (k, us, w, e, word) = subst (λ vs. NoOpen (vs ++ zs)) (sym e) (no_open_word k (us ++ zs))

-- what follows a step
abbrev run : ℕ → Result Walk Fault → Result (Front (Unit {0})) Fault
run bound r = r >>= λ w. walked_after (walked bound) w.opens w.expects w.next w.rest

-- the walk comes to where an attribute has ended
abbrev ComesTo : Result (Front (Unit {0})) Fault → List Open → ℕ → Tokens → Type 0
ComesTo r opens q more = (bound : ℕ) × (length more < bound) × (r ≡ walked_after (walked bound) opens expects.More q more)

comes_placed : (r : Result (Front (Unit {0})) Fault) (opens : List Open) (p q : ℕ) (more : Tokens) → p ≡ q → ComesTo r opens p more → ComesTo r opens q more
comes_placed r opens p q more e h = subst (λ s. ComesTo r opens s more) e h

comes_from : (r s : Result (Front (Unit {0})) Fault) (opens : List Open) (p : ℕ) (more : Tokens) → r ≡ s → ComesTo s opens p more → ComesTo r opens p more
comes_from r s opens p more e (bound, small, f) = (bound, small, e ∙ f)

-- a step at an attribute's keyword
word_step : (bound : ℕ) (opens : List Open) (what : Expects) (p : ℕ) (k : Name) (us : Tokens) (w : AttributeWord) → attribute_word k ≡ Some w → walked (suc bound) opens what p (Word k ∷ us) ≡ run bound (word_walk opens w (p + 1) us)
unfolding walked step_at
word_step bound opens what p k us w h = ap (λ o. run bound (walk_by opens what p (Word k ∷ us) o)) (word_again k us w h)

-- a step at `)`
close_step : (bound : ℕ) (o : Open) (opens : List Open) (p : ℕ) (more : Tokens) → walked (suc bound) (o ∷ opens) expects.More p (Sign CloseParenthesis ∷ more) ≡ walked_after (walked bound) opens expects.More (p + 1) more
unfolding walked step_at attribute_first after_attributes_walk rest_after
close_step bound opened.Entry opens p more = refl
close_step bound opened.Returns opens p more = refl

closes : (r : Result (Front (Unit {0})) Fault) (o : Open) (opens : List Open) (p : ℕ) (more : Tokens) → ComesTo r (o ∷ opens) p (Sign CloseParenthesis ∷ more) → ComesTo r opens (p + 1) more
closes r o opens p more (zero, small, e) = absurd (omega arith)
closes r o opens p more (suc bound, small, e) = (bound, omega arith, e ∙ close_step bound o opens p more)

-- a step at a comma between descriptions
comma_step : (bound : ℕ) (opens : List Open) (p : ℕ) (us : Tokens) → walked (suc bound) (opened.Entry ∷ opens) expects.More p (Sign Comma ∷ us) ≡ run bound (description_walk opens (p + 1) us)
unfolding walked step_at attribute_first after_attributes_walk rest_after
comma_step bound opens p us = refl

entry_alone : (opens : List Open) (p : ℕ) (more : Tokens) → NoOpen more → word_walk opens attribute.Entry p more ≡ Ok (record { opens = opens; expects = expects.More; next = p; rest = more })
unfolding word_walk
entry_alone opens p more stops = ap (entry_walk opens p more) stops

entry_without : (opens : List Open) (p : ℕ) (more : Tokens) → word_walk opens attribute.Entry p (Sign OpenParenthesis ∷ Sign CloseParenthesis ∷ more) ≡ Ok (record { opens = opens; expects = expects.More; next = p + 1 + 1; rest = more })
unfolding word_walk rest_after
entry_without opens p more = refl

entry_with : (opens : List Open) (p : ℕ) (us : Tokens) → rest_after is_close us ≡ None → begins_description us ≡ true → word_walk opens attribute.Entry p (Sign OpenParenthesis ∷ us) ≡ description_walk opens (p + 1) us
unfolding word_walk
entry_with opens p us none some =
    ap (entry_walk opens p (Sign OpenParenthesis ∷ us)) (open_after us)
    ∙ ap (parameters_walk opens (p + 1) us) none
    ∙ ap (λ b. cond b (description_walk opens (p + 1) us) (expected ParenthesisExpected (p + 1) us)) some

returns_with : (opens : List Open) (p : ℕ) (us : Tokens) → word_walk opens attribute.Returns p (Sign OpenParenthesis ∷ us) ≡ Ok (record { opens = opened.Returns ∷ opens; expects = expects.Attribute; next = p + 1; rest = us })
unfolding word_walk
returns_with opens p us = ap (λ r. r >>= λ vs. Ok (record { opens = opened.Returns ∷ opens; expects = expects.Attribute; next = p + 1; rest = vs })) (open_taken p us)

simple_with : (opens : List Open) (a : SimpleAttribute) (p : ℕ) (us more : Tokens) → simple_of (word_of a) p (us ++ more) ≡ read_as a (p + length us) more
    → word_walk opens (attribute.Simple (word_of a)) p (us ++ more) ≡ Ok (record { opens = opens; expects = expects.More; next = p + length us; rest = more })
unfolding word_walk
simple_with opens a p us more h = ap (λ r. r >>= λ x. Ok (record { opens = opens; expects = expects.More; next = x.next; rest = x.rest })) h

-- how a part is walked through
abbrev Again : Part → Tokens → Type 0
Again OneAttribute ts = (opens : List Open) (what : Expects) (p bound : ℕ) (more : Tokens) → NoOpen more → length (ts ++ more) < bound → ComesTo (walked bound opens what p (ts ++ more)) opens (p + length ts) more
Again Attributes ts = (o : Open) (opens : List Open) (what : Expects) (p bound : ℕ) (more : Tokens) → NoOpen more → length (ts ++ more) < bound → ComesTo (walked bound (o ∷ opens) what p (ts ++ more)) (o ∷ opens) (p + length ts) more
Again OneDescription ts = (opens : List Open) (p bound : ℕ) (more : Tokens) → NoOpen more → length (ts ++ more) < bound → ComesTo (run bound (description_walk opens p (ts ++ more))) (opened.Entry ∷ opens) (p + length ts) more
Again Descriptions ts = (opens : List Open) (p bound : ℕ) (more : Tokens) → NoOpen more → length (ts ++ more) < bound → ComesTo (run bound (description_walk opens p (ts ++ more))) (opened.Entry ∷ opens) (p + length ts) more

simple_again_walk : (ts : Tokens) (a : SimpleAttribute) → SpellsSimple ts a → Again OneAttribute ts
simple_again_walk ts a (k, us, e, word, spelled) opens what p zero more stops small = absurd (omega arith)
simple_again_walk ts a (k, us, e, word, spelled) opens what p (suc bound) more stops small =
    let place : p + 1 + length us ≡ p + length ts = omega (arith, ap length e) in
    comes_placed _ opens (p + 1 + length us) (p + length ts) more place (
      bound,
      omega (arith, ap length e, small, length-append ts more),
      ap (λ vs. walked (suc bound) opens what p (vs ++ more)) e
          ∙ word_step bound opens what p k (us ++ more) (attribute.Simple (word_of a)) word
          ∙ ap (run bound) (simple_with opens a (p + 1) us more (simple_again a (p + 1) us more spelled stops)),
    )

entry_again_walk : (ts : Tokens) → ts ≡ Word (codes "ENTRY") ∷ [] → Again OneAttribute ts
entry_again_walk ts e opens what p zero more stops small = absurd (omega arith)
entry_again_walk ts e opens what p (suc bound) more stops small =
    let place : p + 1 ≡ p + length ts = omega (arith, ap length e) in
    comes_placed _ opens (p + 1) (p + length ts) more place (
      bound,
      omega (arith, ap length e, small, length-append ts more),
      ap (λ vs. walked (suc bound) opens what p (vs ++ more)) e
          ∙ word_step bound opens what p (codes "ENTRY") more attribute.Entry entry_word
          ∙ ap (run bound) (entry_alone opens (p + 1) more stops),
    )

empty_again_walk : (ts : Tokens) → ts ≡ Word (codes "ENTRY") ∷ Sign OpenParenthesis ∷ Sign CloseParenthesis ∷ [] → Again OneAttribute ts
empty_again_walk ts e opens what p zero more stops small = absurd (omega arith)
empty_again_walk ts e opens what p (suc bound) more stops small =
    let place : p + 1 + 1 + 1 ≡ p + length ts = omega (arith, ap length e) in
    comes_placed _ opens (p + 1 + 1 + 1) (p + length ts) more place (
      bound,
      omega (arith, ap length e, small, length-append ts more),
      ap (λ vs. walked (suc bound) opens what p (vs ++ more)) e
          ∙ word_step bound opens what p (codes "ENTRY") (Sign OpenParenthesis ∷ Sign CloseParenthesis ∷ more) attribute.Entry entry_word
          ∙ ap (run bound) (entry_without opens (p + 1) more),
    )

entry_of_again : (ts inner : Tokens) → ts ≡ Word (codes "ENTRY") ∷ Sign OpenParenthesis ∷ inner ++ Sign CloseParenthesis ∷ [] → FirstOfDescription inner → Again Descriptions inner → Again OneAttribute ts
entry_of_again ts inner e first within opens what p zero more stops small = absurd (omega arith)
entry_of_again ts inner e first within opens what p (suc bound) more stops small =
    let us : Tokens = inner ++ Sign CloseParenthesis ∷ more in
    let begun = first (Sign CloseParenthesis ∷ more) in
    let shape : ts ++ more ≡ Word (codes "ENTRY") ∷ Sign OpenParenthesis ∷ us = ap (λ vs. vs ++ more) e ∙ ap (λ vs. Word (codes "ENTRY") ∷ Sign OpenParenthesis ∷ vs) (append_assoc inner (Sign CloseParenthesis ∷ []) more) in
    let less : length us < bound = omega (arith, small, ap length shape) in
    let place : p + 1 + 1 + length inner + 1 ≡ p + length ts = omega (arith, ap length e, length-append inner (Sign CloseParenthesis ∷ [])) in
    comes_placed _ opens (p + 1 + 1 + length inner + 1) (p + length ts) more place
    (comes_from _ (run bound (description_walk opens (p + 1 + 1) us)) opens (p + 1 + 1 + length inner + 1) more
    (ap (walked (suc bound) opens what p) shape
    ∙ word_step bound opens what p (codes "ENTRY") (Sign OpenParenthesis ∷ us) attribute.Entry entry_word
    ∙ ap (run bound) (entry_with opens (p + 1) us begun.0 begun.1))
    (closes _ opened.Entry opens (p + 1 + 1 + length inner) more (within opens (p + 1 + 1) bound (Sign CloseParenthesis ∷ more) (no_open_close more) less)))

returns_of_again : (ts inner : Tokens) → ts ≡ Word (codes "RETURNS") ∷ Sign OpenParenthesis ∷ inner ++ Sign CloseParenthesis ∷ [] → Again Attributes inner → Again OneAttribute ts
returns_of_again ts inner e within opens what p zero more stops small = absurd (omega arith)
returns_of_again ts inner e within opens what p (suc bound) more stops small =
    let us : Tokens = inner ++ Sign CloseParenthesis ∷ more in
    let shape : ts ++ more ≡ Word (codes "RETURNS") ∷ Sign OpenParenthesis ∷ us = ap (λ vs. vs ++ more) e ∙ ap (λ vs. Word (codes "RETURNS") ∷ Sign OpenParenthesis ∷ vs) (append_assoc inner (Sign CloseParenthesis ∷ []) more) in
    let less : length us < bound = omega (arith, small, ap length shape) in
    let place : p + 1 + 1 + length inner + 1 ≡ p + length ts = omega (arith, ap length e, length-append inner (Sign CloseParenthesis ∷ [])) in
    comes_placed _ opens (p + 1 + 1 + length inner + 1) (p + length ts) more place
    (comes_from _ (walked bound (opened.Returns ∷ opens) expects.Attribute (p + 1 + 1) us) opens (p + 1 + 1 + length inner + 1) more
    (ap (walked (suc bound) opens what p) shape
    ∙ word_step bound opens what p (codes "RETURNS") (Sign OpenParenthesis ∷ us) attribute.Returns returns_word
    ∙ ap (run bound) (returns_with opens (p + 1) us))
    (closes _ opened.Returns opens (p + 1 + 1 + length inner) more (within opened.Returns opens expects.Attribute (p + 1 + 1) bound (Sign CloseParenthesis ∷ more) (no_open_close more) less)))

more_attributes_again : (ts front rest : Tokens) → ts ≡ front ++ rest → Again OneAttribute front → FirstWord rest → Again Attributes rest → Again Attributes ts
more_attributes_again ts front rest e one first many o opens what p bound more stops small =
    let shape : ts ++ more ≡ front ++ (rest ++ more) = ap (λ us. us ++ more) e ∙ append_assoc front rest more in
    let a = one (o ∷ opens) what p bound (rest ++ more) (first_no_open rest more first) (omega (arith, small, ap length shape)) in
    let b = many o opens expects.More (p + length front) a.0 more stops a.1 in
    let place : p + length front + length rest ≡ p + length ts = omega (arith, ap length e, length-append front rest) in
    comes_placed _ (o ∷ opens) (p + length front + length rest) (p + length ts) more place
    (comes_from _ (walked a.0 (o ∷ opens) expects.More (p + length front) (rest ++ more)) (o ∷ opens) (p + length front + length rest) more (ap (walked bound (o ∷ opens) what p) shape ∙ a.2) b)

dimensions_walked : (opens : List Open) (p : ℕ) (front more : Tokens) (bounds : List WrittenBounds) → SpellsDimensions front bounds → NoOpen more
    → description_walk opens p (front ++ more) ≡ Ok (record { opens = opened.Entry ∷ opens; expects = expects.Attribute; next = p + length front; rest = more })
unfolding description_walk
dimensions_walked opens p front more bounds spelled stops = ap (λ r. r >>= λ x. Ok (record { opens = opened.Entry ∷ opens; expects = expects.Attribute; next = x.next; rest = x.rest })) (dimensions_again p front more bounds spelled stops)

description_again : (ts front rest : Tokens) (bounds : List WrittenBounds) → ts ≡ front ++ rest → SpellsDimensions front bounds → FirstWord rest → Again Attributes rest → Again OneDescription ts
description_again ts front rest bounds e spelled first many opens p bound more stops small =
    let shape : ts ++ more ≡ front ++ (rest ++ more) = ap (λ us. us ++ more) e ∙ append_assoc front rest more in
    let less : length (rest ++ more) < bound = omega (arith, small, ap length shape, length-append front (rest ++ more)) in
    let place : p + length front + length rest ≡ p + length ts = omega (arith, ap length e, length-append front rest) in
    comes_placed _ (opened.Entry ∷ opens) (p + length front + length rest) (p + length ts) more place
    (comes_from _ (walked bound (opened.Entry ∷ opens) expects.Attribute (p + length front) (rest ++ more)) (opened.Entry ∷ opens) (p + length front + length rest) more
    (ap (λ us. run bound (description_walk opens p us)) shape ∙ ap (run bound) (dimensions_walked opens p front (rest ++ more) bounds spelled (first_no_open rest more first)))
    (many opened.Entry opens expects.Attribute (p + length front) bound more stops less))

-- after a description and a comma
next_description : (r : Result (Front (Unit {0})) Fault) (opens : List Open) (p : ℕ) (rest more : Tokens) → Again Descriptions rest → NoOpen more → ComesTo r (opened.Entry ∷ opens) p (Sign Comma ∷ rest ++ more)
    → ComesTo r (opened.Entry ∷ opens) (p + 1 + length rest) more
next_description r opens p rest more many stops (zero, small, e) = absurd (omega arith)
next_description r opens p rest more many stops (suc bound, small, e) =
    comes_from r (run bound (description_walk opens (p + 1) (rest ++ more))) (opened.Entry ∷ opens) (p + 1 + length rest) more (e ∙ comma_step bound opens p (rest ++ more)) (many opens (p + 1) bound more stops (omega arith))

more_descriptions_again : (ts front rest : Tokens) → ts ≡ front ++ Sign Comma ∷ rest → Again OneDescription front → Again Descriptions rest → Again Descriptions ts
more_descriptions_again ts front rest e one many opens p bound more stops small =
    let shape : ts ++ more ≡ front ++ (Sign Comma ∷ rest ++ more) = ap (λ us. us ++ more) e ∙ append_assoc front (Sign Comma ∷ rest) more in
    let place : p + length front + 1 + length rest ≡ p + length ts = omega (arith, ap length e, length-append front (Sign Comma ∷ rest)) in
    comes_placed _ (opened.Entry ∷ opens) (p + length front + 1 + length rest) (p + length ts) more place
    (comes_from _ (run bound (description_walk opens p (front ++ (Sign Comma ∷ rest ++ more)))) (opened.Entry ∷ opens) (p + length front + 1 + length rest) more (ap (λ us. run bound (description_walk opens p us)) shape)
    (next_description _ opens (p + length front) rest more many stops (one opens p bound (Sign Comma ∷ rest ++ more) (no_open_comma (rest ++ more)) (omega (arith, small, ap length shape)))))

again : (part : Part) (ts : Tokens) → IsWellFormed part ts → Again part ts
again part ts (simple us a spelled) = simple_again_walk us a spelled
again part ts (entry us e) = entry_again_walk us e
again part ts (entry_of_none us e) = empty_again_walk us e
again part ts (entry_of us inner e more) = entry_of_again us inner e (begins Descriptions inner more) (again Descriptions inner more)
again part ts (returns_of us inner e more) = returns_of_again us inner e (again Attributes inner more)
again part ts (last_attribute us one) = λ o opens what p bound more stops small. again OneAttribute us one (o ∷ opens) what p bound more stops small
again part ts (more_attributes us front rest e one more) = more_attributes_again us front rest e (again OneAttribute front one) (begins Attributes rest more) (again Attributes rest more)
again part ts (description us front rest bounds e spelled more) = description_again us front rest bounds e spelled (begins Attributes rest more) (again Attributes rest more)
again part ts (last_description us one) = again OneDescription us one
again part ts (more_descriptions us front rest e one more) = more_descriptions_again us front rest e (again OneDescription front one) (again Descriptions rest more)

pub nest_again : (p : ℕ) (ts more : Tokens) → IsWellFormed OneAttribute ts → NoOpen more → nest_at p (ts ++ more) ≡ read_as tt (p + length ts) more
unfolding nest_at
nest_again p ts more spelled stops = (again OneAttribute ts spelled [] expects.Attribute p (length (ts ++ more) + 1) more stops (omega arith)).2

-- What is walked through is well formed.
use Rattle.std.proofs.Common.{◌≡◌, ◌+◌, ℕ, suc, zero, Bool, true, false, cond, List, [], ◌∷◌, ◌++◌, Option, Some, None, Result, Ok, length, codes, refl, ap, ◌∙◌, sym, subst, arith, ◌⊎◌, inl, inr, ⊎_elim, append_assoc, length-append}
use Rattle.std.proofs.lemmas.List.{append-nil}
use Rattle.pli_base.specs.Words.{Tokens, is_open, is_close, is_comma, rest_after}
use Rattle.pli_base.specs.Reading.{Front, expected, taken}
use Rattle.pli_base.specs.declared.code.Code.TheVariants.{ParenthesisExpected}
use Rattle.pli_base.specs.declared.token.Fault.{Fault}
use Rattle.pli_base.specs.declared.token.Sign.TheVariants.{Comma, OpenParenthesis, CloseParenthesis}
use Rattle.pli_base.specs.declared.token.TokenText.TheVariants.{Word, Sign}
use Rattle.pli_parse_declaration.specs.DeclarationWords.{attribute_first, begins_description}
use Rattle.pli_parse_declaration.specs.DeclarationReading.{dimensions_at, simple_of, Walk, description_walk, parameters_walk, entry_walk, word_walk, closed_walk, comma_walk, after_attributes_walk, no_word_walk, walk_by, step_at, walked_after, walked, nest_at}
use Rattle.pli_parse_declaration.specs.DeclarationGrammar.{SpellsFront, SpellsDimensions, OneAttribute, Attributes, OneDescription, Descriptions, IsWellFormed, simple, entry, entry_of_none, entry_of, returns_of, last_attribute, more_attributes, description, last_description, more_descriptions}
use Rattle.pli_base.specs.declared.declaration.WrittenBounds.{WrittenBounds}
use Rattle.pli_parse_declaration.specs.declared.nest.Open.{Open}
use Rattle.pli_parse_declaration.specs.declared.nest.Open.TheVariants as opened
use Rattle.pli_parse_declaration.specs.declared.nest.Expects.{Expects}
use Rattle.pli_parse_declaration.specs.declared.nest.Expects.TheVariants as expects
use Rattle.pli_parse_declaration.specs.declared.word.SimpleWord.{SimpleWord}
use Rattle.pli_parse_declaration.specs.declared.word.AttributeWord.{AttributeWord}
use Rattle.pli_parse_declaration.specs.declared.word.AttributeWord.TheVariants as attribute
use Rattle.pli_parse_declaration.proofs.DeclarationSteps.{open_first, close_first, comma_first, taken_ok, two}
use Rattle.pli_parse_fault.proofs.StepLemmas.{same_ok, bind_ok}
use Rattle.pli_parse_declaration.proofs.DeclarationRead.{Reads, dimensions_reads, word_first, simple_spelled, entry_is, returns_is}

-- attributes, or none
abbrev pub MaybeAttributes : Tokens → Type 0
MaybeAttributes ts = (ts ≡ []) ⊎ IsWellFormed Attributes ts

-- a comma and descriptions, or nothing
abbrev pub MaybeDescriptions : Tokens → Type 0
MaybeDescriptions ts = (ts ≡ []) ⊎ ((us : Tokens) × (ts ≡ Sign Comma ∷ us) × IsWellFormed Descriptions us)

-- what stands in a parenthesis from an attribute on
abbrev pub Starts : Open → Tokens → Type 0
Starts opened.Returns ts = IsWellFormed Attributes ts
Starts opened.Entry ts = (front : Tokens) × (rest : Tokens) × (ts ≡ front ++ rest) × IsWellFormed Attributes front × MaybeDescriptions rest

-- what stands in a parenthesis after an attribute
abbrev pub Remains : Open → Tokens → Type 0
Remains opened.Returns ts = MaybeAttributes ts
Remains opened.Entry ts = (front : Tokens) × (rest : Tokens) × (ts ≡ front ++ rest) × MaybeAttributes front × MaybeDescriptions rest

-- what closes the parentheses
abbrev pub Closes : List Open → Tokens → Type 0
Closes [] ts = ts ≡ []
Closes (o ∷ opens) ts = (inner : Tokens) × (rest : Tokens) × (ts ≡ inner ++ Sign CloseParenthesis ∷ rest) × Remains o inner × Closes opens rest

-- what ends a walk
abbrev pub Finishes : List Open → Expects → Tokens → Type 0
Finishes opens expects.More ts = Closes opens ts
Finishes [] expects.Attribute ts = IsWellFormed OneAttribute ts
Finishes (o ∷ opens) expects.Attribute ts = (inner : Tokens) × (rest : Tokens) × (ts ≡ inner ++ Sign CloseParenthesis ∷ rest) × Starts o inner × Closes opens rest

-- a walk that is not over
abbrev pub IsLive : List Open → Expects → Type 0
IsLive [] expects.More = ⊥
IsLive opens what = Unit {0}

-- an attribute more
with_attributes : (front inner : Tokens) → IsWellFormed OneAttribute front → MaybeAttributes inner → IsWellFormed Attributes (front ++ inner)
with_attributes front inner one more =
    ⊎_elim (λ e. last_attribute (front ++ inner) (subst (λ us. IsWellFormed OneAttribute us) (sym (ap (λ us. front ++ us) e ∙ append-nil front)) one))
    (λ many. more_attributes (front ++ inner) front inner refl one many) more

starts_with : (o : Open) (front inner : Tokens) → IsWellFormed OneAttribute front → Remains o inner → Starts o (front ++ inner)
starts_with opened.Returns front inner one more = with_attributes front inner one more
starts_with opened.Entry front inner one (attributes, rest, shape, more, later) =
    (front ++ attributes, rest, ap (λ us. front ++ us) shape ∙ sym (append_assoc front attributes rest), with_attributes front attributes one more, later)

starts_remain : (o : Open) (ts : Tokens) → Starts o ts → Remains o ts
starts_remain opened.Returns ts h = inr h
starts_remain opened.Entry ts (front, rest, shape, attributes, later) = (front, rest, shape, inr attributes, later)

-- an attribute, and what closes the parentheses that are open
attribute_before : (opens : List Open) (what : Expects) → IsLive opens what → (front back : Tokens) → IsWellFormed OneAttribute front → Closes opens back → Finishes opens what (front ++ back)
attribute_before [] expects.Attribute live front back one closes = subst (λ us. IsWellFormed OneAttribute us) (sym (ap (λ us. front ++ us) closes ∙ append-nil front)) one
attribute_before [] expects.More live front back one closes = absurd live
attribute_before (o ∷ opens) expects.Attribute live front back one (inner, rest, shape, remains, closes) =
    (front ++ inner, rest, ap (λ us. front ++ us) shape ∙ sym (append_assoc front inner (Sign CloseParenthesis ∷ rest)), starts_with o front inner one remains, closes)
attribute_before (o ∷ opens) expects.More live front back one (inner, rest, shape, remains, closes) =
    (front ++ inner, rest, ap (λ us. front ++ us) shape ∙ sym (append_assoc front inner (Sign CloseParenthesis ∷ rest)), starts_remain o (front ++ inner) (starts_with o front inner one remains), closes)

-- dimensions before the attributes of a description
descriptions_from : (dims inner : Tokens) (bounds : List WrittenBounds) → SpellsDimensions dims bounds → Starts opened.Entry inner → IsWellFormed Descriptions (dims ++ inner)
descriptions_from dims inner bounds spelled (front, rest, shape, attributes, later) =
    let one : IsWellFormed OneDescription (dims ++ front) = description (dims ++ front) dims front bounds refl spelled attributes in
    ⊎_elim
    (λ e. last_description (dims ++ inner) (subst (λ us. IsWellFormed OneDescription us) (ap (λ us. dims ++ us) (sym (shape ∙ ap (λ us. front ++ us) e ∙ append-nil front))) one))
    (λ m. more_descriptions (dims ++ inner) (dims ++ front) m.0 (ap (λ us. dims ++ us) (shape ∙ ap (λ us. front ++ us) m.1) ∙ sym (append_assoc dims front (Sign Comma ∷ m.0))) one m.2) later

-- what a walk comes to, where a step has come to w
abbrev Comes : Walk → Front (Unit {0}) → Type 0
Comes w x = (back : Tokens) × (w.rest ≡ back ++ x.rest) × (x.next ≡ w.next + length back) × Finishes w.opens w.expects back

abbrev Whole : List Open → Expects → ℕ → Tokens → Front (Unit {0}) → Type 0
Whole opens what p ts x = SpellsFront (λ q us (nothing : Unit {0}). Finishes opens what us) p ts x

-- an attribute that a step has passed over
passed : (opens : List Open) (what : Expects) → IsLive opens what → (p : ℕ) (ts front rest : Tokens) (next : ℕ) → ts ≡ front ++ rest → next ≡ p + length front → IsWellFormed OneAttribute front
    → (x : Front (Unit {0})) → Comes (record { opens = opens; expects = expects.More; next = next; rest = rest }) x → Whole opens what p ts x
passed opens what live p ts front rest next shape place one x (back, e, further, finishes) =
    let t = two p next x.next ts rest x.rest front back shape place e further in
    (front ++ back, t.0, t.1, attribute_before opens what live front back one finishes)

-- dimensions of a description, and the parenthesis of an ENTRY around it
module _ (opens : List Open) (p : ℕ) (us : Tokens) (w : Walk) (h : description_walk opens p us ≡ Ok w) (x : Front (Unit {0})) (comes : Comes w x) where
  abbrev pub Described : Type 0
  Described = (inner : Tokens) × (rest : Tokens) × (us ≡ (inner ++ Sign CloseParenthesis ∷ rest) ++ x.rest) × (x.next ≡ p + length (inner ++ Sign CloseParenthesis ∷ rest))
      × IsWellFormed Descriptions inner × Closes opens rest

  pub described : Described
  unfolding description_walk
  described =
      let g = bind_ok (dimensions_at p us) _ w h in
      let d = dimensions_reads p us g.0 g.1 in
      let e = same_ok g.2 in
      let c = subst (λ v. Comes v x) (sym e) comes in
      let f = c.3 in
      let t = two p g.0.next x.next us g.0.rest x.rest d.0 c.0 d.1 d.2 c.1 c.2 in
      let shape : d.0 ++ c.0 ≡ (d.0 ++ f.0) ++ Sign CloseParenthesis ∷ f.1 = ap (λ vs. d.0 ++ vs) f.2 ∙ sym (append_assoc d.0 f.0 (Sign CloseParenthesis ∷ f.1)) in
      (d.0 ++ f.0, f.1, t.0 ∙ ap (λ vs. vs ++ x.rest) shape, t.1 ∙ ap (λ (vs : Tokens). p + length vs) shape, descriptions_from d.0 f.0 g.0.value d.3 f.3, f.4)

-- after the keyword of an attribute
module _ (opens : List Open) (what : Expects) (live : IsLive opens what) (p : ℕ) (ts us : Tokens) (x : Front (Unit {0})) where
  simple_step : (s : SimpleWord) → attribute_first ts ≡ Some (attribute.Simple s, us) → (w : Walk) → word_walk opens (attribute.Simple s) (p + 1) us ≡ Ok w → Comes w x → Whole opens what p ts x
  unfolding word_walk
  simple_step s first w h comes =
      let g = bind_ok (simple_of s (p + 1) us) _ w h in
      let f = simple_spelled p ts us s first g.0 g.1 in
      passed opens what live p ts f.0 g.0.rest g.0.next f.1 f.2 (simple f.0 g.0.value f.3) x (subst (λ v. Comes v x) (sym (same_ok g.2)) comes)

  entry_step : ts ≡ Word (codes "ENTRY") ∷ us → (w : Walk) → entry_walk opens (p + 1) us (rest_after is_open us) ≡ Ok w → Comes w x → Whole opens what p ts x
  entry_step first w h comes = opens_or_not (rest_after is_open us) refl h
    where
      empty_or_not : (vs : Tokens) → us ≡ Sign OpenParenthesis ∷ vs → (o : Option Tokens) → rest_after is_close vs ≡ o → parameters_walk opens (p + 1 + 1) vs o ≡ Ok w → Whole opens what p ts x
      empty_or_not vs e (Some zs) f g =
          let shape : ts ≡ Word (codes "ENTRY") ∷ Sign OpenParenthesis ∷ Sign CloseParenthesis ∷ zs = first ∙ ap (λ ws. Word (codes "ENTRY") ∷ ws) (e ∙ ap (λ ws. Sign OpenParenthesis ∷ ws) (close_first vs zs f)) in
          let place : p + 1 + 1 + 1 ≡ p + 3 = omega arith in
          passed opens what live p ts (Word (codes "ENTRY") ∷ Sign OpenParenthesis ∷ Sign CloseParenthesis ∷ []) zs (p + 1 + 1 + 1) shape place (entry_of_none _ refl) x (subst (λ v. Comes v x) (sym (same_ok g)) comes)
      empty_or_not vs e None f g = descriptions_or_not (begins_description vs) g
        where
          descriptions_or_not : (b : Bool) → cond b (description_walk opens (p + 1 + 1) vs) (expected ParenthesisExpected (p + 1 + 1) vs) ≡ Ok w → Whole opens what p ts x
          descriptions_or_not true k =
              let d = described opens (p + 1 + 1) vs w k x comes in
              let front : Tokens = Word (codes "ENTRY") ∷ Sign OpenParenthesis ∷ d.0 ++ Sign CloseParenthesis ∷ [] in
              let grouped : (d.0 ++ Sign CloseParenthesis ∷ d.1) ++ x.rest ≡ (d.0 ++ Sign CloseParenthesis ∷ []) ++ (d.1 ++ x.rest) = simp append_assoc in
              let shape : ts ≡ front ++ (d.1 ++ x.rest) = first ∙ ap (λ ws. Word (codes "ENTRY") ∷ ws) (e ∙ ap (λ ws. Sign OpenParenthesis ∷ ws) (d.2 ∙ grouped)) in
              let place : x.next ≡ p + length front + length d.1 = omega (arith, d.3, length-append d.0 (Sign CloseParenthesis ∷ d.1), length-append d.0 (Sign CloseParenthesis ∷ [])) in
              passed opens what live p ts front (d.1 ++ x.rest) (p + length front) shape refl (entry_of front d.0 refl d.4) x (d.1, refl, place, d.5)
          descriptions_or_not false k = cc

      opens_or_not : (o : Option Tokens) → rest_after is_open us ≡ o → entry_walk opens (p + 1) us o ≡ Ok w → Whole opens what p ts x
      opens_or_not None e g = passed opens what live p ts (Word (codes "ENTRY") ∷ []) us (p + 1) first refl (entry _ refl) x (subst (λ v. Comes v x) (sym (same_ok g)) comes)
      opens_or_not (Some vs) e g = empty_or_not vs (open_first us vs e) (rest_after is_close vs) refl g

  returns_step : ts ≡ Word (codes "RETURNS") ∷ us → (w : Walk) → word_walk opens attribute.Returns (p + 1) us ≡ Ok w → Comes w x → Whole opens what p ts x
  unfolding word_walk
  returns_step first w h comes =
      let g = bind_ok (taken is_open ParenthesisExpected (p + 1) us) _ w h in
      let e = open_first us g.0 (taken_ok is_open ParenthesisExpected (p + 1) us g.0 g.1) in
      let c = subst (λ v. Comes v x) (sym (same_ok g.2)) comes in
      let f = c.3 in
      let front : Tokens = Word (codes "RETURNS") ∷ Sign OpenParenthesis ∷ f.0 ++ Sign CloseParenthesis ∷ [] in
      let grouped : (f.0 ++ Sign CloseParenthesis ∷ f.1) ++ x.rest ≡ (f.0 ++ Sign CloseParenthesis ∷ []) ++ (f.1 ++ x.rest) = simp append_assoc in
      let shape : ts ≡ front ++ (f.1 ++ x.rest) =
      first ∙ ap (λ ws. Word (codes "RETURNS") ∷ ws) (e ∙ ap (λ ws. Sign OpenParenthesis ∷ ws) (c.1 ∙ ap (λ ws. ws ++ x.rest) f.2 ∙ grouped))
      in
      let place : x.next ≡ p + length front + length f.1 = omega (arith, c.2, ap length f.2, length-append f.0 (Sign CloseParenthesis ∷ f.1), length-append f.0 (Sign CloseParenthesis ∷ [])) in
      passed opens what live p ts front (f.1 ++ x.rest) (p + length front) shape refl (returns_of front f.0 refl f.3) x (f.1, refl, place, f.4)

  pub word_step : (v : AttributeWord) → attribute_first ts ≡ Some (v, us) → (w : Walk) → word_walk opens v (p + 1) us ≡ Ok w → Comes w x → Whole opens what p ts x
  unfolding word_walk
  word_step (attribute.Simple s) first w h comes = simple_step s first w h comes
  word_step attribute.Entry first w h comes =
      let k = word_first ts us attribute.Entry first in
      entry_step (k.1 ∙ ap (λ n. Word n ∷ us) (entry_is k.0 k.2)) w h comes
  word_step attribute.Returns first w h comes =
      let k = word_first ts us attribute.Returns first in
      returns_step (k.1 ∙ ap (λ n. Word n ∷ us) (returns_is k.0 k.2)) w h comes

-- nothing is left in a parenthesis
nothing_remains : (o : Open) → Remains o []
nothing_remains opened.Returns = inl refl
nothing_remains opened.Entry = ([], [], refl, inl refl, inl refl)

closed_step : (o : Open) (opens : List Open) (p : ℕ) (ts : Tokens) (w : Walk) (x : Front (Unit {0})) → closed_walk opens p ts (rest_after is_close ts) ≡ Ok w → Comes w x → Whole (o ∷ opens) expects.More p ts x
closed_step o opens p ts w x h comes = by (rest_after is_close ts) refl h
  where
    by : (c : Option Tokens) → rest_after is_close ts ≡ c → closed_walk opens p ts c ≡ Ok w → Whole (o ∷ opens) expects.More p ts x
    by (Some us) e g =
        let c = subst (λ v. Comes v x) (sym (same_ok g)) comes in
        (Sign CloseParenthesis ∷ c.0, close_first ts us e ∙ ap (λ vs. Sign CloseParenthesis ∷ vs) c.1, omega (arith, c.2), ([], c.0, refl, nothing_remains o, c.3))
    by None e g = cc

comma_step : (opens : List Open) (p : ℕ) (ts : Tokens) (w : Walk) (x : Front (Unit {0})) → comma_walk opens p ts (rest_after is_comma ts) ≡ Ok w → Comes w x → Whole (opened.Entry ∷ opens) expects.More p ts x
comma_step opens p ts w x h comes = by (rest_after is_comma ts) refl h
  where
    by : (c : Option Tokens) → rest_after is_comma ts ≡ c → comma_walk opens p ts c ≡ Ok w → Whole (opened.Entry ∷ opens) expects.More p ts x
    by (Some us) e g =
        let d = described opens (p + 1) us w g x comes in (
          Sign Comma ∷ d.0 ++ Sign CloseParenthesis ∷ d.1,
          comma_first ts us e ∙ ap (λ vs. Sign Comma ∷ vs) d.2,
          omega (arith, d.3),
          (Sign Comma ∷ d.0, d.1, refl, ([], Sign Comma ∷ d.0, refl, inl refl, inr (d.0, refl, d.4)), d.5),
        )
    by None e g = closed_step opened.Entry opens p ts w x g comes

after_step : (opens : List Open) (p : ℕ) (ts : Tokens) (w : Walk) (x : Front (Unit {0})) → after_attributes_walk opens p ts ≡ Ok w → Comes w x → Whole opens expects.More p ts x
unfolding after_attributes_walk
after_step [] p ts w x h comes = cc
after_step (opened.Entry ∷ opens) p ts w x h comes = comma_step opens p ts w x h comes
after_step (opened.Returns ∷ opens) p ts w x h comes = closed_step opened.Returns opens p ts w x h comes

one_step : (opens : List Open) (what : Expects) → IsLive opens what → (p : ℕ) (ts : Tokens) (w : Walk) (x : Front (Unit {0})) → step_at opens what p ts ≡ Ok w → Comes w x → Whole opens what p ts x
unfolding step_at
one_step opens what live p ts w x h comes = by (attribute_first ts) refl h
  where
    no_word : (e : Expects) → no_word_walk opens e p ts ≡ Ok w → Whole opens e p ts x
    no_word expects.Attribute g = cc
    no_word expects.More g = after_step opens p ts w x g comes

    by : (o : Option (AttributeWord × Tokens)) → attribute_first ts ≡ o → walk_by opens what p ts o ≡ Ok w → Whole opens what p ts x
    by (Some v) e g = word_step opens what live p ts v.1 x v.0 e w g comes
    by None e g = no_word what g

live_inside : (o : Open) (opens : List Open) (what : Expects) → IsLive (o ∷ opens) what
live_inside o opens expects.Attribute = tt
live_inside o opens expects.More = tt

after : (more : List Open → Expects → ℕ → Tokens → Result (Front (Unit {0})) Fault)
    → ((opens : List Open) (what : Expects) → IsLive opens what → (p : ℕ) (ts : Tokens) (x : Front (Unit {0})) → more opens what p ts ≡ Ok x → Whole opens what p ts x)
    → (opens : List Open) (what : Expects) (p : ℕ) (ts : Tokens) (x : Front (Unit {0})) → walked_after more opens what p ts ≡ Ok x → Comes (record { opens = opens; expects = what; next = p; rest = ts }) x
after more more_walks [] expects.More p ts x h = subst (Comes (record { opens = []; expects = expects.More; next = p; rest = ts })) (same_ok h) ([], refl, omega arith, refl)
after more more_walks [] expects.Attribute p ts x h = let r = more_walks [] expects.Attribute tt p ts x h in (r.0, r.1, r.2, r.3)
after more more_walks (o ∷ opens) what p ts x h = let r = more_walks (o ∷ opens) what (live_inside o opens what) p ts x h in (r.0, r.1, r.2, r.3)

walks : (bound : ℕ) (opens : List Open) (what : Expects) → IsLive opens what → (p : ℕ) (ts : Tokens) (x : Front (Unit {0})) → walked bound opens what p ts ≡ Ok x → Whole opens what p ts x
unfolding walked
walks zero opens what live p ts x h = cc
walks (suc bound) opens what live p ts x h =
    let g = bind_ok (step_at opens what p ts) _ x h in
    one_step opens what live p ts g.0 x g.1 (after (walked bound) (walks bound) g.0.opens g.0.expects g.0.next g.0.rest x g.2)

pub nest_reads : Reads nest_at (λ p ts nothing. IsWellFormed OneAttribute ts)
unfolding nest_at
nest_reads p ts x h = let r = walks (length ts + 1) [] expects.Attribute tt p ts x h in (r.0, r.1, r.2, r.3)

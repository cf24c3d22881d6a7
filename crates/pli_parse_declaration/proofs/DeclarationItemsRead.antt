-- What is read is spelled so: attributes, descriptions and items.
use Rattle.std.proofs.Common.{◌≡◌, ◌+◌, ℕ, Bool, true, false, cond, List, [], ◌∷◌, ◌++◌, Option, Some, None, Result, Ok, length, codes, refl, ap, ◌∙◌, sym, subst, arith, inl, inr}
use Rattle.pli_base.specs.Words.{Tokens, is_open, is_close, is_semicolon, rest_after, SpellsIdentifier}
use Rattle.pli_base.specs.Reading.{Front, mapped, expected, taken, enclosed}
use Rattle.pli_base.specs.declared.code.Code.TheVariants.{ParenthesisExpected, SemicolonExpected}
use Rattle.pli_base.specs.declared.token.Fault.{Fault}
use Rattle.pli_base.specs.declared.token.Sign.TheVariants.{Semicolon, OpenParenthesis, CloseParenthesis}
use Rattle.pli_base.specs.declared.token.TokenText.TheVariants.{Word, Decimal, Binary, Sign}
use Rattle.pli_parse_declaration.specs.DeclarationWords.{attribute_first, if_first, begins_description}
use Rattle.pli_base.specs.Declarations as tree
use Rattle.pli_parse_declaration.specs.DeclarationReading.{list_at, dimensions_at, identifier_at, nest_at, simple_of, described_from, described_at, parameter_at, parameters_from, parameters_at, entry_from, entry_at, returned_at, attribute_from, attribute_at, attributes_from, attributes_at, level_at, names_from, names_at, item_at, items_at, declaration_at}
use Rattle.pli_parse_declaration.specs.DeclarationGrammar.{SpellsFront, SpellsListed, Anywhere, SpellsList, SpellsEnclosed, SpellsOptional, Part, OneAttribute, IsWellFormed, simple, entry, entry_of_none, entry_of, returns_of, last_attribute, more_attributes, description, last_description, more_descriptions, SpellsSimple, SpellsDescribed, SpellsParameter, SpellsParameters, SpellsReturned, SpellsAttribute, SpellsAttributes, SpellsNames, SpellsLevel, SpellsItem, SpellsItems, SpellsDeclaration}
use Rattle.pli_parse_declaration.specs.declared.word.SimpleWord.{SimpleWord}
use Rattle.pli_parse_declaration.specs.declared.word.AttributeWord.{AttributeWord}
use Rattle.pli_parse_declaration.specs.declared.word.AttributeWord.TheVariants as attribute
use Rattle.pli_parse_declaration.proofs.DeclarationSteps.{mapped_ok, open_first, close_first, semicolon_first, taken_ok, two}
use Rattle.pli_parse_fault.proofs.StepLemmas.{same_ok, bind_ok}
use Rattle.pli_parse_declaration.proofs.DeclarationRead.{Reads, enclosed_spelled, listed_reads, list_reads, dimensions_reads, identifier_reads, word_first, simple_spelled, entry_is, returns_is}
use Rattle.pli_parse_declaration.proofs.DeclarationNestsRead.{nest_reads}
use Rattle.pli_parse_declaration.specs.declared.list.Separator.TheVariants.{Commas, Nothing}

-- a well formed attribute has a first token
abbrev HasFirst : Tokens → Type 0
HasFirst ts = (k : List ℕ) × (us : Tokens) × (ts ≡ Word k ∷ us)

abbrev BeginsPart : Part → Tokens → Type 0
BeginsPart OneAttribute ts = HasFirst ts
BeginsPart part ts = Unit {0}

begins_part : (part : Part) (ts : Tokens) → IsWellFormed part ts → BeginsPart part ts
begins_part part ts (simple us a (k, vs, e, word, spelled)) = (k, vs, e)
begins_part part ts (entry us e) = (codes "ENTRY", [], e)
begins_part part ts (entry_of_none us e) = (codes "ENTRY", _, e)
begins_part part ts (entry_of us inner e more) = (codes "ENTRY", _, e)
begins_part part ts (returns_of us inner e more) = (codes "RETURNS", _, e)
begins_part part ts (last_attribute us one) = tt
begins_part part ts (more_attributes us front rest e one more) = tt
begins_part part ts (description us front rest dimensions e spelled more) = tt
begins_part part ts (last_description us one) = tt
begins_part part ts (more_descriptions us front rest e one more) = tt

-- so it begins with the first word of the tokens whose front it is
first_word : (ts us front rest : Tokens) (k : List ℕ) → ts ≡ Word k ∷ us → IsWellFormed OneAttribute front → ts ≡ front ++ rest → (vs : Tokens) × (front ≡ Word k ∷ vs)
first_word ts us front rest k e one shape =
    let b = begins_part OneAttribute front one in
    let f : Word k ∷ us ≡ Word b.0 ∷ (b.1 ++ rest) = sym e ∙ shape ∙ ap (λ vs. vs ++ rest) b.2 in
    let same : b.0 ≡ k = cc in
    (b.1, b.2 ∙ ap (λ n. Word n ∷ b.1) same)

entry_first : (ts us : Tokens) → attribute_first ts ≡ Some (attribute.Entry, us) → ts ≡ Word (codes "ENTRY") ∷ us
entry_first ts us e = let k = word_first ts us attribute.Entry e in k.1 ∙ ap (λ n. Word n ∷ us) (entry_is k.0 k.2)

returns_first : (ts us : Tokens) → attribute_first ts ≡ Some (attribute.Returns, us) → ts ≡ Word (codes "RETURNS") ∷ us
returns_first ts us e = let k = word_first ts us attribute.Returns e in k.1 ∙ ap (λ n. Word n ∷ us) (returns_is k.0 k.2)

-- a nest whose first word is known
nest_spelled : (p : ℕ) (ts us : Tokens) (k : List ℕ) (d : tree.DescribedAttribute) → ts ≡ Word k ∷ us
    → ((vs : Tokens) → IsWellFormed OneAttribute (Word k ∷ vs) → SpellsDescribed (Word k ∷ vs) d)
    → (y : Front tree.DescribedAttribute) → mapped (λ nothing. d) (nest_at p ts) ≡ Ok y
    → SpellsFront (Anywhere SpellsDescribed) p ts y
nest_spelled p ts us k d e spells y g =
    let m = mapped_ok (λ nothing. d) (nest_at p ts) y g in
    let f = nest_reads p ts m.0 m.1 in
    let b = first_word ts us f.0 m.0.rest k e f.3 f.1 in
    let spelled = subst (λ vs. SpellsDescribed vs d) (sym b.1) (spells b.0 (subst (IsWellFormed OneAttribute) b.1 f.3)) in
    subst (SpellsFront (Anywhere SpellsDescribed) p ts) m.2 (f.0, f.1, f.2, spelled)

-- an attribute that is a simple one
simple_read : {A : Type 0} (make : tree.SimpleAttribute → A) (Spells : Tokens → A → Type 0)
    → ((vs : Tokens) (a : tree.SimpleAttribute) → SpellsSimple vs a → Spells vs (make a))
    → (p : ℕ) (ts us : Tokens) (w : SimpleWord) → attribute_first ts ≡ Some (attribute.Simple w, us)
    → (y : Front A) → mapped make (simple_of w (p + 1) us) ≡ Ok y → SpellsFront (Anywhere Spells) p ts y
simple_read make Spells so p ts us w e y g =
    let m = mapped_ok make (simple_of w (p + 1) us) y g in
    let f = simple_spelled p ts us w e m.0 m.1 in
    subst (SpellsFront (Anywhere Spells) p ts) m.2 (f.0, f.1, f.2, so f.0 m.0.value f.3)

described_read : (p : ℕ) (ts : Tokens) (y : Front tree.DescribedAttribute) (o : Option (AttributeWord × Tokens))
    → attribute_first ts ≡ o → described_from p ts o ≡ Ok y → SpellsFront (Anywhere SpellsDescribed) p ts y
described_read p ts y None e g = cc
described_read p ts y (Some (attribute.Simple w, us)) e g =
    simple_read tree.Plain SpellsDescribed (λ vs a s. s) p ts us w e y g
described_read p ts y (Some (attribute.Entry, us)) e g =
    nest_spelled p ts us (codes "ENTRY") tree.AnyEntry (entry_first ts us e) (λ vs formed. (vs, refl, formed)) y g
described_read p ts y (Some (attribute.Returns, us)) e g =
    nest_spelled p ts us (codes "RETURNS") tree.AnyReturns (returns_first ts us e) (λ vs formed. (vs, refl, formed)) y g

pub described_reads : Reads described_at (Anywhere SpellsDescribed)
unfolding described_at
described_reads p ts y h = described_read p ts y (attribute_first ts) refl h

described_list : Reads (list_at Nothing described_at) (Anywhere (SpellsList Nothing SpellsDescribed))
described_list = list_reads Nothing described_at SpellsDescribed described_reads

parameter_reads : Reads parameter_at (Anywhere SpellsParameter)
unfolding parameter_at
parameter_reads p ts y h =
    let g = bind_ok (dimensions_at p ts) _ y h in
    let d = dimensions_reads p ts g.0 g.1 in
    let m = bind_ok (list_at Nothing described_at g.0.next g.0.rest) _ y g.2 in
    let a = described_list g.0.next g.0.rest m.0 m.1 in
    let t = two p g.0.next m.0.next ts g.0.rest m.0.rest d.0 a.0 d.1 d.2 a.1 a.2 in
    subst (SpellsFront (Anywhere SpellsParameter) p ts) (same_ok m.2) (d.0 ++ a.0, t.0, t.1, (d.0, a.0, refl, d.3, a.3))

-- in the parentheses of an ENTRY, up to the `)`
parameters_spelled : (p : ℕ) (ts us : Tokens) → ts ≡ Sign OpenParenthesis ∷ us → (y : Front (List tree.ParameterDescription)) → parameters_at (p + 1) us ≡ Ok y → SpellsFront (Anywhere (SpellsEnclosed SpellsParameters)) p ts y
unfolding parameters_at
parameters_spelled p ts us e y h = by (rest_after is_close us) refl h
  where
    listed : (xs : List tree.ParameterDescription) (vs : Tokens) → SpellsList Commas SpellsParameter vs xs → SpellsParameters vs xs
    listed [] vs s = absurd s
    listed (x ∷ xs) vs s = s

    some : (b : Bool) → cond b (enclosed (list_at Commas parameter_at (p + 1) us)) (expected ParenthesisExpected (p + 1) us) ≡ Ok y → SpellsFront (Anywhere (SpellsEnclosed SpellsParameters)) p ts y
    some true g =
        let f = enclosed_spelled (list_at Commas parameter_at) (Anywhere (SpellsList Commas SpellsParameter)) (list_reads Commas parameter_at SpellsParameter parameter_reads) p ts us e y g in
        (f.0, f.1, f.2, (f.3.0, f.3.1, listed y.value f.3.0 f.3.2))
    some false g = cc

    by : (o : Option Tokens) → rest_after is_close us ≡ o → parameters_from (p + 1) us o ≡ Ok y → SpellsFront (Anywhere (SpellsEnclosed SpellsParameters)) p ts y
    by (Some vs) f g =
        let place : p + 1 + 1 ≡ p + 2 = omega arith in
        subst (SpellsFront (Anywhere (SpellsEnclosed SpellsParameters)) p ts) (same_ok g) (Sign OpenParenthesis ∷ Sign CloseParenthesis ∷ [], e ∙ ap (λ ws. Sign OpenParenthesis ∷ ws) (close_first us vs f), place, ([], refl, refl))
    by None f g = some (begins_description us) g

entry_reads : Reads entry_at (Anywhere (SpellsOptional SpellsParameters))
unfolding entry_at
entry_reads p ts y h = by (rest_after is_open ts) refl h
  where
    by : (o : Option Tokens) → rest_after is_open ts ≡ o → entry_from p ts o ≡ Ok y → SpellsFront (Anywhere (SpellsOptional SpellsParameters)) p ts y
    by None e g = subst (SpellsFront (Anywhere (SpellsOptional SpellsParameters)) p ts) (same_ok g) ([], refl, omega arith, refl)
    by (Some us) e g =
        let m = mapped_ok Some (parameters_at (p + 1) us) y g in
        let f = parameters_spelled p ts us (open_first ts us e) m.0 m.1 in
        subst (SpellsFront (Anywhere (SpellsOptional SpellsParameters)) p ts) m.2 (f.0, f.1, f.2, f.3)

pub returned_reads : Reads returned_at (Anywhere SpellsReturned)
unfolding returned_at
returned_reads p ts y h =
    let g = bind_ok (taken is_open ParenthesisExpected p ts) _ y h in
    let f = enclosed_spelled (list_at Nothing described_at) (Anywhere (SpellsList Nothing SpellsDescribed)) described_list p ts g.0 (open_first ts g.0 (taken_ok is_open ParenthesisExpected p ts g.0 g.1)) y g.2 in
    (f.0, f.1, f.2, f.3)

-- an attribute after its word
worded_read : {A : Type 0} (make : A → tree.Attribute) (one : ℕ → Tokens → Result (Front A) Fault) (Spells : Tokens → A → Type 0)
    → Reads one (Anywhere Spells) → (k : List ℕ)
    → ((vs : Tokens) (x : A) → Spells vs x → SpellsAttribute (Word k ∷ vs) (make x))
    → (p : ℕ) (ts us : Tokens) (y : Front tree.Attribute) → ts ≡ Word k ∷ us → mapped make (one (p + 1) us) ≡ Ok y
    → SpellsFront (Anywhere SpellsAttribute) p ts y
worded_read make one Spells reads k spells p ts us y e g =
    let m = mapped_ok make (one (p + 1) us) y g in
    let f = reads (p + 1) us m.0 m.1 in
    let shape = e ∙ ap (λ vs. Word k ∷ vs) f.1 in
    subst (SpellsFront (Anywhere SpellsAttribute) p ts) m.2 (Word k ∷ f.0, shape, omega (arith, f.2), spells f.0 m.0.value f.3)

attribute_read : (p : ℕ) (ts : Tokens) (y : Front tree.Attribute) (o : Option (AttributeWord × Tokens)) → attribute_first ts ≡ o
    → attribute_from p ts o ≡ Ok y → SpellsFront (Anywhere SpellsAttribute) p ts y
attribute_read p ts y None e g = cc
attribute_read p ts y (Some (attribute.Simple w, us)) e g =
    simple_read tree.Simple SpellsAttribute (λ vs a s. s) p ts us w e y g
attribute_read p ts y (Some (attribute.Entry, us)) e g =
    worded_read tree.Entry entry_at (SpellsOptional SpellsParameters) entry_reads (codes "ENTRY") (λ vs x s. (vs, refl, s))
    p ts us y (entry_first ts us e) g
attribute_read p ts y (Some (attribute.Returns, us)) e g =
    worded_read tree.Returns returned_at SpellsReturned returned_reads (codes "RETURNS") (λ vs x s. (vs, refl, s))
    p ts us y (returns_first ts us e) g

attribute_reads : Reads attribute_at (Anywhere SpellsAttribute)
unfolding attribute_at
attribute_reads p ts y h = attribute_read p ts y (attribute_first ts) refl h

attributes_reads : Reads attributes_at (Anywhere SpellsAttributes)
unfolding attributes_at
attributes_reads p ts y h = by (attribute_first ts) h
  where
    listed : (xs : List tree.Attribute) (vs : Tokens) → SpellsList Nothing SpellsAttribute vs xs → SpellsAttributes vs xs
    listed [] vs s = absurd s
    listed (x ∷ xs) vs s = s

    by : (o : Option (AttributeWord × Tokens)) → attributes_from p ts (if_first ts o) ≡ Ok y → SpellsFront (Anywhere SpellsAttributes) p ts y
    by None g = subst (SpellsFront (Anywhere SpellsAttributes) p ts) (same_ok g) ([], refl, omega arith, refl)
    by (Some x) g =
        let f = list_reads Nothing attribute_at SpellsAttribute attribute_reads p ts y g in
        (f.0, f.1, f.2, listed y.value f.0 f.3)

level_spelled : (p : ℕ) (ts : Tokens) → SpellsFront (Anywhere SpellsLevel) p ts (level_at p ts)
unfolding level_at
level_spelled p [] = ([], refl, omega arith, refl)
level_spelled p (Decimal v d ∷ ts) = (Decimal v d ∷ [], refl, refl, (d, inl refl))
level_spelled p (Binary v d ∷ ts) = (Binary v d ∷ [], refl, refl, (d, inr refl))
level_spelled p (t ∷ ts) = ([], refl, omega arith, refl)

names_reads : Reads names_at SpellsNames
unfolding names_at
names_reads p ts y h = by (rest_after is_open ts) refl h
  where
    by : (o : Option Tokens) → rest_after is_open ts ≡ o → names_from p ts o ≡ Ok y → SpellsFront SpellsNames p ts y
    by None e g =
        let m = mapped_ok (λ x. x ∷ []) (identifier_at p ts) y g in
        let f = identifier_reads p ts m.0 m.1 in
        subst (SpellsFront SpellsNames p ts) m.2 (f.0, f.1, f.2, inl (m.0.value, refl, f.3))
    by (Some us) e g =
        let f = enclosed_spelled (list_at Commas identifier_at) (SpellsListed Commas SpellsIdentifier) (λ q vs. listed_reads Commas identifier_at SpellsIdentifier identifier_reads (length vs + 1) q vs) p ts us (open_first ts us e) y g in
        (f.0, f.1, f.2, inr (f.3.0, f.3.1, f.3.2))

item_reads : Reads item_at SpellsItem
unfolding item_at
item_reads p ts y h =
    let l = level_spelled p ts in
    let gn = bind_ok (names_at (level_at p ts).next (level_at p ts).rest) _ y h in
    let n = names_reads (level_at p ts).next (level_at p ts).rest gn.0 gn.1 in
    let gd = bind_ok (dimensions_at gn.0.next gn.0.rest) _ y gn.2 in
    let d = dimensions_reads gn.0.next gn.0.rest gd.0 gd.1 in
    let ga = bind_ok (attributes_at gd.0.next gd.0.rest) _ y gd.2 in
    let a = attributes_reads gd.0.next gd.0.rest ga.0 ga.1 in
    let da = two gn.0.next gd.0.next ga.0.next gn.0.rest gd.0.rest ga.0.rest d.0 a.0 d.1 d.2 a.1 a.2 in
    let nda = two (level_at p ts).next gn.0.next ga.0.next (level_at p ts).rest gn.0.rest ga.0.rest n.0 (d.0 ++ a.0) n.1 n.2 da.0 da.1 in
    let all = two p (level_at p ts).next ga.0.next ts (level_at p ts).rest ga.0.rest l.0 (n.0 ++ (d.0 ++ a.0)) l.1 l.2 nda.0 nda.1 in
    subst (SpellsFront SpellsItem p ts) (same_ok ga.2) (
      l.0 ++ (n.0 ++ (d.0 ++ a.0)),
      all.0,
      all.1,
      (l.0, n.0, d.0, a.0, refl, l.3, subst (λ q. SpellsNames q n.0 gn.0.value) l.2 n.3, d.3, a.3),
    )

pub items_reads : Reads items_at SpellsItems
items_reads p ts y h = listed_reads Commas item_at SpellsItem item_reads (length ts + 1) p ts y h

pub declaration_reads : Reads declaration_at SpellsDeclaration
unfolding declaration_at
declaration_reads p ts y h =
    let g = bind_ok (items_at p ts) _ y h in
    let f = items_reads p ts g.0 g.1 in
    let m = bind_ok (taken is_semicolon SemicolonExpected g.0.next g.0.rest) _ y g.2 in
    let e = semicolon_first g.0.rest m.0 (taken_ok is_semicolon SemicolonExpected g.0.next g.0.rest m.0 m.1) in
    let t = two p g.0.next (g.0.next + 1) ts g.0.rest m.0 f.0 (Sign Semicolon ∷ []) f.1 f.2 e refl in
    subst (SpellsFront SpellsDeclaration p ts) (same_ok m.2) (f.0 ++ Sign Semicolon ∷ [], t.0, t.1, (f.0, refl, f.3))

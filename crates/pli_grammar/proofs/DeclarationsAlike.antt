-- Declarations are read the same.
use Rattle.std.specs.Prelude.{◌≡◌, ℕ, ◌+◌, Bool, true, false, ◌||◌, Option, Some, None, Result, Ok, Err, List, [], ◌∷◌, refl, if◌then◌else◌}
use Rattle.std.proofs.Common.{ap, sym, ◌∙◌}
use Rattle.pli_base.specs.Words.{Tokens, is_open, is_close, is_semicolon, rest_after}
use Rattle.pli_base.specs.Results.{◌>>=◌}
use Rattle.pli_base.specs.Reading.{Front, expected, read_as, mapped, taken, taken_or, enclosed, or_none}
use Rattle.pli_base.specs.Declarations as tree
use Rattle.pli_base.specs.declared.syntax.Identifier.{Identifier}
use Rattle.pli_base.specs.declared.code.Code.TheVariants.{ParenthesisExpected, SemicolonExpected}
use Rattle.pli_base.specs.declared.token.Fault.{Fault}
use Rattle.pli_base.specs.declared.token.Sign.TheVariants.{CloseParenthesis}
use Rattle.pli_base.specs.declared.token.TokenText.TheVariants.{Sign}
use Rattle.pli_parse_declaration.specs.DeclarationWords.{attribute_first, if_first, begins_description}
use Rattle.pli_parse_declaration.specs.DeclarationReading.{list_at, identifier_at, level_at, names_from, names_at, described_at, parameter_at, parameters_from, parameters_at, entry_from, entry_at, returned_at, attribute_from, attribute_at, attributes_from, attributes_at, item_at, declaration_at}
use Rattle.pli_parse_declaration.specs.declared.list.Separator.TheVariants.{Commas, Nothing}
use Rattle.pli_parse_declaration.specs.declared.word.AttributeWord.{AttributeWord}
use Rattle.pli_parse_declaration.specs.declared.word.AttributeWord.TheVariants as attribute
use Rattle.pli_parse_declaration.proofs.DeclarationSteps.{close_first}
use Rattle.pli_grammar.specs.Readers.{Reader, made, either, after_token, begun, closed, list_of}
use Rattle.pli_grammar.specs.Declarations as new
use Rattle.pli_grammar.specs.Declarations.{is_attribute}
use Rattle.pli_grammar.proofs.ReadersAlike.{grouped, after, both, token_then, closed_same, parenthesized_then, list_of_same, found}
use Rattle.pli_grammar.proofs.AttributesAlike.{dimensions_same, read_by, attribute_same, attribute_found, description_found, attributes_same}
use Rattle.pli_grammar.proofs.NestsAlike.{described_same}

described_list : (p : ℕ) (ts : Tokens) → new.attributes new.described p ts ≡ list_at Nothing described_at p ts
described_list = attributes_same described_same

parameter_same : (p : ℕ) (ts : Tokens) → new.parameter new.described p ts ≡ parameter_at p ts
unfolding parameter_at
parameter_same p ts = both (dimensions_same p ts) (λ sizes. both (described_list sizes.next sizes.rest) (λ others. refl))

abbrev descriptions : Reader (List tree.ParameterDescription)
descriptions = made or_none (begun (λ t. is_open t || is_attribute t) (list_of (new.parameter new.described)))

parameters_same : (p : ℕ) (ts : Tokens) → closed descriptions p ts ≡ parameters_at p ts
unfolding parameters_at rest_after taken
parameters_same p ts = by (rest_after is_close ts) refl
  where
    none : (us : Tokens) → closed descriptions p (Sign CloseParenthesis ∷ us) ≡ read_as [] (p + 1) us
    none us = refl

    begins : (b : Bool) → rest_after is_close ts ≡ None
        → enclosed (mapped or_none (if b then mapped Some (list_of (new.parameter new.described) p ts) else read_as None p ts))
        ≡ (if b then enclosed (list_at Commas parameter_at p ts) else expected ParenthesisExpected p ts)
    begins true e = values (list_of (new.parameter new.described) p ts) ∙ ap enclosed (list_of_same parameter_same p ts)
      where
        values : {A : Type 0} (r : Result (Front (List A)) Fault) → enclosed (mapped or_none (mapped Some r)) ≡ enclosed r
        values (Ok x) = refl
        values (Err f) = refl
    begins false e = ap (λ (o : Option Tokens). taken_or ParenthesisExpected p ts o >>= λ us. read_as [] (p + 1) us) e

    by : (o : Option Tokens) → rest_after is_close ts ≡ o → closed descriptions p ts ≡ parameters_from p ts o
    by (Some us) e = ap (closed descriptions p) (close_first ts us e) ∙ none us
    by None e =
        closed_same descriptions p ts
        ∙ ap (λ (r : Result (Front (Option (List tree.ParameterDescription))) Fault). enclosed (mapped or_none r)) (description_found (list_of (new.parameter new.described)) p ts)
        ∙ begins (begins_description ts) e

entry_same : (p : ℕ) (ts : Tokens) → new.entry new.described p ts ≡ entry_at p ts
unfolding entry_at
entry_same p ts = by (rest_after is_open ts)
  where
    by : (o : Option Tokens) → either (made Some (closed descriptions)) (read_as None) p ts o ≡ entry_from p ts o
    by None = refl
    by (Some us) = ap (mapped Some) (parameters_same (p + 1) us)

pub returned_same : (p : ℕ) (ts : Tokens) → new.returned new.described p ts ≡ returned_at p ts
unfolding returned_at
returned_same p ts =
    parenthesized_then (new.attributes new.described) p ts
    ∙ after (taken is_open ParenthesisExpected p ts) _ _ (λ us. closed_same (new.attributes new.described) (p + 1) us ∙ ap enclosed (described_list (p + 1) us))

-- ---- items

abbrev one : Reader tree.Attribute
one = new.attribute_with tree.Simple (made tree.Entry (new.entry new.described)) (made tree.Returns (new.returned new.described))

one_same : (p : ℕ) (ts : Tokens) → one p ts ≡ attribute_at p ts
unfolding attribute_at
one_same p ts =
    attribute_same tree.Simple (made tree.Entry (new.entry new.described)) (made tree.Returns (new.returned new.described)) p ts ∙ by (attribute_first ts)
  where
    by : (o : Option (AttributeWord × Tokens)) → read_by tree.Simple (made tree.Entry (new.entry new.described)) (made tree.Returns (new.returned new.described)) p ts o ≡ attribute_from p ts o
    by None = refl
    by (Some (attribute.Simple w, us)) = refl
    by (Some (attribute.Entry, us)) = ap (mapped tree.Entry) (entry_same (p + 1) us)
    by (Some (attribute.Returns, us)) = ap (mapped tree.Returns) (returned_same (p + 1) us)

others_same : (p : ℕ) (ts : Tokens) → mapped or_none (begun is_attribute (new.attributes one) p ts) ≡ attributes_at p ts
unfolding attributes_at
others_same p ts = ap (mapped or_none) (attribute_found (new.attributes one) p ts) ∙ by (attribute_first ts)
  where
    by : (o : Option (AttributeWord × Tokens)) → mapped or_none (found Nothing (new.attributes one) p ts (if_first ts o)) ≡ attributes_from p ts (if_first ts o)
    by None = refl
    by (Some w) = values (new.attributes one p ts) ∙ attributes_same one_same p ts
      where
        values : {A : Type 0} (r : Result (Front (List A)) Fault) → mapped or_none (mapped Some r) ≡ r
        values (Ok x) = refl
        values (Err f) = refl

abbrev names : Reader (List Identifier)
names = after_token is_open (closed (list_of identifier_at)) (made (λ name. name ∷ []) identifier_at)

names_same : (p : ℕ) (ts : Tokens) → names p ts ≡ names_at p ts
unfolding names_at
names_same p ts = by (rest_after is_open ts)
  where
    by : (o : Option Tokens) → either (closed (list_of identifier_at)) (made (λ name. name ∷ []) identifier_at) p ts o ≡ names_from p ts o
    by None = refl
    by (Some us) = closed_same (list_of identifier_at) (p + 1) us ∙ ap enclosed (list_of_same {one = identifier_at} {was = identifier_at} (λ q vs. refl) (p + 1) us)

item_same : (p : ℕ) (ts : Tokens) → new.item p ts ≡ item_at p ts
unfolding item_at
item_same p ts =
    both (names_same (level_at p ts).next (level_at p ts).rest) (λ names.
    both (dimensions_same names.next names.rest) (λ sizes.
    sym (grouped (begun is_attribute (new.attributes one) sizes.next sizes.rest) _ _)
    ∙ both (others_same sizes.next sizes.rest) (λ others. refl)))

pub declaration_same : (p : ℕ) (ts : Tokens) → new.declaration p ts ≡ declaration_at p ts
unfolding declaration_at
declaration_same p ts = both (list_of_same item_same p ts) (λ items. token_then is_semicolon SemicolonExpected (λ _. read_as items.value) items.next items.rest)

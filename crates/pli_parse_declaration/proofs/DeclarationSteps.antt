-- Steps of reading, taken apart.
use Rattle.std.proofs.Common.{◌≡◌, ◌+◌, ℕ, Bool, true, false, cond, [], ◌∷◌, ◌++◌, Option, Some, None, Result, Ok, Err, length, refl, ap, ◌∙◌, sym, arith, append_assoc, length-append}
use Rattle.std.proofs.lemmas.Bool.{eqb-true}
use Rattle.pli_base.specs.Words.{Tokens, is_open, is_close, is_comma, is_semicolon, rest_after, is_colon, is_period}
use Rattle.pli_base.specs.Reading.{Front, mapped, taken, taken_or, enclosed}
use Rattle.pli_base.specs.declared.code.Code.{Code}
use Rattle.pli_base.specs.declared.code.Code.TheVariants.{ParenthesisExpected}
use Rattle.pli_base.specs.declared.token.Fault.{Fault}
use Rattle.pli_base.specs.declared.token.Sign.TheVariants.{Colon, Semicolon, Comma, Period, OpenParenthesis, CloseParenthesis}
use Rattle.pli_base.specs.declared.token.TokenText.{TokenText}
use Rattle.pli_base.specs.declared.token.TokenText.TheVariants.{Decimal, Sign}
use Rattle.pli_parse_declaration.specs.DeclarationWords.{attribute_first, is_zero, if_first}
use Rattle.pli_parse_declaration.specs.DeclarationGrammar.{between}
use Rattle.pli_parse_declaration.specs.declared.word.AttributeWord.{AttributeWord}
use Rattle.pli_parse_declaration.specs.Separators.{separated, after_separator}
use Rattle.pli_parse_declaration.specs.declared.list.Separator.{Separator}
use Rattle.pli_parse_declaration.specs.declared.list.Separator.TheVariants.{Commas, Periods, Nothing}
use Rattle.pli_parse_fault.proofs.StepLemmas.{same_ok, some_same, bind_ok}

-- what is read becomes another
pub mapped_ok : {A B : Type 0} (f : A → B) (r : Result (Front A) Fault) (y : Front B) → mapped f r ≡ Ok y → (x : Front A) × (r ≡ Ok x) × (record { value = f x.value; next = x.next; rest = x.rest } ≡ y)
mapped_ok f (Ok x) y h = (x, refl, same_ok h)
mapped_ok f (Err e) y h = cc

-- the first token fits
pub first_is : (fits : TokenText → Bool) (ts us : Tokens) → rest_after fits ts ≡ Some us → (t : TokenText) × (fits t ≡ true) × (ts ≡ t ∷ us)
unfolding rest_after
first_is fits [] us h = cc
first_is fits (t ∷ ts) us h = by (fits t) refl h
  where
    by : (b : Bool) → fits t ≡ b → cond b (Some ts) None ≡ Some us → (u : TokenText) × (fits u ≡ true) × (t ∷ ts ≡ u ∷ us)
    by true e g = (t, e, ap (λ vs. t ∷ vs) (some_same g))
    by false e g = cc

open_is : (t : TokenText) → is_open t ≡ true → t ≡ Sign OpenParenthesis
open_is (Sign OpenParenthesis) h = refl
open_is t h = cc

close_is : (t : TokenText) → is_close t ≡ true → t ≡ Sign CloseParenthesis
close_is (Sign CloseParenthesis) h = refl
close_is t h = cc

comma_is : (t : TokenText) → is_comma t ≡ true → t ≡ Sign Comma
comma_is (Sign Comma) h = refl
comma_is t h = cc

period_is : (t : TokenText) → is_period t ≡ true → t ≡ Sign Period
period_is (Sign Period) h = refl
period_is t h = cc

colon_is : (t : TokenText) → is_colon t ≡ true → t ≡ Sign Colon
colon_is (Sign Colon) h = refl
colon_is t h = cc

pub semicolon_is : (t : TokenText) → is_semicolon t ≡ true → t ≡ Sign Semicolon
semicolon_is (Sign Semicolon) h = refl
semicolon_is t h = cc

pub open_first : (ts us : Tokens) → rest_after is_open ts ≡ Some us → ts ≡ Sign OpenParenthesis ∷ us
open_first ts us h = let f = first_is is_open ts us h in f.2 ∙ ap (λ t. t ∷ us) (open_is f.0 f.1)

pub close_first : (ts us : Tokens) → rest_after is_close ts ≡ Some us → ts ≡ Sign CloseParenthesis ∷ us
close_first ts us h = let f = first_is is_close ts us h in f.2 ∙ ap (λ t. t ∷ us) (close_is f.0 f.1)

pub comma_first : (ts us : Tokens) → rest_after is_comma ts ≡ Some us → ts ≡ Sign Comma ∷ us
comma_first ts us h = let f = first_is is_comma ts us h in f.2 ∙ ap (λ t. t ∷ us) (comma_is f.0 f.1)

pub period_first : (ts us : Tokens) → rest_after is_period ts ≡ Some us → ts ≡ Sign Period ∷ us
period_first ts us h = let f = first_is is_period ts us h in f.2 ∙ ap (λ t. t ∷ us) (period_is f.0 f.1)

pub colon_first : (ts us : Tokens) → rest_after is_colon ts ≡ Some us → ts ≡ Sign Colon ∷ us
colon_first ts us h = let f = first_is is_colon ts us h in f.2 ∙ ap (λ t. t ∷ us) (colon_is f.0 f.1)

pub semicolon_first : (ts us : Tokens) → rest_after is_semicolon ts ≡ Some us → ts ≡ Sign Semicolon ∷ us
semicolon_first ts us h = let f = first_is is_semicolon ts us h in f.2 ∙ ap (λ t. t ∷ us) (semicolon_is f.0 f.1)

zero_is : (t : TokenText) → is_zero t ≡ true → t ≡ Decimal 0 1
zero_is (Decimal v d) h = grind (arith, eqb-true)
zero_is t h = cc

pub zero_first : (ts us : Tokens) → rest_after is_zero ts ≡ Some us → ts ≡ Decimal 0 1 ∷ us
zero_first ts us h = let f = first_is is_zero ts us h in f.2 ∙ ap (λ t. t ∷ us) (zero_is f.0 f.1)

-- a token that must stand was there
pub taken_ok : (fits : TokenText → Bool) (code : Code) (p : ℕ) (ts us : Tokens) → taken fits code p ts ≡ Ok us → rest_after fits ts ≡ Some us
unfolding taken
taken_ok fits code p ts us h = by (rest_after fits ts) refl h
  where
    by : (o : Option Tokens) → rest_after fits ts ≡ o → taken_or code p ts o ≡ Ok us → rest_after fits ts ≡ Some us
    by (Some vs) e g = e ∙ ap Some (same_ok g)
    by None e g = cc

-- what is read stands before a `)`
pub enclosed_ok : {A : Type 0} (r : Result (Front A) Fault) (y : Front A) → enclosed r ≡ Ok y
    → (x : Front A) × (r ≡ Ok x) × (x.rest ≡ Sign CloseParenthesis ∷ y.rest) × (record { value = x.value; next = x.next + 1; rest = y.rest } ≡ y)
enclosed_ok (Ok x) y h =
    let g = bind_ok (taken is_close ParenthesisExpected x.next x.rest) _ y h in
    let e = same_ok g.2 in
    let rest : g.0 ≡ y.rest = ap (λ (z : Front _). z.rest) e in
    (x, refl, close_first x.rest y.rest (taken_ok is_close ParenthesisExpected x.next x.rest g.0 g.1 ∙ ap Some rest), ap (λ (us : Tokens). record { value = x.value; next = x.next + 1; rest = us }) (sym rest) ∙ e)
enclosed_ok (Err e) y h = cc

-- two parts in a row
pub two : (p q r : ℕ) (ts us vs front back : Tokens) → ts ≡ front ++ us → q ≡ p + length front → us ≡ back ++ vs → r ≡ q + length back → (ts ≡ (front ++ back) ++ vs) × (r ≡ p + length (front ++ back))
two p q r ts us vs front back e place f further = (e ∙ ap (λ ws. front ++ ws) f ∙ sym (append_assoc front back vs), omega (arith, place, further, length-append front back))

-- a separator is what stands between
pub separator_first : (s : Separator) (ts us : Tokens) → separated s ts ≡ Some us → ts ≡ between s ++ us
separator_first Commas ts us h = comma_first ts us h
separator_first Periods ts us h = period_first ts us h
separator_first Nothing ts us h = by (attribute_first ts) h
  where
    by : (o : Option (AttributeWord × Tokens)) → if_first ts o ≡ Some us → ts ≡ us
    by (Some x) g = some_same g
    by None g = cc

pub separator_place : (s : Separator) (p : ℕ) → after_separator s p ≡ p + length (between s)
separator_place Commas p = refl
separator_place Periods p = refl
separator_place Nothing p = omega arith

-- Steps of reading, taken apart.
use Rattle.std.proofs.Common.{◌≡◌, ◌<◌, ◌≤◌, ◌+◌, ℕ, suc, nat_lt, Bool, true, false, cond, [], ◌∷◌, Option, Some, None, Result, Ok, Err, refl, ap, ◌∙◌, arith}
use Rattle.std.proofs.lemmas.Bool.{ltb-true, ltb-false}
use Rattle.pli_base.specs.Name.{Name}
use Rattle.pli_base.specs.declared.code.Code.{Code}
use Rattle.pli_base.specs.declared.code.Code.TheVariants.{NestedTooDeep, ParenthesisExpected}
use Rattle.pli_base.specs.declared.syntax.InfixOperator.{InfixOperator}
use Rattle.pli_base.specs.declared.syntax.InfixOperator.TheVariants.{Or}
use Rattle.pli_base.specs.declared.syntax.Joining.{Joining}
use Rattle.pli_base.specs.declared.token.Fault.{Fault}
use Rattle.pli_base.specs.declared.token.Sign.TheVariants as signs
use Rattle.pli_base.specs.declared.token.TokenText.{TokenText}
use Rattle.pli_base.specs.declared.token.TokenText.TheVariants.{Word, Sign}
use Rattle.pli_parse_expression.specs.Operators.{operator_limit, operand_level, level_of, infix_sign, joining_sign, infix_of, not_below, operator_at, joining_at}
use Rattle.pli_base.specs.Reading.{Front}
use Rattle.pli_parse_expression.specs.declared.counted.Counted.{Counted}
use Rattle.pli_parse_expression.specs.Reading.{limited, closed}
use Rattle.pli_base.specs.Words.{Tokens, name_first, rest_after, is_comma, is_close}
use Rattle.pli_base.specs.Reading.{expected, taken}
use Rattle.pli_parse_fault.proofs.StepLemmas.{same_ok, some_same, bind_ok}

-- a test passed
pub guard_ok : {A : Type 0} (b : Bool) (r : Result A Fault) (e : Fault) (x : A) → cond b r (Err e) ≡ Ok x → (b ≡ true) × (r ≡ Ok x)
guard_ok true r e x h = (refl, h)
guard_ok false r e x h = cc

pub limited_ok : {A : Type 0} (count p : ℕ) (read : Result A Fault) (x : A) → limited count p read ≡ Ok x → (count < operator_limit) × (read ≡ Ok x)
limited_ok count p read x h = let g = guard_ok (nat_lt count operator_limit) read (record { code = NestedTooDeep; at = p }) x h in (ltb-true count operator_limit g.0, g.1)

pub wanted_none : {A : Type 0} (code : Code) (p : ℕ) (ts : Tokens) (x : A) → expected code p ts ≡ Ok x → ⊥
wanted_none code p ts x h = cc

close_ok : (p : ℕ) (ts us : Tokens) → taken is_close ParenthesisExpected p ts ≡ Ok us → ts ≡ Sign signs.CloseParenthesis ∷ us
unfolding taken rest_after
close_ok p [] us h = cc
close_ok p (Sign signs.CloseParenthesis ∷ ts) us h = ap (λ vs. Sign signs.CloseParenthesis ∷ vs) (same_ok h)
close_ok p (t ∷ ts) us h = cc

pub closed_ok : {A : Type 0} (value : A) (count p : ℕ) (ts : Tokens) (x : Front (Counted A)) → closed value count p ts ≡ Ok x
    → (us : Tokens) × (ts ≡ Sign signs.CloseParenthesis ∷ us) × (◌≡◌ {A = Front (Counted A)} (record { value = record { tree = value; count = count }; next = p + 1; rest = us }) x)
closed_ok value count p ts x h = let b = bind_ok (taken is_close ParenthesisExpected p ts) _ x h in (b.0, close_ok p ts b.0 b.1, same_ok b.2)

-- the sign of the infix operator that a token is, or the token
abbrev sign_or : TokenText → Option InfixOperator → TokenText
sign_or t (Some o) = Sign (infix_sign o)
sign_or t None = t

infix_found : (t : TokenText) → t ≡ sign_or t (infix_of t)
infix_found (Sign signs.Or) = refl
infix_found (Sign s) = refl
infix_found t = refl

pub infix_is : (t : TokenText) (o : InfixOperator) → infix_of t ≡ Some o → t ≡ Sign (infix_sign o)
infix_is t o h = infix_found t ∙ ap (sign_or t) h

chosen_some : {A : Type 0} (b : Bool) (x y : A) → ◌≡◌ {A = Option A} (cond b None (Some x)) (Some y) → (b ≡ false) × (x ≡ y)
chosen_some true x y h = cc
chosen_some false x y h = (refl, some_same h)

chosen_none : {A : Type 0} (b : Bool) (x : A) → ◌≡◌ {A = Option A} (cond b None (Some x)) None → b ≡ true
chosen_none true x h = refl
chosen_none false x h = cc

not_below_some : (min : ℕ) (o : Option InfixOperator) (ts : Tokens) (x : InfixOperator × Tokens) → not_below min o ts ≡ Some x → (o ≡ Some x.0) × (ts ≡ x.1) × (min ≤ level_of x.0)
not_below_some min None ts x h = cc
not_below_some min (Some o) ts x h =
    let g = chosen_some (nat_lt (level_of o) min) (o, ts) x h in
    let low : min ≤ level_of o = ltb-false (level_of o) min g.0 in
    (ap (λ (y : InfixOperator × Tokens). Some y.0) g.1, ap (λ (y : InfixOperator × Tokens). y.1) g.1, rw (← g.1) low)

-- an infix operator stands first, and what is after it
pub operator_ok : (min : ℕ) (ts : Tokens) (x : InfixOperator × Tokens) → operator_at min ts ≡ Some x → (ts ≡ Sign (infix_sign x.0) ∷ x.1) × (min ≤ level_of x.0)
unfolding operator_at
operator_ok min [] x h = cc
operator_ok min (t ∷ ts) x h =
    let g = not_below_some min (infix_of t) ts x h in
    (ap (λ u. u ∷ ts) (infix_is t x.0 g.0) ∙ ap (λ us. Sign (infix_sign x.0) ∷ us) g.1, g.2)

not_below_least : (min top : ℕ) (o : Option InfixOperator) (ts : Tokens) (x : InfixOperator × Tokens) → not_below min o ts ≡ Some x → not_below top o ts ≡ None → level_of x.0 < top
not_below_least min top None ts x h g = cc
not_below_least min top (Some o) ts x h g =
    let e = chosen_some (nat_lt (level_of o) min) (o, ts) x h in
    let low : level_of o < top = ltb-true (level_of o) top (chosen_none (nat_lt (level_of o) top) (o, ts) g) in
    rw (← e.1) low

-- where none stands of one level or more, any that stands there is below that level
pub operator_below : (min top : ℕ) (ts : Tokens) (x : InfixOperator × Tokens) → operator_at min ts ≡ Some x → operator_at top ts ≡ None → level_of x.0 < top
unfolding operator_at
operator_below min top [] x h g = cc
operator_below min top (t ∷ ts) x h g = not_below_least min top (infix_of t) ts x h g

pub level_small : (o : InfixOperator) → level_of o < operand_level
level_small Or = omega arith
level_small o = omega arith

not_below_all : (o : Option InfixOperator) (ts : Tokens) → not_below (suc operand_level) o ts ≡ None
not_below_all None ts = refl
not_below_all (Some Or) ts = refl
not_below_all (Some o) ts = refl

-- no infix operator is above an operand
pub none_above : (ts : Tokens) → operator_at (suc operand_level) ts ≡ None
unfolding operator_at
none_above [] = refl
none_above (t ∷ ts) = not_below_all (infix_of t) ts

pub joining_ok : (ts : Tokens) (x : Joining × Tokens) → joining_at ts ≡ Some x → ts ≡ Sign (joining_sign x.0) ∷ x.1
unfolding joining_at
joining_ok [] x h = cc
joining_ok (Sign signs.Period ∷ ts) x h = ap (λ (y : Joining × Tokens). Sign (joining_sign y.0) ∷ y.1) (some_same h)
joining_ok (Sign signs.Arrow ∷ ts) x h = ap (λ (y : Joining × Tokens). Sign (joining_sign y.0) ∷ y.1) (some_same h)
joining_ok (t ∷ ts) x h = cc

pub comma_ok : (ts us : Tokens) → rest_after is_comma ts ≡ Some us → ts ≡ Sign signs.Comma ∷ us
unfolding rest_after
comma_ok [] us h = cc
comma_ok (Sign signs.Comma ∷ ts) us h = ap (λ vs. Sign signs.Comma ∷ vs) (some_same h)
comma_ok (t ∷ ts) us h = cc

pub name_ok : (ts : Tokens) (x : Name × Tokens) → name_first ts ≡ Some x → ts ≡ Word x.0 ∷ x.1
unfolding name_first
name_ok [] x h = cc
name_ok (Word n ∷ ts) x h = ap (λ (y : Name × Tokens). Word y.0 ∷ y.1) (some_same h)
name_ok (t ∷ ts) x h = cc

-- A fault of reading stands at a token: the parts of statements.
use Rattle.std.proofs.Common.{◌≡◌, ◌<◌, ◌+◌, ℕ, suc, zero, Bool, true, false, cond, List, [], ◌∷◌, Option, Some, None, Result, Ok, Err, option_map, length, codes, refl, ap, sym, subst, arith}
use Rattle.pli_base.specs.Name.{Name}
use Rattle.pli_base.specs.laws.FaultPlaceLaws.{passes_none, passes_one}
use Rattle.pli_parse_fault.specs.FaultCodes.{IsToldOf}
use Rattle.pli_parse_fault.proofs.ToldFaults.{told_first}
use Rattle.pli_base.specs.Words.{Tokens, same_name, is_semicolon, is_open, is_word}
use Rattle.pli_base.specs.Results.{◌>>=◌}
use Rattle.pli_base.specs.Reading.{Front}
use Rattle.pli_base.specs.Syntax.{Expression, Reference}
use Rattle.pli_base.specs.declared.code.Code.TheVariants.{NotAStatement, ParenthesisExpected, SemicolonExpected, BadDo, BadCondition, BadOption}
use Rattle.pli_base.specs.declared.token.Fault.{Fault}
use Rattle.pli_base.specs.declared.token.Sign.TheVariants.{OpenParenthesis}
use Rattle.pli_base.specs.declared.token.TokenText.TheVariants.{Word, Sign}
use Rattle.pli_base.specs.declared.syntax.Identifier.{Identifier}
use Rattle.pli_base.specs.declared.statement.Condition.{Condition}
use Rattle.pli_base.specs.Statements.{ProcedureOption, Main, Returns, Recursive, To, By, Repeat, While, Iterate, Allocation, Body}
use Rattle.pli_base.specs.Statements as body
use Rattle.pli_parse_expression.specs.Expressions.{SpellsOutermost}
use Rattle.pli_parse_expression.specs.Reading as expressions
use Rattle.pli_parse_expression.specs.Reading.{expression_at, reference_at, arguments_at, argument_of}
use Rattle.pli_parse_expression.proofs.ReadFaults.{expression_at_sound, reference_at_stands, arguments_stand, arguments_sound}
use Rattle.pli_base.specs.Words.{rest_after}
use Rattle.pli_parse_declaration.specs.DeclarationReading.{identifier_at, list_at, returned_at}
use Rattle.pli_parse_declaration.specs.declared.list.Separator.TheVariants.{Commas}
use Rattle.pli_base.specs.Reading.{read_as, mapped, taken, enclosed, if_open, or_none}
use Rattle.pli_parse_declaration.specs.DeclarationGrammar.{SpellsListed}
use Rattle.pli_parse_fault.proofs.ReadingFaults.{Stands, misfit_stands, at_least, stands_after, stands_then, stands_made, mapped_stands}
use Rattle.pli_parse_declaration.proofs.DeclarationFaults.{identifier_sound, IsSound, taken_then, enclosed_stands, optional_stands, list_sound, returned_stands}
use Rattle.pli_parse.proofs.WordsFirst.{range_begins, place_begins, put_begins, option_begins}
use Rattle.pli_parse_statement.specs.StatementWords.{condition_of, after_word}
use Rattle.pli_parse_statement.specs.StatementReading.{uncounted, expression_in, reference_in, stopped, closing, parenthesized, is_equals, assignment_at, condition_from, condition_at, if_word, optional_at, RangeWord, ToWord, ByWord, RepeatWord, range_first, range_from, range_at, Specified, Unspecified, Conditioned, Iterated, specified, control_from, control_at, PlaceWord, InWord, SetWord, place_first, placed_by, places_from, allocation_at, PutWord, SkipWord, ListWord, put_first, put_by, put_from, put_begun, put_at, call_at, OptionWord, OptionsWord, ReturnsWord, RecursiveWord, option_first, main_at, options_by, options_from, heading_at}
use Rattle.pli_parse.proofs.StatementReadTools.{expression_reads, parenthesized_reads, list_reads, after_is}

pub expression_sound : (levels : ℕ) → IsSound (expression_in levels)
unfolding expression_in
expression_sound levels p ts = mapped_stands 1 p ts (λ counted. counted.tree) (expression_at levels 0 p ts) (expression_at_sound levels 0 p ts)

pub reference_sound : (levels : ℕ) → IsSound (reference_in levels)
unfolding reference_in
reference_sound levels p ts = mapped_stands 1 p ts (λ counted. counted.tree) (reference_at levels p ts) (reference_at_stands levels p ts)

pub stopped_sound : {A : Type 0} (value : A) → IsSound (stopped value)
unfolding stopped
stopped_sound value p ts = taken_then is_semicolon SemicolonExpected refl 0 p ts (λ us. read_as value (p + 1) us) (λ us. passes_none (p + 1) us)

pub closing_stands : {A B : Type 0} (least p : ℕ) (ts : Tokens) (f : A → B) (r : Result (Front A) Fault) → Stands least p ts r → Stands 1 p ts (closing f r)
closing_stands least p ts f r h =
    at_least (least + 1) 1 p ts (closing f r) (omega arith) (stands_then least 1 p ts r (λ x. stopped (f x.value) x.next x.rest) h (λ x s. stopped_sound (f x.value) x.next x.rest))

pub parenthesized_stands : {A : Type 0} (one : ℕ → Tokens → Result (Front A) Fault) → IsSound one → (p : ℕ) (ts : Tokens) → Stands 3 p ts (parenthesized one p ts)
unfolding parenthesized
parenthesized_stands one sound p ts =
    taken_then is_open ParenthesisExpected refl 2 p ts (λ us. enclosed (one (p + 1) us)) (λ us. enclosed_stands 1 (p + 1) us (one (p + 1) us) (sound (p + 1) us))

parenthesized_sound : {A : Type 0} (one : ℕ → Tokens → Result (Front A) Fault) → IsSound one → IsSound (parenthesized one)
parenthesized_sound one sound p ts = at_least 3 1 p ts (parenthesized one p ts) (omega arith) (parenthesized_stands one sound p ts)

-- what is read after a first token
pub after_first : {A : Type 0} (least p : ℕ) (ts us : Tokens) (r : Result (Front A) Fault) → length ts ≡ suc (length us) → Stands least (p + 1) us r → Stands 1 p ts r
after_first least p ts us r one h = at_least (1 + least) 1 p ts r (omega arith) (stands_after 1 least p (p + 1) ts us r (passes_one p ts us one) h)

pub assignment_stands : (levels p : ℕ) (ts : Tokens) → Stands 1 p ts (assignment_at levels p ts)
unfolding assignment_at
assignment_stands levels p ts =
    stands_then 1 0 p ts (reference_in levels p ts)
    (λ target. taken is_equals NotAStatement target.next target.rest >>= λ us. expression_in levels (target.next + 1) us >>= λ value. stopped (body.Assign target.value target.next value.value) value.next value.rest)
    (reference_sound levels p ts)
    (λ target s. at_least 3 0 target.next target.rest _ (omega arith)
    (taken_then is_equals NotAStatement refl 2 target.next target.rest (λ us. expression_in levels (target.next + 1) us >>= λ value. stopped (body.Assign target.value target.next value.value) value.next value.rest)
    (λ us. stands_then 1 1 (target.next + 1) us (expression_in levels (target.next + 1) us) (λ value. stopped (body.Assign target.value target.next value.value) value.next value.rest)
    (expression_sound levels (target.next + 1) us) (λ value t. stopped_sound (body.Assign target.value target.next value.value) value.next value.rest))))

pub condition_sound : IsSound condition_at
unfolding condition_at
condition_sound p [] = misfit_stands BadCondition refl p []
condition_sound p (Word n ∷ us) = by (condition_of n)
  where
    by : (o : Option Condition) → Stands 1 p (Word n ∷ us) (condition_from p us o)
    by (Some c) = passes_one p (Word n ∷ us) us (omega arith)
    by None = told_first BadCondition refl p (Word n ∷ us) (omega arith)
condition_sound p (t ∷ us) = misfit_stands BadCondition refl p (t ∷ us)

optional_stand : {A : Type 0} (w : Name) (one : ℕ → Tokens → Result (Front A) Fault) → IsSound one → (p : ℕ) (ts : Tokens) → Stands 0 p ts (optional_at w one p ts)
unfolding optional_at
optional_stand {A = A} w one sound p ts = by (after_word w ts) refl
  where
    by : (o : Option Tokens) → after_word w ts ≡ o → Stands {A = Option A} 0 p ts (if_word one p ts o)
    by None e = passes_none p ts
    by (Some us) e =
        at_least 1 0 p ts (mapped Some (one (p + 1) us)) (omega arith)
        (after_first 1 p ts us (mapped Some (one (p + 1) us)) (ap length (after_is w ts us e)) (mapped_stands 1 (p + 1) us Some (one (p + 1) us) (sound (p + 1) us)))

-- an expression, and after it another after a word
two_stand : {A : Type 0} (levels : ℕ) (w : Name) (value : Expression → Option Expression → A) (p : ℕ) (ts : Tokens)
    → Stands {A = A} 1 p ts (expression_in levels p ts >>= λ x. optional_at w (expression_in levels) x.next x.rest >>= λ y. read_as (value x.value y.value) y.next y.rest)
two_stand levels w value p ts =
    stands_then 1 0 p ts (expression_in levels p ts) (λ x. optional_at w (expression_in levels) x.next x.rest >>= λ y. read_as (value x.value y.value) y.next y.rest) (expression_sound levels p ts)
    (λ x s. stands_made 0 x.next x.rest (optional_at w (expression_in levels) x.next x.rest) (λ y. value x.value y.value) (optional_stand w (expression_in levels) (expression_sound levels) x.next x.rest))

range_stands : (levels p : ℕ) (ts : Tokens) → Stands 0 p ts (range_at levels p ts)
unfolding range_at
range_stands levels p ts = by (range_first ts) refl
  where
    by : (o : Option (RangeWord × Tokens)) → range_first ts ≡ o → Stands 0 p ts (range_from levels p ts o)
    by None e = passes_none p ts
    by (Some (ToWord, us)) e =
        at_least 1 0 p ts (range_from levels p ts (Some (ToWord, us))) (omega arith)
        (after_first 1 p ts us (range_from levels p ts (Some (ToWord, us))) (ap length (range_begins ts us ToWord e)) (two_stand levels (codes "BY") (λ x y. Some (To x y)) (p + 1) us))
    by (Some (ByWord, us)) e =
        at_least 1 0 p ts (range_from levels p ts (Some (ByWord, us))) (omega arith)
        (after_first 1 p ts us (range_from levels p ts (Some (ByWord, us))) (ap length (range_begins ts us ByWord e)) (two_stand levels (codes "TO") (λ x y. Some (By x y)) (p + 1) us))
    by (Some (RepeatWord, us)) e =
        at_least 1 0 p ts (range_from levels p ts (Some (RepeatWord, us))) (omega arith)
        (after_first 1 p ts us (range_from levels p ts (Some (RepeatWord, us))) (ap length (range_begins ts us RepeatWord e))
        (mapped_stands 1 (p + 1) us (λ next. Some (Repeat next)) (expression_in levels (p + 1) us) (expression_sound levels (p + 1) us)))

conditioned_less : (ts us : Tokens) → specified ts ≡ Conditioned us → length ts ≡ suc (length us)
unfolding specified
conditioned_less [] us h = cc
conditioned_less (Word n ∷ Sign OpenParenthesis ∷ vs) us h = by (same_name n (codes "WHILE")) h
  where
    after_of : Specified → Tokens
    after_of (Conditioned ws) = ws
    after_of s = []

    by : (b : Bool) → cond b (Conditioned (Sign OpenParenthesis ∷ vs)) Iterated ≡ Conditioned us → length (Word n ∷ Sign OpenParenthesis ∷ vs) ≡ suc (length us)
    by true e = ap (λ (s : Specified). suc (length (after_of s))) e
    by false e = cc
conditioned_less (Word n ∷ vs) us h = cc
conditioned_less (t ∷ vs) us h = cc

pub control_stands : (levels p : ℕ) (ts : Tokens) → Stands 0 p ts (control_at levels p ts)
unfolding control_at
control_stands levels p ts = by (specified ts) refl
  where
    by : (s : Specified) → specified ts ≡ s → Stands 0 p ts (control_from levels p ts s)
    by Unspecified e = passes_none p ts
    by (Conditioned us) e =
        at_least 1 0 p ts (control_from levels p ts (Conditioned us)) (omega arith)
        (after_first 1 p ts us (control_from levels p ts (Conditioned us)) (conditioned_less ts us e)
        (mapped_stands 1 (p + 1) us (λ c. Some (While c)) (parenthesized (expression_in levels) (p + 1) us) (parenthesized_sound (expression_in levels) (expression_sound levels) (p + 1) us)))
    by Iterated e =
        at_least 1 0 p ts (control_from levels p ts Iterated) (omega arith)
        (stands_then 1 0 p ts (reference_in levels p ts) _ (reference_sound levels p ts)
        (λ variable s. at_least 2 0 variable.next variable.rest _ (omega arith)
        (taken_then is_equals BadDo refl 1 variable.next variable.rest _
        (λ us. stands_then 1 0 (variable.next + 1) us (expression_in levels (variable.next + 1) us) _ (expression_sound levels (variable.next + 1) us)
        (λ first t. stands_then 0 0 first.next first.rest (range_at levels first.next first.rest) _ (range_stands levels first.next first.rest)
        (λ range u. stands_made 0 range.next range.rest (optional_at (codes "WHILE") (parenthesized (expression_in levels)) range.next range.rest)
        (λ condition. Some (Iterate variable.value variable.next first.value range.value condition.value))
        (optional_stand (codes "WHILE") (parenthesized (expression_in levels)) (parenthesized_sound (expression_in levels) (expression_sound levels)) range.next range.rest)))))))

-- IN and SET stand once: what may still come is counted by the bound
abbrev made_of : Identifier → Option Reference → Option Reference → Allocation
made_of n area target = record { name = n; area = area; target = target }

second_place : (ts us : Tokens) (w : PlaceWord) (p : ℕ) → place_first ts ≡ Some (w, us) → IsToldOf p ts (record { code = BadOption; at = p })
second_place ts us w p e = let one : length ts ≡ suc (length us) = ap length (place_begins ts us w e) in told_first BadOption refl p ts (omega arith)

both_stand : (levels bound : ℕ) (n : Identifier) (area target : Reference) (p : ℕ) (ts : Tokens) → Stands 0 p ts (places_from levels (suc bound) (made_of n (Some area) (Some target)) p ts)
unfolding places_from
both_stand levels bound n area target p ts = by (place_first ts) refl
  where
    by : (o : Option (PlaceWord × Tokens)) → place_first ts ≡ o → Stands 0 p ts (placed_by levels (places_from levels bound) (made_of n (Some area) (Some target)) p ts o (Some area) (Some target))
    by None e = passes_none p ts
    by (Some (InWord, us)) e = second_place ts us InWord p e
    by (Some (SetWord, us)) e = second_place ts us SetWord p e

-- a reference in parentheses after a word
place_stands : (levels : ℕ) (more : Reference → ℕ → Tokens → Result (Front Allocation) Fault) → ((r : Reference) (q : ℕ) (us : Tokens) → Stands 0 q us (more r q us)) → (p : ℕ) (ts us : Tokens) → length ts ≡ suc (length us)
    → Stands {A = Allocation} 0 p ts (parenthesized (reference_in levels) (p + 1) us >>= λ r. more r.value r.next r.rest)
place_stands levels more stands p ts us one =
    let read : Result (Front Allocation) Fault = parenthesized (reference_in levels) (p + 1) us >>= λ r. more r.value r.next r.rest in
    at_least 1 0 p ts read (omega arith)
    (after_first 3 p ts us read one
    (stands_then 3 0 (p + 1) us (parenthesized (reference_in levels) (p + 1) us) (λ r. more r.value r.next r.rest) (parenthesized_stands (reference_in levels) (reference_sound levels) (p + 1) us)
    (λ r s. stands r.value r.next r.rest)))

area_stands : (levels bound : ℕ) (n : Identifier) (area : Reference) (p : ℕ) (ts : Tokens) → Stands 0 p ts (places_from levels (suc (suc bound)) (made_of n (Some area) None) p ts)
unfolding places_from
area_stands levels bound n area p ts = by (place_first ts) refl
  where
    by : (o : Option (PlaceWord × Tokens)) → place_first ts ≡ o → Stands 0 p ts (placed_by levels (places_from levels (suc bound)) (made_of n (Some area) None) p ts o (Some area) None)
    by None e = passes_none p ts
    by (Some (InWord, us)) e = second_place ts us InWord p e
    by (Some (SetWord, us)) e = place_stands levels (λ r. places_from levels (suc bound) (made_of n (Some area) (Some r))) (λ r q vs. both_stand levels bound n area r q vs) p ts us (ap length (place_begins ts us SetWord e))

target_stands : (levels bound : ℕ) (n : Identifier) (target : Reference) (p : ℕ) (ts : Tokens) → Stands 0 p ts (places_from levels (suc (suc bound)) (made_of n None (Some target)) p ts)
unfolding places_from
target_stands levels bound n target p ts = by (place_first ts) refl
  where
    by : (o : Option (PlaceWord × Tokens)) → place_first ts ≡ o → Stands 0 p ts (placed_by levels (places_from levels (suc bound)) (made_of n None (Some target)) p ts o None (Some target))
    by None e = passes_none p ts
    by (Some (SetWord, us)) e = second_place ts us SetWord p e
    by (Some (InWord, us)) e = place_stands levels (λ r. places_from levels (suc bound) (made_of n (Some r) (Some target))) (λ r q vs. both_stand levels bound n r target q vs) p ts us (ap length (place_begins ts us InWord e))

places_stand : (levels bound : ℕ) (n : Identifier) (p : ℕ) (ts : Tokens) → Stands 0 p ts (places_from levels (suc (suc (suc bound))) (made_of n None None) p ts)
unfolding places_from
places_stand levels bound n p ts = by (place_first ts) refl
  where
    by : (o : Option (PlaceWord × Tokens)) → place_first ts ≡ o → Stands 0 p ts (placed_by levels (places_from levels (suc (suc bound))) (made_of n None None) p ts o None None)
    by None e = passes_none p ts
    by (Some (InWord, us)) e = place_stands levels (λ r. places_from levels (suc (suc bound)) (made_of n (Some r) None)) (λ r q vs. area_stands levels bound n r q vs) p ts us (ap length (place_begins ts us InWord e))
    by (Some (SetWord, us)) e = place_stands levels (λ r. places_from levels (suc (suc bound)) (made_of n None (Some r))) (λ r q vs. target_stands levels bound n r q vs) p ts us (ap length (place_begins ts us SetWord e))

pub allocation_sound : (levels : ℕ) → IsSound (allocation_at levels)
unfolding allocation_at
allocation_sound levels p ts =
    stands_then 1 0 p ts (identifier_at p ts) (λ n. places_from levels 3 (made_of n.value None None) n.next n.rest) (identifier_sound p ts) (λ n s. places_stand levels 0 n.value n.next n.rest)

-- SKIP and LIST stand once
second_option : (ts us : Tokens) (w : PutWord) (p : ℕ) → put_first ts ≡ Some (w, us) → IsToldOf p ts (record { code = BadOption; at = p })
second_option ts us w p e = let one : length ts ≡ suc (length us) = ap length (put_begins ts us w e) in told_first BadOption refl p ts (omega arith)

put_both : (levels bound : ℕ) (x : Expression) (xs : List Expression) (p : ℕ) (ts : Tokens) → Stands 0 p ts (put_from levels (suc bound) true (x ∷ xs) p ts)
unfolding put_from
put_both levels bound x xs p ts = by (put_first ts) refl
  where
    by : (o : Option (PutWord × Tokens)) → put_first ts ≡ o → Stands 0 p ts (put_by levels (put_from levels bound) true (x ∷ xs) p ts o)
    by None e = passes_none p ts
    by (Some (SkipWord, us)) e = second_option ts us SkipWord p e
    by (Some (ListWord, us)) e = second_option ts us ListWord p e

-- after SKIP
after_skip : (levels : ℕ) (more : Bool → List Expression → ℕ → Tokens → Result (Front Body) Fault) (items : List Expression) → ((q : ℕ) (vs : Tokens) → Stands 0 q vs (more true items q vs))
    → (p : ℕ) (ts us : Tokens) → length ts ≡ suc (length us) → Stands 0 p ts (more true items (p + 1) us)
after_skip levels more items stands p ts us one =
    at_least 1 0 p ts (more true items (p + 1) us) (omega arith) (after_first 0 p ts us (more true items (p + 1) us) one (stands (p + 1) us))

-- expressions that were read are one or more
expressions_some : (levels p : ℕ) (ts : Tokens) (x : Front (List Expression)) → parenthesized (list_at Commas (expression_in levels)) p ts ≡ Ok x → (e : Expression) × (es : List Expression) × (x.value ≡ e ∷ es)
expressions_some levels p ts x h =
    let f = parenthesized_reads (list_at Commas (expression_in levels)) (SpellsListed Commas (SpellsOutermost levels)) (list_reads (expression_in levels) (SpellsOutermost levels) (expression_reads levels)) p ts x h in
    by (p + 1) f.3.0 x.value refl f.3.2
  where
    by : (q : ℕ) (us : Tokens) (es : List Expression) → x.value ≡ es → SpellsListed Commas (SpellsOutermost levels) q us x.value → (e : Expression) × (fs : List Expression) × (x.value ≡ e ∷ fs)
    by q us [] e spelled = absurd (subst (SpellsListed Commas (SpellsOutermost levels) q us) e spelled)
    by q us (y ∷ ys) e spelled = (y, ys, e)

-- after LIST
after_list : (levels : ℕ) (more : Bool → List Expression → ℕ → Tokens → Result (Front Body) Fault) (skip : Bool) → ((e : Expression) (es : List Expression) (q : ℕ) (vs : Tokens) → Stands 0 q vs (more skip (e ∷ es) q vs))
    → (p : ℕ) (ts us : Tokens) → length ts ≡ suc (length us) → Stands {A = Body} 0 p ts (parenthesized (list_at Commas (expression_in levels)) (p + 1) us >>= λ x. more skip x.value x.next x.rest)
after_list levels more skip stands p ts us one =
    let first : Result (Front (List Expression)) Fault = parenthesized (list_at Commas (expression_in levels)) (p + 1) us in
    let read : Result (Front Body) Fault = first >>= λ x. more skip x.value x.next x.rest in
    at_least 1 0 p ts read (omega arith) (after_first 3 p ts us read one (by first refl (parenthesized_stands (list_at Commas (expression_in levels)) (list_sound Commas (expression_in levels) (expression_sound levels)) (p + 1) us)))
  where
    by : (r : Result (Front (List Expression)) Fault) → parenthesized (list_at Commas (expression_in levels)) (p + 1) us ≡ r → Stands 3 (p + 1) us r → Stands {A = Body} 3 (p + 1) us (r >>= λ x. more skip x.value x.next x.rest)
    by (Ok x) e h =
        let some = expressions_some levels (p + 1) us x e in
        stands_after 3 0 (p + 1) x.next us x.rest (more skip x.value x.next x.rest) h (subst (λ es. Stands 0 x.next x.rest (more skip es x.next x.rest)) (sym some.2) (stands some.0 some.1 x.next x.rest))
    by (Err f) e h = h

put_listed : (levels bound : ℕ) (x : Expression) (xs : List Expression) (p : ℕ) (ts : Tokens) → Stands 0 p ts (put_from levels (suc (suc bound)) false (x ∷ xs) p ts)
unfolding put_from
put_listed levels bound x xs p ts = by (put_first ts) refl
  where
    by : (o : Option (PutWord × Tokens)) → put_first ts ≡ o → Stands 0 p ts (put_by levels (put_from levels (suc bound)) false (x ∷ xs) p ts o)
    by None e = passes_none p ts
    by (Some (SkipWord, us)) e = after_skip levels (put_from levels (suc bound)) (x ∷ xs) (λ q vs. put_both levels bound x xs q vs) p ts us (ap length (put_begins ts us SkipWord e))
    by (Some (ListWord, us)) e = second_option ts us ListWord p e

put_skipped : (levels bound p : ℕ) (ts : Tokens) → Stands 0 p ts (put_from levels (suc (suc bound)) true [] p ts)
unfolding put_from
put_skipped levels bound p ts = by (put_first ts) refl
  where
    by : (o : Option (PutWord × Tokens)) → put_first ts ≡ o → Stands 0 p ts (put_by levels (put_from levels (suc bound)) true [] p ts o)
    by None e = passes_none p ts
    by (Some (SkipWord, us)) e = second_option ts us SkipWord p e
    by (Some (ListWord, us)) e = after_list levels (put_from levels (suc bound)) true (λ y ys q vs. put_both levels bound y ys q vs) p ts us (ap length (put_begins ts us ListWord e))

put_none : (levels bound p : ℕ) (ts : Tokens) → Stands 0 p ts (put_from levels (suc (suc (suc bound))) false [] p ts)
unfolding put_from
put_none levels bound p ts = by (put_first ts) refl
  where
    by : (o : Option (PutWord × Tokens)) → put_first ts ≡ o → Stands 0 p ts (put_by levels (put_from levels (suc (suc bound))) false [] p ts o)
    by None e = passes_none p ts
    by (Some (SkipWord, us)) e = after_skip levels (put_from levels (suc (suc bound))) [] (λ q vs. put_skipped levels bound q vs) p ts us (ap length (put_begins ts us SkipWord e))
    by (Some (ListWord, us)) e = after_list levels (put_from levels (suc (suc bound))) false (λ y ys q vs. put_listed levels bound y ys q vs) p ts us (ap length (put_begins ts us ListWord e))

pub put_stands : (levels p : ℕ) (ts : Tokens) → Stands 0 p ts (put_at levels p ts)
unfolding put_at
put_stands levels p ts = by (put_first ts)
  where
    by : (o : Option (PutWord × Tokens)) → Stands 0 p ts (put_begun levels p ts o)
    by None = misfit_stands BadOption refl p ts
    by (Some x) = put_none levels 0 p ts

pub call_sound : (levels : ℕ) → IsSound (call_at levels)
unfolding call_at
call_sound levels p ts =
    stands_then 1 0 p ts (identifier_at p ts)
    (λ name. uncounted (arguments_at (option_map (argument_of true) (expressions.inside levels)) 0 name.next name.rest) >>= λ arguments. read_as (body.Call name.value arguments.value) arguments.next arguments.rest) (identifier_sound p ts)
    (λ name s. stands_made 0 name.next name.rest (uncounted (arguments_at (option_map (argument_of true) (expressions.inside levels)) 0 name.next name.rest)) (λ arguments. body.Call name.value arguments.value)
    (mapped_stands 0 name.next name.rest (λ counted. counted.tree) (arguments_at (option_map (argument_of true) (expressions.inside levels)) 0 name.next name.rest)
    (arguments_stand (option_map (argument_of true) (expressions.inside levels)) (arguments_sound levels) 0 name.next name.rest)))

main_sound : IsSound main_at
unfolding main_at
main_sound p ts =
    parenthesized_sound (λ p ts. taken (is_word (codes "MAIN")) BadOption p ts >>= λ us. read_as Main (p + 1) us)
    (λ p ts. taken_then (is_word (codes "MAIN")) BadOption refl 0 p ts (λ us. read_as Main (p + 1) us) (λ us. passes_none (p + 1) us)) p ts

options_stand : (bound p : ℕ) (ts : Tokens) → length ts < bound → Stands 0 p ts (options_from bound p ts)
unfolding options_from
options_stand zero p ts small = absurd (omega arith)
options_stand (suc bound) p ts small = by (option_first ts) refl (options_stand bound)
  where
    then_more : (first : ProcedureOption) (q : ℕ) (us : Tokens) → ((q : ℕ) (us : Tokens) → length us < bound → Stands 0 q us (options_from bound q us)) → length us < bound
        → Stands {A = List ProcedureOption} 0 q us (mapped (λ xs. first ∷ xs) (options_from bound q us))
    then_more first q us more less = mapped_stands 0 q us (λ xs. first ∷ xs) (options_from bound q us) (more q us less)

    by : (o : Option (OptionWord × Tokens)) → option_first ts ≡ o → ((q : ℕ) (us : Tokens) → length us < bound → Stands 0 q us (options_from bound q us)) → Stands {A = List ProcedureOption} 0 p ts (options_by (options_from bound) p ts o)
    by None e more = passes_none p ts
    by (Some (OptionsWord, us)) e more =
        let one : length ts ≡ suc (length us) = ap length (option_begins ts us OptionsWord e) in
        let read : Result (Front (List ProcedureOption)) Fault = options_by (options_from bound) p ts (Some (OptionsWord, us)) in
        at_least 1 0 p ts read (omega arith)
        (after_first 1 p ts us read one
        (stands_then 1 0 (p + 1) us (main_at (p + 1) us) (λ x. mapped (λ xs. x.value ∷ xs) (options_from bound x.next x.rest)) (main_sound (p + 1) us) (λ x s. then_more x.value x.next x.rest more (omega (arith, s.0, s.1)))))
    by (Some (ReturnsWord, us)) e more =
        let one : length ts ≡ suc (length us) = ap length (option_begins ts us ReturnsWord e) in
        let read : Result (Front (List ProcedureOption)) Fault = options_by (options_from bound) p ts (Some (ReturnsWord, us)) in
        at_least 1 0 p ts read (omega arith)
        (after_first 3 p ts us read one
        (stands_then 3 0 (p + 1) us (returned_at (p + 1) us) (λ x. mapped (λ xs. Returns x.value ∷ xs) (options_from bound x.next x.rest)) (returned_stands (p + 1) us)
        (λ x s. then_more (Returns x.value) x.next x.rest more (omega (arith, s.0, s.1)))))
    by (Some (RecursiveWord, us)) e more =
        let one : length ts ≡ suc (length us) = ap length (option_begins ts us RecursiveWord e) in
        let read : Result (Front (List ProcedureOption)) Fault = options_by (options_from bound) p ts (Some (RecursiveWord, us)) in
        at_least 1 0 p ts read (omega arith) (after_first 0 p ts us read one (then_more Recursive (p + 1) us more (omega arith)))

pub heading_stands : (name : Identifier) (number p : ℕ) (ts : Tokens) → Stands 1 p ts (heading_at name number p ts)
unfolding heading_at
heading_stands name number p ts =
    stands_then 0 1 p ts (if_open (list_at Commas identifier_at) p ts (rest_after is_open ts)) _ (optional_stands (list_at Commas identifier_at) (list_sound Commas identifier_at identifier_sound) p ts)
    (λ parameters s. stands_then 0 1 parameters.next parameters.rest (options_from (length parameters.rest + 1) parameters.next parameters.rest) _
    (options_stand (length parameters.rest + 1) parameters.next parameters.rest (omega arith))
    (λ options t. stopped_sound (record { name = name; number = number; parameters = or_none parameters.value; options = options.value }) options.next options.rest))

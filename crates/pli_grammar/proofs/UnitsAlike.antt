-- Statements and units are read the same.
use Rattle.std.specs.Prelude.{◌≡◌, ℕ, zero, suc, ◌+◌, ◌-◌, Bool, true, false, Option, Some, None, Result, [], ◌∷◌, length, codes, refl, is_some, option_map, if◌then◌else◌}
use Rattle.std.proofs.Common.{ap, sym, ◌∙◌}
use Rattle.std.proofs.Math.Path.{fun_ext}
use Rattle.std.specs.List.{list_any}
use Rattle.pli_base.specs.Name.{Name}
use Rattle.pli_base.specs.Words.{Tokens, same_name, is_word, is_semicolon}
use Rattle.pli_base.specs.Results.{◌>>=◌}
use Rattle.pli_base.specs.Reading.{Front, at_fault, misplaced, read_as, mapped, taken}
use Rattle.pli_base.specs.declared.syntax.Identifier.{Identifier}
use Rattle.pli_base.specs.declared.code.Code.TheVariants.{NotAStatement, SemicolonExpected, ThenExpected, EndMissing}
use Rattle.pli_base.specs.declared.token.Fault.{Fault}
use Rattle.pli_base.specs.declared.token.Sign.TheVariants as signs
use Rattle.pli_base.specs.declared.token.TokenText.TheVariants.{Word, Decimal, Binary, Characters, Bits, Sign}
use Rattle.pli_base.specs.Statements.{Statement, Numbered, Body, NoElse, Else, ExternalProcedure, count}
use Rattle.pli_base.specs.Statements as body
use Rattle.pli_parse_declaration.specs.DeclarationReading.{identifier_at}
use Rattle.pli_parse_expression.specs.Assignments.{is_assignment, accepts}
use Rattle.pli_parse_expression.specs.Operators.{nesting_limit}
use Rattle.pli_parse_statement.specs.StatementReading as old
use Rattle.pli_parse_statement.specs.StatementReading.{label_at, paired, Misplacement, AtLabel, AtStatement, misplacement}
use Rattle.pli_parse_statement.specs.StatementWords.{Context, standing, a_procedure, begins_assignment, up_to_semicolon, after_word, keyword_of, first_kind, kind_of, word_kind, go_kind, Unknown}
use Rattle.pli_parse_statement.specs.declared.keyword.Keyword.{Keyword}
use Rattle.pli_parse_statement.specs.declared.keyword.Keyword.TheVariants as keys
use Rattle.pli_parse_statement.specs.declared.keyword.StatementStanding.{StatementStanding}
use Rattle.pli_parse_statement.specs.declared.keyword.StatementStanding.TheVariants.{InBlock, InGroup, AsClause, AsOnUnit}
use Rattle.std.proofs.Common.{arith}
use Rattle.pli_grammar.specs.Readers as readers
use Rattle.pli_grammar.specs.Readers.{Reader, either, by_meaning, meaning_in}
use Rattle.pli_grammar.specs.Readers.{◌>>=◌ as ◌then◌}
use Rattle.pli_grammar.specs.StatementParts as parts
use Rattle.pli_grammar.specs.UnitReading as new
use Rattle.pli_grammar.specs.UnitReading.{Inside}
use Rattle.pli_grammar.proofs.DeclarationsAlike.{declaration_same}
use Rattle.pli_grammar.proofs.ReadersAlike.{grouped, after, both, token_then, stopped_same, after_word_same, opened_same, list_of_same, row, row_of_two}
use Rattle.pli_grammar.proofs.ListsAlike.{semicolon_same, not_labelled, after_keyword_same, list_same, as_old}
use Rattle.pli_grammar.proofs.PartsAlike.{condition_same, expression_same, reference_same, assignment_same, control_same, allocation_same, put_same, call_same, heading_same}

-- ---- constructs

procedure_same : {B : Type 0} (i : Inside) (name : Identifier) (k p : ℕ) (ts : Tokens) (f : ExternalProcedure → ℕ → Tokens → Result B Fault)
    → (new.procedure i name k p ts >>= λ u. f u.value u.next u.rest)
    ≡ (old.heading_at name k p ts >>= λ heading. old.inner_list (as_old i) name heading.next (k + 1) heading.rest
    >>= λ list. f (record { heading = heading.value; statements = list.value.statements; end = list.value.end }) list.next list.rest)
procedure_same i name k p ts f =
    grouped (parts.heading name k p ts) _ _
    ∙ both (heading_same name k p ts) (λ heading.
    grouped (new.list_from (i.statement a_procedure) (Some name) (length heading.rest + 1) (k + 1) heading.next heading.rest) _ _
    ∙ both (list_same i a_procedure (Some name) (length heading.rest + 1) heading.next (k + 1) heading.rest) (λ list. refl))

inner_same : (i : Inside) (label : Option Identifier) (k p : ℕ) (ts : Tokens) → new.inner_procedure i label k p ts ≡ old.procedure_at (as_old i) label k p ts
unfolding old.procedure_at
inner_same i None k p ts = refl
inner_same i (Some name) k p ts = procedure_same i name k p ts (λ u. read_as (body.Procedure u.heading u.statements u.end))

module _ (i : Inside) (c : Context) (label : Option Identifier) (k : ℕ) where
  in_same : (s : StatementStanding) (p : ℕ) (ts : Tokens) → new.list_in i c label k s p ts ≡ old.list_in (as_old i) (standing s c) label p k ts
  in_same s p ts = list_same i (standing s c) label (length ts + 1) p k ts

  begin_same : (p : ℕ) (ts : Tokens) → new.begin i c label k p ts ≡ old.begin_at (as_old i) c label p k ts
  unfolding old.begin_at
  begin_same p ts =
      token_then is_semicolon SemicolonExpected (λ _. new.list_in i c label k InBlock then λ list. read_as (body.Begin list.statements list.end)) p ts
      ∙ after (taken is_semicolon SemicolonExpected p ts) _ _ (λ us. both (in_same InBlock (p + 1) us) (λ list. refl))

  group_same : (p : ℕ) (ts : Tokens) → new.group i c label k p ts ≡ old.do_at (as_old i) c label p k ts
  unfolding old.do_at
  group_same p ts = both (control_same i.levels p ts) (λ control.
      token_then is_semicolon SemicolonExpected (λ _. new.list_in i c label k InGroup then λ list. read_as (body.Do control.value list.statements list.end)) control.next control.rest
      ∙ after (taken is_semicolon SemicolonExpected control.next control.rest) _ _ (λ us. both (in_same InGroup (control.next + 1) us) (λ list. refl)))

  alternative_same : (n p : ℕ) (ts : Tokens) → new.alternative i c label k n p ts ≡ old.alternative_from (as_old i) c p n ts (old.else_first ts)
  unfolding old.else_first
  alternative_same n p ts =
      by (new.after_keyword (codes "ELSE") ts)
      ∙ ap (old.alternative_from (as_old i) c p n ts) (after_keyword_same (codes "ELSE") ts)
    where
      by : (o : Option Tokens) → either (readers.made Else (i.statement (standing AsClause c) n)) (read_as NoElse) p ts o ≡ old.alternative_from (as_old i) c p n ts o
      by None = refl
      by (Some us) = refl

  choice_same : (p : ℕ) (ts : Tokens) → new.choice i c label k p ts ≡ old.if_at (as_old i) c p k ts
  unfolding old.if_at
  choice_same p ts = both (expression_same i.levels p ts) (λ condition.
      token_then (is_word (codes "THEN")) ThenExpected (λ _. i.statement (standing AsClause c) k then λ consequence.
      new.alternative i c label k (k + count consequence) then λ alternative.
      read_as (body.If condition.value consequence alternative)) condition.next condition.rest
      ∙ after (taken (is_word (codes "THEN")) ThenExpected condition.next condition.rest) _ _ (λ us.
      after (i.statement (standing AsClause c) k (condition.next + 1) us) _ _ (λ consequence.
      both (alternative_same (k + count consequence.value) consequence.next consequence.rest) (λ alternative. refl))))

  on_same : (p : ℕ) (ts : Tokens) → new.on i c label k p ts ≡ old.on_at (as_old i) p k ts
  unfolding old.on_at
  on_same p ts = both (condition_same p ts) (λ condition. refl)

-- ---- statements

-- each keyword but GO
abbrev IsOther : Keyword → Type 0
IsOther keys.GoTo = ⊥
IsOther key = Unit {0}

goto_stands : (s : StatementStanding) (l : Bool) → old.standing_misplaced s keys.GoTo l ≡ None
goto_stands InBlock l = refl
goto_stands InGroup l = refl
goto_stands AsClause l = refl
goto_stands AsOnUnit l = refl

module _ (levels : ℕ) (inside : Option Inside) (c : Context) (label : Option Identifier) (p k : ℕ) (us : Tokens) where
  abbrev outside : Option old.Inside
  outside = option_map as_old inside

  abbrev read : Keyword → Result (Front Body) Fault
  read key = new.keyed levels inside c label p k key (p + 1) us

  abbrev was_read : Keyword → Result (Front Body) Fault
  was_read key = old.keyed_at levels outside c label p k us key

  deeper_same : (r : Inside → Reader Body) (s : old.Inside → Result (Front Body) Fault) → ((i : Inside) → r i (p + 1) us ≡ s (as_old i))
      → (o : Option Inside) → new.deeper o p r (p + 1) us ≡ old.deeper (option_map as_old o) p s
  deeper_same r s same None = refl
  deeper_same r s same (Some i) = same i

  stops : {A : Type 0} {r s : Result (Front A) Fault} (f : A → Body) → r ≡ s → (r >>= λ x. parts.stopped (f x.value) x.next x.rest) ≡ old.closing f s
  stops f same = both same (λ x. stopped_same (f x.value) x.next x.rest)

  keyed_same : (key : Keyword) → IsOther key → read key ≡ was_read key
  keyed_same keys.Procedure h = deeper_same _ _ (λ i. inner_same i label k (p + 1) us) inside
  keyed_same keys.Declare h = ap (mapped body.Declare) (declaration_same (p + 1) us)
  keyed_same keys.End h = refl
  keyed_same keys.Begin h = deeper_same _ _ (λ i. begin_same i c label (k + 1) (p + 1) us) inside
  keyed_same keys.Do h = deeper_same _ _ (λ i. group_same i c label (k + 1) (p + 1) us) inside
  keyed_same keys.If h = deeper_same _ _ (λ i. choice_same i c label (k + 1) (p + 1) us) inside
  keyed_same keys.On h = deeper_same _ _ (λ i. on_same i c label (k + 1) (p + 1) us) inside
  keyed_same keys.Revert h = stops body.Revert (condition_same (p + 1) us)
  keyed_same keys.Signal h = stops body.Signal (condition_same (p + 1) us)
  keyed_same keys.Stop h = stopped_same body.Stop (p + 1) us
  keyed_same keys.Allocate h =
      stops body.Allocate (list_of_same (allocation_same levels) (p + 1) us)
  keyed_same keys.Free h = stops body.Free (list_of_same (reference_same levels) (p + 1) us)
  keyed_same keys.Call h = stops (λ x. x) (call_same levels (p + 1) us)
  keyed_same keys.Goto h = stops body.Goto refl
  keyed_same keys.GoTo h = absurd h
  keyed_same keys.Return h = stops body.Return (opened_same (expression_same levels) (p + 1) us)
  keyed_same keys.Put h = stops (λ x. x) (put_same levels (p + 1) us)

  placed_same : (key : Keyword) → IsOther key → (m : Option Misplacement)
      → new.placed label p m (new.keyed levels inside c label p k key) (p + 1) us ≡ old.unless_misplaced levels outside c label p k us key m
  placed_same key h None = keyed_same key h
  placed_same key h (Some (AtStatement code)) = refl
  placed_same key h (Some (AtLabel code)) = by label
    where
      by : (l : Option Identifier) → new.placed l p (Some (AtLabel code)) (new.keyed levels inside c label p k key) (p + 1) us ≡ old.at_label code p l
      by None = refl
      by (Some l) = refl

  abbrev found : Keyword → Reader Body
  found key = new.placed label p (misplacement c key (is_some label) c.in_on_unit) (new.keyed levels inside c label p k key)

  stands : (key : Keyword) → IsOther key → found key (p + 1) us ≡ old.unless_misplaced levels outside c label p k us key (misplacement c key (old.is_labelled label) c.in_on_unit)
  stands key h = placed_same key h (misplacement c key (is_some label) c.in_on_unit)

  abbrev going : Option Tokens → Result (Front Body) Fault
  going o = either readers.here (readers.fails NotAStatement p) (p + 1) us o >>= λ x. identifier_at x.next x.rest >>= λ y. parts.stopped (body.Goto y.value) y.next y.rest

  goes : (ts : Tokens) (o : Option Tokens) → going o ≡ old.body_from levels outside c label p k ts (go_kind o)
  goes ts None = refl
  goes ts (Some vs) =
      ap (λ (q : ℕ). identifier_at q vs >>= λ y. parts.stopped (body.Goto y.value) y.next y.rest) two
      ∙ after (identifier_at (p + 2) vs) _ _ (λ y. stopped_same (body.Goto y.value) y.next y.rest)
      ∙ sym (ap (old.unless_misplaced levels outside c label p k vs keys.GoTo) (goto_stands c.standing (old.is_labelled label)))
    where
      two : p + 1 + 1 ≡ p + 2
      two = omega arith

  go : (n : Name) (b : Bool) → by_meaning found (readers.fails NotAStatement p) p (Word n ∷ us) (paired us (if b then Some keys.GoTo else None))
      ≡ old.body_from levels outside c label p k (Word n ∷ us) (if b then go_kind (after_word (codes "TO") us) else Unknown)
  go n false = refl
  go n true =
      ap (λ (m : Option Misplacement). new.placed label p m (new.keyed levels inside c label p k keys.GoTo) (p + 1) us) (goto_stands c.standing (is_some label))
      ∙ ap going (after_word_same (codes "TO") us)
      ∙ goes (Word n ∷ us) (after_word (codes "TO") us)

  word_same : (n : Name) → by_meaning found (readers.fails NotAStatement p) p (Word n ∷ us) (paired us (meaning_in new.keywords n))
      ≡ old.body_from levels outside c label p k (Word n ∷ us) (word_kind (keyword_of n) n us)
  unfolding keyword_of
  word_same n =
      let f : Option Keyword → Result (Front Body) Fault = λ o. by_meaning found (readers.fails NotAStatement p) p (Word n ∷ us) (paired us o) in
      let g : Option Keyword → Result (Front Body) Fault = λ o. old.body_from levels outside c label p k (Word n ∷ us) (word_kind o n us) in
      row_of_two f g (same_name n (codes "PROCEDURE")) (same_name n (codes "PROC")) (stands keys.Procedure tt)
      (row_of_two f g (same_name n (codes "DECLARE")) (same_name n (codes "DCL")) (stands keys.Declare tt)
      (row f g (same_name n (codes "END")) (stands keys.End tt)
      (row f g (same_name n (codes "BEGIN")) (stands keys.Begin tt)
      (row f g (same_name n (codes "DO")) (stands keys.Do tt)
      (row f g (same_name n (codes "IF")) (stands keys.If tt)
      (row f g (same_name n (codes "ON")) (stands keys.On tt)
      (row f g (same_name n (codes "REVERT")) (stands keys.Revert tt)
      (row f g (same_name n (codes "SIGNAL")) (stands keys.Signal tt)
      (row f g (same_name n (codes "STOP")) (stands keys.Stop tt)
      (row f g (same_name n (codes "ALLOCATE")) (stands keys.Allocate tt)
      (row f g (same_name n (codes "FREE")) (stands keys.Free tt)
      (row f g (same_name n (codes "CALL")) (stands keys.Call tt)
      (row f g (same_name n (codes "GOTO")) (stands keys.Goto tt)
      (row f g (same_name n (codes "RETURN")) (stands keys.Return tt)
      (row f g (same_name n (codes "PUT")) (stands keys.Put tt)
      (go n (same_name n (codes "GO"))))))))))))))))))

module _ (levels : ℕ) (inside : Option Inside) (c : Context) (k : ℕ) where
  abbrev outer : Option old.Inside
  outer = option_map as_old inside

  body_same : (label : Option Identifier) (p : ℕ) (ts : Tokens) → new.body_of levels inside c label k p ts ≡ old.body_from levels outer c label p k ts (kind_of ts)
  unfolding kind_of first_kind begins_assignment up_to_semicolon is_assignment accepts
  body_same label p (Word n ∷ us) = row (λ (r : Result (Front Body) Fault). r) (old.body_from levels outer c label p k (Word n ∷ us)) (begins_assignment (Word n ∷ us)) (assignment_same levels p (Word n ∷ us)) (word_same levels inside c label p k us n)
  body_same label p (Sign signs.Semicolon ∷ us) = refl
  body_same label p [] = refl
  body_same label p (Decimal v d ∷ us) = row (λ (r : Result (Front Body) Fault). r) (old.body_from levels outer c label p k (Decimal v d ∷ us)) (begins_assignment (Decimal v d ∷ us)) (assignment_same levels p (Decimal v d ∷ us)) refl
  body_same label p (Binary v d ∷ us) = row (λ (r : Result (Front Body) Fault). r) (old.body_from levels outer c label p k (Binary v d ∷ us)) (begins_assignment (Binary v d ∷ us)) (assignment_same levels p (Binary v d ∷ us)) refl
  body_same label p (Characters s ∷ us) = row (λ (r : Result (Front Body) Fault). r) (old.body_from levels outer c label p k (Characters s ∷ us)) (begins_assignment (Characters s ∷ us)) (assignment_same levels p (Characters s ∷ us)) refl
  body_same label p (Bits s ∷ us) = row (λ (r : Result (Front Body) Fault). r) (old.body_from levels outer c label p k (Bits s ∷ us)) (begins_assignment (Bits s ∷ us)) (assignment_same levels p (Bits s ∷ us)) refl
  body_same label p (Sign signs.Plus ∷ us) = row (λ (r : Result (Front Body) Fault). r) (old.body_from levels outer c label p k (Sign signs.Plus ∷ us)) (begins_assignment (Sign signs.Plus ∷ us)) (assignment_same levels p (Sign signs.Plus ∷ us)) refl
  body_same label p (Sign signs.Minus ∷ us) = row (λ (r : Result (Front Body) Fault). r) (old.body_from levels outer c label p k (Sign signs.Minus ∷ us)) (begins_assignment (Sign signs.Minus ∷ us)) (assignment_same levels p (Sign signs.Minus ∷ us)) refl
  body_same label p (Sign signs.Times ∷ us) = row (λ (r : Result (Front Body) Fault). r) (old.body_from levels outer c label p k (Sign signs.Times ∷ us)) (begins_assignment (Sign signs.Times ∷ us)) (assignment_same levels p (Sign signs.Times ∷ us)) refl
  body_same label p (Sign signs.OpenParenthesis ∷ us) = row (λ (r : Result (Front Body) Fault). r) (old.body_from levels outer c label p k (Sign signs.OpenParenthesis ∷ us)) (begins_assignment (Sign signs.OpenParenthesis ∷ us)) (assignment_same levels p (Sign signs.OpenParenthesis ∷ us)) refl
  body_same label p (Sign signs.CloseParenthesis ∷ us) = row (λ (r : Result (Front Body) Fault). r) (old.body_from levels outer c label p k (Sign signs.CloseParenthesis ∷ us)) (begins_assignment (Sign signs.CloseParenthesis ∷ us)) (assignment_same levels p (Sign signs.CloseParenthesis ∷ us)) refl
  body_same label p (Sign signs.Comma ∷ us) = row (λ (r : Result (Front Body) Fault). r) (old.body_from levels outer c label p k (Sign signs.Comma ∷ us)) (begins_assignment (Sign signs.Comma ∷ us)) (assignment_same levels p (Sign signs.Comma ∷ us)) refl
  body_same label p (Sign signs.Period ∷ us) = row (λ (r : Result (Front Body) Fault). r) (old.body_from levels outer c label p k (Sign signs.Period ∷ us)) (begins_assignment (Sign signs.Period ∷ us)) (assignment_same levels p (Sign signs.Period ∷ us)) refl
  body_same label p (Sign signs.Colon ∷ us) = row (λ (r : Result (Front Body) Fault). r) (old.body_from levels outer c label p k (Sign signs.Colon ∷ us)) (begins_assignment (Sign signs.Colon ∷ us)) (assignment_same levels p (Sign signs.Colon ∷ us)) refl
  body_same label p (Sign signs.Equals ∷ us) = row (λ (r : Result (Front Body) Fault). r) (old.body_from levels outer c label p k (Sign signs.Equals ∷ us)) (begins_assignment (Sign signs.Equals ∷ us)) (assignment_same levels p (Sign signs.Equals ∷ us)) refl
  body_same label p (Sign signs.NotEqual ∷ us) = row (λ (r : Result (Front Body) Fault). r) (old.body_from levels outer c label p k (Sign signs.NotEqual ∷ us)) (begins_assignment (Sign signs.NotEqual ∷ us)) (assignment_same levels p (Sign signs.NotEqual ∷ us)) refl
  body_same label p (Sign signs.Less ∷ us) = row (λ (r : Result (Front Body) Fault). r) (old.body_from levels outer c label p k (Sign signs.Less ∷ us)) (begins_assignment (Sign signs.Less ∷ us)) (assignment_same levels p (Sign signs.Less ∷ us)) refl
  body_same label p (Sign signs.LessOrEqual ∷ us) = row (λ (r : Result (Front Body) Fault). r) (old.body_from levels outer c label p k (Sign signs.LessOrEqual ∷ us)) (begins_assignment (Sign signs.LessOrEqual ∷ us)) (assignment_same levels p (Sign signs.LessOrEqual ∷ us)) refl
  body_same label p (Sign signs.Greater ∷ us) = row (λ (r : Result (Front Body) Fault). r) (old.body_from levels outer c label p k (Sign signs.Greater ∷ us)) (begins_assignment (Sign signs.Greater ∷ us)) (assignment_same levels p (Sign signs.Greater ∷ us)) refl
  body_same label p (Sign signs.GreaterOrEqual ∷ us) = row (λ (r : Result (Front Body) Fault). r) (old.body_from levels outer c label p k (Sign signs.GreaterOrEqual ∷ us)) (begins_assignment (Sign signs.GreaterOrEqual ∷ us)) (assignment_same levels p (Sign signs.GreaterOrEqual ∷ us)) refl
  body_same label p (Sign signs.And ∷ us) = row (λ (r : Result (Front Body) Fault). r) (old.body_from levels outer c label p k (Sign signs.And ∷ us)) (begins_assignment (Sign signs.And ∷ us)) (assignment_same levels p (Sign signs.And ∷ us)) refl
  body_same label p (Sign signs.Or ∷ us) = row (λ (r : Result (Front Body) Fault). r) (old.body_from levels outer c label p k (Sign signs.Or ∷ us)) (begins_assignment (Sign signs.Or ∷ us)) (assignment_same levels p (Sign signs.Or ∷ us)) refl
  body_same label p (Sign signs.Not ∷ us) = row (λ (r : Result (Front Body) Fault). r) (old.body_from levels outer c label p k (Sign signs.Not ∷ us)) (begins_assignment (Sign signs.Not ∷ us)) (assignment_same levels p (Sign signs.Not ∷ us)) refl
  body_same label p (Sign signs.Percent ∷ us) = row (λ (r : Result (Front Body) Fault). r) (old.body_from levels outer c label p k (Sign signs.Percent ∷ us)) (begins_assignment (Sign signs.Percent ∷ us)) (assignment_same levels p (Sign signs.Percent ∷ us)) refl
  body_same label p (Sign signs.Arrow ∷ us) = row (λ (r : Result (Front Body) Fault). r) (old.body_from levels outer c label p k (Sign signs.Arrow ∷ us)) (begins_assignment (Sign signs.Arrow ∷ us)) (assignment_same levels p (Sign signs.Arrow ∷ us)) refl
  body_same label p (Sign signs.Concatenate ∷ us) = row (λ (r : Result (Front Body) Fault). r) (old.body_from levels outer c label p k (Sign signs.Concatenate ∷ us)) (begins_assignment (Sign signs.Concatenate ∷ us)) (assignment_same levels p (Sign signs.Concatenate ∷ us)) refl

  abbrev rest_of : Front (Option Identifier) → Result (Front Statement) Fault
  rest_of x = new.body_of levels inside c x.value k x.next x.rest >>= λ b. read_as (Numbered k x.value x.next b.value) b.next b.rest

  rest_same : (x : Front (Option Identifier)) → rest_of x ≡ old.after_label levels outer c k x None
  rest_same x = both (body_same x.value x.next x.rest) (λ b. refl)

  module _ (p : ℕ) (ts : Tokens) where
    abbrev first : Front (Option Identifier)
    first = label_at p ts

    abbrev second : Front (Option Identifier)
    second = label_at first.next first.rest

    alone : (l : Option Identifier) → first.value ≡ l → second.value ≡ None → rest_of (record { value = l; next = second.next; rest = second.rest }) ≡ old.after_label levels outer c k first None
    alone l this none =
        ap rest_of (ap (λ (w : Front (Option Identifier)). record { value = l; next = w.next; rest = w.rest }) (not_labelled first.next first.rest none)
        ∙ ap (λ (v : Option Identifier). record { value = v; next = first.next; rest = first.rest }) (sym this))
        ∙ rest_same first

    no_second : first.value ≡ None → second.value ≡ None
    no_second none = ap (λ (w : Front (Option Identifier)). (label_at w.next w.rest).value) (not_labelled p ts none) ∙ none

    labels_same : (s : StatementStanding) (l m : Option Identifier) → first.value ≡ l → second.value ≡ m
        → (new.one_label s l first.next m second.next second.rest >>= rest_of) ≡ old.after_label levels outer c k first (old.bad_label s first l)
    labels_same InBlock None None this none = alone None this none
    labels_same InGroup None None this none = alone None this none
    labels_same AsClause None None this none = alone None this none
    labels_same AsOnUnit None None this none = alone None this none
    labels_same s None (Some m) this that = let bad : ⊥ = clash (sym that ∙ no_second this) in absurd bad
      where
        clash : Some m ≡ None → ⊥
        clash e = cc
    labels_same AsClause (Some l) m this that = refl
    labels_same AsOnUnit (Some l) m this that = refl
    labels_same InBlock (Some l) None this none =
        alone (Some l) this none ∙ sym (ap (λ o. old.after_label levels outer c k first (old.second_label first.next o)) none)
    labels_same InGroup (Some l) None this none =
        alone (Some l) this none ∙ sym (ap (λ o. old.after_label levels outer c k first (old.second_label first.next o)) none)
    labels_same InBlock (Some l) (Some m) this that = sym (ap (λ o. old.after_label levels outer c k first (old.second_label first.next o)) that)
    labels_same InGroup (Some l) (Some m) this that = sym (ap (λ o. old.after_label levels outer c k first (old.second_label first.next o)) that)

    statement_same : new.statement_in levels inside c k p ts ≡ old.statement_of levels outer c p k ts
    unfolding old.statement_of
    statement_same =
        ap (λ (b : Bool). if b then new.labelled levels inside c k p ts else at_fault EndMissing (p + length ts - 1)) (semicolon_same ts)
        ∙ by (old.has_semicolon ts)
      where
        by : (b : Bool) → (if b then new.labelled levels inside c k p ts else at_fault EndMissing (p + length ts - 1)) ≡ old.begun levels outer c p k ts b
        by false = refl
        by true = labels_same c.standing first.value second.value refl refl

inside_same : (levels : ℕ) → option_map as_old (new.inside_of levels) ≡ old.inside_of levels
unfolding new.inside_of old.inside_of
inside_same zero = refl
inside_same (suc levels) =
    ap (λ (statement : old.StatementReader). Some (record { levels = levels; statement = statement })) (fun_ext (λ c. fun_ext (λ p. fun_ext (λ k. fun_ext (λ ts. statement_same levels (new.inside_of levels) c k p ts)))))
    ∙ ap (λ (o : Option old.Inside). Some (record { levels = levels; statement = old.statement_of levels o })) (inside_same levels)

-- ---- units

abbrev outermost : Option old.Inside → Identifier → Tokens → Result ExternalProcedure Fault
outermost inside name ts = old.deeper inside 2 (λ i. old.heading_at name 1 3 ts >>= λ heading.
    old.inner_list i name heading.next 2 heading.rest >>= λ list.
    old.finished (record { heading = heading.value; statements = list.value.statements; end = list.value.end }) list.next list.rest)

finished_same : (u : ExternalProcedure) (p : ℕ) (ts : Tokens) → new.finished u p ts ≡ old.finished u p ts
finished_same u p [] = refl
finished_same u p (t ∷ ts) = refl

external_in : (inside : Option Inside) (name : Identifier) (ts : Tokens)
    → (new.deeper inside 2 (λ i. new.procedure i name 1) 3 ts >>= λ x. new.finished x.value x.next x.rest) ≡ outermost (option_map as_old inside) name ts
external_in None name ts = refl
external_in (Some i) name ts =
    procedure_same i name 1 3 ts new.finished
    ∙ after (old.heading_at name 1 3 ts) _ _ (λ heading. after (old.inner_list (as_old i) name heading.next 2 heading.rest) _ _ (λ list.
    finished_same (record { heading = heading.value; statements = list.value.statements; end = list.value.end }) list.next list.rest))

external_same : (name : Identifier) (ts : Tokens)
    → (new.deeper (new.inside_of nesting_limit) 2 (λ i. new.procedure i name 1) 3 ts >>= λ x. new.finished x.value x.next x.rest) ≡ old.external_at name ts
unfolding old.external_at
external_same name ts = external_in (new.inside_of nesting_limit) name ts ∙ ap (λ (o : Option old.Inside). outermost o name ts) (inside_same nesting_limit)

unit_from_same : (o : Option ℕ) (s : Bool) (ts : Tokens) → new.unit_from o s ts ≡ old.unit_from o s ts
unit_from_same (Some p) s ts = refl
unit_from_same None false ts = refl
unit_from_same None true ([]) = refl
unit_from_same None true (Decimal v d ∷ us) = refl
unit_from_same None true (Binary v d ∷ us) = refl
unit_from_same None true (Characters s ∷ us) = refl
unit_from_same None true (Bits s ∷ us) = refl
unit_from_same None true (Sign s ∷ us) = refl
unit_from_same None true (Word n ∷ []) = refl
unit_from_same None true (Word n ∷ Word m ∷ us) = refl
unit_from_same None true (Word n ∷ Decimal v d ∷ us) = refl
unit_from_same None true (Word n ∷ Binary v d ∷ us) = refl
unit_from_same None true (Word n ∷ Characters s ∷ us) = refl
unit_from_same None true (Word n ∷ Bits s ∷ us) = refl
unit_from_same None true (Word n ∷ Sign signs.Plus ∷ us) = refl
unit_from_same None true (Word n ∷ Sign signs.Minus ∷ us) = refl
unit_from_same None true (Word n ∷ Sign signs.Times ∷ us) = refl
unit_from_same None true (Word n ∷ Sign signs.OpenParenthesis ∷ us) = refl
unit_from_same None true (Word n ∷ Sign signs.CloseParenthesis ∷ us) = refl
unit_from_same None true (Word n ∷ Sign signs.Comma ∷ us) = refl
unit_from_same None true (Word n ∷ Sign signs.Period ∷ us) = refl
unit_from_same None true (Word n ∷ Sign signs.Semicolon ∷ us) = refl
unit_from_same None true (Word n ∷ Sign signs.Equals ∷ us) = refl
unit_from_same None true (Word n ∷ Sign signs.NotEqual ∷ us) = refl
unit_from_same None true (Word n ∷ Sign signs.Less ∷ us) = refl
unit_from_same None true (Word n ∷ Sign signs.LessOrEqual ∷ us) = refl
unit_from_same None true (Word n ∷ Sign signs.Greater ∷ us) = refl
unit_from_same None true (Word n ∷ Sign signs.GreaterOrEqual ∷ us) = refl
unit_from_same None true (Word n ∷ Sign signs.And ∷ us) = refl
unit_from_same None true (Word n ∷ Sign signs.Or ∷ us) = refl
unit_from_same None true (Word n ∷ Sign signs.Not ∷ us) = refl
unit_from_same None true (Word n ∷ Sign signs.Percent ∷ us) = refl
unit_from_same None true (Word n ∷ Sign signs.Arrow ∷ us) = refl
unit_from_same None true (Word n ∷ Sign signs.Concatenate ∷ us) = refl
unit_from_same None true (Word n ∷ Sign signs.Colon ∷ []) = refl
unit_from_same None true (Word n ∷ Sign signs.Colon ∷ word ∷ ts) = external_same (record { name = n; at = 0 }) ts

pub unit_same : (ts : Tokens) → new.unit_of ts ≡ old.unit_of ts
unfolding new.unit_of old.unit_of
unit_same ts = unit_from_same (misplaced ts) (list_any is_semicolon ts) ts ∙ ap (λ (s : Bool). old.unit_from (misplaced ts) s ts) (semicolon_same ts)

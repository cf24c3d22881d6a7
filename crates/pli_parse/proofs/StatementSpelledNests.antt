-- What is spelled so is read: lists of statements, and the statements that contain others, where the law holds one level deeper.
use Rattle.std.proofs.Common.{⊎_elim, ◌⊎◌, inl, inr, ◌≡◌, ◌+◌, ◌<◌, ℕ, suc, zero, false, [], ◌∷◌, ◌++◌, Option, Some, None, Result, Ok, option_map, length, codes, refl, ap, ◌∙◌, sym, subst, arith, append_assoc, length-append}
use Rattle.pli_base.specs.Name.{Name}
use Rattle.pli_base.specs.Words.{Tokens, is_word, is_semicolon, rest_after}
use Rattle.pli_base.specs.Results.{◌>>=◌}
use Rattle.pli_base.specs.Reading.{Front, read_as, mapped, taken}
use Rattle.pli_base.specs.Syntax.{Expression}
use Rattle.pli_base.specs.declared.code.Code.TheVariants.{ThenExpected, SemicolonExpected}
use Rattle.pli_base.specs.declared.syntax.Identifier.{Identifier}
use Rattle.pli_base.specs.declared.token.Fault.{Fault}
use Rattle.pli_base.specs.declared.token.Sign.TheVariants.{Colon, Semicolon}
use Rattle.pli_base.specs.declared.token.TokenText.TheVariants.{Word, Sign}
use Rattle.pli_parse_expression.specs.Assignments.{accepts, is_assignment}
use Rattle.pli_parse_expression.specs.Expressions.{SpellsOutermost}
use Rattle.pli_parse_declaration.proofs.DeclarationReadAgain.{placed}
use Rattle.pli_parse_declaration.proofs.DeclarationItemsAgain.{semicolon_taken}
use Rattle.pli_base.specs.Statements.{Heading, Control, Statement, Numbered, Body, If, On, Do, Begin, Procedure, Statements, Ended, Before, Alternative, NoElse, Else, count, list_count, AwaitsElse, BodyAwaitsElse, AlternativeAwaitsElse}
use Rattle.pli_parse_statement.specs.StatementGrammar.{SpellsCondition, SpellsControl, SpellsHeading, SpellsEnd, IsOnUnitBody, SpellsStatement, SpellsStatements, SpellsAlternative}
use Rattle.pli_parse_statement.specs.StatementReading.{heading_at, StatementReader, Inside, has_semicolon, label_at, Listing, ending_at, EndsHere, Another, next_of, before, list_by, list_from, list_in, else_by, else_first, alternative_from, if_at, on_at, do_at, begin_at, inner_list, procedure_at}
use Rattle.pli_parse_statement.specs.StatementWords.{Context, standing, the_on_unit, a_procedure, keyword_of, after_word, up_to_semicolon, is_assigned, begins_assignment, first_kind, kind_of}
use Rattle.pli_parse_statement.specs.declared.keyword.StatementStanding.TheVariants.{InBlock, InGroup, AsClause}
use Rattle.pli_base.specs.declared.statement.Condition.{Condition}
use Rattle.pli_parse.proofs.StatementSpelledParts.{expression_again, condition_again}
use Rattle.pli_parse.proofs.StatementSpelledControls.{control_again}
use Rattle.pli_parse.proofs.StatementSpelledHeadings.{heading_again, end_alone, end_named}
use Rattle.pli_parse.proofs.StatementSpelledStarts.{Started, no_else, labelled_no_else, another, labelled_another}
use Rattle.pli_parse.proofs.StatementSpelledBodies.{body_started}

-- what a statement spells begins with a `;` or a word
abbrev FirstToken : Tokens → Type 0
FirstToken ts = ((us : Tokens) × (ts ≡ Sign Semicolon ∷ us)) ⊎ ((n : Name) × (us : Tokens) × (ts ≡ Word n ∷ us))

started_first : (ts : Tokens) → Started ts → FirstToken ts
started_first ts started = ⊎_elim (λ s. inl s) (λ s. inr (s.0, s.1, s.2)) started

some_first : (ts : Tokens) → FirstToken ts → 0 < length ts
some_first ts first = ⊎_elim (λ s. omega (arith, ap length s.1)) (λ s. omega (arith, ap length s.2)) first

-- a statement with its label
module _ (c : Context) (levels p k : ℕ) (ts : Tokens) where
  statement_first : (s : Statement) → SpellsStatement c levels p k ts s → FirstToken ts
  statement_first (Numbered number None at body) (front, rest, shape, empty, numbered, place, stands, may, kind, spelled) =
      subst FirstToken (sym (shape ∙ ap (λ us. us ++ rest) empty)) (started_first rest (body_started c levels None (p + length front) k rest body kind spelled))
  statement_first (Numbered number (Some l) at body) (front, rest, shape, named, numbered, place, stands, may, kind, spelled) =
      inr (l.name, Sign Colon ∷ rest, shape ∙ ap (λ us. us ++ rest) named.0)

  statement_no_else : (s : Statement) (more : Tokens) → SpellsStatement c levels p k ts s → else_first (ts ++ more) ≡ None
  statement_no_else (Numbered number None at body) more (front, rest, shape, empty, numbered, place, stands, may, kind, spelled) =
      ap (λ us. else_first (us ++ more)) (shape ∙ ap (λ us. us ++ rest) empty) ∙ no_else rest more (body_started c levels None (p + length front) k rest body kind spelled)
  statement_no_else (Numbered number (Some l) at body) more (front, rest, shape, named, numbered, place, stands, may, kind, spelled) =
      ap (λ us. else_first (us ++ more)) (shape ∙ ap (λ us. us ++ rest) named.0) ∙ labelled_no_else l.name (rest ++ more)

  statement_another : (s : Statement) (more : Tokens) → SpellsStatement c levels p k ts s → next_of (ts ++ more) ≡ Another
  statement_another (Numbered number None at body) more (front, rest, shape, empty, numbered, place, stands, may, kind, spelled) =
      ap (λ us. next_of (us ++ more)) (shape ∙ ap (λ us. us ++ rest) empty) ∙ another rest more (body_started c levels None (p + length front) k rest body kind spelled)
  statement_another (Numbered number (Some l) at body) more (front, rest, shape, named, numbered, place, stands, may, kind, spelled) =
      ap (λ us. next_of (us ++ more)) (shape ∙ ap (λ us. us ++ rest) named.0) ∙ labelled_another l.name (rest ++ more)

-- an END
end_next : (more : Tokens) → next_of (Word (codes "END") ∷ Sign Semicolon ∷ more) ≡ EndsHere (Sign Semicolon ∷ more)
unfolding next_of has_semicolon label_at kind_of begins_assignment up_to_semicolon is_assignment accepts first_kind keyword_of
end_next more = refl

named_next : (n : Name) (more : Tokens) → next_of (Word (codes "END") ∷ Word n ∷ Sign Semicolon ∷ more) ≡ EndsHere (Word n ∷ Sign Semicolon ∷ more)
unfolding next_of has_semicolon label_at kind_of begins_assignment up_to_semicolon is_assignment accepts first_kind keyword_of
named_next n more = refl

end_no_else : (more : Tokens) → else_first (Word (codes "END") ∷ Sign Semicolon ∷ more) ≡ None
unfolding else_first label_at begins_assignment up_to_semicolon is_assignment accepts after_word
end_no_else more = refl

named_no_else : (n : Name) (more : Tokens) → else_first (Word (codes "END") ∷ Word n ∷ Sign Semicolon ∷ more) ≡ None
unfolding else_first label_at begins_assignment up_to_semicolon is_assignment accepts after_word
named_no_else n more = refl

abbrev EndFound : Option Identifier → ℕ → Tokens → Tokens → Type 0
EndFound label p ts more = (us : Tokens) × (next_of (ts ++ more) ≡ EndsHere us) × (ending_at label (p + 1) us ≡ read_as tt (p + length ts) more) × (else_first (ts ++ more) ≡ None)

end_found : (label : Option Identifier) (p : ℕ) (ts more : Tokens) → SpellsEnd label ts → EndFound label p ts more
end_found label p ts more spelled = by label spelled
  where
    alone : (label : Option Identifier) → ts ≡ Word (codes "END") ∷ Sign Semicolon ∷ [] → EndFound label p ts more
    alone label shape = (
      Sign Semicolon ∷ more,
      ap (λ us. next_of (us ++ more)) shape ∙ end_next more,
      end_alone label (p + 1) more ∙ placed tt (p + 1 + 1) (p + length ts) more (omega (arith, ap length shape)),
      ap (λ us. else_first (us ++ more)) shape ∙ end_no_else more,
    )

    by : (label : Option Identifier) → SpellsEnd label ts → EndFound label p ts more
    by None shape = alone None shape
    by (Some l) either =
        ⊎_elim (λ shape. alone (Some l) shape)
        (λ shape. (
          Word l.name ∷ Sign Semicolon ∷ more,
          ap (λ us. next_of (us ++ more)) shape ∙ named_next l.name more,
          end_named l (p + 1) more ∙ placed tt (p + 1 + 1 + 1) (p + length ts) more (omega (arith, ap length shape)),
          ap (λ us. else_first (us ++ more)) shape ∙ named_no_else l.name more,
        )) either

-- a statement after ELSE
else_semicolon : (us : Tokens) → else_first (Word (codes "ELSE") ∷ Sign Semicolon ∷ us) ≡ Some (Sign Semicolon ∷ us)
unfolding else_first label_at begins_assignment up_to_semicolon is_assignment accepts after_word
else_semicolon us = refl

two_words : (n m : Name) (us : Tokens) → begins_assignment (Word n ∷ Word m ∷ us) ≡ false
unfolding begins_assignment up_to_semicolon is_assignment accepts
two_words n m us = by (up_to_semicolon us)
  where
    by : (o : Option Tokens) → is_assigned (option_map (λ ws. Word n ∷ ws) (option_map (λ ws. Word m ∷ ws) o)) ≡ false
    by None = refl
    by (Some vs) = refl

else_word : (n : Name) (us : Tokens) → else_first (Word (codes "ELSE") ∷ Word n ∷ us) ≡ Some (Word n ∷ us)
unfolding else_first label_at after_word
else_word n us = ap (λ a. else_by false a (Some (Word n ∷ us))) (two_words (codes "ELSE") n us)

else_there : (us more : Tokens) → FirstToken us → else_first (Word (codes "ELSE") ∷ us ++ more) ≡ Some (us ++ more)
else_there us more first =
    ⊎_elim (λ s. subst (λ vs. else_first (Word (codes "ELSE") ∷ vs ++ more) ≡ Some (vs ++ more)) (sym s.1) (else_semicolon (s.0 ++ more)))
    (λ s. subst (λ vs. else_first (Word (codes "ELSE") ∷ vs ++ more) ≡ Some (vs ++ more)) (sym s.2) (else_word s.0 (s.1 ++ more))) first

then_taken : (p : ℕ) (zs : Tokens) → taken (is_word (codes "THEN")) ThenExpected p (Word (codes "THEN") ∷ zs) ≡ Ok zs
unfolding taken rest_after
then_taken p zs = refl

unit_awaits : (body : Body) → IsOnUnitBody body → BodyAwaitsElse body → ⊥
unit_awaits (If condition consequence alternative) u a = u
unit_awaits body u a = a

-- the law for a statement where so many levels may be opened: an ELSE after an IF that has none would be that IF's
abbrev pub StatementAgain : ℕ → StatementReader → Type 0
StatementAgain levels one = (c : Context) (p k : ℕ) (ts more : Tokens) (s : Statement) → SpellsStatement c levels p k ts s → (AwaitsElse s → else_first more ≡ None)
    → one c p k (ts ++ more) ≡ read_as s (p + length ts) more

module _ (n : ℕ) (one : StatementReader) (again : StatementAgain n one) where
  abbrev inside : Inside
  inside = record { levels = n; statement = one }

  abbrev listed : Statements → ℕ → Listing
  listed ss end = record { statements = ss; end = end }

  -- neither what is left of a list nor its END begins with an ELSE
  list_no_else : (c : Context) (label : Option Identifier) (ss : Statements) (p k : ℕ) (ts es more : Tokens) → SpellsStatements c n p k ts ss → SpellsEnd label es → else_first (ts ++ (es ++ more)) ≡ None
  list_no_else c label Ended p k ts es more shape ends = ap (λ us. else_first (us ++ (es ++ more))) shape ∙ (end_found label p es more ends).3
  list_no_else c label (Before s ss) p k ts es more (front, rest, shape, spelled, later) ends =
      ap else_first (ap (λ us. us ++ (es ++ more)) shape ∙ append_assoc front rest (es ++ more)) ∙ statement_no_else c n p k front s (rest ++ (es ++ more)) spelled

  list_again : (c : Context) (label : Option Identifier) (ss : Statements) (bound p k : ℕ) (ts es more : Tokens) → SpellsStatements c n p k ts ss → SpellsEnd label es → length (ts ++ (es ++ more)) < bound
      → list_from one c label bound p k (ts ++ (es ++ more)) ≡ read_as (listed ss (k + list_count ss)) (p + length ts + length es) more
  unfolding list_from
  list_again c label ss zero p k ts es more spelled ends small = absurd (omega arith)
  list_again c label Ended (suc bound) p k ts es more shape ends small =
      let f = end_found label p es more ends in
      let none : k ≡ k + 0 = omega arith in
      ap (λ us. list_from one c label (suc bound) p k (us ++ (es ++ more))) shape
      ∙ ap (list_by one c label (list_from one c label bound) p k (es ++ more)) f.1
      ∙ ap (mapped (λ nothing. listed Ended k)) f.2
      ∙ ap (λ (e : ℕ). read_as (listed Ended e) (p + length es) more) none
      ∙ placed (listed Ended (k + 0)) (p + length es) (p + length ts + length es) more (omega (arith, ap length shape))
  list_again c label (Before s ss) (suc bound) p k ts es more (front, rest, shape, spelled, later) ends small =
      let tail : Tokens = rest ++ (es ++ more) in
      let whole : ts ++ (es ++ more) ≡ front ++ tail = ap (λ us. us ++ (es ++ more)) shape ∙ append_assoc front rest (es ++ more) in
      let some : 0 < length front = some_first front (statement_first c n p k front s spelled) in
      let less : length tail < bound = omega (arith, small, ap length whole, length-append front tail) in
      let counted : k + count s + list_count ss ≡ k + (count s + list_count ss) = omega arith in
      ap (list_from one c label (suc bound) p k) whole
      ∙ ap (list_by one c label (list_from one c label bound) p k (front ++ tail)) (statement_another c n p k front s tail spelled)
      ∙ ap (λ r. r >>= λ x. list_from one c label bound x.next (k + count x.value) x.rest >>= before x.value)
      (again c p k front tail s spelled (λ a. list_no_else c label ss (p + length front) (k + count s) rest es more later ends))
      ∙ ap (λ r. r >>= before s) (list_again c label ss bound (p + length front) (k + count s) rest es more later ends less)
      ∙ ap (λ (e : ℕ). read_as (listed (Before s ss) e) (p + length front + length rest + length es) more) counted
      ∙ placed (listed (Before s ss) (k + (count s + list_count ss))) (p + length front + length rest + length es) (p + length ts + length es) more (omega (arith, ap length shape, length-append front rest))

  pub list_in_again : (c : Context) (label : Option Identifier) (ss : Statements) (p k : ℕ) (ts es more : Tokens) → SpellsStatements c n p k ts ss → SpellsEnd label es
      → list_in inside c label p k (ts ++ (es ++ more)) ≡ read_as (listed ss (k + list_count ss)) (p + length ts + length es) more
  list_in_again c label ss p k ts es more spelled ends = list_again c label ss (length (ts ++ (es ++ more)) + 1) p k ts es more spelled ends (omega arith)

  alternative_again : (c : Context) (q j : ℕ) (es more : Tokens) (consequence : Statement) (alternative : Alternative) → SpellsAlternative c n q j es consequence alternative → (AlternativeAwaitsElse alternative → else_first more ≡ None)
      → (alternative_from inside c q j (es ++ more) (else_first (es ++ more)) ≡ read_as alternative (q + length es) more) × (AwaitsElse consequence → else_first (es ++ more) ≡ None)
  alternative_again c q j es more consequence NoElse shape awaits =
      let none : else_first (es ++ more) ≡ None = ap (λ us. else_first (us ++ more)) shape ∙ awaits tt in
      (ap (alternative_from inside c q j (es ++ more)) none ∙ ap (λ us. read_as NoElse q (us ++ more)) shape ∙ placed NoElse q (q + length es) more (omega (arith, ap length shape)), λ a. none)
  alternative_again c q j es more consequence (Else s) (us, shape, never, spelled) awaits = (
    ap (alternative_from inside c q j (es ++ more)) (ap (λ vs. else_first (vs ++ more)) shape ∙ else_there us more (statement_first (standing AsClause c) n (q + 1) j us s spelled))
        ∙ ap (mapped Else) (again (standing AsClause c) (q + 1) j us more s spelled awaits)
        ∙ placed (Else s) (q + 1 + length us) (q + length es) more (omega (arith, ap length shape)),
    λ a. absurd (never a),
  )

  pub if_again : (c : Context) (q j : ℕ) (us cs ss es more : Tokens) (condition : Expression) (consequence : Statement) (alternative : Alternative) → us ≡ cs ++ (Word (codes "THEN") ∷ (ss ++ es))
      → SpellsOutermost n q cs condition → SpellsStatement (standing AsClause c) n (q + length cs + 1) j ss consequence
      → SpellsAlternative c n (q + length cs + 1 + length ss) (j + count consequence) es consequence alternative → (AlternativeAwaitsElse alternative → else_first more ≡ None)
      → if_at inside c q j (us ++ more) ≡ read_as (If condition consequence alternative) (q + length us) more
  unfolding if_at
  if_again c q j us cs ss es more condition consequence alternative shape first second third awaits =
      let tail : Tokens = ss ++ (es ++ more) in
      let whole : us ++ more ≡ cs ++ (Word (codes "THEN") ∷ tail) = ap (λ vs. vs ++ more) shape ∙ simp append_assoc in
      let place : ℕ = q + length cs + 1 in
      let last = alternative_again c (place + length ss) (j + count consequence) es more consequence alternative third awaits in
      ap (if_at inside c q j) whole
      ∙ ap (λ r. r >>= after_condition c j) (expression_again n q cs (Word (codes "THEN") ∷ tail) condition first (refl, refl))
      ∙ ap (λ r. r >>= λ vs. one (standing AsClause c) place j vs >>= after_then c j condition) (then_taken (q + length cs) tail)
      ∙ ap (λ r. r >>= after_then c j condition) (again (standing AsClause c) place j ss (es ++ more) consequence second last.1)
      ∙ ap (λ r. r >>= λ alternative. read_as (If condition consequence alternative.value) alternative.next alternative.rest) last.0
      ∙ placed (If condition consequence alternative) (place + length ss + length es) (q + length us) more
      (omega (arith, ap length shape, length-append cs (Word (codes "THEN") ∷ (ss ++ es)), length-append ss es))
    where
      after_then : Context → ℕ → Expression → Front Statement → Result (Front Body) Fault
      after_then c j condition consequence =
          alternative_from inside c consequence.next (j + count consequence.value) consequence.rest (else_first consequence.rest) >>= λ alternative. read_as (If condition consequence.value alternative.value) alternative.next alternative.rest

      after_condition : Context → ℕ → Front Expression → Result (Front Body) Fault
      after_condition c j condition = taken (is_word (codes "THEN")) ThenExpected condition.next condition.rest >>= λ us. one (standing AsClause c) (condition.next + 1) j us >>= after_then c j condition.value

  pub on_again : (q j : ℕ) (us cs ss more : Tokens) (condition : Condition) (unit : Statement) → us ≡ cs ++ ss → SpellsCondition cs condition → SpellsStatement the_on_unit n (q + length cs) j ss unit
      → on_at inside q j (us ++ more) ≡ read_as (On condition unit) (q + length us) more
  unfolding on_at
  on_again q j us cs ss more condition (Numbered number label at body) shape is spelled =
      ap (on_at inside q j) (ap (λ vs. vs ++ more) shape ∙ append_assoc cs ss more)
      ∙ ap (λ r. r >>= λ x. one the_on_unit x.next j x.rest >>= λ u. read_as (On x.value u.value) u.next u.rest) (condition_again q cs (ss ++ more) condition is tt)
      ∙ ap (λ r. r >>= λ u. read_as (On condition u.value) u.next u.rest)
      (again the_on_unit (q + length cs) j ss more (Numbered number label at body) spelled (λ a. absurd (unit_awaits body spelled.6.1 a)))
      ∙ placed (On condition (Numbered number label at body)) (q + length cs + length ss) (q + length us) more (omega (arith, ap length shape, length-append cs ss))

  pub begin_again : (c : Context) (label : Option Identifier) (q j end : ℕ) (us ss es more : Tokens) (statements : Statements) → us ≡ Sign Semicolon ∷ (ss ++ es) → SpellsStatements (standing InBlock c) n (q + 1) j ss statements
      → SpellsEnd label es → end ≡ j + list_count statements → begin_at inside c label q j (us ++ more) ≡ read_as (Begin statements end) (q + length us) more
  unfolding begin_at
  begin_again c label q j end us ss es more statements shape spelled ends number =
      ap (begin_at inside c label q j) (ap (λ vs. vs ++ more) shape ∙ ap (λ vs. Sign Semicolon ∷ vs) (append_assoc ss es more))
      ∙ ap (λ r. r >>= λ vs. list_in inside (standing InBlock c) label (q + 1) j vs >>= λ list. read_as (Begin list.value.statements list.value.end) list.next list.rest) (semicolon_taken q (ss ++ (es ++ more)))
      ∙ ap (λ r. r >>= λ list. read_as (Begin list.value.statements list.value.end) list.next list.rest) (list_in_again (standing InBlock c) label statements (q + 1) j ss es more spelled ends)
      ∙ ap (λ (e : ℕ). read_as (Begin statements e) (q + 1 + length ss + length es) more) (sym number)
      ∙ placed (Begin statements end) (q + 1 + length ss + length es) (q + length us) more (omega (arith, ap length shape, length-append ss es))

  pub do_again : (c : Context) (label : Option Identifier) (q j end : ℕ) (us cs ss es more : Tokens) (control : Option Control) (statements : Statements) → us ≡ cs ++ (Sign Semicolon ∷ (ss ++ es))
      → SpellsControl n q cs control → SpellsStatements (standing InGroup c) n (q + length cs + 1) j ss statements
      → SpellsEnd label es → end ≡ j + list_count statements → do_at inside c label q j (us ++ more) ≡ read_as (Do control statements end) (q + length us) more
  unfolding do_at
  do_again c label q j end us cs ss es more control statements shape first spelled ends number =
      let tail : Tokens = ss ++ (es ++ more) in
      let place : ℕ = q + length cs + 1 in
      ap (do_at inside c label q j) (ap (λ vs. vs ++ more) shape ∙ simp append_assoc)
      ∙ ap (λ r. r >>= λ x. taken is_semicolon SemicolonExpected x.next x.rest >>= λ vs. list_in inside (standing InGroup c) label (x.next + 1) j vs >>= λ list. read_as (Do x.value list.value.statements list.value.end) list.next list.rest)
      (control_again n q cs tail control first)
      ∙ ap (λ r. r >>= λ vs. list_in inside (standing InGroup c) label place j vs >>= λ list. read_as (Do control list.value.statements list.value.end) list.next list.rest) (semicolon_taken (q + length cs) tail)
      ∙ ap (λ r. r >>= λ list. read_as (Do control list.value.statements list.value.end) list.next list.rest) (list_in_again (standing InGroup c) label statements place j ss es more spelled ends)
      ∙ ap (λ (e : ℕ). read_as (Do control statements e) (place + length ss + length es) more) (sym number)
      ∙ placed (Do control statements end) (place + length ss + length es) (q + length us) more (omega (arith, ap length shape, length-append cs (Sign Semicolon ∷ (ss ++ es)), length-append ss es))

  pub procedure_again : (q k end : ℕ) (us hs ss es more : Tokens) (h : Heading) (statements : Statements) → us ≡ hs ++ (Sign Semicolon ∷ (ss ++ es)) → SpellsHeading q hs h → h.number ≡ k
      → SpellsStatements a_procedure n (q + length hs + 1) (k + 1) ss statements
      → SpellsEnd (Some h.name) es → end ≡ k + 1 + list_count statements → procedure_at inside (Some h.name) k q (us ++ more) ≡ read_as (Procedure h statements end) (q + length us) more
  unfolding procedure_at
  procedure_again q k end us hs ss es more h statements shape first numbered spelled ends number =
      let tail : Tokens = ss ++ (es ++ more) in
      let place : ℕ = q + length hs + 1 in
      ap (procedure_at inside (Some h.name) k q) (ap (λ vs. vs ++ more) shape ∙ simp append_assoc)
      ∙ ap (λ r. r >>= λ x. inner_list inside h.name x.next (k + 1) x.rest >>= λ list. read_as (Procedure x.value list.value.statements list.value.end) list.next list.rest)
      (ap (λ m. heading_at h.name m q (hs ++ (Sign Semicolon ∷ tail))) (sym numbered) ∙ heading_again q hs tail h first)
      ∙ ap (λ r. r >>= λ list. read_as (Procedure h list.value.statements list.value.end) list.next list.rest) (list_in_again a_procedure (Some h.name) statements place (k + 1) ss es more spelled ends)
      ∙ ap (λ (e : ℕ). read_as (Procedure h statements e) (place + length ss + length es) more) (sym number)
      ∙ placed (Procedure h statements end) (place + length ss + length es) (q + length us) more (omega (arith, ap length shape, length-append hs (Sign Semicolon ∷ (ss ++ es)), length-append ss es))

-- What is spelled so is read: statements that contain no others.
use Rattle.std.proofs.Common.{⊎_elim, ◌≡◌, ◌+◌, ℕ, Bool, true, false, cond, List, [], ◌∷◌, ◌++◌, Option, Some, None, Result, Ok, length, codes, refl, ap, ◌∙◌, sym, subst, arith, append_assoc, length-append}
use Rattle.pli_base.specs.Name.{Name}
use Rattle.pli_base.specs.Words.{Tokens, is_open, rest_after, SpellsIdentifier}
use Rattle.pli_base.specs.Results.{◌>>=◌}
use Rattle.pli_base.specs.Reading.{Front, read_as, mapped, taken, if_open}
use Rattle.pli_base.specs.Syntax.{Expression, Reference, Arguments}
use Rattle.pli_base.specs.declared.code.Code.TheVariants.{NotAStatement}
use Rattle.pli_base.specs.declared.syntax.Identifier.{Identifier}
use Rattle.pli_base.specs.declared.token.Fault.{Fault}
use Rattle.pli_base.specs.declared.token.Sign.TheVariants.{Semicolon, Equals, OpenParenthesis, CloseParenthesis}
use Rattle.pli_base.specs.declared.token.TokenText.TheVariants.{Word, Sign}
use Rattle.pli_parse_expression.specs.Expressions.{SpellsOutermost, SpellsReferenceAlone, EndsExpression}
use Rattle.pli_base.specs.Declarations.{Item}
use Rattle.pli_parse_declaration.specs.DeclarationGrammar.{Anywhere, SpellsListed, SpellsDeclaration}
use Rattle.pli_parse_declaration.specs.DeclarationReading.{list_at, identifier_at}
use Rattle.pli_parse_declaration.proofs.DeclarationReadAgain.{Anyhow, ListEnds, placed, open_after, enclosed_again, identifier_again}
use Rattle.pli_parse_declaration.proofs.DeclarationItemsAgain.{declaration_again}
use Rattle.pli_base.specs.Statements.{Allocation, Heading, Control, Statement, Statements, Alternative, Body, Null, Assign, Declare, Procedure, Do, If, On, Revert, Signal, Stop, Allocate, Free, Call, Goto, Return, Put}
use Rattle.pli_parse_statement.specs.StatementGrammar.{BeginsAssignment, SpellsKeyed, SpellsClosed, SpellsCondition, SpellsAllocation, SpellsCall, SpellsGoto, SpellsValue, SpellsPut, IsOnUnitBody, StandsIn, MayReturn}
use Rattle.pli_parse_statement.specs.StatementReading.{expression_in, reference_in, stopped, closing, is_equals, assignment_at, condition_at, allocation_at, put_at, call_at, Inside, is_labelled, on_unit_misplaced, standing_misplaced, misplacement, keyed_at, unless_misplaced, body_from}
use Rattle.pli_parse_statement.specs.StatementWords.{Context, begins_assignment, Assigns, Empty, Keyed, first_kind, kind_of}
use Rattle.pli_parse_statement.specs.declared.keyword.Keyword.{Keyword}
use Rattle.pli_parse_statement.specs.declared.keyword.Keyword.TheVariants as words
use Rattle.pli_parse_statement.specs.declared.keyword.StatementStanding.{StatementStanding}
use Rattle.pli_parse_statement.specs.declared.keyword.StatementStanding.TheVariants.{InBlock, InGroup, AsClause, AsOnUnit}
use Rattle.pli_base.specs.declared.statement.Condition.{Condition}
use Rattle.pli_parse.proofs.StatementSpelledTools.{assignment_begins}
use Rattle.pli_parse.proofs.StatementSpelledParts.{expression_again, reference_again, condition_again, stopped_again, closing_again, commas_again, commas_stop, references_again}
use Rattle.pli_parse.proofs.StatementSpelledHeadings.{no_open_semicolon}
use Rattle.pli_parse.proofs.StatementSpelledOptions.{NoPlace, no_place_comma, no_place_semicolon, allocation_again, allocation_some, call_again, put_again}
use Rattle.pli_parse.proofs.StatementSpelledStarts.{keyword_kind, go_kinds}
use Rattle.pli_parse_declaration.specs.declared.list.Separator.TheVariants.{Commas}

-- where statements may stand

stands_each : (k : Keyword) (l : Bool) → standing_misplaced InBlock k l ≡ None → standing_misplaced InGroup k l ≡ None → standing_misplaced AsClause k l ≡ None
    → (s : StatementStanding) → (s ≡ AsOnUnit → on_unit_misplaced k ≡ None) → standing_misplaced s k l ≡ None
stands_each k l block group clause InBlock unit = block
stands_each k l block group clause InGroup unit = group
stands_each k l block group clause AsClause unit = clause
stands_each k l block group clause AsOnUnit unit = unit refl

no_on_unit : (s : StatementStanding) (label : Option Identifier) (b : Body) → StandsIn s label b → (IsOnUnitBody b → ⊥) → s ≡ AsOnUnit → ⊥
no_on_unit s label b stands never e = never (subst (λ s. StandsIn s label b) e stands).1

abbrev pub Placed : Context → Option Identifier → Keyword → Type 0
Placed c label k = misplacement c k (is_labelled label) c.in_on_unit ≡ None

pub procedure_placed : (c : Context) (label : Option Identifier) (heading : Heading) (statements : Statements) (end : ℕ) → StandsIn c.standing label (Procedure heading statements end) → (label ≡ Some heading.name) × Placed c label words.Procedure
procedure_placed c label heading statements end stands = by c.standing stands
  where
    by : (s : StatementStanding) → StandsIn s label (Procedure heading statements end) → (label ≡ Some heading.name) × (standing_misplaced s words.Procedure (is_labelled label) ≡ None)
    by InBlock e = (e, ap (λ l. standing_misplaced InBlock words.Procedure (is_labelled l)) e)
    by InGroup e = absurd e
    by AsClause e = absurd e
    by AsOnUnit e = absurd e.1

pub declare_placed : (c : Context) (label : Option Identifier) (items : List Item) → StandsIn c.standing label (Declare items) → Placed c label words.Declare
declare_placed c label items stands = by c.standing stands
  where
    by : (s : StatementStanding) → StandsIn s label (Declare items) → standing_misplaced s words.Declare (is_labelled label) ≡ None
    by InBlock e = ap (λ l. standing_misplaced InBlock words.Declare (is_labelled l)) e
    by InGroup e = ap (λ l. standing_misplaced InGroup words.Declare (is_labelled l)) e
    by AsClause e = absurd e
    by AsOnUnit e = absurd e.1

pub begin_placed : (c : Context) (label : Option Identifier) → Placed c label words.Begin
begin_placed c label = stands_each words.Begin (is_labelled label) refl refl refl c.standing (λ e. refl)

pub do_placed : (c : Context) (label : Option Identifier) (control : Option Control) (statements : Statements) (end : ℕ) → StandsIn c.standing label (Do control statements end) → Placed c label words.Do
do_placed c label control statements end stands = stands_each words.Do (is_labelled label) refl refl refl c.standing (λ e. absurd (no_on_unit c.standing label (Do control statements end) stands (λ n. n) e))

pub if_placed : (c : Context) (label : Option Identifier) (condition : Expression) (consequence : Statement) (alternative : Alternative) → StandsIn c.standing label (If condition consequence alternative) → Placed c label words.If
if_placed c label condition consequence alternative stands = stands_each words.If (is_labelled label) refl refl refl c.standing (λ e. absurd (no_on_unit c.standing label (If condition consequence alternative) stands (λ n. n) e))

pub on_placed : (c : Context) (label : Option Identifier) (condition : Condition) (unit : Statement) → StandsIn c.standing label (On condition unit) → Placed c label words.On
on_placed c label condition unit stands = stands_each words.On (is_labelled label) refl refl refl c.standing (λ e. absurd (no_on_unit c.standing label (On condition unit) stands (λ n. n) e))

return_placed : (c : Context) (label : Option Identifier) (value : Option Expression) → StandsIn c.standing label (Return value) → MayReturn c.in_on_unit (Return value) → Placed c label words.Return
return_placed c label value stands may = by c.in_on_unit may
  where
    by : (u : Bool) → MayReturn u (Return value) → misplacement c words.Return (is_labelled label) u ≡ None
    by true m = absurd m
    by false m = stands_each words.Return (is_labelled label) refl refl refl c.standing (λ e. absurd (no_on_unit c.standing label (Return value) stands (λ n. n) e))

kind_keyed : (k : Keyword) (n : Name) (us ts : Tokens) → ts ≡ Word n ∷ us → first_kind (Word n ∷ us) ≡ Keyed k us → begins_assignment ts ≡ false → kind_of ts ≡ Keyed k us
unfolding kind_of
kind_keyed k n us ts shape is other = ap (λ b. cond b Assigns (first_kind ts)) other ∙ ap first_kind shape ∙ is

kind_keyed_go : (us ts : Tokens) → ts ≡ Word (codes "GO") ∷ Word (codes "TO") ∷ us → begins_assignment ts ≡ false → kind_of ts ≡ Keyed words.GoTo us
unfolding kind_of
kind_keyed_go us ts shape other = ap (λ b. cond b Assigns (first_kind ts)) other ∙ ap first_kind shape ∙ go_kinds us

kind_assigns : (ts : Tokens) → begins_assignment ts ≡ true → kind_of ts ≡ Assigns
unfolding kind_of
kind_assigns ts h = ap (λ b. cond b Assigns (first_kind ts)) h

kind_empty : (us : Tokens) → begins_assignment (Sign Semicolon ∷ us) ≡ false → kind_of (Sign Semicolon ∷ us) ≡ Empty us
unfolding kind_of first_kind
kind_empty us h = ap (λ b. cond b Assigns (Empty us)) h

equals_taken : (p : ℕ) (zs : Tokens) → taken is_equals NotAStatement p (Sign Equals ∷ zs) ≡ Ok zs
unfolding taken rest_after
equals_taken p zs = refl

-- what closes at a `;`
closing_read : {A B : Type 0} (f : A → B) (one : ℕ → Tokens → Result (Front A) Fault) (Spells : Tokens → Type 0) (x : A) (p : ℕ) (ts more : Tokens) → SpellsClosed Spells ts
    → ((us : Tokens) → Spells us → one p (us ++ Sign Semicolon ∷ more) ≡ read_as x (p + length us) (Sign Semicolon ∷ more)) → closing f (one p (ts ++ more)) ≡ read_as (f x) (p + length ts) more
closing_read f one Spells x p ts more (us, shape, spelled) reads =
    ap (λ vs. closing f (one p vs)) (ap (λ vs. vs ++ more) shape ∙ append_assoc us (Sign Semicolon ∷ []) more)
    ∙ ap (closing f) (reads us spelled)
    ∙ stopped_again (f x) (p + length us) more
    ∙ placed (f x) (p + length us + 1) (p + length ts) more (omega (arith, ap length shape, length-append us (Sign Semicolon ∷ [])))

value_again : (levels p : ℕ) (v : Option Expression) (ts more : Tokens) → SpellsValue levels p ts v
    → if_open (expression_in levels) p (ts ++ Sign Semicolon ∷ more) (rest_after is_open (ts ++ Sign Semicolon ∷ more)) ≡ read_as v (p + length ts) (Sign Semicolon ∷ more)
value_again levels p None ts more shape =
    let tail : Tokens = Sign Semicolon ∷ more in
    ap (λ us. if_open (expression_in levels) p (us ++ tail) (rest_after is_open (us ++ tail))) shape
    ∙ ap (λ o. if_open (expression_in levels) p tail o) (no_open_semicolon more)
    ∙ placed None p (p + length ts) tail (omega (arith, ap length shape))
value_again levels p (Some e) ts more (us, shape, spelled) =
    let tail : Tokens = Sign Semicolon ∷ more in
    ap (λ vs. if_open (expression_in levels) p (vs ++ tail) (rest_after is_open (vs ++ tail))) shape
    ∙ ap (λ o. if_open (expression_in levels) p ((Sign OpenParenthesis ∷ us ++ Sign CloseParenthesis ∷ []) ++ tail) o) (open_after ((us ++ Sign CloseParenthesis ∷ []) ++ tail))
    ∙ ap (mapped Some) (enclosed_again (expression_in levels) (SpellsOutermost levels) EndsExpression (expression_again levels) (λ zs. (refl, refl)) p us tail e spelled)
    ∙ placed (Some e) (p + length (Sign OpenParenthesis ∷ us ++ Sign CloseParenthesis ∷ [])) (p + length ts) tail (ap (λ (vs : Tokens). p + length vs) (sym shape))

assignment_again : (levels p : ℕ) (target : Reference) (equals : ℕ) (value : Expression) (ls rs ts more : Tokens) → ts ≡ ls ++ (Sign Equals ∷ (rs ++ Sign Semicolon ∷ [])) → equals ≡ p + length ls
    → SpellsReferenceAlone levels p ls target → SpellsOutermost levels (p + length ls + 1) rs value → assignment_at levels p (ts ++ more) ≡ read_as (Assign target equals value) (p + length ts) more
unfolding assignment_at
assignment_again levels p target equals value ls rs ts more shape at left right =
    let tail : Tokens = Sign Semicolon ∷ more in
    let q : ℕ = p + length ls in
    let whole : ts ++ more ≡ ls ++ (Sign Equals ∷ (rs ++ tail)) = ap (λ us. us ++ more) shape ∙ simp append_assoc in
    ap (assignment_at levels p) whole
    ∙ ap (λ r. r >>= λ target. taken is_equals NotAStatement target.next target.rest >>= λ us. expression_in levels (target.next + 1) us
    >>= λ value. stopped (Assign target.value target.next value.value) value.next value.rest) (reference_again levels p ls (Sign Equals ∷ (rs ++ tail)) target left refl)
    ∙ ap (λ r. r >>= λ us. expression_in levels (q + 1) us >>= λ value. stopped (Assign target q value.value) value.next value.rest) (equals_taken q (rs ++ tail))
    ∙ ap (λ r. r >>= λ value. stopped (Assign target q value.value) value.next value.rest) (expression_again levels (q + 1) rs tail value right (refl, refl))
    ∙ stopped_again (Assign target q value) (q + 1 + length rs) more
    ∙ ap (λ (e : ℕ). read_as (Assign target e value) (q + 1 + length rs + 1) more) (sym at)
    ∙ placed (Assign target equals value) (q + 1 + length rs + 1) (p + length ts) more (omega (arith, ap length shape, length-append ls (Sign Equals ∷ (rs ++ Sign Semicolon ∷ [])), length-append rs (Sign Semicolon ∷ [])))

module _ (levels : ℕ) (inside : Option Inside) (c : Context) (label : Option Identifier) (p k : ℕ) where
  -- what is read after the label
  abbrev pub BodyRead : Tokens → Tokens → Body → Type 0
  BodyRead ts more b = body_from levels inside c label p k (ts ++ more) (kind_of (ts ++ more)) ≡ read_as b (p + length ts) more

  first_read : (keyword : Keyword) (n : Name) (us ts more : Tokens) (b : Body) → ts ≡ Word n ∷ us → first_kind (Word n ∷ us ++ more) ≡ Keyed keyword (us ++ more) → begins_assignment (ts ++ more) ≡ false → Placed c label keyword
      → keyed_at levels inside c label p k (us ++ more) keyword ≡ read_as b (p + 1 + length us) more → BodyRead ts more b
  first_read keyword n us ts more b shape is other stands reads =
      ap (body_from levels inside c label p k (ts ++ more)) (kind_keyed keyword n (us ++ more) (ts ++ more) (ap (λ vs. vs ++ more) shape) is other)
      ∙ ap (unless_misplaced levels inside c label p k (us ++ more) keyword) stands
      ∙ reads
      ∙ placed b (p + 1 + length us) (p + length ts) more (omega (arith, ap length shape))

  pub keyed_read : (keyword : Keyword) (Spells : Tokens → Type 0) (ts more : Tokens) (b : Body) → SpellsKeyed keyword Spells ts → begins_assignment (ts ++ more) ≡ false → Placed c label keyword
      → ((us : Tokens) → Spells us → keyed_at levels inside c label p k (us ++ more) keyword ≡ read_as b (p + 1 + length us) more) → BodyRead ts more b
  keyed_read keyword Spells ts more b (n, us, shape, word, spelled) other stands reads =
      first_read keyword n us ts more b shape (keyword_kind n (us ++ more) keyword word) other stands (reads us spelled)

  pub null_read : (ts more : Tokens) → ts ≡ Sign Semicolon ∷ [] → begins_assignment (ts ++ more) ≡ false → BodyRead ts more Null
  null_read ts more shape other =
      ap (λ us. body_from levels inside c label p k (us ++ more) (kind_of (us ++ more))) shape
      ∙ ap (body_from levels inside c label p k (Sign Semicolon ∷ more)) (kind_empty more (ap (λ us. begins_assignment (us ++ more)) (sym shape) ∙ other))
      ∙ placed Null (p + 1) (p + length ts) more (omega (arith, ap length shape))

  pub assign_read : (target : Reference) (equals : ℕ) (value : Expression) (ls rs ts more : Tokens) → ts ≡ ls ++ (Sign Equals ∷ (rs ++ Sign Semicolon ∷ [])) → equals ≡ p + length ls
      → SpellsReferenceAlone levels p ls target → SpellsOutermost levels (p + length ls + 1) rs value → BeginsAssignment p ts → BodyRead ts more (Assign target equals value)
  assign_read target equals value ls rs ts more shape at left right begins =
      ap (body_from levels inside c label p k (ts ++ more)) (kind_assigns (ts ++ more) (assignment_begins p ts more begins)) ∙ assignment_again levels p target equals value ls rs ts more shape at left right

  pub declare_read : (items : List Item) (ts more : Tokens) → SpellsKeyed words.Declare (λ us. SpellsDeclaration (p + 1) us items) ts → begins_assignment (ts ++ more) ≡ false → StandsIn c.standing label (Declare items)
      → BodyRead ts more (Declare items)
  declare_read items ts more spelled other stands =
      keyed_read words.Declare _ ts more (Declare items) spelled other (declare_placed c label items stands) (λ us s. ap (mapped Declare) (declaration_again (p + 1) us more items s tt))

  pub revert_read : (x : Condition) (ts more : Tokens) → SpellsKeyed words.Revert (SpellsClosed (λ us. SpellsCondition us x)) ts → begins_assignment (ts ++ more) ≡ false → BodyRead ts more (Revert x)
  revert_read x ts more spelled other =
      keyed_read words.Revert _ ts more (Revert x) spelled other (stands_each words.Revert (is_labelled label) refl refl refl c.standing (λ e. refl))
      (λ us s. closing_again Revert condition_at (Anywhere SpellsCondition) Anyhow condition_again (λ zs. tt) (p + 1) us more x s)

  pub signal_read : (x : Condition) (ts more : Tokens) → SpellsKeyed words.Signal (SpellsClosed (λ us. SpellsCondition us x)) ts → begins_assignment (ts ++ more) ≡ false → BodyRead ts more (Signal x)
  signal_read x ts more spelled other =
      keyed_read words.Signal _ ts more (Signal x) spelled other (stands_each words.Signal (is_labelled label) refl refl refl c.standing (λ e. refl))
      (λ us s. closing_again Signal condition_at (Anywhere SpellsCondition) Anyhow condition_again (λ zs. tt) (p + 1) us more x s)

  pub stop_read : (ts more : Tokens) → SpellsKeyed words.Stop (SpellsClosed (λ us. us ≡ [])) ts → begins_assignment (ts ++ more) ≡ false → BodyRead ts more Stop
  stop_read ts more spelled other =
      keyed_read words.Stop _ ts more Stop spelled other (stands_each words.Stop (is_labelled label) refl refl refl c.standing (λ e. refl))
      (λ us s. let e : us ≡ Sign Semicolon ∷ [] = s.1 ∙ ap (λ vs. vs ++ Sign Semicolon ∷ []) s.2 in
      ap (λ vs. stopped Stop (p + 1) (vs ++ more)) e ∙ stopped_again Stop (p + 1) more ∙ placed Stop (p + 1 + 1) (p + 1 + length us) more (omega (arith, ap length e)))

  pub allocate_read : (xs : List Allocation) (ts more : Tokens) → SpellsKeyed words.Allocate (SpellsClosed (λ us. SpellsListed Commas (SpellsAllocation levels) (p + 1) us xs)) ts → begins_assignment (ts ++ more) ≡ false
      → BodyRead ts more (Allocate xs)
  allocate_read xs ts more spelled other =
      keyed_read words.Allocate _ ts more (Allocate xs) spelled other (stands_each words.Allocate (is_labelled label) refl refl refl c.standing (λ e. refl))
      (λ us s. closing_again Allocate (list_at Commas (allocation_at levels)) (SpellsListed Commas (SpellsAllocation levels)) (ListEnds Commas NoPlace)
      (commas_again (allocation_at levels) (SpellsAllocation levels) NoPlace (allocation_again levels) no_place_comma (allocation_some levels)) (λ zs. (commas_stop zs, no_place_semicolon zs)) (p + 1) us more xs s)

  pub free_read : (xs : List Reference) (ts more : Tokens) → SpellsKeyed words.Free (SpellsClosed (λ us. SpellsListed Commas (SpellsReferenceAlone levels) (p + 1) us xs)) ts → begins_assignment (ts ++ more) ≡ false
      → BodyRead ts more (Free xs)
  free_read xs ts more spelled other =
      keyed_read words.Free _ ts more (Free xs) spelled other (stands_each words.Free (is_labelled label) refl refl refl c.standing (λ e. refl))
      (λ us s. closing_again Free (list_at Commas (reference_in levels)) (SpellsListed Commas (SpellsReferenceAlone levels)) _ (references_again levels) (λ zs. (commas_stop zs, refl)) (p + 1) us more xs s)

  pub call_read : (name : Identifier) (a : Arguments) (ts more : Tokens) → SpellsKeyed words.Call (SpellsClosed (λ us. SpellsCall levels (p + 1) us name a)) ts → begins_assignment (ts ++ more) ≡ false → BodyRead ts more (Call name a)
  call_read name a ts more spelled other =
      keyed_read words.Call _ ts more (Call name a) spelled other (stands_each words.Call (is_labelled label) refl refl refl c.standing (λ e. refl))
      (λ us s. closing_read (λ x. x) (call_at levels) (λ us. SpellsCall levels (p + 1) us name a) (Call name a) (p + 1) us more s (λ vs t. call_again levels (p + 1) vs (Sign Semicolon ∷ more) name a t refl))

  pub return_read : (v : Option Expression) (ts more : Tokens) → SpellsKeyed words.Return (SpellsClosed (λ us. SpellsValue levels (p + 1) us v)) ts → begins_assignment (ts ++ more) ≡ false
      → StandsIn c.standing label (Return v) → MayReturn c.in_on_unit (Return v) → BodyRead ts more (Return v)
  return_read v ts more spelled other stands may =
      keyed_read words.Return _ ts more (Return v) spelled other (return_placed c label v stands may)
      (λ us s. closing_read Return (λ q vs. if_open (expression_in levels) q vs (rest_after is_open vs)) (λ us. SpellsValue levels (p + 1) us v) v (p + 1) us more s (λ vs t. value_again levels (p + 1) v vs more t))

  pub put_read : (skip : Bool) (items : List Expression) (ts more : Tokens) → SpellsKeyed words.Put (SpellsClosed (λ us. SpellsPut levels (p + 1) us skip items)) ts → begins_assignment (ts ++ more) ≡ false
      → BodyRead ts more (Put skip items)
  put_read skip items ts more spelled other =
      keyed_read words.Put _ ts more (Put skip items) spelled other (stands_each words.Put (is_labelled label) refl refl refl c.standing (λ e. refl))
      (λ us s. closing_read (λ x. x) (put_at levels) (λ us. SpellsPut levels (p + 1) us skip items) (Put skip items) (p + 1) us more s (λ vs t. put_again levels (p + 1) skip items vs more t))

  pub goto_read : (name : Identifier) (ts more : Tokens) → SpellsClosed (λ us. SpellsGoto p us name) ts → begins_assignment (ts ++ more) ≡ false → BodyRead ts more (Goto name)
  goto_read name ts more (us, shape, spelled) other =
      ⊎_elim
      (λ (s : SpellsKeyed words.Goto (λ us. SpellsIdentifier (p + 1) us name) us).
      let whole : ts ≡ Word s.0 ∷ (s.1 ++ Sign Semicolon ∷ []) = shape ∙ ap (λ vs. vs ++ Sign Semicolon ∷ []) s.2 in
      first_read words.Goto s.0 (s.1 ++ Sign Semicolon ∷ []) ts more (Goto name) whole (keyword_kind s.0 ((s.1 ++ Sign Semicolon ∷ []) ++ more) words.Goto s.3) other
      (stands_each words.Goto (is_labelled label) refl refl refl c.standing (λ e. refl))
      (closing_again Goto identifier_at SpellsIdentifier Anyhow identifier_again (λ zs. tt) (p + 1) (s.1 ++ Sign Semicolon ∷ []) more name (s.1, refl, s.4)))
      (λ s.
      let us2 : Tokens = s.0 ++ Sign Semicolon ∷ [] in
      let whole : ts ≡ Word (codes "GO") ∷ Word (codes "TO") ∷ us2 = shape ∙ ap (λ vs. vs ++ Sign Semicolon ∷ []) s.1 in
      ap (body_from levels inside c label p k (ts ++ more)) (kind_keyed_go (us2 ++ more) (ts ++ more) (ap (λ vs. vs ++ more) whole) other)
      ∙ ap (unless_misplaced levels inside c label p k (us2 ++ more) words.GoTo) (stands_each words.GoTo (is_labelled label) refl refl refl c.standing (λ e. refl))
      ∙ closing_again Goto identifier_at SpellsIdentifier Anyhow identifier_again (λ zs. tt) (p + 2) us2 more name (s.0, refl, s.2)
      ∙ placed (Goto name) (p + 2 + length us2) (p + length ts) more (omega (arith, ap length whole))) spelled

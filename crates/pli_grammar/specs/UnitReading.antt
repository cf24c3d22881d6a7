-- Reading statements, blocks, groups and the unit (X3.74): the tree, or the one fault. Statements are
-- numbered from 1, and k is the number of the next.
use Rattle.std.specs.Prelude.{ℕ, zero, suc, ◌+◌, ◌-◌, Bool, true, false, ◌||◌, Option, Some, None}
use Rattle.std.specs.Prelude.{List, [], ◌∷◌, length, option_map, is_some, codes, Result, Ok, if◌then◌else◌}
use Rattle.std.specs.List.{list_any}
use Rattle.std.specs.Option.{unwrap_or}
use Rattle.pli_base.specs.Name.{Name}
use Rattle.pli_base.specs.Words.{Tokens, same_name, is_word, is_semicolon, rest_after}
use Rattle.pli_base.specs.Reading.{at_fault, misplaced, read_as}
use Rattle.pli_base.specs.declared.syntax.Identifier.{Identifier}
use Rattle.pli_base.specs.declared.code.Code.TheVariants.{NoProcedure, NotAStatement, SemicolonExpected}
use Rattle.pli_base.specs.declared.code.Code.TheVariants.{ThenExpected, WrongEndName, EndMissing, BadLabel}
use Rattle.pli_base.specs.declared.code.Code.TheVariants.{TextAfterEnd, NestedTooDeep, MisplacedStatement}
use Rattle.pli_base.specs.declared.token.Fault.{Fault}
use Rattle.pli_base.specs.declared.token.Sign.TheVariants.{Colon, Semicolon}
use Rattle.pli_base.specs.declared.token.TokenText.TheVariants.{Word, Sign}
use Rattle.pli_base.specs.Statements.{Statement, Numbered, Body, Ended, Before, Alternative, NoElse, Else}
use Rattle.pli_base.specs.Statements.{ExternalProcedure, count}
use Rattle.pli_base.specs.Statements as body
use Rattle.pli_parse_expression.specs.Operators.{nesting_limit}
use Rattle.pli_parse_declaration.specs.DeclarationReading.{identifier_at}
use Rattle.pli_base.specs.Results.{◌>>=◌ as ◌>>-◌}
use Rattle.pli_parse_statement.specs.StatementReading.{label_at, Listing, Misplacement, AtLabel}
use Rattle.pli_parse_statement.specs.StatementReading.{AtStatement, misplacement}
use Rattle.pli_parse_statement.specs.StatementWords.{Context, standing, the_on_unit, a_procedure}
use Rattle.pli_parse_statement.specs.StatementWords.{begins_assignment}
use Rattle.pli_parse_statement.specs.declared.keyword.Keyword.{Keyword}
use Rattle.pli_parse_statement.specs.declared.keyword.Keyword.TheVariants.{Procedure, Declare, End, Begin, Do}
use Rattle.pli_parse_statement.specs.declared.keyword.Keyword.TheVariants.{If, On, Revert, Signal, Stop}
use Rattle.pli_parse_statement.specs.declared.keyword.Keyword.TheVariants.{Allocate, Free, Call, Goto, GoTo}
use Rattle.pli_parse_statement.specs.declared.keyword.Keyword.TheVariants.{Return, Put}
use Rattle.pli_parse_statement.specs.declared.keyword.StatementStanding.{StatementStanding}
use Rattle.pli_parse_statement.specs.declared.keyword.StatementStanding.TheVariants.{InBlock, InGroup}
use Rattle.pli_parse_statement.specs.declared.keyword.StatementStanding.TheVariants.{AsClause, AsOnUnit}
use Rattle.pli_grammar.specs.Readers.{Reader, ◌>>=◌, made, here, fails, token, either, after_token}
use Rattle.pli_grammar.specs.Readers.{in_parentheses, list_of, worded}
use Rattle.pli_grammar.specs.Declarations.{declaration}
use Rattle.pli_grammar.specs.StatementParts.{stopped, condition, expression, reference, assignment}
use Rattle.pli_grammar.specs.StatementParts.{control, allocation, put, call, heading}

-- what is one level deeper: how many levels may be opened there, and what reads the statement of a number
pub record Inside : Type 0 where
  pub levels : ℕ
  pub statement : Context → (k : ℕ) → Reader Statement

-- what is read one level deeper, or the fault where there is none
abbrev pub deeper : {A : Type 0} → Option Inside → (at : ℕ) → (Inside → Reader A) → Reader A
deeper None at read = fails NestedTooDeep at
deeper (Some i) at read = read i

-- labels

-- a name followed by `:`, if they stand in front
abbrev pub front_label : Reader (Option Identifier)
front_label p ts = Ok (label_at p ts)

-- a clause and an ON-unit have no label, and others have no second one
abbrev pub one_label : StatementStanding → (first : Option Identifier) → (at : ℕ)
    → (second : Option Identifier) → Reader (Option Identifier)
one_label AsClause (Some l) at second = fails BadLabel l.at
one_label AsOnUnit (Some l) at second = fails BadLabel l.at
one_label s first at (Some l) = fails BadLabel at
one_label s first at None = read_as first

-- the label of a statement that stands so
abbrev pub label_of : StatementStanding → Reader (Option Identifier)
label_of s = do
  first ← front_label
  at ← here
  second ← front_label
  one_label s first at second

-- what stands after a word in front that begins no label and no assignment
abbrev pub after_keyword : Name → Tokens → Option Tokens
after_keyword word ts =
    if is_some (label_at 0 ts).value || begins_assignment ts then None else rest_after (is_word word) ts

-- statements

-- the keywords of statements; GO is one where TO stands after it
abbrev pub keywords : List (Name × Keyword)
keywords =
    (codes "PROCEDURE", Procedure) ∷ (codes "PROC", Procedure)
    ∷ (codes "DECLARE", Declare) ∷ (codes "DCL", Declare)
    ∷ (codes "END", End) ∷ (codes "BEGIN", Begin) ∷ (codes "DO", Do) ∷ (codes "IF", If) ∷ (codes "ON", On)
    ∷ (codes "REVERT", Revert) ∷ (codes "SIGNAL", Signal) ∷ (codes "STOP", Stop)
    ∷ (codes "ALLOCATE", Allocate) ∷ (codes "FREE", Free) ∷ (codes "CALL", Call)
    ∷ (codes "GOTO", Goto) ∷ (codes "RETURN", Return) ∷ (codes "PUT", Put) ∷ (codes "GO", GoTo) ∷ []

-- a keyword that may stand where it does, or the fault: it stands at the label, if there is one, or at the
-- statement
abbrev pub placed : (label : Option Identifier) → (at : ℕ) → Option Misplacement → Reader Body → Reader Body
placed label at None read = read
placed label at (Some (AtStatement code)) read = fails code at
placed None at (Some (AtLabel code)) read = fails code at
placed (Some l) at (Some (AtLabel code)) read = fails code l.at

-- after END: nothing, or the label of the nearest open block or group
abbrev pub ending : (label : Option Identifier) → Reader (Unit {0})
ending label p (Word n ∷ us) =
    if unwrap_or (option_map (λ l. same_name n l.name) label) false then stopped tt (p + 1) us
    else at_fault WrongEndName p
ending label p ts = stopped tt p ts

-- statements up to an END, and that END; each takes one of the bound, which is more than the number of tokens
unfoldable pub list_from : (statement : (k : ℕ) → Reader Statement) → (label : Option Identifier)
    → (bound k : ℕ) → Reader Listing
list_from statement label zero k p ts = at_fault EndMissing p
list_from statement label (suc bound) k p ts =
    either (made (λ end. record { statements = Ended; end = k }) (ending label)) (do
      first ← statement k
      others ← list_from statement label bound (k + count first)
      read_as (record { statements = Before first others.statements; end = others.end })) p ts
    (if list_any is_semicolon ts then after_keyword (codes "END") ts else None)

-- what stands inside a construct, where the innermost label is this
module _ (i : Inside) (c : Context) (label : Option Identifier) (k : ℕ) where
  -- statements in such a place, up to an END
  abbrev pub list_in : StatementStanding → Reader Listing
  list_in s p ts = list_from (i.statement (standing s c)) label (length ts + 1) k p ts

  -- after BEGIN: `;`, the statements and END
  abbrev pub begin : Reader Body
  begin = do
    _ ← token is_semicolon SemicolonExpected
    list ← list_in InBlock
    read_as (body.Begin list.statements list.end)

  -- after DO: the control, `;`, the statements and END
  abbrev pub group : Reader Body
  group = do
    how ← control i.levels
    _ ← token is_semicolon SemicolonExpected
    list ← list_in InGroup
    read_as (body.Do how list.statements list.end)

  -- an ELSE belongs to the nearest IF that has none
  abbrev pub alternative : (k : ℕ) → Reader Alternative
  alternative k p ts =
      either (made Else (i.statement (standing AsClause c) k)) (read_as NoElse) p ts
      (after_keyword (codes "ELSE") ts)

  -- after IF: a condition, THEN, a statement, and perhaps ELSE and another
  abbrev pub choice : Reader Body
  choice = do
    tested ← expression i.levels
    _ ← token (is_word (codes "THEN")) ThenExpected
    consequence ← i.statement (standing AsClause c) k
    other ← alternative (k + count consequence)
    read_as (body.If tested consequence other)

  -- after ON: a condition and an ON-unit
  abbrev pub on : Reader Body
  on = do
    met ← condition
    unit ← i.statement the_on_unit k
    read_as (body.On met unit)

-- after PROCEDURE, of this number: what stands up to its END
abbrev pub procedure : Inside → Identifier → (number : ℕ) → Reader ExternalProcedure
procedure i name number = do
  head ← heading name number
  list ← λ p ts. list_from (i.statement a_procedure) (Some name) (length ts + 1) (number + 1) p ts
  read_as (record { heading = head; statements = list.statements; end = list.end })

-- an inner procedure has a label
abbrev pub inner_procedure : Inside → (label : Option Identifier) → (k : ℕ) → Reader Body
inner_procedure i None k = λ p ts. at_fault BadLabel p
inner_procedure i (Some name) k = made (λ u. body.Procedure u.heading u.statements u.end) (procedure i name k)

-- after a keyword, which begins the statement of number k: so many levels may be opened in it, and this is
-- what stands one level deeper
abbrev pub keyed : (levels : ℕ) → Option Inside → Context → (label : Option Identifier) → (at k : ℕ) → Keyword
    → Reader Body
keyed levels inside c label at k Procedure = deeper inside at (λ i. inner_procedure i label k)
keyed levels inside c label at k Declare = made body.Declare declaration
keyed levels inside c label at k End = fails MisplacedStatement at
keyed levels inside c label at k Begin = deeper inside at (λ i. begin i c label (k + 1))
keyed levels inside c label at k Do = deeper inside at (λ i. group i c label (k + 1))
keyed levels inside c label at k If = deeper inside at (λ i. choice i c label (k + 1))
keyed levels inside c label at k On = deeper inside at (λ i. on i c label (k + 1))
keyed levels inside c label at k Revert = condition >>= λ x. stopped (body.Revert x)
keyed levels inside c label at k Signal = condition >>= λ x. stopped (body.Signal x)
keyed levels inside c label at k Stop = stopped body.Stop
keyed levels inside c label at k Allocate = list_of (allocation levels) >>= λ x. stopped (body.Allocate x)
keyed levels inside c label at k Free = list_of (reference levels) >>= λ x. stopped (body.Free x)
keyed levels inside c label at k Call = call levels >>= stopped
keyed levels inside c label at k Goto = identifier_at >>= λ x. stopped (body.Goto x)
keyed levels inside c label at k GoTo = do
  _ ← after_token (is_word (codes "TO")) here (fails NotAStatement at)
  x ← identifier_at
  stopped (body.Goto x)
keyed levels inside c label at k Return =
    in_parentheses (expression levels) >>= λ x. stopped (body.Return x)
keyed levels inside c label at k Put = put levels >>= stopped

-- a statement after its label: an assignment whatever its words are; otherwise the first keyword decides
abbrev pub body_of : (levels : ℕ) → Option Inside → Context → (label : Option Identifier) → (k : ℕ)
    → Reader Body
body_of levels inside c label k p (Sign Semicolon ∷ us) = read_as body.Null (p + 1) us
body_of levels inside c label k p ts =
    if begins_assignment ts then assignment levels p ts
    else worded keywords (λ keyword. placed label p (misplacement c keyword (is_some label) c.in_on_unit)
    (keyed levels inside c label p k keyword)) (fails NotAStatement p) p ts

-- a statement with its label
abbrev pub labelled : (levels : ℕ) → Option Inside → Context → (k : ℕ) → Reader Statement
labelled levels inside c k = do
  label ← label_of c.standing
  at ← here
  body ← body_of levels inside c label k
  read_as (Numbered k label at body)

-- a statement; where no `;` is ahead the text has ended
abbrev pub statement_in : (levels : ℕ) → Option Inside → Context → (k : ℕ) → Reader Statement
statement_in levels inside c k p ts =
    if list_any is_semicolon ts then labelled levels inside c k p ts
    else at_fault EndMissing (p + length ts - 1)

-- what reads one level deeper, where so many levels may be opened
unfoldable pub inside_of : (levels : ℕ) → Option Inside
inside_of zero = None
inside_of (suc levels) = Some (record { levels = levels; statement = statement_in levels (inside_of levels) })

-- nothing may stand after the unit's END
abbrev pub finished : ExternalProcedure → ℕ → Tokens → Result ExternalProcedure Fault
finished unit p [] = Ok unit
finished unit p (t ∷ ts) = at_fault TextAfterEnd p

-- a unit is the external procedure; it is the first level, and its PROCEDURE is statement 1
abbrev pub unit_from : Option ℕ → (has_semicolon : Bool) → Tokens → Result ExternalProcedure Fault
unit_from (Some p) s ts = at_fault NoProcedure p
unit_from None false ts = at_fault EndMissing (length ts - 1)
unit_from None true (Word n ∷ Sign Colon ∷ word ∷ ts) =
    deeper (inside_of nesting_limit) 2 (λ i. procedure i (record { name = n; at = 0 }) 1) 3 ts
    >>- λ x. finished x.value x.next x.rest
unit_from None true ts = at_fault NoProcedure 0

-- the tree of a unit, or its one fault. First of all, `name : PROCEDURE` must stand
unfoldable pub unit_of : Tokens → Result ExternalProcedure Fault
unit_of ts = unit_from (misplaced ts) (list_any is_semicolon ts) ts

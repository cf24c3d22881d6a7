-- Reading statements, blocks, groups and the unit (X3.74, the rule of assignments own): the tree, or the one
-- fault. Tokens are counted from 0, and p is the place of the first; statements are numbered from 1, and k is
-- the number of the next. A part that need not stand is passed over, so a fault is about what must stand
-- next.
use Rattle.std.specs.Prelude.{ℕ, zero, suc, ◌+◌, ◌-◌, Bool, true, false, ◌||◌, Option, Some, None, Result, Ok}
use Rattle.std.specs.Prelude.{List, [], ◌∷◌, length, option_map, is_some, codes, if◌then◌else◌}
use Rattle.pli_base.specs.Name.{Name}
use Rattle.pli_base.specs.Words.{Tokens, same_name, is_word, is_open, is_semicolon, rest_after}
use Rattle.pli_base.specs.Results.{◌>>=◌}
use Rattle.pli_base.specs.Reading.{at_fault, Front, misplaced, expected, read_as, mapped, taken}
use Rattle.pli_base.specs.Reading.{enclosed, if_open, or_none}
use Rattle.pli_base.specs.Syntax.{Expression, Reference}
use Rattle.pli_base.specs.declared.syntax.Identifier.{Identifier}
use Rattle.pli_base.specs.declared.code.Code.{Code}
use Rattle.pli_base.specs.declared.code.Code.TheVariants.{NoProcedure, NotAStatement, ParenthesisExpected}
use Rattle.pli_base.specs.declared.code.Code.TheVariants.{SemicolonExpected, ThenExpected}
use Rattle.pli_base.specs.declared.code.Code.TheVariants.{WrongEndName, EndMissing, TextAfterEnd, BadDo}
use Rattle.pli_base.specs.declared.code.Code.TheVariants.{BadLabel, BadCondition, NestedTooDeep}
use Rattle.pli_base.specs.declared.code.Code.TheVariants.{MisplacedStatement, BadOption}
use Rattle.pli_base.specs.declared.token.Fault.{Fault}
use Rattle.pli_base.specs.declared.token.Sign.TheVariants.{Colon, OpenParenthesis, Equals}
use Rattle.pli_base.specs.declared.token.TokenText.{TokenText}
use Rattle.pli_base.specs.declared.token.TokenText.TheVariants.{Word, Sign}
use Rattle.pli_parse_expression.specs.Operators.{nesting_limit}
use Rattle.pli_parse_expression.specs.Reading.{expression_at, reference_at, arguments_at, argument_of}
use Rattle.pli_parse_expression.specs.declared.counted.Counted.{Counted}
use Rattle.pli_parse_expression.specs.Reading as expressions
use Rattle.pli_parse_declaration.specs.DeclarationReading.{list_at, declaration_at, returned_at}
use Rattle.pli_parse_declaration.specs.DeclarationReading.{identifier_at}
use Rattle.pli_base.specs.Statements.{ProcedureOption, Main, Returns, Recursive, Heading, Range, To, By}
use Rattle.pli_base.specs.Statements.{Repeat, Control, While, Iterate, Allocation, Statement, Numbered, Body}
use Rattle.pli_base.specs.Statements.{Statements, Ended, Before, Alternative, NoElse, Else, ExternalProcedure}
use Rattle.pli_base.specs.Statements.{count}
use Rattle.pli_base.specs.Statements as body
use Rattle.pli_parse_statement.specs.StatementWords.{Context, standing, the_on_unit, a_procedure}
use Rattle.pli_parse_statement.specs.StatementWords.{condition_of}
use Rattle.pli_parse_statement.specs.StatementWords.{after_word, begins_assignment, StatementKind, Assigns}
use Rattle.pli_parse_statement.specs.StatementWords.{Empty}
use Rattle.pli_parse_statement.specs.StatementWords.{Keyed, Unknown, kind_of}
use Rattle.pli_parse_statement.specs.declared.keyword.Keyword.{Keyword}
use Rattle.pli_parse_statement.specs.declared.keyword.Keyword.TheVariants.{Procedure, Declare, End, Begin, Do}
use Rattle.pli_parse_statement.specs.declared.keyword.Keyword.TheVariants.{If, On, Revert, Signal, Stop}
use Rattle.pli_parse_statement.specs.declared.keyword.Keyword.TheVariants.{Allocate, Free, Call, Goto, GoTo}
use Rattle.pli_parse_statement.specs.declared.keyword.Keyword.TheVariants.{Return, Put}
use Rattle.pli_parse_statement.specs.declared.keyword.StatementStanding.{StatementStanding}
use Rattle.pli_parse_statement.specs.declared.keyword.StatementStanding.TheVariants.{InBlock, InGroup}
use Rattle.pli_parse_statement.specs.declared.keyword.StatementStanding.TheVariants.{AsClause}
use Rattle.pli_parse_statement.specs.declared.keyword.StatementStanding.TheVariants.{AsOnUnit}
use Rattle.pli_base.specs.declared.statement.Condition.{Condition}
use Rattle.pli_parse_declaration.specs.declared.list.Separator.TheVariants.{Commas}

-- parts of statements; so many levels may still be opened in their expressions

-- what a reader of expressions gives, without its count of operators
abbrev pub uncounted : {A : Type 0} → Result (Front (Counted A)) Fault → Result (Front A) Fault
uncounted read = mapped (λ counted. counted.tree) read

-- an outermost expression
unfoldable pub expression_in : (levels p : ℕ) → Tokens → Result (Front Expression) Fault
expression_in levels p ts = uncounted (expression_at levels 0 p ts)

-- a reference, inside so many levels of nesting
unfoldable pub reference_in : (levels p : ℕ) → Tokens → Result (Front Reference) Fault
reference_in levels p ts = uncounted (reference_at levels p ts)

-- a value, and the `;` after it
unfoldable pub stopped : {A : Type 0} → A → ℕ → Tokens → Result (Front A) Fault
stopped value p ts = taken is_semicolon SemicolonExpected p ts >>= λ us. read_as value (p + 1) us

-- what was read, with the `;` after it
abbrev pub closing : {A B : Type 0} → (A → B) → Result (Front A) Fault → Result (Front B) Fault
closing f read = read >>= λ x. stopped (f x.value) x.next x.rest

-- in parentheses
unfoldable pub parenthesized : {A : Type 0} → (ℕ → Tokens → Result (Front A) Fault) → ℕ → Tokens
    → Result (Front A) Fault
parenthesized read p ts = taken is_open ParenthesisExpected p ts >>= λ us. enclosed (read (p + 1) us)

-- the sign `=`
abbrev pub is_equals : TokenText → Bool
is_equals (Sign Equals) = true
is_equals t = false

-- a reference, `=` and one expression
unfoldable pub assignment_at : (levels p : ℕ) → Tokens → Result (Front Body) Fault
assignment_at levels p ts = do
  target ← reference_in levels p ts
  us ← taken is_equals NotAStatement target.next target.rest
  value ← expression_in levels (target.next + 1) us
  stopped (body.Assign target.value target.next value.value) value.next value.rest

-- a condition that its name spells, or P15
abbrev pub condition_from : ℕ → Tokens → Option Condition → Result (Front Condition) Fault
condition_from p us (Some c) = read_as c (p + 1) us
condition_from p us None = at_fault BadCondition p

-- the condition after ON, SIGNAL or REVERT
unfoldable pub condition_at : ℕ → Tokens → Result (Front Condition) Fault
condition_at p (Word n ∷ us) = condition_from p us (condition_of n)
condition_at p ts = expected BadCondition p ts

-- what is read after a word, if the word stands there
abbrev pub if_word : {A : Type 0} → (ℕ → Tokens → Result (Front A) Fault) → ℕ → Tokens → Option Tokens
    → Result (Front (Option A)) Fault
if_word read p ts None = read_as None p ts
if_word read p ts (Some us) = mapped Some (read (p + 1) us)

-- a part that a word begins, or none
unfoldable pub optional_at : {A : Type 0} → Name → (ℕ → Tokens → Result (Front A) Fault) → ℕ → Tokens
    → Result (Front (Option A)) Fault
optional_at word read p ts = if_word read p ts (after_word word ts)

-- a word and what stands after it
abbrev pub paired : {A : Type 0} → Tokens → Option A → Option (A × Tokens)
paired us (Some x) = Some (x, us)
paired us None = None

-- a word in front that is known, and what stands after it
abbrev pub known_first : {A : Type 0} → (known : Name → Option A) → Tokens → Option (A × Tokens)
known_first known (Word n ∷ us) = paired us (known n)
known_first known ts = None

-- the words that begin a range of DO
pub data RangeWord : Type 0 where
  ToWord ByWord RepeatWord : RangeWord

-- the word that a name is
unfoldable pub range_word : Name → Option RangeWord
range_word n =
    if same_name n (codes "TO") then Some ToWord
    else if same_name n (codes "BY") then Some ByWord
    else if same_name n (codes "REPEAT") then Some RepeatWord
    else None

-- such a word in front
unfoldable pub range_first : Tokens → Option (RangeWord × Tokens)
range_first = known_first range_word

-- TO with or without BY, BY with or without TO, REPEAT, or none of them
abbrev pub range_from : (levels p : ℕ) → Tokens → Option (RangeWord × Tokens)
    → Result (Front (Option Range)) Fault
range_from levels p ts None = read_as None p ts
range_from levels p ts (Some (ToWord, us)) = do
  to ← expression_in levels (p + 1) us
  by ← optional_at (codes "BY") (expression_in levels) to.next to.rest
  read_as (Some (To to.value by.value)) by.next by.rest
range_from levels p ts (Some (ByWord, us)) = do
  by ← expression_in levels (p + 1) us
  to ← optional_at (codes "TO") (expression_in levels) by.next by.rest
  read_as (Some (By by.value to.value)) to.next to.rest
range_from levels p ts (Some (RepeatWord, us)) =
    mapped (λ next. Some (Repeat next)) (expression_in levels (p + 1) us)

-- the range of an iterated DO, or none
unfoldable pub range_at : (levels p : ℕ) → Tokens → Result (Front (Option Range)) Fault
range_at levels p ts = range_from levels p ts (range_first ts)

-- how a specification begins: WHILE followed by `(` is the keyword, and any other word a variable's name
pub data Specified : Type 0 where
  Unspecified : Specified
  Conditioned : (after : Tokens) → Specified
  Iterated : Specified

-- what stands after DO: WHILE and a parenthesis, a name, or nothing of either
unfoldable pub specified : Tokens → Specified
specified (Word n ∷ Sign OpenParenthesis ∷ us) =
    if same_name n (codes "WHILE") then Conditioned (Sign OpenParenthesis ∷ us) else Iterated
specified (Word n ∷ us) = Iterated
specified ts = Unspecified

-- the control of a group: none, WHILE, or an iteration
abbrev pub control_from : (levels p : ℕ) → Tokens → Specified → Result (Front (Option Control)) Fault
control_from levels p ts Unspecified = read_as None p ts
control_from levels p ts (Conditioned us) =
    mapped (λ c. Some (While c)) (parenthesized (expression_in levels) (p + 1) us)
control_from levels p ts Iterated = do
  variable ← reference_in levels p ts
  us ← taken is_equals BadDo variable.next variable.rest
  first ← expression_in levels (variable.next + 1) us
  range ← range_at levels first.next first.rest
  condition ← optional_at (codes "WHILE") (parenthesized (expression_in levels)) range.next range.rest
  read_as (Some (Iterate variable.value variable.next first.value range.value condition.value)) condition.next
      condition.rest

-- after DO
unfoldable pub control_at : (levels p : ℕ) → Tokens → Result (Front (Option Control)) Fault
control_at levels p ts = control_from levels p ts (specified ts)

-- the words that begin a part of ALLOCATE
pub data PlaceWord : Type 0 where
  InWord SetWord : PlaceWord

-- the word that a name is
unfoldable pub place_word : Name → Option PlaceWord
place_word n =
    if same_name n (codes "IN") then Some InWord else if same_name n (codes "SET") then Some SetWord else None

-- such a word in front
unfoldable pub place_first : Tokens → Option (PlaceWord × Tokens)
place_first = known_first place_word

-- IN and SET stand once
abbrev pub placed_by : (levels : ℕ) → (more : Allocation → ℕ → Tokens → Result (Front Allocation) Fault)
    → Allocation → ℕ → Tokens → Option (PlaceWord × Tokens) → (area target : Option Reference)
    → Result (Front Allocation) Fault
placed_by levels more x p ts None area target = read_as x p ts
placed_by levels more x p ts (Some (InWord, us)) None target =
    parenthesized (reference_in levels) (p
    + 1) us >>= λ r. more (record { name = x.name; area = Some r.value; target = target }) r.next r.rest
placed_by levels more x p ts (Some (SetWord, us)) area None =
    parenthesized (reference_in levels) (p
    + 1) us >>= λ r. more (record { name = x.name; area = area; target = Some r.value }) r.next r.rest
placed_by levels more x p ts second area target = at_fault BadOption p

-- whether an allocation has what the word begins
abbrev pub has_place : PlaceWord → (area target : Option Reference) → Bool
has_place InWord area target = is_some area
has_place SetWord area target = is_some target

-- an allocation with a reference where the word puts it
abbrev pub with_place : PlaceWord → Identifier → (area target : Option Reference) → Reference → Allocation
with_place InWord name area target r = record { name = name; area = Some r; target = target }
with_place SetWord name area target r = record { name = name; area = area; target = Some r }

-- each takes one of the bound
unfoldable pub places_from : (levels bound : ℕ) → Allocation → ℕ → Tokens → Result (Front Allocation) Fault
places_from levels zero x p ts = at_fault BadOption p
places_from levels (suc bound) x p ts =
    placed_by levels (places_from levels bound) x p ts (place_first ts) x.area x.target

-- one item of ALLOCATE: a name, then IN and SET, each at most once
unfoldable pub allocation_at : (levels p : ℕ) → Tokens → Result (Front Allocation) Fault
allocation_at levels p ts =
    identifier_at p ts >>= λ n. places_from levels 3 (record {
      name = n.value;
      area = None;
      target = None;
    }) n.next n.rest

-- the words that begin a part of PUT
pub data PutWord : Type 0 where
  SkipWord ListWord : PutWord

-- the word that a name is
unfoldable pub put_word : Name → Option PutWord
put_word n =
    if same_name n (codes "SKIP") then Some SkipWord else if same_name n (codes "LIST") then Some ListWord
    else None

-- such a word in front
unfoldable pub put_first : Tokens → Option (PutWord × Tokens)
put_first = known_first put_word

-- SKIP and LIST stand once
abbrev pub put_by : (levels : ℕ) → (more : Bool → List Expression → ℕ → Tokens → Result (Front Body) Fault)
    → Bool → List Expression → ℕ → Tokens → Option (PutWord × Tokens) → Result (Front Body) Fault
put_by levels more skip items p ts None = read_as (body.Put skip items) p ts
put_by levels more false items p ts (Some (SkipWord, us)) = more true items (p + 1) us
put_by levels more skip [] p ts (Some (ListWord, us)) =
    parenthesized (list_at Commas (expression_in levels)) (p + 1) us >>= λ x. more skip x.value x.next x.rest
put_by levels more skip items p ts (Some second) = at_fault BadOption p

-- the parts of PUT that are left, SKIP and LIST each at most once; each part takes one of the bound
unfoldable pub put_from : (levels bound : ℕ) → Bool → List Expression → ℕ → Tokens → Result (Front Body) Fault
put_from levels zero skip items p ts = at_fault BadOption p
put_from levels (suc bound) skip items p ts =
    put_by levels (put_from levels bound) skip items p ts (put_first ts)

-- after PUT, where one of them must stand
abbrev pub put_begun : (levels p : ℕ) → Tokens → Option (PutWord × Tokens) → Result (Front Body) Fault
put_begun levels p ts None = expected BadOption p ts
put_begun levels p ts (Some x) = put_from levels 3 false [] p ts

-- what stands after PUT
unfoldable pub put_at : (levels p : ℕ) → Tokens → Result (Front Body) Fault
put_at levels p ts = put_begun levels p ts (put_first ts)

-- after CALL: each argument is an outermost expression
unfoldable pub call_at : (levels p : ℕ) → Tokens → Result (Front Body) Fault
call_at levels p ts = do
  name ← identifier_at p ts
  arguments ← uncounted
      (arguments_at (option_map (argument_of true) (expressions.inside levels)) 0 name.next name.rest)
  read_as (body.Call name.value arguments.value) arguments.next arguments.rest

-- the words that begin an option of PROCEDURE
pub data OptionWord : Type 0 where
  OptionsWord ReturnsWord RecursiveWord : OptionWord

-- the word that a name is
unfoldable pub option_word : Name → Option OptionWord
option_word n =
    if same_name n (codes "OPTIONS") then Some OptionsWord
    else if same_name n (codes "RETURNS") then Some ReturnsWord
    else if same_name n (codes "RECURSIVE") then Some RecursiveWord
    else None

-- such a word in front
unfoldable pub option_first : Tokens → Option (OptionWord × Tokens)
option_first = known_first option_word

-- after OPTIONS
unfoldable pub main_at : ℕ → Tokens → Result (Front ProcedureOption) Fault
main_at p ts =
    parenthesized (λ p ts. taken (is_word (codes "MAIN")) BadOption p ts >>= λ us. read_as Main (p
    + 1) us) p ts

-- options as long as they come
abbrev pub options_by : (more : ℕ → Tokens → Result (Front (List ProcedureOption)) Fault) → ℕ → Tokens
    → Option (OptionWord × Tokens) → Result (Front (List ProcedureOption)) Fault
options_by more p ts None = read_as [] p ts
options_by more p ts (Some (OptionsWord, us)) =
    main_at (p + 1) us >>= λ x. mapped (λ xs. x.value ∷ xs) (more x.next x.rest)
options_by more p ts (Some (ReturnsWord, us)) =
    returned_at (p + 1) us >>= λ x. mapped (λ xs. Returns x.value ∷ xs) (more x.next x.rest)
options_by more p ts (Some (RecursiveWord, us)) = mapped (λ xs. Recursive ∷ xs) (more (p + 1) us)

-- the options up to the `;`; each takes one of the bound
unfoldable pub options_from : (bound p : ℕ) → Tokens → Result (Front (List ProcedureOption)) Fault
options_from zero p ts = at_fault SemicolonExpected p
options_from (suc bound) p ts = options_by (options_from bound) p ts (option_first ts)

-- after PROCEDURE, of this name and number
unfoldable pub heading_at : Identifier → (number p : ℕ) → Tokens → Result (Front Heading) Fault
heading_at name number p ts = do
  parameters ← if_open (list_at Commas identifier_at) p ts (rest_after is_open ts)
  options ← options_from (length parameters.rest + 1) parameters.next parameters.rest
  stopped (record {
    name = name;
    number = number;
    parameters = or_none parameters.value;
    options = options.value;
  }) options.next options.rest

-- statements

-- what reads a statement: where it stands, the place of its first token, its number, and the tokens
abbrev pub StatementReader : Type 0
StatementReader = Context → (p k : ℕ) → Tokens → Result (Front Statement) Fault

-- what is one level deeper: how many levels may be opened there, and what reads a statement
pub record Inside : Type 0 where
  pub levels : ℕ
  pub statement : StatementReader

-- what is read one level deeper, or the fault where there is none
abbrev pub deeper : {A : Type 0} → Option Inside → (p : ℕ) → (Inside → Result A Fault) → Result A Fault
deeper None p read = at_fault NestedTooDeep p
deeper (Some i) p read = read i

-- whether a `;` is ahead
unfoldable pub has_semicolon : Tokens → Bool
has_semicolon [] = false
has_semicolon (t ∷ ts) = is_semicolon t || has_semicolon ts

-- a name followed by `:`
unfoldable pub label_at : ℕ → Tokens → Front (Option Identifier)
label_at p (Word n ∷ Sign Colon ∷ us) =
    record { value = Some (record { name = n; at = p }); next = p + 2; rest = us }
label_at p ts = record { value = None; next = p; rest = ts }

-- whether there is a label
abbrev pub is_labelled : Option Identifier → Bool
is_labelled None = false
is_labelled (Some l) = true

-- the place of a second label, if there is one
abbrev pub second_label : ℕ → Option Identifier → Option ℕ
second_label p None = None
second_label p (Some l) = Some p

-- the token of a label that may not stand there: any label of a clause or ON-unit, and a second one
abbrev pub bad_label : StatementStanding → Front (Option Identifier) → Option Identifier → Option ℕ
bad_label s x None = None
bad_label AsClause x (Some l) = Some l.at
bad_label AsOnUnit x (Some l) = Some l.at
bad_label s x (Some l) = second_label x.next (label_at x.next x.rest).value

-- a statement that may not stand where it does: the fault is at its label, or at its first token after that
pub data Misplacement : Type 0 where
  AtLabel AtStatement : (code : Code) → Misplacement

-- an ON-unit is an assignment, a null statement, or one that begins with one of these
abbrev pub on_unit_misplaced : Keyword → Option Misplacement
on_unit_misplaced Allocate = None
on_unit_misplaced Begin = None
on_unit_misplaced Call = None
on_unit_misplaced Free = None
on_unit_misplaced Goto = None
on_unit_misplaced GoTo = None
on_unit_misplaced Put = None
on_unit_misplaced Revert = None
on_unit_misplaced Signal = None
on_unit_misplaced Stop = None
on_unit_misplaced keyword = Some (AtStatement MisplacedStatement)

-- what is wrong with a keyword by where the statement stands
abbrev pub standing_misplaced : StatementStanding → Keyword → (is_labelled : Bool) → Option Misplacement
standing_misplaced AsOnUnit keyword l = on_unit_misplaced keyword
standing_misplaced AsClause Procedure l = Some (AtStatement MisplacedStatement)
standing_misplaced AsClause Declare l = Some (AtStatement MisplacedStatement)
standing_misplaced AsClause End l = Some (AtStatement MisplacedStatement)
standing_misplaced InBlock Procedure false = Some (AtStatement BadLabel)
standing_misplaced InGroup Procedure false = Some (AtStatement MisplacedStatement)
standing_misplaced InGroup Procedure true = Some (AtLabel MisplacedStatement)
standing_misplaced s Declare true = Some (AtLabel BadLabel)
standing_misplaced s End true = Some (AtLabel BadLabel)
standing_misplaced s keyword l = None

-- what is wrong with a keyword where it stands; RETURN may not stand inside an ON-unit
abbrev pub misplacement : Context → Keyword → (is_labelled : Bool) → (in_on_unit : Bool) → Option Misplacement
misplacement c Return l true = Some (AtStatement MisplacedStatement)
misplacement c keyword l in_on_unit = standing_misplaced c.standing keyword l

-- a fault at the label, if there is one, else at the statement
abbrev pub at_label : {A : Type 0} → Code → ℕ → Option Identifier → Result A Fault
at_label code p None = at_fault code p
at_label code p (Some l) = at_fault code l.at

-- the statements of a block or group, and the number of its END
pub record Listing : Type 0 where
  pub statements : Statements
  pub end : ℕ

-- whether a name is the label's
abbrev pub is_label : Option Identifier → Name → Bool
is_label None n = false
is_label (Some l) n = same_name n l.name

-- the name after END, which is the label's or P8
abbrev pub named_end : Bool → ℕ → Tokens → Result (Front (Unit {0})) Fault
named_end true p us = stopped tt (p + 1) us
named_end false p us = at_fault WrongEndName p

-- after END: nothing, or the label of the nearest open block or group
unfoldable pub ending_at : Option Identifier → ℕ → Tokens → Result (Front (Unit {0})) Fault
ending_at label p (Word n ∷ us) = named_end (is_label label n) p us
ending_at label p ts = stopped tt p ts

-- what comes next in a list: its END, or another statement
pub data NextStatement : Type 0 where
  EndsHere : (after : Tokens) → NextStatement
  Another : NextStatement

-- END that closes the list, or one more statement
abbrev pub next_by : (has_semicolon : Bool) → Option Identifier → StatementKind → NextStatement
next_by true None (Keyed End us) = EndsHere us
next_by s label kind = Another

-- what comes next in a list
unfoldable pub next_of : Tokens → NextStatement
next_of ts = next_by (has_semicolon ts) (label_at 0 ts).value (kind_of ts)

-- a statement before those that follow
abbrev pub before : Statement → Front Listing → Result (Front Listing) Fault
before s y = read_as (record { statements = Before s y.value.statements; end = y.value.end }) y.next y.rest

-- a list: END closes it, or a statement and the rest of the list
abbrev pub list_by : StatementReader → Context → (label : Option Identifier)
    → (more : (p k : ℕ) → Tokens → Result (Front Listing) Fault) → (p k : ℕ) → Tokens → NextStatement
    → Result (Front Listing) Fault
list_by one c label more p k ts (EndsHere us) =
    mapped (λ nothing. record { statements = Ended; end = k }) (ending_at label (p + 1) us)
list_by one c label more p k ts Another =
    one c p k ts >>= λ x. more x.next (k + count x.value) x.rest >>= before x.value

-- statements up to an END, and that END; each takes one of the bound, which is more than the number of tokens
unfoldable pub list_from : StatementReader → Context → (label : Option Identifier) → (bound p k : ℕ) → Tokens
    → Result (Front Listing) Fault
list_from one c label zero p k ts = at_fault EndMissing p
list_from one c label (suc bound) p k ts =
    list_by one c label (list_from one c label bound) p k ts (next_of ts)

-- the statements up to END, inside a construct
abbrev pub list_in : Inside → Context → (label : Option Identifier) → (p k : ℕ) → Tokens
    → Result (Front Listing) Fault
list_in i c label p k ts = list_from i.statement c label (length ts + 1) p k ts

-- ELSE, where neither a label nor an assignment begins with it: what stands after it
abbrev pub else_by : (is_label is_assignment : Bool) → Option Tokens → Option Tokens
else_by false false after = after
else_by l a after = None

-- what is after ELSE, if an ELSE part begins here
unfoldable pub else_first : Tokens → Option Tokens
else_first ts =
    else_by (is_labelled (label_at 0 ts).value) (begins_assignment ts) (after_word (codes "ELSE") ts)

-- an ELSE belongs to the nearest IF that has none
abbrev pub alternative_from : Inside → Context → (p k : ℕ) → Tokens → Option Tokens
    → Result (Front Alternative) Fault
alternative_from i c p k ts None = read_as NoElse p ts
alternative_from i c p k ts (Some us) = mapped Else (i.statement (standing AsClause c) (p + 1) k us)

-- what stands after IF: a condition, THEN, a statement, and perhaps ELSE and another
unfoldable pub if_at : Inside → Context → (p k : ℕ) → Tokens → Result (Front Body) Fault
if_at i c p k ts = do
  condition ← expression_in i.levels p ts
  us ← taken (is_word (codes "THEN")) ThenExpected condition.next condition.rest
  consequence ← i.statement (standing AsClause c) (condition.next + 1) k us
  alternative ← alternative_from i c consequence.next (k
      + count consequence.value) consequence.rest (else_first consequence.rest)
  read_as (body.If condition.value consequence.value alternative.value) alternative.next alternative.rest

-- what stands after ON: a condition and an ON-unit
unfoldable pub on_at : Inside → (p k : ℕ) → Tokens → Result (Front Body) Fault
on_at i p k ts = do
  condition ← condition_at p ts
  unit ← i.statement the_on_unit condition.next k condition.rest
  read_as (body.On condition.value unit.value) unit.next unit.rest

-- what stands after DO: the control, `;`, the statements and END
unfoldable pub do_at : Inside → Context → (label : Option Identifier) → (p k : ℕ) → Tokens
    → Result (Front Body) Fault
do_at i c label p k ts = do
  control ← control_at i.levels p ts
  us ← taken is_semicolon SemicolonExpected control.next control.rest
  list ← list_in i (standing InGroup c) label (control.next + 1) k us
  read_as (body.Do control.value list.value.statements list.value.end) list.next list.rest

-- what stands after BEGIN: `;`, the statements and END
unfoldable pub begin_at : Inside → Context → (label : Option Identifier) → (p k : ℕ) → Tokens
    → Result (Front Body) Fault
begin_at i c label p k ts = do
  us ← taken is_semicolon SemicolonExpected p ts
  list ← list_in i (standing InBlock c) label (p + 1) k us
  read_as (body.Begin list.value.statements list.value.end) list.next list.rest

-- the statements of a procedure after its heading
abbrev pub inner_list : Inside → Identifier → (p k : ℕ) → Tokens → Result (Front Listing) Fault
inner_list i name p k ts = list_in i a_procedure (Some name) p k ts

-- what stands after PROCEDURE, which has a label
unfoldable pub procedure_at : Inside → (label : Option Identifier) → (number p : ℕ) → Tokens
    → Result (Front Body) Fault
procedure_at i None number p ts = at_fault BadLabel p
procedure_at i (Some name) number p ts = do
  heading ← heading_at name number p ts
  list ← inner_list i name heading.next (number + 1) heading.rest
  read_as (body.Procedure heading.value list.value.statements list.value.end) list.next list.rest

-- after a keyword at p, which begins the statement of number k
abbrev pub keyed_at : (levels : ℕ) → Option Inside → Context → (label : Option Identifier) → (p k : ℕ)
    → Tokens → Keyword → Result (Front Body) Fault
keyed_at levels inside c label p k us Procedure = deeper inside p (λ i. procedure_at i label k (p + 1) us)
keyed_at levels inside c label p k us Declare = mapped body.Declare (declaration_at (p + 1) us)
keyed_at levels inside c label p k us End = at_fault MisplacedStatement p
keyed_at levels inside c label p k us Begin = deeper inside p (λ i. begin_at i c label (p + 1) (k + 1) us)
keyed_at levels inside c label p k us Do = deeper inside p (λ i. do_at i c label (p + 1) (k + 1) us)
keyed_at levels inside c label p k us If = deeper inside p (λ i. if_at i c (p + 1) (k + 1) us)
keyed_at levels inside c label p k us On = deeper inside p (λ i. on_at i (p + 1) (k + 1) us)
keyed_at levels inside c label p k us Revert = closing body.Revert (condition_at (p + 1) us)
keyed_at levels inside c label p k us Signal = closing body.Signal (condition_at (p + 1) us)
keyed_at levels inside c label p k us Stop = stopped body.Stop (p + 1) us
keyed_at levels inside c label p k us Allocate =
    closing body.Allocate (list_at Commas (allocation_at levels) (p + 1) us)
keyed_at levels inside c label p k us Free =
    closing body.Free (list_at Commas (reference_in levels) (p + 1) us)
keyed_at levels inside c label p k us Call = closing (λ x. x) (call_at levels (p + 1) us)
keyed_at levels inside c label p k us Goto = closing body.Goto (identifier_at (p + 1) us)
keyed_at levels inside c label p k us GoTo = closing body.Goto (identifier_at (p + 2) us)
keyed_at levels inside c label p k us Return =
    closing body.Return (if_open (expression_in levels) (p + 1) us (rest_after is_open us))
keyed_at levels inside c label p k us Put = closing (λ x. x) (put_at levels (p + 1) us)

-- the statement of a keyword, unless it may not stand here
abbrev pub unless_misplaced : (levels : ℕ) → Option Inside → Context → (label : Option Identifier) → (p k : ℕ)
    → Tokens → Keyword → Option Misplacement → Result (Front Body) Fault
unless_misplaced levels inside c label p k us keyword (Some (AtLabel code)) = at_label code p label
unless_misplaced levels inside c label p k us keyword (Some (AtStatement code)) = at_fault code p
unless_misplaced levels inside c label p k us keyword None = keyed_at levels inside c label p k us keyword

-- a statement after its label
abbrev pub body_from : (levels : ℕ) → Option Inside → Context → (label : Option Identifier) → (p k : ℕ)
    → Tokens → StatementKind → Result (Front Body) Fault
body_from levels inside c label p k ts Assigns = assignment_at levels p ts
body_from levels inside c label p k ts (Empty us) = read_as body.Null (p + 1) us
body_from levels inside c label p k ts (Keyed keyword us) =
    unless_misplaced levels inside c label p k us keyword
    (misplacement c keyword (is_labelled label) c.in_on_unit)
body_from levels inside c label p k ts Unknown = at_fault NotAStatement p

-- the statement after its label, unless the label may not stand here
abbrev pub after_label : (levels : ℕ) → Option Inside → Context → (k : ℕ) → Front (Option Identifier)
    → Option ℕ → Result (Front Statement) Fault
after_label levels inside c k x (Some p) = at_fault BadLabel p
after_label levels inside c k x None =
    mapped (Numbered k x.value x.next) (body_from levels inside c x.value x.next k x.rest (kind_of x.rest))

-- where no `;` is ahead the text has ended
abbrev pub begun : (levels : ℕ) → Option Inside → Context → (p k : ℕ) → Tokens → (has_semicolon : Bool)
    → Result (Front Statement) Fault
begun levels inside c p k ts false = at_fault EndMissing (p + length ts - 1)
begun levels inside c p k ts true =
    after_label levels inside c k (label_at p ts)
    (bad_label c.standing (label_at p ts) (label_at p ts).value)

-- a statement with its label, where so many levels may be opened
unfoldable pub statement_of : (levels : ℕ) → Option Inside → StatementReader
statement_of levels inside c p k ts = begun levels inside c p k ts (has_semicolon ts)

-- what reads one level deeper, where so many levels may be opened
unfoldable pub inside_of : (levels : ℕ) → Option Inside
inside_of zero = None
inside_of (suc levels) = Some (record { levels = levels; statement = statement_of levels (inside_of levels) })

-- a statement where so many levels may be opened
abbrev pub statement_at : (levels : ℕ) → StatementReader
statement_at levels = statement_of levels (inside_of levels)

-- nothing may stand after the unit's END
abbrev pub finished : ExternalProcedure → ℕ → Tokens → Result ExternalProcedure Fault
finished unit p [] = Ok unit
finished unit p (t ∷ ts) = at_fault TextAfterEnd p

-- the external procedure, after PROCEDURE; it is the first level, and its PROCEDURE is statement 1
unfoldable pub external_at : Identifier → Tokens → Result ExternalProcedure Fault
external_at name ts = deeper (inside_of nesting_limit) 2 (λ i. do
  heading ← heading_at name 1 3 ts
  list ← inner_list i name heading.next 2 heading.rest
  finished (record {
    heading = heading.value;
    statements = list.value.statements;
    end = list.value.end;
  }) list.next list.rest)

-- a unit: a name, `:`, PROCEDURE and what belongs to it, or the first of P1 and P9
abbrev pub unit_from : Option ℕ → (has_semicolon : Bool) → Tokens → Result ExternalProcedure Fault
unit_from (Some p) s ts = at_fault NoProcedure p
unit_from None false ts = at_fault EndMissing (length ts - 1)
unit_from None true (Word n ∷ Sign Colon ∷ procedure ∷ ts) = external_at (record { name = n; at = 0 }) ts
unit_from None true ts = at_fault NoProcedure 0

-- the tree of a unit, or its one fault. First of all, `name : PROCEDURE` must stand
unfoldable pub unit_of : Tokens → Result ExternalProcedure Fault
unit_of ts = unit_from (misplaced ts) (has_semicolon ts) ts

-- The keywords of statements, where statements stand, and the test of what makes an assignment (X3.74, the
-- rule of assignments own).
use Rattle.std.specs.Prelude.{Bool, true, false, [], ◌∷◌, codes, Option, Some, None, option_map}
use Rattle.std.specs.Prelude.{if◌then◌else◌}
use Rattle.pli_base.specs.Name.{Name}
use Rattle.pli_base.specs.Words.{Tokens, same_name}
use Rattle.pli_base.specs.declared.token.Sign.TheVariants as signs
use Rattle.pli_base.specs.declared.token.TokenText.TheVariants as tokens
use Rattle.pli_parse_expression.specs.Assignments.{is_assignment}
use Rattle.pli_parse_declaration.specs.DeclarationWords.{is_either}
use Rattle.pli_parse_statement.specs.declared.keyword.Keyword.{Keyword}
use Rattle.pli_parse_statement.specs.declared.keyword.Keyword.TheVariants.{Procedure, Declare, End, Begin, Do}
use Rattle.pli_parse_statement.specs.declared.keyword.Keyword.TheVariants.{If, On, Revert, Signal, Stop}
use Rattle.pli_parse_statement.specs.declared.keyword.Keyword.TheVariants.{Allocate, Free, Call, Goto, GoTo}
use Rattle.pli_parse_statement.specs.declared.keyword.Keyword.TheVariants.{Return, Put}
use Rattle.pli_parse_statement.specs.declared.keyword.StatementStanding.{StatementStanding}
use Rattle.pli_parse_statement.specs.declared.keyword.StatementStanding.TheVariants.{InBlock, AsOnUnit}
use Rattle.pli_base.specs.declared.statement.Condition.{Condition}
use Rattle.pli_base.specs.declared.statement.Condition.TheVariants.{FixedOverflow, ZeroDivide, Area}

-- where a statement stands, and whether it belongs to an ON-unit, in which there is no RETURN
pub record Context : Type 0 where
  pub standing : StatementStanding
  pub in_on_unit : Bool

-- the same place in the text, where a statement stands so
abbrev pub standing : StatementStanding → Context → Context
standing s c = record { standing = s; in_on_unit = c.in_on_unit }

-- where an ON-unit stands
abbrev pub the_on_unit : Context
the_on_unit = record { standing = AsOnUnit; in_on_unit = true }

-- where the statements of a procedure stand
abbrev pub a_procedure : Context
a_procedure = record { standing = InBlock; in_on_unit = false }

-- the keywords of one word that begin statements with no statement inside, but for DECLARE and END
abbrev pub simple_keyword_of : Name → Option Keyword
simple_keyword_of n =
    if same_name n (codes "REVERT") then Some Revert
    else if same_name n (codes "SIGNAL") then Some Signal
    else if same_name n (codes "STOP") then Some Stop
    else if same_name n (codes "ALLOCATE") then Some Allocate
    else if same_name n (codes "FREE") then Some Free
    else if same_name n (codes "CALL") then Some Call
    else if same_name n (codes "GOTO") then Some Goto
    else if same_name n (codes "RETURN") then Some Return
    else if same_name n (codes "PUT") then Some Put
    else None

-- the keyword of one word that begins a statement; GO is none without TO after it
unfoldable pub keyword_of : Name → Option Keyword
keyword_of n =
    if is_either (codes "PROCEDURE") (codes "PROC") n then Some Procedure
    else if is_either (codes "DECLARE") (codes "DCL") n then Some Declare
    else if same_name n (codes "END") then Some End
    else if same_name n (codes "BEGIN") then Some Begin
    else if same_name n (codes "DO") then Some Do
    else if same_name n (codes "IF") then Some If
    else if same_name n (codes "ON") then Some On
    else simple_keyword_of n

-- the condition that a name is, after ON, REVERT and SIGNAL
unfoldable pub condition_of : Name → Option Condition
condition_of n =
    if is_either (codes "FIXEDOVERFLOW") (codes "FOFL") n then Some FixedOverflow
    else if is_either (codes "ZERODIVIDE") (codes "ZDIV") n then Some ZeroDivide
    else if same_name n (codes "AREA") then Some Area
    else None

-- the tokens after a word, if the first token is that word
unfoldable pub after_word : Name → Tokens → Option Tokens
after_word w (tokens.Word n ∷ us) = if same_name n w then Some us else None
after_word w us = None

-- the tokens before the first `;`, if there is one
unfoldable pub up_to_semicolon : Tokens → Option Tokens
up_to_semicolon [] = None
up_to_semicolon (tokens.Sign signs.Semicolon ∷ ts) = Some []
up_to_semicolon (t ∷ ts) = option_map (λ us. t ∷ us) (up_to_semicolon ts)

-- whether what is left is tested as an assignment
abbrev pub is_assigned : Option Tokens → Bool
is_assigned None = false
is_assigned (Some us) = is_assignment us

-- the tokens up to the first `;` are a reference, `=` and one expression, whatever the words are; no limit
-- counts
unfoldable pub begins_assignment : Tokens → Bool
begins_assignment ts = is_assigned (up_to_semicolon ts)

-- what a statement is, by its tokens after the label
pub data StatementKind : Type 0 where
  Assigns : StatementKind
  Empty : (after : Tokens) → StatementKind
  Keyed : (keyword : Keyword) (after : Tokens) → StatementKind
  Unknown : StatementKind

-- GO with its TO after it
abbrev pub go_kind : Option Tokens → StatementKind
go_kind (Some us) = Keyed GoTo us
go_kind None = Unknown

-- GO is a keyword where TO stands after it
abbrev pub word_kind : Option Keyword → Name → Tokens → StatementKind
word_kind (Some k) n us = Keyed k us
word_kind None n us = if same_name n (codes "GO") then go_kind (after_word (codes "TO") us) else Unknown

-- the kind of a statement by its first token, where it is no assignment
unfoldable pub first_kind : Tokens → StatementKind
first_kind (tokens.Sign signs.Semicolon ∷ us) = Empty us
first_kind (tokens.Word n ∷ us) = word_kind (keyword_of n) n us
first_kind ts = Unknown

-- an assignment whatever the words are; otherwise the first keyword decides
unfoldable pub kind_of : Tokens → StatementKind
kind_of ts = if begins_assignment ts then Assigns else first_kind ts

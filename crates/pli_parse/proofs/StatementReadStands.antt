-- A statement that is read may stand where it does.
use Rattle.std.proofs.Common.{◌≡◌, ℕ, Bool, true, false, Option, Some, None, refl, ap, sym}
use Rattle.pli_base.specs.Reading.{Front}
use Rattle.pli_base.specs.Syntax.{Expression}
use Rattle.pli_base.specs.declared.syntax.Identifier.{Identifier}
use Rattle.pli_base.specs.Statements as body
use Rattle.pli_base.specs.Statements.{Heading, Control, Statement, Body, Statements, Alternative}
use Rattle.pli_parse_statement.specs.StatementReading.{is_labelled, bad_label, standing_misplaced, misplacement}
use Rattle.pli_parse_statement.specs.StatementGrammar.{StandsIn, MayReturn}
use Rattle.pli_parse_statement.specs.declared.keyword.Keyword.TheVariants as words
use Rattle.pli_parse_statement.specs.declared.keyword.StatementStanding.{StatementStanding}
use Rattle.pli_parse_statement.specs.declared.keyword.StatementStanding.TheVariants.{InBlock, InGroup, AsClause, AsOnUnit}
use Rattle.pli_base.specs.declared.statement.Condition.{Condition}

-- after THEN, ELSE and ON there is no label
abbrev pub LabelFits : StatementStanding → Option Identifier → Type 0
LabelFits InBlock label = Unit {0}
LabelFits InGroup label = Unit {0}
LabelFits AsClause label = label ≡ None
LabelFits AsOnUnit label = label ≡ None

pub label_fits : (s : StatementStanding) (x : Front (Option Identifier)) (label : Option Identifier) → bad_label s x label ≡ None → LabelFits s label
label_fits InBlock x label h = tt
label_fits InGroup x label h = tt
label_fits AsClause x None h = refl
label_fits AsClause x (Some l) h = cc
label_fits AsOnUnit x None h = refl
label_fits AsOnUnit x (Some l) h = cc

-- a body that may stand anywhere
pub plain_stands : (label : Option Identifier) (b : Body) → StandsIn InBlock label b → StandsIn InGroup label b → (label ≡ None → StandsIn AsClause label b) → (label ≡ None → StandsIn AsOnUnit label b)
    → (s : StatementStanding) → LabelFits s label → StandsIn s label b
plain_stands label b block group clause unit InBlock fits = block
plain_stands label b block group clause unit InGroup fits = group
plain_stands label b block group clause unit AsClause fits = clause fits
plain_stands label b block group clause unit AsOnUnit fits = unit fits

pub may_return : (b : Body) → MayReturn true b → MayReturn false b → (u : Bool) → MayReturn u b
may_return b inside outside true = inside
may_return b inside outside false = outside

-- a body that may stand anywhere, in an ON-unit too
abbrev pub IsPlain : Option Identifier → Body → Type 0
IsPlain label b =
    StandsIn InBlock label b × StandsIn InGroup label b × (label ≡ None → StandsIn AsClause label b)
    × (label ≡ None → StandsIn AsOnUnit label b) × MayReturn true b × MayReturn false b

pub plain_fits : (label : Option Identifier) (b : Body) → IsPlain label b → (s : StatementStanding) (u : Bool)
    → LabelFits s label → StandsIn s label b × MayReturn u b
plain_fits label b (block, group, clause, unit, inside, outside) s u fits =
    (plain_stands label b block group clause unit s fits, may_return b inside outside u)

pub return_stands : (s : StatementStanding) (u : Bool) (label : Option Identifier) (value : Option Expression) → LabelFits s label
    → misplacement (record { standing = s; in_on_unit = u }) words.Return (is_labelled label) u ≡ None → StandsIn s label (body.Return value) × MayReturn u (body.Return value)
return_stands s true label value fits h = cc
return_stands InBlock false label value fits h = (tt, tt)
return_stands InGroup false label value fits h = (tt, tt)
return_stands AsClause false label value fits h = (fits, tt)
return_stands AsOnUnit false label value fits h = cc

pub do_stands : (s : StatementStanding) (label : Option Identifier) (control : Option Control) (statements : Statements) (end : ℕ) → LabelFits s label
    → standing_misplaced s words.Do (is_labelled label) ≡ None → StandsIn s label (body.Do control statements end)
do_stands InBlock label control statements end fits h = tt
do_stands InGroup label control statements end fits h = tt
do_stands AsClause label control statements end fits h = fits
do_stands AsOnUnit label control statements end fits h = cc

pub if_stands : (s : StatementStanding) (label : Option Identifier) (condition : Expression) (consequence : Statement) (alternative : Alternative) → LabelFits s label
    → standing_misplaced s words.If (is_labelled label) ≡ None → StandsIn s label (body.If condition consequence alternative)
if_stands InBlock label condition consequence alternative fits h = tt
if_stands InGroup label condition consequence alternative fits h = tt
if_stands AsClause label condition consequence alternative fits h = fits
if_stands AsOnUnit label condition consequence alternative fits h = cc

pub on_stands : (s : StatementStanding) (label : Option Identifier) (condition : Condition) (unit : Statement) → LabelFits s label
    → standing_misplaced s words.On (is_labelled label) ≡ None → StandsIn s label (body.On condition unit)
on_stands InBlock label condition unit fits h = tt
on_stands InGroup label condition unit fits h = tt
on_stands AsClause label condition unit fits h = fits
on_stands AsOnUnit label condition unit fits h = cc

pub declare_stands : (s : StatementStanding) (label : Option Identifier) (items : _) → standing_misplaced s words.Declare (is_labelled label) ≡ None → StandsIn s label (body.Declare items)
declare_stands InBlock None items h = refl
declare_stands InBlock (Some l) items h = cc
declare_stands InGroup None items h = refl
declare_stands InGroup (Some l) items h = cc
declare_stands AsClause label items h = cc
declare_stands AsOnUnit label items h = cc

pub procedure_stands : (s : StatementStanding) (name : Identifier) (heading : Heading) (statements : Statements) (end : ℕ) → heading.name ≡ name
    → standing_misplaced s words.Procedure true ≡ None → StandsIn s (Some name) (body.Procedure heading statements end)
procedure_stands InBlock name heading statements end named h = ap Some (sym named)
procedure_stands InGroup name heading statements end named h = cc
procedure_stands AsClause name heading statements end named h = cc
procedure_stands AsOnUnit name heading statements end named h = cc

-- What the parser of statements answers.
use Rattle.std.specs.Prelude.{◌≡◌, ◌+◌, ◌<◌, ◌≤◌, ℕ, Result, length, map}
use Rattle.pli_base.specs.Words.{Tokens}
use Rattle.pli_base.specs.Reading.{Front, mapped, read_as}
use Rattle.pli_base.specs.declared.reading.Front as made
use Rattle.pli_base.specs.declared.token.Fault.{Fault}
use Rattle.pli_base.specs.declared.syntax.Identifier.{Identifier}
use Rattle.pli_parse_declaration.specs.DeclarationReading.{returned_at}
use Rattle.pli_base.specs.Statements as tree
use Rattle.pli_base.specs.views.StatementView as views
use Rattle.pli_parse_statement.specs.StatementWords.{Context}
use Rattle.pli_parse_statement.specs.StatementWords as grammar
use Rattle.pli_parse_statement.specs.declared.first.Beginning.{Beginning}
use Rattle.pli_parse_statement.specs.declared.first.Context as first
use Rattle.pli_parse_statement.specs.declared.first.StatementKind.{StatementKind}
use Rattle.pli_parse_statement.specs.declared.first.StatementKind.TheVariants as kinds
use Rattle.pli_parse_statement.specs.declared.first.Misplacement.{Misplacement}
use Rattle.pli_parse_statement.specs.declared.first.Misplacement.TheVariants as misplacements
use Rattle.pli_parse_statement.specs.declared.first.NextStatement.{NextStatement}
use Rattle.pli_parse_statement.specs.declared.first.NextStatement.TheVariants as nexts
use Rattle.pli_parse_statement.specs.declared.heading.Heading.{Heading}
use Rattle.pli_parse_statement.specs.StatementReading as reading
use Rattle.pli_parse_statement.specs.declared.keyword.Keyword.{Keyword}
use Rattle.pli_parse_statement.specs.declared.keyword.Keyword.TheVariants.{GoTo}
use Rattle.pli_parse_statement.specs.declared.control.SpecificationStart.{SpecificationStart}
use Rattle.pli_parse_statement.specs.declared.control.SpecificationStart.TheVariants as specifieds
use Rattle.pli_parse_expression.specs.declared.counted.Counted.{Counted}
use Rattle.pli_parse_statement.specs.declared.listing.Listing.{Listing}
use Rattle.pli_parse_statement.specs.declared.word.PlaceWord.{PlaceWord}
use Rattle.pli_parse_statement.specs.declared.word.PlaceWord.TheVariants as places
use Rattle.pli_parse_statement.specs.declared.word.PutWord.{PutWord}
use Rattle.pli_parse_statement.specs.declared.word.PutWord.TheVariants as puts
use Rattle.pli_parse_statement.specs.declared.word.RangeWord.{RangeWord}
use Rattle.pli_parse_statement.specs.declared.word.RangeWord.TheVariants as ranges
use Rattle.pli_parse_statement.specs.declared.word.OptionWord.{OptionWord}
use Rattle.pli_parse_statement.specs.declared.word.OptionWord.TheVariants as options

-- how many tokens the keyword has
abbrev pub words : Keyword → ℕ
words GoTo = 2
words keyword = 1

-- the words of the parts of statements, as reading has them
abbrev pub place_view : PlaceWord → reading.PlaceWord
place_view places.In = reading.InWord
place_view places.Set = reading.SetWord

-- the word that the code has for it
abbrev pub put_view : PutWord → reading.PutWord
put_view puts.Skip = reading.SkipWord
put_view puts.List = reading.ListWord

-- the word that the code has for it
abbrev pub range_view : RangeWord → reading.RangeWord
range_view ranges.To = reading.ToWord
range_view ranges.By = reading.ByWord
range_view ranges.Repeat = reading.RepeatWord

-- the word that the code has for it
abbrev pub option_view : OptionWord → reading.OptionWord
option_view options.Options = reading.OptionsWord
option_view options.Returns = reading.ReturnsWord
option_view options.Recursive = reading.RecursiveWord

-- how a specification begins
abbrev pub specified_view : SpecificationStart → reading.Specified
specified_view specifieds.Unspecified = reading.Unspecified
specified_view (specifieds.Conditioned after) = reading.Conditioned after.now
specified_view specifieds.Iterated = reading.Iterated

-- after WHILE there is a token less
abbrev pub AfterWhile : Tokens → SpecificationStart → Type 0
AfterWhile ts (specifieds.Conditioned after) = length after.now + 1 ≡ length ts
AfterWhile ts x = Unit {0}

-- an option after its word
abbrev pub option_of : reading.OptionWord → ℕ → Tokens → Result (Front tree.ProcedureOption) Fault
option_of reading.OptionsWord p ts = reading.main_at p ts
option_of reading.ReturnsWord p ts = mapped tree.Returns (returned_at p ts)
option_of reading.RecursiveWord p ts = read_as tree.Recursive p ts

-- a heading of this name and number
abbrev pub heading_view : Identifier → ℕ → Heading → tree.Heading
heading_view name number h =
    record {
      name = name;
      number = number;
      parameters = h.parameters.items;
      options = map views.option_view h.options.items;
    }

-- where a statement stands
abbrev pub context_view : first.Context → Context
context_view c = record { standing = c.standing; in_on_unit = c.in_on_unit }

-- what a statement is
abbrev pub kind_view : StatementKind → grammar.StatementKind
kind_view kinds.Assigns = grammar.Assigns
kind_view (kinds.Empty rest) = grammar.Empty rest.now
kind_view (kinds.Keyed keyword rest) = grammar.Keyed keyword rest.now
kind_view kinds.Unknown = grammar.Unknown

-- of so many tokens those of the keyword, or the `;`, are passed over
abbrev pub AfterKind : ℕ → StatementKind → Type 0
AfterKind n (kinds.Empty rest) = length rest.now + 1 ≡ n
AfterKind n (kinds.Keyed keyword rest) = length rest.now + words keyword ≡ n
AfterKind n kind = Unit {0}

-- what a statement begins with: whether a `;` is ahead, and what it is after its label
pub record IsBeginning (ts : Tokens) (b : Beginning) : Type 0 where
  pub ahead : b.has_semicolon ≡ reading.has_semicolon ts
  pub kind : kind_view b.kind ≡ grammar.kind_of (reading.label_at 0 ts).rest
  pub place : AfterKind (length (reading.label_at 0 ts).rest) b.kind

-- a statement that may not stand where it does
abbrev pub misplacement_view : Misplacement → reading.Misplacement
misplacement_view (misplacements.AtLabel code) = reading.AtLabel code
misplacement_view (misplacements.AtStatement code) = reading.AtStatement code

-- what comes next in a list
abbrev pub next_view : NextStatement → reading.NextStatement
next_view (nexts.EndsHere rest) = reading.EndsHere rest.now
next_view nexts.Another = reading.Another

-- of so many tokens END is passed over
abbrev pub AfterNext : ℕ → NextStatement → Type 0
AfterNext n (nexts.EndsHere rest) = length rest.now + 1 ≡ n
AfterNext n nexts.Another = Unit {0}

-- the tree, apart from where it lies in memory, without the count
abbrev pub tree_view : {X Y : Type 0} → (X → Y) → Counted X → Y
tree_view view x = view x.tree

-- one statement was counted or more, and no more than tokens were passed over; the rest is left
abbrev pub Counts : {X : Type 0} → (p k : ℕ) → Tokens → made.Front (Counted X) → Type 0
Counts p k ts x =
    (k < x.value.count) × (x.value.count + p ≤ x.next + k) × (x.next + length x.rest.now ≡ p + length ts)

-- what reads inside one level more, where so many may be opened there
abbrev pub inside_at : ℕ → reading.Inside
inside_at levels = record { levels = levels; statement = reading.statement_at levels }

-- the statements of a block or group
abbrev pub listing_view : Listing → reading.Listing
listing_view l = record { statements = views.statements_view l.statements.items; end = l.end }

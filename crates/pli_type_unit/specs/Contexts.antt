-- Where a statement stands: the blocks around it, and the labels to which a GOTO there may lead; and what is
-- counted up to it, in the order of the text: the blocks of a unit, and in each block its temporaries, which begin
-- with 0.
use Rattle.std.specs.Prelude.{ℕ, suc, ◌+◌, nat_eq, Option, Some, option_map, List, filter, length}
use Rattle.std.specs.Prelude.{if◌then◌else◌}
use Rattle.std.specs.List.{list_any}
use Rattle.pli_base.specs.Statements as tree
use Rattle.pli_base.specs.Statements.{Statement, Numbered, Body, Statements, Ended, Before, Alternative}
use Rattle.pli_map.specs.Description.{Description}
use Rattle.pli_declare.specs.ResolvedUnits.{ResolvedUnit, meaning_at}
use Rattle.pli_type_rules.specs.Names.{NamedAs}
use Rattle.pli_type_rules.specs.StatementTyping.{labels_of, inside}
use Rattle.pli_type_rules.specs.Temporaries.{Next, limits_kept}
use Rattle.pli_type_unit.specs.UnitNames.{named_as, names_based}

-- labels

-- how many static links outward the label of a statement is, where a GOTO may lead to it
abbrev pub Labels : Type 0
Labels = (statement : ℕ) → Option ℕ

-- those of a list in this block are known, and these
abbrev pub with_labels : Statements → Labels → Labels
with_labels list others n = if list_any (nat_eq n) (labels_of list) then Some 0 else others n

-- contexts

-- where a statement stands: its unit; the numbers of the blocks around, the innermost first; how many of them
-- are BEGIN blocks of its procedure; what its procedure gives, if it is a function; the labels of the lists in
-- which it stands; and those among them that last while its block runs, of its own list and of none of its
-- groups
pub record Context : Type 0 where
  pub unit : ResolvedUnit
  pub blocks : List ℕ
  pub begins : ℕ
  pub value : Option Description
  pub labels : Labels
  pub lasting : Labels

-- what the name at a token means there
abbrev pub meaning_in : Context → (at : ℕ) → NamedAs
meaning_in c at = named_as c.unit c.blocks (meaning_at c.unit at)

-- in a group: the labels of its list are known too
abbrev pub in_group : Statements → Context → Context
in_group list c = record c { labels = with_labels list c.labels }

-- in the innermost of these blocks, whose list this is, where these labels are known outside of it
abbrev pub in_block : ResolvedUnit → (blocks : List ℕ) → (begins : ℕ) → (value : Option Description)
    → (outside : Labels) → Statements → Context
in_block r blocks begins value outside list =
    let labels : Labels = with_labels list (λ n. option_map suc (outside n)) in
    record {
      unit = r;
      blocks = blocks;
      begins = begins;
      value = value;
      labels = labels;
      lasting = labels;
    }

-- numbers

-- after so many temporaries more
abbrev pub taking : ℕ → Next → Next
taking count x = record x { temporary = x.temporary + count }

-- the next block and the next temporary after a statement: a group with a control variable has temporaries, and
-- ALLOCATE has one for each BASED variable; those of blocks inside are their own
abbrev mutual
  pub after : ResolvedUnit → Next → Statement → Next
  after r x (Numbered number label at body) = after_body r x body

  -- the same, by what the statement is
  pub after_body : ResolvedUnit → Next → Body → Next
  after_body r x (tree.Procedure heading list end) = record x { block = (after_all r (inside x) list).block }
  after_body r x (tree.Begin list end) = record x { block = (after_all r (inside x) list).block }
  after_body r x (tree.On condition unit) = record x { block = (after r (inside x) unit).block }
  after_body r x (tree.Do (Some (tree.Iterate variable equals first range tested)) list end) =
      after_all r (taking (suc (limits_kept range)) x) list
  after_body r x (tree.Do control list end) = after_all r x list
  after_body r x (tree.If tested consequence alternative) = after_else r (after r x consequence) alternative
  after_body r x (tree.Allocate items) =
      taking (length (filter (λ a. names_based r (meaning_at r a.name.at)) items)) x
  after_body r x body = x

  -- after an ELSE
  pub after_else : ResolvedUnit → Next → Alternative → Next
  after_else r x tree.NoElse = x
  after_else r x (tree.Else statement) = after r x statement

  -- after the statements of a list
  pub after_all : ResolvedUnit → Next → Statements → Next
  after_all r x Ended = x
  after_all r x (Before first more) = after_all r (after r x first) more

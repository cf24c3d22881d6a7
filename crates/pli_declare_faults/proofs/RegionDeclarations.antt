-- What a region declares, and its parameters.
use Rattle.std.proofs.Common.{◌≡◌, ℕ, ◌+◌, ◌<◌, List, map, length, get_or, sym, ap, ◌∙◌, zero-add, Vec, Global, arith}
use Rattle.std.proofs.lemmas.List.{get_or-map, length-map}
use Rattle.pli_base.specs.Name.{Name}
use Rattle.pli_declare_outline.specs.Outlines.{Outline}
use Rattle.pli_declare.specs.Tables.{entries_in, all_tables}
use Rattle.pli_declare_tables.specs.views.TableView.{entries_view, table_view}
use Rattle.pli_declare_tables.specs.declared.table.Table.{Table}
use Rattle.pli_declare.specs.Resolution.{parameters_of}
use Rattle.pli_declare_faults.specs.answers.Answers.{AreKnown}
use Rattle.pli_declare_faults.specs.answers.Walks.{AreParameters}
use Rattle.pli_declare_variables.specs.Judging.{all_judged}
use Rattle.pli_declare_variables.specs.declared.judged.Judged.{Judged}
use Rattle.pli_declare_faults.proofs.NumberLists.{number_at, length_of_numbers}
use Rattle.pli_declare_faults.proofs.TablesOfBlocks.{how_many, table_at}

pub tables_reach : (tables : List Table) (o : Outline) (n : ℕ) → map table_view tables ≡ all_tables o → n < length o.regions → n < length tables
tables_reach tables o n all within = omega (arith, within, how_many tables o all)

pub entries_are : (tables : List Table) (o : Outline) (n : ℕ) (x : Table) → map table_view tables ≡ all_tables o → n < length o.regions → x ≡ get_or tables n x
    → entries_view x.entries.items ≡ entries_in o n
entries_are tables o n x all within read = ap (λ t. t.entries) (table_at tables o n x all (tables_reach tables o n all within) read)

module _ (lists : List (Vec Name Global)) (o : Outline) (n : ℕ) (all : AreParameters (map (λ (list : Vec Name Global). list.items) lists) o) (within : n < length o.regions) where
  pub parameters_reach : n < length lists
  parameters_reach =
      omega (arith, within, length-map lists (λ (list : Vec Name Global). list.items), ap length all, length_of_numbers (parameters_of o) 0 (length o.regions + 1))

  pub parameters_are : (y : Vec Name Global) → y ≡ get_or lists n y → y.items ≡ parameters_of o n
  parameters_are y read =
      let items : Vec Name Global → List Name = λ list. list.items in
      ap items read ∙ sym (get_or-map items lists n y y.items parameters_reach) ∙ ap (λ ls. get_or ls n y.items) all
      ∙ number_at (parameters_of o) 0 (length o.regions + 1) n y.items (omega (arith, within)) ∙ ap (parameters_of o) (zero-add n)

-- what is known of the names of a block
abbrev known_of : Outline → ℕ → List Judged
known_of o b = all_judged (entries_in o b) (parameters_of o b)

module _ (lists : List (Vec Judged Global)) (o : Outline) (n : ℕ) (all : AreKnown (map (λ (list : Vec Judged Global). list.items) lists) o) (within : n < length o.regions) where
  pub judged_reach : n < length lists
  judged_reach =
      omega (arith, within, length-map lists (λ (list : Vec Judged Global). list.items), ap length all, length_of_numbers (known_of o) 0 (length o.regions + 1))

  pub judged_are : (y : Vec Judged Global) → y ≡ get_or lists n y → y.items ≡ all_judged (entries_in o n) (parameters_of o n)
  judged_are y read =
      let items : Vec Judged Global → List Judged = λ list. list.items in
      ap items read ∙ sym (get_or-map items lists n y y.items judged_reach) ∙ ap (λ ls. get_or ls n y.items) all
      ∙ number_at (known_of o) 0 (length o.regions + 1) n y.items (omega (arith, within)) ∙ ap (known_of o) (zero-add n)

-- The table of a block.
use Rattle.std.proofs.Common.{◌≡◌, ◌≢◌, ℕ, ◌+◌, ◌<◌, ◌≤◌, ◌==◌, Option, Some, None, IfSome, List, [], ◌∷◌, ◌++◌, map, length, get_or, if◌then◌else◌, refl, sym, ap, ◌∙◌, zero-add, arith}
use Rattle.std.proofs.lemmas.List.{length-map, get_or-map, append-nil}
use Rattle.pli_declare_outline.specs.Outlines.{Region, PlacedMark, Outline}
use Rattle.pli_declare_constructs.specs.Regions.{innermost, first_or_unit, block_of}
use Rattle.pli_declare_constructs.proofs.BlocksAround.{finds}
use Rattle.pli_declare.specs.Tables.{Entry, entries_of, entries_after, entries_in, inner_marks, table_in, all_tables}
use Rattle.pli_declare_tables.specs.views.TableView.{table_view}
use Rattle.pli_declare_tables.specs.declared.table.Table.{Table}
use Rattle.pli_declare_faults.proofs.NumberLists.{number_at, length_of_numbers}
use Rattle.pli_declare.proofs.ParametersOfBlocks.{not_equal}

pub how_many : (tables : List Table) (o : Outline) → map table_view tables ≡ all_tables o → length tables ≡ length o.regions + 1
how_many tables o all = sym (length-map tables table_view) ∙ ap length all ∙ length_of_numbers (table_in o) 0 (length o.regions + 1)

pub table_at : (tables : List Table) (o : Outline) (n : ℕ) (x : Table) → map table_view tables ≡ all_tables o → n < length tables → x ≡ get_or tables n x
    → table_view x ≡ table_in o n
table_at tables o n x all lt read =
    let count = length o.regions + 1 in
    let within : n < count = omega (arith, lt, how_many tables o all) in
    ap table_view read ∙ sym (get_or-map table_view tables n x (table_view x) lt) ∙ ap (λ ts. get_or ts n (table_view x)) all
    ∙ number_at (table_in o) 0 count n (table_view x) within ∙ ap (table_in o) (zero-add n)

unit_or_less : (found : Option ℕ) (count : ℕ) → IfSome found (λ b. b < count) → first_or_unit found ≤ count
unit_or_less None count h = omega arith
unit_or_less (Some b) count h = omega (arith, h)

-- a block is a region, or that of the unit
pub block_within : (regions : List Region) (n : ℕ) → block_of regions n ≤ length regions
block_within regions n = unit_or_less (innermost regions n) (length regions) (finds regions n).within

none_after : (regions : List Region) (block : ℕ) → length regions < block → (entries : List Entry) (marks : List PlacedMark) → entries_after regions block entries marks ≡ entries
none_after regions block far entries [] = refl
none_after regions block far entries (p ∷ ps) =
    let other : block_of regions p.region ≢ block = λ e. omega (arith, far, e, block_within regions p.region) in
    let same : entries ++ (if block_of regions p.region == block then entries_of (length entries) p.region p.mark else []) ≡ entries =
    ap (λ t. entries ++ (if t then entries_of (length entries) p.region p.mark else [])) (not_equal (block_of regions p.region) block other) ∙ append-nil entries in
    ap (λ es. entries_after regions block es ps) same ∙ none_after regions block far entries ps

-- what is no region declares nothing
pub none_declared : (tables : List Table) (o : Outline) (block : ℕ) → map table_view tables ≡ all_tables o → length tables ≤ block → entries_in o block ≡ []
none_declared tables o block all far = none_after o.regions block (omega (arith, far, how_many tables o all)) [] (inner_marks o.marks)

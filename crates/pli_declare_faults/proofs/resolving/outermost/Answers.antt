use Rattle.std.proofs.Common.{◌≡◌, ◌<◌, ℕ, zero, suc, [], ◌∷◌, List, length, map, sym, ap, ◌∙◌, subst, IfSome, arith}
use Rattle.pli_declare_outline.specs.Outlines.{Mark, PlacedMark, Declared, Labelled, Entered, Used, Jumped}
use Rattle.pli_declare_outline.specs.views.OutlineView.{outline_view}
use Rattle.pli_declare_scopes.specs.laws.RepeatLaws.{written_at}
use Rattle.pli_declare_tables.specs.views.TableView.{entries_view}
use Rattle.pli_declare.specs.answers.Owners.{AreAfterOwners}
use Rattle.pli_declare.specs.Declarations.{AreGood}
use Rattle.pli_declare.specs.Tables.{written, heading_entries, unit_entries}
use Rattle.pli_declare.proofs.Faultless.{unit_good}
use Rattle.pli_declare_faults.proofs.resolving.outermost.Goals as goal

-- the unit's own name belongs to no item
heading_after : (m : Mark) (n : ℕ) → n < length (map written (heading_entries m)) → IfSome (written_at (map written (heading_entries m)) n).owner (λ o. o < n)
heading_after (Declared items) n lt = absurd (omega arith)
heading_after (Labelled label) n lt = absurd (omega arith)
heading_after (Entered heading region) zero lt = tt
heading_after (Entered heading region) (suc n) lt = absurd (omega arith)
heading_after (Used names) n lt = absurd (omega arith)
heading_after (Jumped label) n lt = absurd (omega arith)

unit_after : (ps : List PlacedMark) → AreAfterOwners (unit_entries ps)
unit_after [] = λ n lt. absurd (omega arith)
unit_after (p ∷ ps) = heading_after p.mark

pub judge-requires : goal.judge-requires
judge-requires c =
    let o = outline_view c.args.outline.now in
    let e : entries_view c.as_slice-entries.result.now ≡ unit_entries o.marks = ap entries_view c.as_slice-entries.ensures.value ∙ c.requires.tabled.unit_entries in
    subst AreAfterOwners (sym e) (unit_after o.marks)

pub declare-requires-clause-owners : goal.declare-requires-clause-owners
declare-requires-clause-owners c =
    let o = outline_view c.args.outline.now in
    let e : entries_view c.as_slice-entries.result.now ≡ unit_entries o.marks = ap entries_view c.as_slice-entries.ensures.value ∙ c.requires.tabled.unit_entries in
    subst AreAfterOwners (sym e) (unit_after o.marks)

pub declare-requires-clause-good : goal.declare-requires-clause-good
declare-requires-clause-good c =
    let o = outline_view c.args.outline.now in
    let e : entries_view c.as_slice-entries.result.now ≡ unit_entries o.marks = ap entries_view c.as_slice-entries.ensures.value ∙ c.requires.tabled.unit_entries in
    subst (λ es. AreGood es []) (sym e) (unit_good o o.marks c.requires.faultless)

pub declare-requires-clause-judged : goal.declare-requires-clause-judged
declare-requires-clause-judged c = c.deref.ensures.value ∙ c.in_ok-judged.ensures

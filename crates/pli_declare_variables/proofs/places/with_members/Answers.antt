use Rattle.std.proofs.Common.{◌≡◌, ◌<◌, ℕ, false, true, List, Bool, Vec, length, get_or, map, take, set, sym, ap, ◌∙◌, arith}
use Rattle.std.specs.List.{list_any}
use Rattle.std.specs.Global.{Global}
use Rattle.std.proofs.lemmas.List.{ext_get_or, length-map, length-set, take_all}
use Rattle.pli_declare.specs.Tables as plain
use Rattle.pli_declare.specs.Tables.{numbers_from}
use Rattle.pli_declare_tables.specs.views.TableView.{entry_view, entries_view}
use Rattle.pli_declare.specs.Places.{owner_is}
use Rattle.pli_declare_variables.specs.answers.Walks.{has_members_at}
use Rattle.pli_declare_variables.proofs.NumberLemmas.{mapped_at, mapped_length}
use Rattle.pli_declare_variables.proofs.LevelLemmas.{owner_before, view_at}
use Rattle.pli_declare_variables.proofs.MarkLemmas.{members_there, none_marked, one_marked}
use Rattle.pli_declare_variables.proofs.places.with_members.Goals as goal
use Rattle.pli_declare_variables.proofs.places.with_members.Goals.{in-Some, in_default}

pub index_mut-requires : goal.index_mut-requires
index_mut-requires c =
    let below = owner_before c.args.entries.now c.requires c.loop-entry.entry-index c.entry-item.result c.loop-entry-test.true c.entry-item.is in
    let owned = rw c.in-Some.is at below in
    omega (arith, owned, c.loop-entry.invariant.long, c.loop-entry-test.true)

pub loop-entry-preserved : goal.loop-entry-preserved
loop-entry-preserved c =
    let view = view_at c.args.entries.now c.loop-entry.entry-index c.entry-item.result c.loop-entry-test.true c.entry-item.is in
    let owner = ap (λ (x : plain.Entry). x.owner) view in
    let entries = entries_view c.args.entries.now in
    let i = c.loop-entry.entry-index in
    let marks = c.loop-entry.marks.items in
    let many = length-map c.args.entries.now entry_view in
    let within : i < length entries = omega (arith, many, c.loop-entry-test.true) in
    let marked = λ (n : ℕ) (lt : n < length entries). c.loop-entry.invariant.marked n (omega (arith, many, lt)) in
    let below = owner_before c.args.entries.now c.requires i c.entry-item.result c.loop-entry-test.true c.entry-item.is in
    elim c.match-entry.branch [
      | in-Some w ↦
          let room = rw w.in-Some.is at below in
          let written : c.match-entry.marks.items ≡ set marks w.in-Some.owner true = ap (λ (v : Vec Bool Global). v.items) w.marks-is in
          record {
            long = ap (λ (bs : List Bool). length bs) written ∙ length-set marks w.in-Some.owner true ∙ c.loop-entry.invariant.long;
            marked = λ n lt. ap (λ (bs : List Bool). get_or bs n false) written
                ∙ one_marked entries marks i within marked w.in-Some.owner (owner ∙ w.in-Some.is) (omega (arith, room, c.loop-entry.invariant.long, c.loop-entry-test.true)) n (omega (arith, many, lt));
          }
      | in_default w ↦
          let written : c.match-entry.marks.items ≡ marks = ap (λ (v : Vec Bool Global). v.items) w.marks-is in
          record {
            long = ap (λ (bs : List Bool). length bs) written ∙ c.loop-entry.invariant.long;
            marked = λ n lt. ap (λ (bs : List Bool). get_or bs n false) written
                ∙ none_marked entries marks i within marked (owner ∙ w.in_default.is) n (omega (arith, many, lt));
          }
    ]

pub returns : goal.returns
returns c =
    let entries = entries_view c.args.entries.now in
    let count = length c.args.entries.now in
    let many = length-map c.args.entries.now entry_view in
    let i = c.loop-entry.entry-index in
    let all : take i entries ≡ entries = take_all i entries (omega (arith, many, c.loop-entry-test.false)) in
    ext_get_or false c.loop-entry.marks.items (map (has_members_at entries) (numbers_from 0 count))
    (c.loop-entry.invariant.long ∙ sym (mapped_length (has_members_at entries) count))
    (λ n lt.
    let within : n < count = omega (arith, lt, c.loop-entry.invariant.long) in
    c.loop-entry.invariant.marked n within ∙ ap (list_any (owner_is n)) all ∙ sym (members_there entries n) ∙ sym (mapped_at (has_members_at entries) count n false within))

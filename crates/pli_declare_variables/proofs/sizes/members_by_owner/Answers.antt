use Rattle.std.proofs.Common.{◌≡◌, ℕ, ◌+◌, ◌<◌, ◌++◌, ◌∷◌, [], List, Some, suc, map, set, get_or, length, ap, ◌∙◌, arith}
use Rattle.std.proofs.Common.{Vec}
use Rattle.std.specs.Global.{Global}
use Rattle.std.proofs.lemmas.List.{map_push, length-map}
use Rattle.pli_declare.specs.Tables.{no_entry, numbers_from}
use Rattle.pli_declare_tables.specs.views.TableView.{entry_view, entries_view}
use Rattle.pli_declare.proofs.NumberListLemmas.{map_next}
use Rattle.pli_declare_variables.proofs.MembersFound.{first_members, viewed, nothing_else, added, passed, rows_length}
use Rattle.pli_declare.proofs.MembersFound.{before}
use Rattle.pli_declare_variables.proofs.sizes.members_by_owner.Goals.{in-Some+in_ok-add, in_default}
use Rattle.pli_declare_variables.proofs.sizes.members_by_owner.Goals as goal

abbrev items : Vec ℕ Global → List ℕ
items v = v.items

pub loop-preserved : goal.loop-preserved
loop-preserved c =
    ap (map items) c.in_ok-push.ensures.items ∙ map_push items c.loop.members.items c.new.result
    ∙ map_next (first_members (entries_view c.args.entries.now) 0) (map items c.loop.members.items) c.loop.counter c.new.result.items c.loop.invariant c.new.ensures.items

pub add-requires : goal.add-requires
add-requires c =
    let entries = c.args.entries.now in
    let n = c.loop-number.number in
    let e = c.index-entries-number.result in
    let within : n < length entries = c.loop-number-test.true in
    let owned : (get_or (entries_view entries) n no_entry).owner ≡ Some c.in-Some.owner = ap (λ x. x.owner) (viewed entries n e within c.index-entries-number.is) ∙ c.in-Some.is in
    let ahead = before (entries_view entries) c.requires n c.in-Some.owner (omega (arith, within, length-map entries entry_view)) owned in
    let rows = rows_length (entries_view entries) (map items c.loop-number.members.items) n (length entries) c.loop-number.invariant in
    omega (arith, ahead, rows, within, length-map c.loop-number.members.items items)

pub loop-number-preserved : goal.loop-number-preserved
loop-number-preserved c =
    let entries = c.args.entries.now in
    let n = c.loop-number.number in
    let e = c.index-entries-number.result in
    let size = length entries in
    let next : suc n ≡ n + 1 = omega arith in
    let stepped = ap (λ k. map (first_members (entries_view entries) k) (numbers_from 0 size)) next in
    let read = ap (λ x. x.owner) (viewed entries n e c.loop-number-test.true c.index-entries-number.is) in
    let rows = map items c.loop-number.members.items in
    elim c.match-entry.branch [
      | in-Some+in_ok-add w ↦
          let o = w.in-Some.owner in
          let owned = read ∙ w.in-Some.is in
          let ahead = before (entries_view entries) c.requires n o (omega (arith, c.loop-number-test.true, length-map entries entry_view)) owned in
          ap (λ v. map items v.items) w.members-is ∙ w.in_ok-add.ensures
          ∙ ap (λ xs. set xs o (get_or xs o [] ++ n ∷ [])) c.loop-number.invariant ∙ added (entries_view entries) n size o owned (omega (arith, ahead, c.loop-number-test.true)) ∙ stepped
      | in_default w ↦
          ap (λ v. map items v.items) w.members-is ∙ c.loop-number.invariant
          ∙ passed (entries_view entries) n size (read ∙ nothing_else e.owner w.in_default.not-Some) ∙ stepped
    ]

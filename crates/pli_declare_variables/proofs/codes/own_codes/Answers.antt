use Rattle.std.proofs.Common.{false, None, List, get_or, length, sym, ap, ◌∙◌}
use Rattle.pli_declare.specs.Faults.{item_fault}
use Rattle.pli_declare.specs.declared.place.ItemPlace.{ItemPlace}
use Rattle.pli_declare.specs.declared.place.Position.TheVariants.{AtLevelOne}
use Rattle.pli_declare.specs.Tables as plain
use Rattle.pli_declare_tables.specs.views.TableView.{entries_view}
use Rattle.pli_declare.specs.Places.{item_in, place_in, own_code}
use Rattle.pli_declare_variables.specs.answers.Walks.{cut_place_in}
use Rattle.pli_declare_variables.proofs.LevelLemmas.{view_at}
use Rattle.pli_declare_variables.proofs.NumberLemmas.{mapped_at, mapped_more}
use Rattle.pli_declare_variables.proofs.codes.own_codes.Goals as goal

abbrev no_place : ItemPlace
no_place = record { position = AtLevelOne; has_members = false; in_array = false; elements_above = None; built_in_name = false }

pub loop-number-preserved : goal.loop-number-preserved
loop-number-preserved c = λ names placed.
    let program = c.args.entries.now in
    let entries = entries_view program in
    let n = c.loop-number.number in
    let lt = c.loop-number-test.true in
    let x = c.index-entries-number.result in
    let view = view_at program n x lt c.index-entries-number.is in
    let place = ap (λ (ps : List ItemPlace). get_or ps n no_place) placed ∙ mapped_at (cut_place_in entries names) (length program) n no_place lt in
    let here = c.own_code.ensures (place_in entries names n) place ∙ ap (λ (x : plain.Entry). item_fault (place_in entries names n) (item_in x.entity)) (sym view) in
    c.in_ok-push.ensures.items ∙ mapped_more (own_code entries names) c.loop-number.codes.items n c.own_code.result (c.loop-number.invariant names placed) here

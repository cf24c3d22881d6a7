use Rattle.std.proofs.Common.{◌≡◌, ◌<◌, List, get_or, length, map, nat_eq, sym, subst, arith}
use Rattle.std.proofs.lemmas.List.{get_or-map, length-map, take_all}
use Rattle.indexmap.specs.IndexMap.{get}
use Rattle.pli_base.specs.Declarations.{Item}
use Rattle.pli_base.specs.declared.syntax.Identifier.{Identifier}
use Rattle.pli_base.specs.views.DeclarationView.{item_view}
use Rattle.pli_type_templates.specs.NotedNames.{NoteItems, NoteNames}
use Rattle.pli_type_templates.proofs.NamesNoted.{items_more}
use Rattle.pli_type_templates.proofs.item_numbers.note_items.Goals as goal

pub loop-item-preserved : goal.loop-item-preserved
loop-item-preserved c =
    let l = c.loop-item in
    let old = get nat_eq l.numbers in
    let new = get nat_eq c.note_names.new.numbers in
    let kept = c.in_ok-note_names.ensures.kept in
    let items = c.args.items.now in
    let d = c.index-items-item.result in
    let x = get_or items l.item d in
    let lt : l.item < length (map item_view items) = omega (arith, c.loop-item-test.true, length-map items item_view) in
    let is : item_view x ≡ get_or (map item_view items) l.item (item_view x) =
    sym (get_or-map item_view items l.item d (item_view x) c.loop-item-test.true) in
    record {
      here = items_more old new c.args.mark (map item_view items) l.item (item_view x) lt is l.invariant.here kept
          (subst (λ (names : List Identifier). NoteNames new names (record { mark = c.args.mark; item = l.item })) c.as_slice-names.ensures.value
          c.in_ok-note_names.ensures.here);
      kept = λ at number h. kept at number (l.invariant.kept at number h);
    }

pub returns-clause-here : goal.returns-clause-here
returns-clause-here c =
    let l = c.loop-item in
    let items = map item_view c.args.items.now in
    subst (λ (xs : List Item). NoteItems (get nat_eq l.numbers) c.args.mark xs)
    (take_all l.item items (omega (arith, c.loop-item-test.false, length-map c.args.items.now item_view))) l.invariant.here

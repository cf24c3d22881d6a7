use Rattle.std.proofs.Common.{rules, ◌≡◌, ◌⊎◌, ◌<◌, inl, inr, [], true, length, map, ap, ◌∙◌, sym, arith}
use Rattle.std.proofs.lemmas.List.{length-map}
use Rattle.pli_map.specs.views.DescriptionView.{description_view}
use Rattle.pli_type_rules.specs.References.{subscripts_at}
use Rattle.pli_type_names.proofs.TreeLemmas.{some_items}
use Rattle.pli_type_names.specs.SymbolMeaning.{is_way}
use Rattle.pli_type_names.specs.views.NameView.{part_view}
use Rattle.pli_type_tree.specs.TypedTree.{Part}
use Rattle.pli_type_tree.specs.views.TypedView.{expression_view, root_view, stride_view, subscripts_view}
use Rattle.pli_type_expression.proofs.ReferenceLemmas.{reference_is_part}
use Rattle.pli_type_expression.proofs.variable.reference_to.Goals as goal
use Rattle.pli_type_expression.proofs.variable.reference_to.Goals.{else-not-is_member-via-then-not-is_member+else-is_empty, else-not-is_member-via-else-not-is_member}

pub returns : goal.returns
returns c = λ path e.
    let part = c.args.part.now in
    let root = root_view c.args.root.value in
    let given = map expression_view c.args.subscripts.items in
    let stands : (is_way path ≡ true) ⊎ (given ≡ [] → ⊥) = elim c.else-not-is_member.branch [
      | else-not-is_member-via-then-not-is_member+else-is_empty w ↦
          let some : 0 < length c.args.subscripts.items = some_items c.args.subscripts w.is_empty.result w.is_empty.ensures w.if-is_empty.false in
          inr (λ none. omega (arith, some, ap length none, length-map c.args.subscripts.items expression_view))
      | else-not-is_member-via-else-not-is_member w ↦
          let member : c.args.is_member ≡ true = search rules in
          inl (sym e ∙ member)
    ] in
    c.part_reference.ensures
    ∙ ap (λ d. Part root part.offset d (subscripts_view c.in_ok-subscripts.subscripts.items)) c.in_ok-description.ensures
    ∙ ap (Part root part.offset (description_view part.description.now)) (c.in_ok-subscripts.ensures ∙ ap (λ ss. subscripts_at (map stride_view ss) given) c.as_slice.ensures.value)
    ∙ sym (reference_is_part root path (part_view part) given stands)

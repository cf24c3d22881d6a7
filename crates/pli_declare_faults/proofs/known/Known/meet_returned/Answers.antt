use Rattle.std.proofs.Common.{◌+◌, ◌∷◌, [], true, drop, refl, sym, ap, subst, ◌∙◌}
use Rattle.std.specs.List.{flat_map, list_all}
use Rattle.pli_declare.specs.AttributeNames.{plain_of}
use Rattle.pli_declare.specs.Declarations.{returned_by}
use Rattle.pli_declare.specs.Resolution.{described_is_good}
use Rattle.pli_declare_outline.specs.views.OutlineView.{outline_view}
use Rattle.pli_declare_faults.specs.answers.Meeting.{Meets, nothing_met}
use Rattle.pli_declare_faults.proofs.AttributesMet.{Leaves, one_met, none_met, all_met, described_good, described_simple, options_good, options_simple, returns_simple, other_good, other_simple}
use Rattle.pli_declare_faults.proofs.known.Known.meet_returned.Goals as goal
use Rattle.pli_declare_faults.proofs.known.Known.meet_returned.Goals.{in-Returns, in_default}

pub loop-option-preserved : goal.loop-option-preserved
loop-option-preserved c =
    let l = c.loop-option in
    let o = outline_view c.args.self.now.scopes.outline.now in
    let b = c.args.block in
    let all = c.options_of-options.result.now in
    let n = l.option-index in
    let x = c.option-item.result in
    let rest = drop (n + 1) all in
    elim c.match-option.branch [
      | in-Returns w ↦
          (let as' = w.in-Returns.attributes.items in
          subst (λ m. Leaves o b (options_good o b) (options_simple o b) nothing_met m all rest) (sym w.met-is)
          (one_met o b (options_good o b) (options_simple o b) nothing_met l.met w.meet_described-met.result all n x (described_good o b as') (described_simple o b as')
          c.loop-option-test.true c.option-item.is
          (ap (λ y. options_good o b (y ∷ rest)) w.in-Returns.is) (ap (λ y. options_simple o b (y ∷ rest)) w.in-Returns.is ∙ returns_simple o b w.in-Returns.attributes rest)
          (subst (λ xs. Meets l.met w.meet_described-met.result o b (described_good o b xs) (described_simple o b xs)) w.as_slice.ensures.value w.meet_described-met.ensures) l.invariant))
      | in_default w ↦
          subst (λ m. Leaves o b (options_good o b) (options_simple o b) nothing_met m all rest) (sym w.met-is)
          (one_met o b (options_good o b) (options_simple o b) nothing_met l.met l.met all n x true [] c.loop-option-test.true c.option-item.is
          (other_good o b x rest w.in_default.not-Returns) (other_simple o b x rest w.in_default.not-Returns) (none_met o b l.met true refl) l.invariant)
    ]

pub returns : goal.returns
returns c =
    let l = c.loop-option in
    let o = outline_view c.args.self.now.scopes.outline.now in
    let b = c.args.block in
    subst (λ os. Meets nothing_met l.met o b (list_all (list_all (described_is_good o b)) (returned_by os)) (flat_map plain_of (flat_map (λ attributes. attributes) (returned_by os))))
    c.options_of-options.ensures
    (all_met o b (options_good o b) (options_simple o b) nothing_met l.met c.options_of-options.result.now l.option-index c.loop-option-test.false refl refl l.invariant)

use Rattle.std.proofs.Common.{◌≡◌, Option, ◌+◌, ◌∷◌, ◌∙◌, List, Vec, Global, drop, map, refl, sym, ap}
use Rattle.std.proofs.lemmas.List.{at_drop_more}
use Rattle.pli_base.specs.views.DeclarationView.{described_view}
use Rattle.pli_base.specs.declared.declaration.DescribedAttribute.{DescribedAttribute}
use Rattle.pli_base.specs.declared.code.Code.{Code}
use Rattle.pli_declare.specs.Faults.{lesser, result_fault}
use Rattle.pli_declare.proofs.LeastFaults.{lesser_grouped}
use Rattle.pli_base.specs.views.StatementView.{option_view}
use Rattle.pli_base.specs.declared.statement.ProcedureOption.{ProcedureOption}
use Rattle.pli_base.specs.declared.statement.ProcedureOption.TheVariants.{Main, Returns, Recursive}
use Rattle.pli_declare.specs.Resolution.{least}
use Rattle.pli_declare.specs.Declarations.{returned_by}
use Rattle.pli_declare_faults.proofs.heading.returned_fault.Goals as goal
use Rattle.pli_declare_faults.proofs.heading.returned_fault.Goals.{in-Returns, in_default}

other_option : (option : ProcedureOption) (more : List ProcedureOption) → ((x : Vec DescribedAttribute Global) → option ≡ Returns x → ⊥)
    → returned_by (map option_view (option ∷ more)) ≡ returned_by (map option_view more)
other_option Main more h = refl
other_option (Returns attributes) more h = absurd (h attributes refl)
other_option Recursive more h = refl

pub loop-option-preserved : goal.loop-option-preserved
loop-option-preserved c =
    let l = c.loop-option in
    let left = least (map result_fault (returned_by (map option_view (drop (l.option-index + 1) c.args.options.now)))) in
    let step = at_drop_more (λ os. least (map result_fault (returned_by (map option_view os)))) c.args.options.now l.option-index c.option-item.result c.loop-option-test.true in
    let first : ProcedureOption → Option Code = λ o. least (map result_fault (returned_by (map option_view (o ∷ drop (l.option-index + 1) c.args.options.now)))) in
    elim c.match-option.branch [
      | in-Returns w ↦
          ap (λ a. lesser a left) (w.least-is ∙ w.lesser-least.ensures ∙ ap (lesser l.least) (w.result_fault.ensures ∙ ap (λ xs. result_fault (map described_view xs)) w.as_slice.ensures.value))
          ∙ lesser_grouped l.least (result_fault (map described_view w.in-Returns.attributes.items)) left
          ∙ ap (lesser l.least) (sym (step ∙ ap first (sym c.option-item.is ∙ w.in-Returns.is)))
          ∙ l.invariant
      | in_default w ↦
          ap (λ a. lesser a left) w.least-is
          ∙ ap (lesser l.least) (sym (step ∙ ap first (sym c.option-item.is) ∙ ap (λ returned. least (map result_fault returned)) (other_option c.option-item.result (drop (l.option-index + 1) c.args.options.now) w.in_default.not-Returns)))
          ∙ l.invariant
    ]

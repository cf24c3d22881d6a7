use Rattle.std.proofs.Common.{◌∙◌, ap, sym, subst}
use Rattle.pli_link.specs.Mismatches.{has_fault}
use Rattle.pli_link.specs.answers.Classes.{IsClassFor, known_in}
use Rattle.pli_link.specs.answers.Tables.{units_in}
use Rattle.pli_link.specs.declared.global_fault.GlobalFault.TheVariants.{Mismatch}
use Rattle.pli_code.specs.views.CodeView.{code_view, global_view}
use Rattle.pli_link.proofs.mismatches.has_fault.Goals as goal

pub returns-in-Mismatch-ExternalVariable : goal.returns-in-Mismatch-ExternalVariable
returns-in-Mismatch-ExternalVariable c = λ known have all.
    let names = c.args.names.now in
    let code = code_view c.args.code.now in
    let case = c.in-Mismatch-ExternalVariable in
    let class = subst (λ g. IsClassFor Mismatch (known_in known) code (global_view g) c.args.class) case.is-1
    (subst (λ f. IsClassFor f (known_in known) code (global_view c.args.global.now) c.args.class) case.is-0 all) in
    c.is_unlike_variable.ensures code _ known have class
    ∙ sym (ap (λ f. has_fault (units_in names) f code (global_view c.args.global.now)) case.is-0
    ∙ ap (λ g. has_fault (units_in names) Mismatch code (global_view g)) case.is-1)

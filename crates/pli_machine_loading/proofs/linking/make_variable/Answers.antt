use Rattle.std.proofs.Common.{None, Some, Ok, Err, sym, ap, subst}
use Rattle.std.specs.Prelude.{option_map}
use Rattle.pli_type_tree.specs.Templates.{variable_of}
use Rattle.pli_machine_loading.specs.answers.MadeGlobals.{Placed}
use Rattle.pli_machine_loading.proofs.linking.make_variable.Goals as goal

pub returns-in-Ok-clause-placed : goal.returns-in-Ok-clause-placed
returns-in-Ok-clause-placed c = λ statics.
    subst (λ v. Placed c.args.kind v None c.args.shared.now c.make_kind.new.shared statics (Ok (Some c.in-Ok.standing)))
    (sym (ap (option_map variable_of) c.in-Some.ensures)) (c.in-Ok.ensures.made statics)

pub returns-in-Err-clause-placed : goal.returns-in-Err-clause-placed
returns-in-Err-clause-placed c = λ statics.
    subst (λ v. Placed c.args.kind v None c.args.shared.now c.make_kind.new.shared statics (Err c.in-Err.fault))
    (sym (ap (option_map variable_of) c.in-Some.ensures)) (c.in-Err.ensures.made statics)

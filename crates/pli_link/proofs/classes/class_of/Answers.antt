use Rattle.std.proofs.Common.{sym, subst, Some, option_map}
use Rattle.pli_link.specs.answers.Classes.{IsClass, known_in}
use Rattle.pli_type_keys.specs.views.KeyView.{templated}
use Rattle.pli_link.proofs.ClassLemmas.{class_put}
use Rattle.pli_link.proofs.classes.class_of.Goals as goal

pub returns-in-Ok-clause-class : goal.returns-in-Ok-clause-class
returns-in-Ok-clause-class c =
    subst (λ t. IsClass (known_in c.insert_full.new.self.keys) (option_map templated t) (Some c.in-Ok.number)) (sym c.in-Some.is)
    (class_put c.in-Some.template c.args.known.now.keys c.insert_full.new.self.keys c.in-Ok.number c.in-Ok.ensures.keys c.in-Ok.ensures.index)

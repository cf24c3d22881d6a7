-- What a module that is read, or bytes that spell one, say of each other.
use Rattle.std.proofs.Common.{ℕ, List, Result, Ok, Err, IfOk, subst}
use Rattle.pli_code.specs.Modules as plain
use Rattle.pli_code.specs.declared.module.Module.{Module}
use Rattle.pli_code.specs.views.CodeView.{module_view}
use Rattle.pli_code.specs.Fields.{AreBytes}
use Rattle.pli_deck_write.specs.ModuleSpelling.{SpellsModule, module_read}
use Rattle.pli_deck_write.proofs.ModuleLaws.{read_module_is_spelled, spelled_module_is_read}
use Rattle.pli_base.specs.answers.FailureAnswers.{Gives}
use Rattle.pli_base.specs.declared.failure.Failure.{Failure}
use Rattle.pli_code.specs.declared.fault.DeckFault.{DeckFault}

pub spelled_if_read : (bytes : List ℕ) (result : Result Module (Failure DeckFault)) → AreBytes bytes → Gives module_view result (module_read bytes) → IfOk result (λ m. SpellsModule bytes (module_view m))
spelled_if_read bytes (Ok m) fits given = read_module_is_spelled bytes (module_view m) fits given
spelled_if_read bytes (Err e) fits given = tt

pub read_if_spelled : (bytes : List ℕ) (result : Result Module (Failure DeckFault)) (m : plain.Module) → SpellsModule bytes m → Gives module_view result (module_read bytes) → Gives module_view result (Ok m)
read_if_spelled bytes result m spells given = subst (λ read. Gives module_view result read) (spelled_module_is_read bytes m spells) given

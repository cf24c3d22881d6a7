use Rattle.std.proofs.Common.{refl, sym, subst}
use Rattle.std.proofs.lemmas.List.{nil_from_length}
use Rattle.pli_declare_scopes.specs.answers.Remembered.{AreRemembered}
use Rattle.pli_declare_scopes.proofs.remembered.forget.Goals as goal

pub returns : goal.returns
returns c = λ find. subst (AreRemembered find) (sym c.clear.ensures.empty) tt

pub returns-then-is_empty : goal.returns-then-is_empty
returns-then-is_empty c =
    λ find. subst (AreRemembered find) (sym (nil_from_length c.args.remembered.now.entries (c.if-is_empty.ensures.0 refl))) tt

use Rattle.std.proofs.Common.{subst, sym}
use Rattle.pli_declare.specs.Descriptions.{member_then}
use Rattle.pli_declare_variables.specs.answers.Measures.{IsMeasured, IsFront}
use Rattle.pli_declare_variables.proofs.SizeLemmas.{both_known, over_member}
use Rattle.pli_declare_variables.proofs.sizes.Measured.and.Goals as goal

pub returns-in-Takes-Takes : goal.returns-in-Takes-Takes
returns-in-Takes-Takes c = λ d others whole m f.
    subst (λ r. IsFront r others whole) (sym c.of.ensures)
    (both_known c.in-Takes-Takes.before c.in-Takes-Takes.member c.and.result c.and.ensures d others whole
    (subst (λ x. IsMeasured x d) c.in-Takes-Takes.is-1 m) (subst (λ x. IsFront x (member_then d others) whole) c.in-Takes-Takes.is-0 f))

pub returns-in_default : goal.returns-in_default
returns-in_default c = λ d others whole m f.
    over_member c.in_default.field-0-0 d others whole (subst (λ x. IsMeasured x d) c.in_default.is-1 m)
    (subst (λ x. IsFront x (member_then d others) whole) c.in_default.is-0 f)

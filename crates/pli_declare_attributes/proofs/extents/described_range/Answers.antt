use Rattle.std.proofs.Common.{FitsSigned, w16, subst, sym}
use Rattle.std.specs.Int.{w128}
use Rattle.std.proofs.lemmas.Int.{to_z-of_z}
use Rattle.std.proofs.Math.Facts.{sfits_widen}
use Rattle.pli_declare.specs.Extents.{low_of}
use Rattle.pli_declare_attributes.proofs.BoundsFit.{bounds_fit}
use Rattle.pli_declare_attributes.proofs.extents.described_range.Goals as goal

pub overflow_cast-result : goal.overflow_cast-result
overflow_cast-result c =
    let fit = subst (FitsSigned w16) (sym c.lower.ensures) (bounds_fit (low_of c.args.low) _ c.requires).0 in
    subst (FitsSigned w16) (sym (to_z-of_z w128 c.lower.result (sfits_widen tt fit))) fit

pub overflow_cast-result-2 : goal.overflow_cast-result-2
overflow_cast-result-2 c =
    let fit = subst (FitsSigned w16) (sym c.number.ensures) (bounds_fit (low_of c.args.low) _ c.requires).1 in
    subst (FitsSigned w16) (sym (to_z-of_z w128 c.number.result (sfits_widen tt fit))) fit

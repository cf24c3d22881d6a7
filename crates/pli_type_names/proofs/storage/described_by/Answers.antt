use Rattle.std.proofs.Common.{◌≡◌, ap, sym, ◌∙◌}
use Rattle.pli_map.specs.Description as described
use Rattle.pli_map.specs.declared.description.Description as program
use Rattle.pli_map.specs.declared.description.Description.TheFolds as folds
use Rattle.pli_map.specs.declared.description.Description.TheVariants as made
use Rattle.pli_map.specs.views.DescriptionView.{description_view, level_view}
use Rattle.pli_type_names.specs.LocatorReferences.{described_by}
use Rattle.pli_type_names.proofs.storage.described_by.Goals as goal

pointer_said : description_view made.Pointer ≡ described.Pointer
pointer_said = ap description_view (sym made.rolls-Pointer) ∙ folds.fold-roll-Description described.Description level_view program.Description-F.Pointer

offset_said : description_view made.Offset ≡ described.Offset
offset_said = ap description_view (sym made.rolls-Offset) ∙ folds.fold-roll-Description described.Description level_view program.Description-F.Offset

pub returns-in-None : goal.returns-in-None
returns-in-None c = pointer_said ∙ sym (ap described_by c.in-None.is)

pub returns-in-Some : goal.returns-in-Some
returns-in-Some c = offset_said ∙ sym (ap described_by c.in-Some.is)

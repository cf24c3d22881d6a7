use Rattle.std.proofs.Common.{◌≡◌, true, sym, subst}
use Rattle.std.proofs.lemmas.Bool.{and_parts}
use Rattle.std.specs.Option.{is_some}
use Rattle.pli_map.specs.Description.{FixedBinary}
use Rattle.pli_map.specs.Scalars.{first_scalar}
use Rattle.pli_map.specs.views.DescriptionView.{description_view}
use Rattle.pli_store.specs.answers.Kinds.{are_numbers}
use Rattle.pli_store.proofs.part.is_number_in_row.Goals as goal

pub returns-then-is_number_at : goal.returns-then-is_number_at
returns-then-is_number_at c = λ e.
    let whole = description_view c.args.whole.now in
    let offset = c.args.element.now.place.offset in
    subst (λ d. is_some (first_scalar whole offset d) ≡ true) (sym c.requires.number)
    (and_parts (are_numbers whole) (is_some (first_scalar whole offset (FixedBinary c.args.precision))) (sym c.if-is_number_at.ensures)).1

pub returns : goal.returns
returns c = λ e.
    let whole = description_view c.args.whole.now in
    let element = c.args.element.now in
    subst (λ n. is_some (first_scalar whole n (description_view element.place.description.now)) ≡ true) (sym element.sum) (c.stands_in_structure.ensures e)

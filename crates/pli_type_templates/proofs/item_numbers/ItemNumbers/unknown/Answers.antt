use Rattle.std.proofs.Common.{Some, ◌∙◌, sym}
use Rattle.std.proofs.lemmas.Option.{none-some}
use Rattle.pli_type_templates.proofs.item_numbers.ItemNumbers.unknown.Goals as goal

pub invariant_of-result : goal.invariant_of-result
invariant_of-result c =
    record { tell = λ at only number item noted name. absurd (none-some (Some only) (sym (c.no_notes-numbers.ensures at) ∙ noted)) }

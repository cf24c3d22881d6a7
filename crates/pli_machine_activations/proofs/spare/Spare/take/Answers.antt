use Rattle.std.proofs.Common.{Some}
use Rattle.std.proofs.lemmas.List.{nil_from_length}
use Rattle.std.proofs.lemmas.List.Elements.{All-pop}
use Rattle.pli_machine_activations.specs.answers.EmptyLists.{AreEmptied}
use Rattle.pli_machine_activations.proofs.spare.Spare.take.Goals as goal

pub returns-clause-owned : goal.returns-clause-owned
returns-clause-owned c =
    let last = (All-pop AreEmptied c.if-is_empty.self.lists.items c.take_last-lists.new.self.items (Some c.take_last-lists.result) c.take_last-lists.ensures.items c.if-is_empty.self.emptied).1 in
    nil_from_length _ last.owned

use Rattle.std.proofs.Common.{sym, ◌∙◌}
use Rattle.pli_map.proofs.TableLemmas.{numbered, put_in}
use Rattle.pli_map.proofs.table.Table.number.Goals as goal

pub returns-in-Ok-clause-number : goal.returns-in-Ok-clause-number
returns-in-Ok-clause-number c =
    let at = numbered c.args.self.now.descriptions.keys c.args.description in
    let is = c.in-Ok.ensures.index in
    let named = c.in-Ok.number-is in
    sym named ∙ is ∙ at

pub returns-in-Ok-clause-table : goal.returns-in-Ok-clause-table
returns-in-Ok-clause-table c =
    put_in c.args.self.now.descriptions.keys c.insert_full.new.self.keys c.args.description c.in-Ok.ensures.keys

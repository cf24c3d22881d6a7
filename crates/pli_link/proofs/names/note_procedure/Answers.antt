use Rattle.std.proofs.Common.{◌∙◌, sym}
use Rattle.pli_link.proofs.NameTables.{put_first, left_as_is}
use Rattle.pli_link.proofs.names.note_procedure.Goals as goal

pub returns : goal.returns
returns c = c.in_ok-insert.ensures.entries ∙ put_first c.args.procedures.now.entries c.args.name c.args.number (sym c.contains_key.ensures ∙ c.if-contains_key.false)

pub returns-then-contains_key : goal.returns-then-contains_key
returns-then-contains_key c = left_as_is c.args.procedures.now.entries c.args.name c.args.number (sym c.contains_key.ensures ∙ c.if-contains_key.true)

use Rattle.pli_map.proofs.TableLemmas.{distinct}
use Rattle.pli_map.proofs.table.Table.is_distinct.Goals as goal

pub returns : goal.returns
returns c = distinct c.args.self.now.descriptions.keys c.len-count.ensures.unique

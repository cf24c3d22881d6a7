use Rattle.pli_map.proofs.TableLemmas.{put_in}
use Rattle.pli_map.proofs.table.put.Goals as goal

pub returns-in-Ok : goal.returns-in-Ok
returns-in-Ok c = put_in c.args.descriptions.now.keys c.insert.new.self.keys c.args.description c.in-Ok.ensures.keys

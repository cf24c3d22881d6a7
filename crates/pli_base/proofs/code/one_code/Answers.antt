use Rattle.pli_base.proofs.CodeTable.{one_code_by_label, one_code_by_text}
use Rattle.pli_base.proofs.code.one_code.Goals as goal

pub returns : goal.returns
returns c = record { label = one_code_by_label; text = one_code_by_text }

use Rattle.std.proofs.Common.{◌≡◌, ◌++◌, drop}
use Rattle.pli_base.specs.views.StatementView as source
use Rattle.pli_type_rules.specs.StatementTyping as spec
use Rattle.pli_type_parts.proofs.labels.labels_of.Given as goal

-- the labels so far in front of those of the statements that are left
abbrev pub invariant-loop-statement : goal.invariant-loop-statement
invariant-loop-statement l =
    l.labels.items ++ spec.labels_of (source.statements_view (drop l.statement-index l.statements))
    ≡ spec.labels_of (source.statements_view l.statements)

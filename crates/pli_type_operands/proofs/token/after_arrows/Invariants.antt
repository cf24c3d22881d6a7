use Rattle.std.proofs.Common.{◌≡◌, drop}
use Rattle.pli_base.specs.views.SyntaxView.{joined_view}
use Rattle.pli_type_rules.specs.Typing.{after_arrows}
use Rattle.pli_type_operands.proofs.token.after_arrows.Given as goal

-- the last name after an arrow so far, with those of the parts that are left
abbrev pub invariant-loop-part : goal.invariant-loop-part
invariant-loop-part l =
    after_arrows l.last (joined_view (drop l.part-index l.joined)) ≡ after_arrows l.fn.at (joined_view l.joined)

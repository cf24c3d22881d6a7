use Rattle.std.proofs.Common.{◌≡◌, ◌≤◌, ◌+◌, length, map}
use Rattle.pli_parse_statement.specs.StatementReading.{options_from}
use Rattle.pli_base.specs.views.StatementView.{option_view}
use Rattle.pli_parse_statement.proofs.StatementOptions.{OptionsLeft}
use Rattle.pli_parse_statement.proofs.heading.options_from.Given as goal

-- the options that were read, in front of those that are left, are all of them
abbrev pub invariant-loop-word : goal.invariant-loop-word
invariant-loop-word l =
    record {
      value : OptionsLeft (map option_view l.options.items) l.next l.rest (options_from (length l.fn.texts + 1) l.fn.at l.fn.texts);
      place : (l.fn.at ≤ l.next) × (l.next + length l.rest ≡ l.fn.at + length l.fn.texts);
    }

abbrev pub decreases-loop-word : goal.decreases-loop-word
decreases-loop-word l = length l.rest

use Rattle.std.proofs.Common.{ℕ, ◌+◌, Some, drop, sym, ap, ◌∙◌, option_map}
use Rattle.std.proofs.lemmas.List.{take_rest}
use Rattle.pli_commands.specs.Commands.{is_blank}
use Rattle.pli_commands.proofs.FirstWordFound.{before_none, before_some}
use Rattle.pli_commands.proofs.command.split_word.Goals as goal

pub returns-in-None-clause-word : goal.returns-in-None-clause-word
returns-in-None-clause-word c = sym (before_none is_blank c.args.text.now (sym c.in-None.ensures))

pub returns-in-Some-clause-word : goal.returns-in-Some-clause-word
returns-in-Some-clause-word c = sym (before_some is_blank c.args.text.now c.in-Some.at (sym c.in-Some.ensures))

pub returns-in-Some-clause-rest : goal.returns-in-Some-clause-rest
returns-in-Some-clause-rest c =
    let text = c.args.text.now in
    ap Some (take_rest text (c.in-Some.at + 1)) ∙ ap (option_map (λ (k : ℕ). drop (k + 1) text)) c.in-Some.ensures

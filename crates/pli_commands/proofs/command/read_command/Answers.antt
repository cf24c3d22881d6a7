use Rattle.std.proofs.Common.{◌∙◌, sym}
use Rattle.pli_commands.proofs.CommandsAlike.{commands_alike}
use Rattle.pli_commands.proofs.command.read_command.Goals as goal

pub returns : goal.returns
returns c = c.read_words.ensures ∙ sym (commands_alike c.args.line.now)

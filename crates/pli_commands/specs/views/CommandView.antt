-- What a command of the program says.
use Rattle.pli_commands.specs.Commands as spelt
use Rattle.pli_commands.specs.declared.command.Command.{Command}
use Rattle.pli_commands.specs.declared.command.Command.TheVariants.{Add, Delete, Insert, Replace, Remove}
use Rattle.pli_commands.specs.declared.command.Command.TheVariants.{ListLines, ListMembers, Build}
use Rattle.pli_commands.specs.declared.command.Command.TheVariants.{ListWork, Dump, Run, Quit}

-- the same command, without the places of names and texts
abbrev pub command_view : Command → spelt.Command
command_view (Add member kind) = spelt.Add member.name kind
command_view (Delete member) = spelt.Delete member.name
command_view (Insert member after text) = spelt.Insert member.name after text.now
command_view (Replace member number text) = spelt.Replace member.name number text.now
command_view (Remove member first last) = spelt.Remove member.name first last
command_view (ListLines member) = spelt.ListLines member.name
command_view ListMembers = spelt.ListMembers
command_view Build = spelt.Build
command_view ListWork = spelt.ListWork
command_view Dump = spelt.Dump
command_view (Run steps) = spelt.Run steps
command_view Quit = spelt.Quit

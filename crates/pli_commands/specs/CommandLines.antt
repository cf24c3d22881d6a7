-- The command that a line spells (own).
use Rattle.std.specs.Prelude.{ℕ, nat_lt, List, [], codes, length, Option, Some, None, option_map, unwrap_or}
use Rattle.std.specs.Prelude.{if◌then◌else◌}
use Rattle.std.specs.Option.{option_and_then}
use Rattle.pli_base.specs.Name.{Name, name_of}
use Rattle.pli_type_unit.specs.Found.{◌>>=◌}
use Rattle.pli_commands.specs.Commands.{Command, Add, Delete, Insert, Replace, Remove, ListLines, ListMembers}
use Rattle.pli_commands.specs.Commands.{Build, ListWork, Dump, Quit, line_limit, first_word, after_blank}
use Rattle.pli_commands.specs.Commands.{is_word, number_of, alone, kind_of_word, run_of}

-- `name SOURCE` or `name INCLUDE`
abbrev pub add_of : List ℕ → Option Command
add_of text = do
  word ← after_blank text
  name ← name_of (first_word text)
  option_map (Add name) (kind_of_word word)

-- `name k text`, where an empty text may stand without its blank
abbrev pub numbered_of : (Name → ℕ → List ℕ → Command) → List ℕ → Option Command
numbered_of command text = do
  rest ← after_blank text
  name ← name_of (first_word text)
  number ← number_of 9 (first_word rest)
  Some (command name number (unwrap_or (after_blank rest) []))

-- `name a b`
abbrev pub remove_of : List ℕ → Option Command
remove_of text = do
  rest ← after_blank text
  last ← after_blank rest
  name ← name_of (first_word text)
  first ← number_of 9 (first_word rest)
  option_map (Remove name first) (number_of 9 last)

-- the command of this word, with what stands after the word's blank
abbrev pub command_with : (word : List ℕ) → (rest : Option (List ℕ)) → Option Command
command_with word rest =
    if is_word (codes "ADD") word then option_and_then add_of rest
    else (if is_word (codes "DELETE") word then option_map Delete (option_and_then name_of rest)
    else (if is_word (codes "INSERT") word then option_and_then (numbered_of Insert) rest
    else (if is_word (codes "REPLACE") word then option_and_then (numbered_of Replace) rest
    else (if is_word (codes "REMOVE") word then option_and_then remove_of rest
    else (if is_word (codes "LIST") word then option_map ListLines (option_and_then name_of rest)
    else (if is_word (codes "MEMBERS") word then alone ListMembers rest
    else (if is_word (codes "BUILD") word then alone Build rest
    else (if is_word (codes "LEDGER") word then alone ListWork rest
    else (if is_word (codes "DUMP") word then alone Dump rest
    else (if is_word (codes "RUN") word then run_of rest
    else (if is_word (codes "QUIT") word then alone Quit rest
    else None)))))))))))

-- the command that a line spells
abbrev pub command_of : List ℕ → Option Command
command_of line =
    if nat_lt line_limit (length line) then None else command_with (first_word line) (after_blank line)

-- The command that a line spells, as it is read.
use Rattle.std.specs.Prelude.{◌≡◌, ℕ, nat_lt, List, [], codes, length, Option, Some, None, option_map, unwrap_or, if◌then◌else◌, refl}
use Rattle.std.specs.Option.{option_and_then}
use Rattle.std.proofs.Common.{ap}
use Rattle.pli_base.specs.Name.{Name, name_of}
use Rattle.pli_members.specs.declared.kind.MemberKind.{MemberKind}
use Rattle.pli_commands.specs.Commands as read
use Rattle.pli_commands.specs.Commands.{Command, Add, Delete, Insert, Replace, Remove, ListLines, ListMembers, Build, ListWork, Dump, Quit, NumberedText, line_limit, first_word, after_blank, is_word, number_of, alone, kind_of_word, run_of}
use Rattle.pli_commands.specs.CommandLines.{add_of, numbered_of, remove_of, command_with, command_of}

add_alike : (text : List ℕ) → add_of text ≡ read.add_of text
add_alike text = by (after_blank text) (name_of (first_word text))
  where
    both : (name : Option Name) (kind : Option MemberKind) → option_and_then (λ n. option_map (Add n) kind) name ≡ read.add_with name kind
    both None kind = refl
    both (Some n) None = refl
    both (Some n) (Some kind) = refl

    by : (word : Option (List ℕ)) (name : Option Name)
        → option_and_then (λ w. option_and_then (λ n. option_map (Add n) (kind_of_word w)) name) word ≡ option_and_then (λ w. read.add_with name (kind_of_word w)) word
    by None name = refl
    by (Some w) name = both name (kind_of_word w)

numbered_alike : (command : Name → ℕ → List ℕ → Command) (text : List ℕ) → numbered_of command text ≡ option_map (λ (t : NumberedText). command t.name t.number t.text) (read.numbered_of text)
numbered_alike command text = by (after_blank text) (name_of (first_word text))
  where
    both : (name : Option Name) (number : Option ℕ) (t : List ℕ)
        → option_and_then (λ n. option_and_then (λ k. Some (command n k t)) number) name ≡ option_map (λ (x : NumberedText). command x.name x.number x.text) (read.numbered_with name number t)
    both None number t = refl
    both (Some n) None t = refl
    both (Some n) (Some k) t = refl

    by : (rest : Option (List ℕ)) (name : Option Name)
        → option_and_then (λ r. option_and_then (λ n. option_and_then (λ k. Some (command n k (unwrap_or (after_blank r) []))) (number_of 9 (first_word r))) name) rest
        ≡ option_map (λ (x : NumberedText). command x.name x.number x.text) (option_and_then (λ r. read.numbered_with name (number_of 9 (first_word r)) (unwrap_or (after_blank r) [])) rest)
    by None name = refl
    by (Some r) name = both name (number_of 9 (first_word r)) (unwrap_or (after_blank r) [])

removed : (name : Option Name) (first last : Option ℕ) → option_and_then (λ n. option_and_then (λ k. option_map (Remove n k) last) first) name ≡ read.remove_with name first last
removed None first last = refl
removed (Some n) None last = refl
removed (Some n) (Some k) None = refl
removed (Some n) (Some k) (Some l) = refl

remove_alike : (text : List ℕ) → remove_of text ≡ read.remove_of text
remove_alike text = λ i.
    option_and_then (λ rest. option_and_then (λ last. removed (name_of (first_word text)) (number_of 9 (first_word rest)) (number_of 9 last) i) (after_blank rest)) (after_blank text)

named_alike : (command : Name → Command) (rest : Option (List ℕ)) → option_map command (option_and_then name_of rest) ≡ option_and_then (λ text. option_map command (name_of text)) rest
named_alike command None = refl
named_alike command (Some text) = refl

with_alike : (word : List ℕ) (rest : Option (List ℕ)) → command_with word rest ≡ read.command_with word rest
with_alike word rest = λ i.
    if is_word (codes "ADD") word then option_and_then (λ t. add_alike t i) rest
    else (if is_word (codes "DELETE") word then named_alike Delete rest i
    else (if is_word (codes "INSERT") word then option_and_then (λ t. numbered_alike Insert t i) rest
    else (if is_word (codes "REPLACE") word then option_and_then (λ t. numbered_alike Replace t i) rest
    else (if is_word (codes "REMOVE") word then option_and_then (λ t. remove_alike t i) rest
    else (if is_word (codes "LIST") word then named_alike ListLines rest i
    else (if is_word (codes "MEMBERS") word then alone ListMembers rest
    else (if is_word (codes "BUILD") word then alone Build rest
    else (if is_word (codes "LEDGER") word then alone ListWork rest
    else (if is_word (codes "DUMP") word then alone Dump rest
    else (if is_word (codes "RUN") word then run_of rest
    else (if is_word (codes "QUIT") word then alone Quit rest
    else None)))))))))))

-- what a line spells is what is read
pub commands_alike : (line : List ℕ) → command_of line ≡ read.command_of line
commands_alike line = ap (λ c. if nat_lt line_limit (length line) then None else c) (with_alike (first_word line) (after_blank line))

-- The commands that a line can spell (own).
use Rattle.std.specs.Prelude.{◌≡◌, ℕ, ◌+◌, nat_eq, nat_lt, nat_le, Bool, ◌&&◌, List, [], codes}
use Rattle.std.specs.Prelude.{length, drop, Option, Some, None, option_map, unwrap_or, if◌then◌else◌}
use Rattle.std.specs.Prelude.{refl}
use Rattle.std.specs.Option.{option_and_then}
use Rattle.std.specs.List.{list_all, position, before_first}
use Rattle.std.specs.Str.{str_eq_ignore_ascii_case}
use Rattle.pli_base.specs.Digits.{value_in}
use Rattle.pli_base.specs.Name.{Name, is_digit, name_of}
use Rattle.pli_members.specs.declared.kind.MemberKind.{MemberKind}
use Rattle.pli_members.specs.declared.kind.MemberKind.TheVariants.{Source, Include}

-- a command
pub data Command : Type 0 where
  -- a new member of this kind, without lines
  Add : (name : Name) (kind : MemberKind) → Command
  -- a member goes
  Delete : (name : Name) → Command
  -- a new line after the line of this number, 0 for the front
  Insert : (name : Name) (after : ℕ) (text : List ℕ) → Command
  -- another text for the line of this number, 1 for the first
  Replace : (name : Name) (number : ℕ) (text : List ℕ) → Command
  -- the lines from the first to the last go
  Remove : (name : Name) (first last : ℕ) → Command
  -- the lines of a member are listed
  ListLines : (name : Name) → Command
  -- the members are listed
  ListMembers : Command
  -- the source members are built
  Build : Command
  -- how many units the last build has expanded and compiled
  ListWork : Command
  -- the bytes of the module that stands are shown
  Dump : Command
  -- the module that stands is run, with so many steps, or the bench's own number
  Run : (steps : Option ℕ) → Command
  -- the session ends
  Quit : Command

-- the greatest number of bytes in a command
abbrev pub line_limit : ℕ
line_limit = 200

-- a blank; a tab is none
abbrev pub is_blank : ℕ → Bool
is_blank c = nat_eq c 32

-- the word at the front of a text: what stands before the first blank
abbrev pub first_word : List ℕ → List ℕ
first_word text = before_first is_blank text

-- what stands after the first blank, if there is one
abbrev pub after_blank : List ℕ → Option (List ℕ)
after_blank text = option_map (λ k. drop (k + 1) text) (position is_blank text)

-- words are one in either case
abbrev pub is_word : List ℕ → List ℕ → Bool
is_word word text = str_eq_ignore_ascii_case text word

-- the number that one to so many digits spell
abbrev pub number_of : (limit : ℕ) → List ℕ → Option ℕ
number_of limit digits =
    if nat_lt 0 (length digits) && nat_le (length digits) limit && list_all is_digit digits
    then Some (value_in 10 digits) else None

-- the command, where nothing stands after its word
abbrev pub alone : Command → Option (List ℕ) → Option Command
alone command None = Some command
alone command (Some rest) = None

-- the kind that a word names
abbrev pub kind_of_word : List ℕ → Option MemberKind
kind_of_word word =
    if is_word (codes "SOURCE") word then Some Source
    else (if is_word (codes "INCLUDE") word then Some Include else None)

-- the addition, where its name and its kind are of their form
abbrev pub add_with : Option Name → Option MemberKind → Option Command
add_with (Some name) (Some kind) = Some (Add name kind)
add_with name kind = None

-- `name SOURCE` or `name INCLUDE`
abbrev pub add_of : List ℕ → Option Command
add_of text =
    option_and_then (λ word. add_with (name_of (first_word text)) (kind_of_word word)) (after_blank text)

-- `name`
abbrev pub delete_of : List ℕ → Option Command
delete_of text = option_map Delete (name_of text)

-- a line of a member, and a text for it
pub record NumberedText : Type 0 where
  pub name : Name
  pub number : ℕ
  pub text : List ℕ

-- these parts
abbrev pub numbered_text : Name → ℕ → List ℕ → NumberedText
numbered_text name number text = record { name = name; number = number; text = text }

-- the line and its text, where the name and the number are of their form
abbrev pub numbered_with : Option Name → Option ℕ → (text : List ℕ) → Option NumberedText
numbered_with (Some name) (Some number) text = Some (numbered_text name number text)
numbered_with name number text = None

-- `name k text`, where an empty text may stand without its blank
abbrev pub numbered_of : List ℕ → Option NumberedText
numbered_of text =
    option_and_then (λ rest. numbered_with (name_of (first_word text)) (number_of 9 (first_word rest))
    (unwrap_or (after_blank rest) [])) (after_blank text)

-- what stands after INSERT
abbrev pub insert_of : List ℕ → Option Command
insert_of text = option_map (λ t. Insert t.name t.number t.text) (numbered_of text)

-- what stands after REPLACE
abbrev pub replace_of : List ℕ → Option Command
replace_of text = option_map (λ t. Replace t.name t.number t.text) (numbered_of text)

-- the removal, where its name and both its numbers are of their form
abbrev pub remove_with : Option Name → Option ℕ → Option ℕ → Option Command
remove_with (Some name) (Some first) (Some last) = Some (Remove name first last)
remove_with name first last = None

-- `name a b`
abbrev pub remove_of : List ℕ → Option Command
remove_of text = option_and_then after_name (after_blank text)
  where
    after_name : List ℕ → Option Command
    after_name rest =
        option_and_then
        (λ last. remove_with (name_of (first_word text)) (number_of 9 (first_word rest)) (number_of 9 last))
        (after_blank rest)

-- `name`
abbrev pub list_of : List ℕ → Option Command
list_of text = option_map ListLines (name_of text)

-- nothing, or `n`
abbrev pub run_of : Option (List ℕ) → Option Command
run_of None = Some (Run None)
run_of (Some digits) = option_map (λ n. Run (Some n)) (number_of 18 digits)

-- the command of this word, with what stands after the word's blank
abbrev pub command_with : (word : List ℕ) → (rest : Option (List ℕ)) → Option Command
command_with word rest =
    if is_word (codes "ADD") word then option_and_then add_of rest
    else (if is_word (codes "DELETE") word then option_and_then delete_of rest
    else (if is_word (codes "INSERT") word then option_and_then insert_of rest
    else (if is_word (codes "REPLACE") word then option_and_then replace_of rest
    else (if is_word (codes "REMOVE") word then option_and_then remove_of rest
    else (if is_word (codes "LIST") word then option_and_then list_of rest
    else (if is_word (codes "MEMBERS") word then alone ListMembers rest
    else (if is_word (codes "BUILD") word then alone Build rest
    else (if is_word (codes "LEDGER") word then alone ListWork rest
    else (if is_word (codes "DUMP") word then alone Dump rest
    else (if is_word (codes "RUN") word then run_of rest
    else (if is_word (codes "QUIT") word then alone Quit rest
    else None)))))))))))

-- the command that a line spells
abbrev pub command_of : List ℕ → Option Command
command_of line =
    if nat_lt line_limit (length line) then None else command_with (first_word line) (after_blank line)

spelt_insert : command_of (codes "insert m 0 M: x") ≡ Some (Insert (codes "M") 0 (codes "M: x"))
spelt_insert = refl

spelt_insert_of_nothing : command_of (codes "INSERT M 0") ≡ Some (Insert (codes "M") 0 [])
spelt_insert_of_nothing = refl

spelt_insert_of_nothing_after_a_blank : command_of (codes "INSERT M 0 ") ≡ Some (Insert (codes "M") 0 [])
spelt_insert_of_nothing_after_a_blank = refl

spelt_insert_of_blanks : command_of (codes "INSERT M 1  X ") ≡ Some (Insert (codes "M") 1 (codes " X "))
spelt_insert_of_blanks = refl

spelt_add : command_of (codes "add main_1 Source") ≡ Some (Add (codes "MAIN_1") Source)
spelt_add = refl

spelt_include : command_of (codes "ADD k include") ≡ Some (Add (codes "K") Include)
spelt_include = refl

unspelt_kind : command_of (codes "ADD K INCLUDES") ≡ None
unspelt_kind = refl

spelt_replace : command_of (codes "Replace m 12 ;;") ≡ Some (Replace (codes "M") 12 (codes ";;"))
spelt_replace = refl

spelt_replace_by_nothing : command_of (codes "REPLACE M 1") ≡ Some (Replace (codes "M") 1 [])
spelt_replace_by_nothing = refl

spelt_remove : command_of (codes "remove M 2 0013") ≡ Some (Remove (codes "M") 2 13)
spelt_remove = refl

unspelt_remove_of_one_number : command_of (codes "REMOVE M 2") ≡ None
unspelt_remove_of_one_number = refl

unspelt_remove_after_a_blank : command_of (codes "REMOVE M 2 3 ") ≡ None
unspelt_remove_after_a_blank = refl

spelt_list : command_of (codes "LIST m") ≡ Some (ListLines (codes "M"))
spelt_list = refl

unspelt_list : command_of (codes "LIST") ≡ None
unspelt_list = refl

spelt_members : command_of (codes "members") ≡ Some ListMembers
spelt_members = refl

unspelt_members : command_of (codes "MEMBERS M") ≡ None
unspelt_members = refl

unspelt_name : command_of (codes "DELETE 1M") ≡ None
unspelt_name = refl

spelt_ledger : command_of (codes "Ledger") ≡ Some ListWork
spelt_ledger = refl

unspelt_ledger : command_of (codes "LEDGER M") ≡ None
unspelt_ledger = refl

spelt_dump : command_of (codes "Dump") ≡ Some Dump
spelt_dump = refl

unspelt_dump : command_of (codes "DUMP M") ≡ None
unspelt_dump = refl

spelt_run : command_of (codes "RUN 007") ≡ Some (Run (Some 7))
spelt_run = refl

unspelt_run : command_of (codes "run  3") ≡ None
unspelt_run = refl

unspelt_build_after_a_blank : command_of (codes " BUILD") ≡ None
unspelt_build_after_a_blank = refl

unspelt_build_before_a_blank : command_of (codes "BUILD ") ≡ None
unspelt_build_before_a_blank = refl

unspelt_number : command_of (codes "INSERT M 0000000001 X") ≡ None
unspelt_number = refl

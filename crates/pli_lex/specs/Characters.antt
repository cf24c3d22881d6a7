-- The characters of the language, and the text of lines (X3.74; `$` in names is own).
use Rattle.std.specs.Prelude.{ℕ, ◌-◌, nat_eq, nat_le, Bool, false, ◌&&◌, ◌||◌, not, List, [], ◌∷◌, ◌++◌}
use Rattle.std.specs.Prelude.{if◌then◌else◌}
use Rattle.std.specs.List.{count_by, list_all}
use Rattle.pli_base.specs.Name.{is_digit, is_name_character, upper}

-- the end of a line, which is no byte
abbrev pub line_end : ℕ
line_end = 256

-- the character is the end of a line
abbrev pub is_line_end : ℕ → Bool
is_line_end c = nat_eq c line_end

-- the text of lines: each line and its end
abbrev pub text_of : List (List ℕ) → List ℕ
text_of [] = []
text_of (line ∷ lines) = line ++ line_end ∷ text_of lines

-- how many lines end in a text
abbrev pub line_ends : List ℕ → ℕ
line_ends text = count_by is_line_end text

-- the text has no line end
abbrev pub on_one_line : List ℕ → Bool
on_one_line text = list_all (λ c. not (is_line_end c)) text

-- a blank, a tab or the end of a line
abbrev pub is_blank : ℕ → Bool
is_blank c = nat_eq c 32 || nat_eq c 9 || is_line_end c

-- `'`
abbrev pub is_quote : ℕ → Bool
is_quote c = nat_eq c 39

-- `B`, in either case
abbrev pub is_b : ℕ → Bool
is_b c = nat_eq (upper c) 66

-- `0` or `1`
abbrev pub is_binary_digit : ℕ → Bool
is_binary_digit c = nat_le 48 c && nat_le c 49

-- `1` to `4`
abbrev pub is_width_digit : ℕ → Bool
is_width_digit c = nat_le 49 c && nat_le c 52

-- the value of a digit, `a` to `f` being `A` to `F`; 16, which is none's, of any other character
abbrev pub digit_value : ℕ → ℕ
digit_value c =
    if is_digit c then c - 48
    else (if nat_le 65 (upper c) && nat_le (upper c) 70 then upper c - 55
    else 16)

-- a name character or `.` (46): what no number has directly after it
abbrev pub continues_number : ℕ → Bool
continues_number c = is_name_character c || nat_eq c 46

-- the text's first character, if it has one, is of this kind
abbrev pub begins_with : (ℕ → Bool) → List ℕ → Bool
begins_with kind [] = false
begins_with kind (c ∷ cs) = kind c

-- the text begins with `/*`
abbrev pub begins_comment : List ℕ → Bool
begins_comment (c ∷ d ∷ cs) = nat_eq c 47 && nat_eq d 42
begins_comment others = false

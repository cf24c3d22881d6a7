-- Names: what a reader must believe of them (X3.74; `$` is own).
use Rattle.std.specs.Prelude.{ℕ, ◌-◌, nat_le, nat_eq, Bool, false, ◌&&◌, ◌||◌, List, [], ◌∷◌, map, length}
use Rattle.std.specs.Prelude.{Option, Some, None, if◌then◌else◌}
use Rattle.std.specs.List.{list_all}

-- a name is a list of characters, none of them in lower case
abbrev pub Name : Type 0
Name = List ℕ

-- A to Z
abbrev pub is_upper : ℕ → Bool
is_upper c = nat_le 65 c && nat_le c 90

-- a to z
abbrev pub is_lower : ℕ → Bool
is_lower c = nat_le 97 c && nat_le c 122

-- a letter
abbrev pub is_letter : ℕ → Bool
is_letter c = is_upper c || is_lower c

-- 0 to 9
abbrev pub is_digit : ℕ → Bool
is_digit c = nat_le 48 c && nat_le c 57

-- a letter, a digit, `_` or `$`
abbrev pub is_name_character : ℕ → Bool
is_name_character c = is_letter c || is_digit c || nat_eq c 95 || nat_eq c 36

-- lower case letters equal upper case
abbrev pub upper : ℕ → ℕ
upper c = if is_lower c then c - 32 else c

-- a letter followed by letters, digits, `_` or `$`
abbrev pub has_form : List ℕ → Bool
has_form [] = false
has_form (c ∷ cs) = is_letter c && list_all is_name_character cs

-- the name that a text spells: 1 to 31 bytes of the form, in upper case
abbrev pub name_of : List ℕ → Option Name
name_of text = if has_form text && nat_le (length text) 31 then Some (map upper text) else None

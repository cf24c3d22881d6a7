-- The lists of statements round a place, the outermost first, as a walk keeps them.
use Rattle.std.specs.Prelude.{ℕ, suc, nat_eq, Bool, true, false, ◌&&◌, Option, Some, None, option_map}
use Rattle.std.specs.Prelude.{List, [], ◌∷◌, if◌then◌else◌}
use Rattle.std.specs.List.{list_any}
use Rattle.pli_map.specs.Description.{Description}
use Rattle.pli_type_rules.specs.StatementTyping.{Enclosing, Surroundings, block_at, lasting_alone}
use Rattle.pli_type_rules.specs.StatementTyping.{with_labels}

-- a list with its labels: that of a block of this number, which may be an ON-unit, or of a group
pub record Listing : Type 0 where
  pub block : Option ℕ
  pub is_on_unit : Bool
  pub labels : List ℕ

-- the lists round a place; how many of its blocks are BEGIN blocks of the procedure; and what that gives, if
-- it is a function
pub record Around : Type 0 where
  pub lists : List Listing
  pub begins : ℕ
  pub value : Option Description

-- the blocks round a block, as it knows them
abbrev pub seen_from : (is_on_unit : Bool) → List Enclosing → List Enclosing
seen_from false around = around
seen_from true around = lasting_alone around

-- the blocks round what stands in a list
abbrev pub blocks_with : Option ℕ → (is_on_unit : Bool) → (labels : List ℕ) → List Enclosing → List Enclosing
blocks_with None is_on_unit labels around = with_labels labels around
blocks_with (Some number) is_on_unit labels around =
    record { number = number; labels = labels; lasting = labels } ∷ seen_from is_on_unit around

-- in lists that stand in these blocks
abbrev pub blocks_from : List Enclosing → List Listing → List Enclosing
blocks_from around [] = around
blocks_from around (l ∷ ls) = blocks_from (blocks_with l.block l.is_on_unit l.labels around) ls

-- the blocks round what stands in these lists
abbrev pub blocks_of : List Listing → List Enclosing
blocks_of lists = blocks_from [] lists

-- where a statement stands that stands in these lists
abbrev pub surroundings_of : Around → Surroundings
surroundings_of a = record { blocks = blocks_of a.lists; begins = a.begins; value = a.value }

-- a label, if there is one
abbrev pub label_if : Bool → ℕ → List ℕ
label_if false number = []
label_if true number = number ∷ []

-- the number of the block here
abbrev pub number_of : List Enclosing → ℕ
number_of bs = block_at (record { blocks = bs; begins = 0; value = None })

-- in the list of an external procedure, with these labels, which gives this if it is a function
abbrev pub outermost : List ℕ → (value : Option Description) → Around
outermost labels value =
    record {
      lists = record { block = Some 0; is_on_unit = false; labels = labels } ∷ [];
      begins = 0;
      value = value;
    }

-- The search for a label goes from list to list, the outermost first. It keeps how many static links outward
-- the label is, and how many among the labels that last in the innermost block.

-- gone into a list of a block of this number, or of a group
abbrev pub gone_into : (block : Option ℕ) → (is_on_unit : Bool) → (found lasting : Option ℕ) → Option ℕ
gone_into None is_on_unit found lasting = found
gone_into (Some number) is_on_unit found lasting = option_map suc (if is_on_unit then lasting else found)

-- a list with these labels, in a block or in none
abbrev pub found_in : (label : ℕ) → (is_inside : Bool) → (labels : List ℕ) → (found : Option ℕ) → Option ℕ
found_in label is_inside labels found =
    if is_inside && list_any (nat_eq label) labels then Some 0 else found

-- after a list of a block, all its labels last
abbrev pub kept_after : (block : Option ℕ) → (found lasting : Option ℕ) → Option ℕ
kept_after None found lasting = lasting
kept_after (Some number) found lasting = found

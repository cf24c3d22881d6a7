-- Code that is too long.
use Rattle.std.proofs.Common.{◌≡◌, ℕ, suc, ◌+◌, ◌≤◌, ◌<◌, ◌||◌, ◌&&◌, not, nat_lt, min, Bool, true, false, true≢false, Vec, List, [], ◌∷◌, map, drop, get_or, length, refl, sym, ap, ◌∙◌, arith}
use Rattle.std.specs.Global.{Global}
use Rattle.std.specs.Prelude.{fold}
use Rattle.std.specs.List.{list_all, list_any, sum_by, AllByRecursion}
use Rattle.std.specs.Option.{option_and_then}
use Rattle.std.proofs.lemmas.Bool.Decides.{nat_tests}
use Rattle.std.proofs.lemmas.List.{at_drop_more, length-map}
use Rattle.pli_map.specs.Description as tree
use Rattle.pli_map.specs.Description.{Description}
use Rattle.pli_map.specs.ParameterTypes.{ParameterType, Stated, same_type, stated}
use Rattle.pli_map.specs.laws.ParameterLaws.{same_type_decides}
use Rattle.pli_program.specs.Program as programs
use Rattle.pli_map.specs.declared.description.Description as program
use Rattle.pli_map.specs.declared.description.Description.TheVariants as made
use Rattle.pli_map.specs.declared.description.Description.TheFolds as folds
use Rattle.pli_map.specs.views.DescriptionView as view
use Rattle.pli_map.specs.views.DescriptionView.{description_view, members_view}
use Rattle.pli_type_tree.specs.Templates.{InitialScalar, Template}
use Rattle.pli_type_tree.specs.TypedTree as typed
use Rattle.pli_type_tree.specs.TypedTree.{TypedUnit}
use Rattle.pli_code.specs.CodeFields as fields
use Rattle.pli_gen_emit.specs.TreeTranslation.{BlockTree, place_after, block_code}
use Rattle.pli_gen_emit.specs.Encoding.{NumberedTables, number_in, template_number, template_code, global_code, instruction_code, coded_blocks, coded_unit}
use Rattle.pli_gen.specs.Limits.{is_over, member_count, has_many_members, one_has_many, has_many_types, has_many_slots, bytes_of, initial_bytes_of, initial_bytes, has_wide_number, is_too_long}
use Rattle.pli_gen_emit.specs.answers.Instructions.{instruction_fits}
use Rattle.pli_gen.specs.answers.Pieces.{block_fits, takes_many_slots, template_bytes, HaveDescriptions}
use Rattle.pli_gen.proofs.FieldLemmas.{blocks_as_coded, instructions_as_coded, both_of}
use Rattle.pli_gen_emit.proofs.TableNumbers.{Has, number_stands}
use Rattle.pli_gen_emit.specs.views.BlockView.{block_tree, block_trees}
use Rattle.pli_type_keys.specs.views.KeyView.{templated}
use Rattle.pli_gen_emit.specs.declared.block.BlockSource.{BlockSource}
use Rattle.pli_type_keys.specs.declared.key.TemplateKey.{TemplateKey}

pub over : (limit n : ℕ) → limit < n → nat_lt limit n ≡ true
over limit n h = grind (arith, nat_tests)

pub within : (limit n : ℕ) → n ≤ limit → nat_lt limit n ≡ false
within limit n h = grind (arith, nat_tests)

-- whether one of what is left is, one element more
pub any_next : {X : Type 0} (all : List X → Bool) (one : X → Bool) → ((x : X) (xs : List X) → all (x ∷ xs) ≡ (one x || all xs))
    → (xs : List X) (i : ℕ) (d : X) (found whole : Bool) → i < length xs → d ≡ get_or xs i d → found ≡ one d
    → all (drop i xs) ≡ whole → (found || all (drop (i + 1) xs)) ≡ whole
any_next all one splits xs i d found whole lt read is was =
    let rest = drop (i + 1) xs in
    ap (λ b. b || all rest) (is ∙ ap one read) ∙ sym (splits (get_or xs i d) rest) ∙ sym (at_drop_more all xs i d lt) ∙ was

-- sums of bytes
grows : (ts : List Template) (n : ℕ) → n ≤ fold (λ sum t. sum + template_bytes t) n ts
grows [] n = omega arith
grows (t ∷ ts) n = let h = grows ts (n + template_bytes t) in omega (arith, h)

-- templates with too many bytes
pub many_bytes : (keys : List TemplateKey) (i : ℕ) (k : TemplateKey) (before here total : ℕ) → i < length keys → k ≡ get_or keys i k
    → here ≡ min (template_bytes (templated k)) 4294967296 → 16777216 < before + here
    → fold (λ sum t. sum + template_bytes t) before (map templated (drop i keys)) ≡ total → true ≡ nat_lt 16777216 total
many_bytes keys i k before here total lt read bytes much all =
    let f : ℕ → Template → ℕ = λ sum t. sum + template_bytes t in
    let rest = map templated (drop (i + 1) keys) in
    let step : fold f before (map templated (drop i keys)) ≡ fold f (before + template_bytes (templated (get_or keys i k))) rest =
    at_drop_more (λ ys. fold f before (map templated ys)) keys i k lt in
    let one : template_bytes (templated k) ≡ template_bytes (templated (get_or keys i k)) = ap (λ k. template_bytes (templated k)) read in
    let more = grows rest (before + template_bytes (templated (get_or keys i k))) in
    sym (over 16777216 total (omega (arith, step, one, more, bytes, much, all)))

-- the members of a structure
structure_made : (v : Vec program.Description Global) → description_view (made.Structure v) ≡ tree.Structure (members_view v.items)
structure_made v = ap description_view (sym (made.rolls-Structure v)) ∙ folds.fold-roll-Description tree.Description view.level_view (program.Description-F.Structure v)

members_counted : (ds : List program.Description) → member_count (members_view ds) ≡ length ds
members_counted [] = refl
members_counted (d ∷ ds) = ap suc (members_counted ds)

structure_limits : (d : program.Description) (v : Vec program.Description Global) → d ≡ made.Structure v → has_many_members (description_view d) ≡ (nat_lt 65535 (length v.items) || one_has_many (members_view v.items))
structure_limits d v is =
    ap (λ d. has_many_members (description_view d)) is ∙ ap has_many_members (structure_made v)
    ∙ ap (λ n. nat_lt 65535 n || one_has_many (members_view v.items)) (members_counted v.items)

pub too_many_members : (d : program.Description) (v : Vec program.Description Global) → d ≡ made.Structure v → 65535 < length v.items → true ≡ has_many_members (description_view d)
too_many_members d v is many = sym (structure_limits d v is ∙ ap (λ b. b || one_has_many (members_view v.items)) (over 65535 (length v.items) many))

pub few_members : (d : program.Description) (v : Vec program.Description Global) (one : Bool) → d ≡ made.Structure v → length v.items ≤ 65535 → one ≡ one_has_many (members_view v.items)
    → one ≡ has_many_members (description_view d)
few_members d v one is few found =
    found ∙ sym (structure_limits d v is ∙ ap (λ b. b || one_has_many (members_view v.items)) (within 65535 (length v.items) few))

-- what a number of an entry leads to
bytes_there : (ds : List ParameterType) (d : Description) (is : List InitialScalar) → Has same_type same_type_decides ds (Stated d)
    → initial_bytes_of ds (record { description = number_in same_type ds (Stated d); initial = is }) ≡ template_bytes (record { description = d; initial = is })
bytes_there ds d [] h = refl
bytes_there ds d (i ∷ is) h = ap (λ o. bytes_of (option_and_then stated o)) (number_stands same_type same_type_decides ds (Stated d) h)

module _ (t : NumberedTables) where
  all_bytes : (ts : List Template) (n : ℕ) → AllByRecursion (λ u. list_any (same_type (Stated u.description)) t.descriptions ≡ true) ts
      → fold (λ sum u. sum + initial_bytes_of t.descriptions u) n (map (template_code t) ts) ≡ fold (λ sum u. sum + template_bytes u) n ts
  all_bytes [] n h = refl
  all_bytes (u ∷ ts) n h =
      all_bytes ts (n + initial_bytes_of t.descriptions (template_code t u)) h.1
      ∙ ap (λ m. fold (λ sum u. sum + template_bytes u) (n + m) ts) (bytes_there t.descriptions u.description u.initial h.0)

  pub blocks_counted : (bs : List BlockTree) (p : ℕ) → length (coded_blocks t bs p) ≡ length bs
  blocks_counted [] p = refl
  blocks_counted (b ∷ bs) p = ap suc (blocks_counted bs (place_after (block_code b p) p))

  slots_counted : (bs : List BlockTree) (p : ℕ) → list_any has_many_slots (coded_blocks t bs p) ≡ list_any takes_many_slots bs
  slots_counted [] p = refl
  slots_counted (b ∷ bs) p =
      ap (λ n. nat_lt 65535 (b.parameters + n) || list_any has_many_slots (coded_blocks t bs (place_after (block_code b p) p))) (length-map b.head.variables (template_number t))
      ∙ ap (λ c. takes_many_slots b || c) (slots_counted bs (place_after (block_code b p) p))

or_apart : (x y z : Bool) → (x || (y || z)) ≡ (x || y || z)
or_apart true y z = refl
or_apart false y z = refl

three_apart : (x y z w : Bool) → (x || (y || z || w)) ≡ (x || y || z || w)
three_apart x y z w = or_apart x (y || z) w ∙ ap (λ c. c || w) (or_apart x y z)

four_apart : (x y z w v : Bool) → (x || (y || z || w || v)) ≡ (x || y || z || w || v)
four_apart x y z w v = or_apart x (y || z || w) v ∙ ap (λ c. c || v) (three_apart x y z w)

-- the limits of a unit, in three parts
module _ (t : NumberedTables) (u : TypedUnit) (bs : List BlockTree) (code : List programs.Instruction) (stand : HaveDescriptions t) where
  abbrev pub long_tables : Bool
  long_tables = is_over t.descriptions || is_over t.templates || is_over t.values

  abbrev pub long_lists : Bool
  long_lists = is_over u.globals || is_over bs || is_over code

  abbrev wide_numbers : Bool
  wide_numbers = not (list_all block_fits bs && list_all instruction_fits code)

  abbrev pub large_parts : Bool
  large_parts = list_any takes_many_slots bs || list_any has_many_types t.descriptions || nat_lt 16777216 (sum_by template_bytes t.templates) || wide_numbers

  wide_as_coded : has_wide_number (coded_unit t u bs code) ≡ wide_numbers
  wide_as_coded =
      ap (λ b. not (b && list_all fields.instruction_fits (map (instruction_code t) code))) (blocks_as_coded t bs 0)
      ∙ ap (λ b. not (list_all block_fits bs && b)) (instructions_as_coded t code)

  abbrev whole : (templates globals blocks instructions : ℕ) (slots : Bool) (bytes : ℕ) (wide : Bool) → Bool
  whole templates globals blocks instructions slots bytes wide =
      is_over t.descriptions || nat_lt 65535 templates || is_over t.values || nat_lt 65535 globals || nat_lt 65535 blocks || nat_lt 65535 instructions
      || slots || list_any has_many_types t.descriptions || nat_lt 16777216 bytes || wide

  pub limits_apart : (long_tables || long_lists || large_parts) ≡ is_too_long (coded_unit t u bs code)
  limits_apart =
      let n = length t.templates in
      let g = length u.globals in
      let b = length bs in
      let i = length code in
      let s = list_any takes_many_slots bs in
      let coded = coded_blocks t bs 0 in
      let e = sum_by template_bytes t.templates in
      let c = coded_unit t u bs code in
      four_apart (long_tables || long_lists) s (list_any has_many_types t.descriptions) (nat_lt 16777216 e) wide_numbers
      ∙ ap (λ c. c || s || list_any has_many_types t.descriptions || nat_lt 16777216 e || wide_numbers) (three_apart long_tables (is_over u.globals) (is_over bs) (is_over code))
      ∙ sym (
      ap (λ m. whole m (length (map (global_code t) u.globals)) (length coded) (length (map (instruction_code t) code)) (list_any has_many_slots coded) (initial_bytes c) (has_wide_number c))
      (length-map t.templates (template_code t))
      ∙ ap (λ m. whole n m (length coded) (length (map (instruction_code t) code)) (list_any has_many_slots coded) (initial_bytes c) (has_wide_number c))
      (length-map u.globals (global_code t))
      ∙ ap (λ m. whole n g m (length (map (instruction_code t) code)) (list_any has_many_slots coded) (initial_bytes c) (has_wide_number c)) (blocks_counted t bs 0)
      ∙ ap (λ m. whole n g b m (list_any has_many_slots coded) (initial_bytes c) (has_wide_number c)) (length-map code (instruction_code t))
      ∙ ap (λ x. whole n g b i x (initial_bytes c) (has_wide_number c)) (slots_counted t bs 0)
      ∙ ap (λ x. whole n g b i s x (has_wide_number c)) (all_bytes t t.templates 0 stand)
      ∙ ap (whole n g b i s e) wide_as_coded
      )

pub lists_viewed : (globals : List typed.Global) (blocks : List BlockSource) (n m : ℕ) → n ≡ m
    → (is_over globals || is_over blocks || nat_lt 65535 n) ≡ (is_over globals || is_over (block_trees blocks) || nat_lt 65535 m)
lists_viewed globals blocks n m e =
    ap (λ k. is_over globals || nat_lt 65535 k || nat_lt 65535 n) (sym (length-map blocks block_tree))
    ∙ ap (λ k. is_over globals || is_over (block_trees blocks) || nat_lt 65535 k) e

-- what is not too long
none_of : (x y : Bool) → (x || y) ≡ false → (x ≡ false) × (y ≡ false)
none_of true y h = absurd (true≢false h)
none_of false y h = (refl, h)

negated : (x : Bool) → not x ≡ false → x ≡ true
negated true h = refl
negated false h = absurd (true≢false h)

pub few : (limit n : ℕ) → nat_lt limit n ≡ false → n ≤ limit
few limit n h = grind (arith, nat_tests)

pub record Short (t : NumberedTables) (u : TypedUnit) (bs : List BlockTree) (code : List programs.Instruction) : Type 0 where
  pub descriptions : length t.descriptions ≤ 65535
  pub templates : length t.templates ≤ 65535
  pub values : length t.values ≤ 65535
  pub globals : length u.globals ≤ 65535
  pub blocks : length bs ≤ 65535
  pub instructions : length code ≤ 65535
  pub slots : list_any has_many_slots (coded_blocks t bs 0) ≡ false
  pub members : list_any has_many_types t.descriptions ≡ false
  pub bytes : initial_bytes (coded_unit t u bs code) ≤ 16777216
  pub block_numbers : list_all block_fits bs ≡ true
  pub code_numbers : list_all instruction_fits code ≡ true

pub short_parts : (t : NumberedTables) (u : TypedUnit) (bs : List BlockTree) (code : List programs.Instruction) → is_too_long (coded_unit t u bs code) ≡ false → Short t u bs code
short_parts t u bs code h =
    let c = coded_unit t u bs code in
    let no_wide = none_of _ _ h in
    let narrow = both_of _ _ (negated _ no_wide.1) in
    let no_bytes = none_of _ _ no_wide.0 in
    let no_members = none_of _ _ no_bytes.0 in
    let no_slots = none_of _ _ no_members.0 in
    let code_too = none_of _ _ no_slots.0 in
    let blocks = none_of _ _ code_too.0 in
    let globals = none_of _ _ blocks.0 in
    let values = none_of _ _ globals.0 in
    let templates = none_of _ _ values.0 in
    record {
      descriptions = few 65535 (length t.descriptions) templates.0;
      templates = few 65535 (length t.templates) (ap (nat_lt 65535) (sym (length-map t.templates (template_code t))) ∙ templates.1);
      values = few 65535 (length t.values) values.1;
      globals = few 65535 (length u.globals) (ap (nat_lt 65535) (sym (length-map u.globals (global_code t))) ∙ globals.1);
      blocks = few 65535 (length bs) (ap (nat_lt 65535) (sym (blocks_counted t bs 0)) ∙ blocks.1);
      instructions = few 65535 (length code) (ap (nat_lt 65535) (sym (length-map code (instruction_code t))) ∙ code_too.1);
      slots = no_slots.1;
      members = no_members.1;
      bytes = few 16777216 (initial_bytes (coded_unit t u bs code)) no_bytes.1;
      block_numbers = sym (blocks_as_coded t bs 0) ∙ narrow.0;
      code_numbers = sym (instructions_as_coded t code) ∙ narrow.1;
    }

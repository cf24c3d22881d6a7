-- The blocks of a well-formed unit that is numbered well.
use Rattle.std.proofs.Common.{◌≡◌, ℕ, zero, suc, ◌<◌, ◌≤◌, ◌||◌, nat_lt, cond, Bool, true, false, Option, Some, None, List, [], ◌∷◌, length, slice_get, refl, sym, subst, arith, true≢false}
use Rattle.std.specs.List.{filter, flat_map, list_any, range_with_len, AllByRecursion}
use Rattle.std.proofs.lemmas.Bool.{eqb-true, ltb-true}
use Rattle.std.proofs.lemmas.Option.{none-some, same_Some, slice_get_within}
use Rattle.pli_gen_emit.specs.TreeTranslation.{BlockTree, blocks_in, blocks_of_form, blocks_of_else, blocks_among, blocks_of_procedure, has_number, by_number, blocks_of}
use Rattle.pli_gen.proofs.SimpleCode.{all_both}
use Rattle.pli_gen.specs.laws.ListLaws.{all_front, all_back}
use Rattle.pli_gen.specs.WellNumbered.{KeepApart, IsWellNumbered}
use Rattle.pli_type_tree.specs.TypedTree.{TypedStatement, Statement, TypedStatements, NoStatement, StatementThen, OtherWise, NoElse, Else, TypedProcedure, TypedUnit}
use Rattle.pli_type_tree.specs.TypedTree.{Form, If, Begin, Group, While, Iterate}
use Rattle.pli_deck_laws.specs.Limits.{IfThere}
use Rattle.pli_deck_laws.specs.WellFormed.{unit_blocks, slots_of, HasBlock, HasSlot, IsStatement, IsForm, IsElse, AreStatements, IsProcedure, IsWellFormed}
use Rattle.pli_deck_laws.proofs.AllowedCode.{AreBelow, GoodBlock}

-- ---- lists

-- an element that passes a test, and what holds of each holds of it
any_found : {X : Type 0} (f : X → Bool) (P : X → Type 0) (xs : List X) → list_any f xs ≡ true → AllByRecursion P xs → (x : X) × (f x ≡ true) × P x
any_found f P [] h all = absurd (true≢false (sym h))
any_found {X} f P (x ∷ xs) h all = at_first (f x) refl (λ k. any_found f P xs k all.1) h
  where
    at_first : (b : Bool) → f x ≡ b → (list_any f xs ≡ true → (y : X) × (f y ≡ true) × P y) → (b || list_any f xs) ≡ true → (y : X) × (f y ≡ true) × P y
    at_first true e further k = (x, e, all.0)
    at_first false e further k = further k

-- of each element that is there
pub all_at : {X : Type 0} (P : X → Type 0) (xs : List X) (k : ℕ) (x : X) → AllByRecursion P xs → slice_get xs k ≡ Some x → P x
all_at P [] k x all h = absurd (none-some x h)
all_at P (y ∷ xs) zero x all h = subst P (same_Some y x h) all.0
all_at P (y ∷ xs) (suc k) x all h = all_at P xs k x all.1 h

-- two facts, and a fact that follows
pub all_pairs : {X : Type 0} (P Q R : X → Type 0) → ((x : X) → P x → Q x → R x) → (xs : List X) → AllByRecursion P xs → AllByRecursion Q xs → AllByRecursion R xs
all_pairs P Q R one [] h k = tt
all_pairs P Q R one (x ∷ xs) h k = (one x h.0 k.0, all_pairs P Q R one xs h.1 k.1)

pub all_as : {X : Type 0} (P R : X → Type 0) → ((x : X) → P x → R x) → (xs : List X) → AllByRecursion P xs → AllByRecursion R xs
all_as P R one [] h = tt
all_as P R one (x ∷ xs) h = (one x h.0, all_as P R one xs h.1)

-- ---- blocks by their numbers

module _ {X : Type 0} (P : X → Type 0) where
  kept : (b : Bool) (x : X) (xs : List X) → P x → AllByRecursion P xs → AllByRecursion P (cond b (x ∷ xs) xs)
  kept true x xs h all = (h, all)
  kept false x xs h all = all

  all_filtered : (f : X → Bool) (xs : List X) → AllByRecursion P xs → AllByRecursion P (filter f xs)
  all_filtered f [] all = tt
  all_filtered f (x ∷ xs) all = kept (f x) x (filter f xs) all.0 (all_filtered f xs all.1)

  all_flat : {Y : Type 0} (f : Y → List X) → ((y : Y) → AllByRecursion P (f y)) → (ys : List Y) → AllByRecursion P (flat_map f ys)
  all_flat f each [] = tt
  all_flat f each (y ∷ ys) = all_both P (f y) (flat_map f ys) (each y) (all_flat f each ys)

all_by_number : (P : BlockTree → Type 0) (bs : List BlockTree) → AllByRecursion P bs → AllByRecursion P (by_number bs)
all_by_number P bs all = all_flat P (λ n. filter (has_number n) bs) (λ n. all_filtered P (has_number n) bs all) (range_with_len 0 (length bs))

module _ (t : TypedUnit) (well : IsWellNumbered t) where
  -- each block stands at its number
  pub numbers_there : AreBelow (length (blocks_of t)) (unit_blocks t)
  numbers_there =
      all_as (λ b. slice_get (blocks_of t) b.head.number ≡ Some b) (λ b. b.head.number < length (blocks_of t)) (λ b h. slice_get_within (blocks_of t) b.head.number b h)
      (unit_blocks t) well.blocks

  pub block_named : (n : ℕ) → HasBlock t n → n < length (blocks_of t)
  block_named n h =
      let found = any_found (has_number n) (λ b. b.head.number < length (blocks_of t)) (unit_blocks t) h numbers_there in
      let same = eqb-true found.0.head.number n found.1 in
      let below = found.2 in
      omega (arith, same, below)

  -- a slot of a block, where blocks have few
  pub slot_there : AllByRecursion (λ b. slots_of b ≤ 65535) (blocks_of t) → (n : ℕ) → HasSlot t n → n ≤ 65535
  slot_there few n h =
      let found = any_found (λ b. nat_lt n (slots_of b)) (λ b. slice_get (blocks_of t) b.head.number ≡ Some b) (unit_blocks t) h well.blocks in
      let below = ltb-true n (slots_of found.0) found.1 in
      let limit = all_at (λ b. slots_of b ≤ 65535) (blocks_of t) found.0.head.number found.0 few found.2 in
      omega (arith, below, limit)

  pub one_block : 1 ≤ length t.procedures → 1 ≤ length (blocks_of t)
  one_block some = first t.procedures some numbers_there
    where
      first : (fs : List TypedProcedure) → 1 ≤ length fs → AreBelow (length (blocks_of t)) (flat_map blocks_of_procedure fs) → 1 ≤ length (blocks_of t)
      first [] some all = absurd (omega (arith, some))
      first (f ∷ fs) some all = let h = all.0 in omega (arith, h)

-- ---- blocks within blocks

module _ (globals last : ℕ) (t : TypedUnit) (counted : length t.globals ≡ globals) (named : (n : ℕ) → HasBlock t n → n < length (blocks_of t)) (slotted : (n : ℕ) → HasSlot t n → n ≤ 65535) where
  abbrev Good : BlockTree → Type 0
  Good b = GoodBlock globals (length (blocks_of t)) last t counted named slotted b

  -- what is known of each block beforehand
  abbrev Known : BlockTree → Type 0
  Known b = (b.head.number < length (blocks_of t)) × KeepApart 0 b.head.temporaries b.statements

  below : (bs : List BlockTree) → AllByRecursion Known bs → AreBelow (length (blocks_of t)) bs
  below bs all = all_as Known (λ b. b.head.number < length (blocks_of t)) (λ b h. h.0) bs all

  mutual
    good_in : (s : TypedStatement) (parent : ℕ) → parent < length (blocks_of t) → IsStatement t s → AllByRecursion Known (blocks_in parent s) → AllByRecursion Good (blocks_in parent s)
    good_in (Statement number form) parent p h all = good_of_form form parent p h.1 all

    good_of_form : (f : Form) (parent : ℕ) → parent < length (blocks_of t) → IsForm t f → AllByRecursion Known (blocks_of_form parent f) → AllByRecursion Good (blocks_of_form parent f)
    good_of_form (If test part alternative) parent p h all =
        all_both Good (blocks_in parent part) (blocks_of_else parent alternative)
        (good_in part parent p h.1 (all_front Known (blocks_in parent part) (blocks_of_else parent alternative) all))
        (good_of_else alternative parent p h.2 (all_back Known (blocks_in parent part) (blocks_of_else parent alternative) all))
    good_of_form (Begin head statements) parent p h all = (
      record {
        parent = p;
        parameters = omega arith;
        head = h.0;
        end = tt;
        statements = h.1;
        apart = all.0.1;
        inner = below (blocks_among head.number statements) all.1;
      },
      good_among statements head.number all.0.0 h.1 all.1,
    )
    good_of_form (Group statements) parent p h all = good_among statements parent p h all
    good_of_form (While test statements) parent p h all = good_among statements parent p h.1 all
    good_of_form (Iterate i statements) parent p h all = good_among statements parent p h.1 all
    good_of_form form parent p h all = tt

    good_of_else : (a : OtherWise) (parent : ℕ) → parent < length (blocks_of t) → IsElse t a → AllByRecursion Known (blocks_of_else parent a) → AllByRecursion Good (blocks_of_else parent a)
    good_of_else NoElse parent p h all = tt
    good_of_else (Else s) parent p h all = good_in s parent p h all

    good_among : (ss : TypedStatements) (parent : ℕ) → parent < length (blocks_of t) → AreStatements t ss → AllByRecursion Known (blocks_among parent ss) → AllByRecursion Good (blocks_among parent ss)
    good_among NoStatement parent p h all = tt
    good_among (StatementThen first more) parent p h all =
        all_both Good (blocks_in parent first) (blocks_among parent more)
        (good_in first parent p h.0 (all_front Known (blocks_in parent first) (blocks_among parent more) all))
        (good_among more parent p h.1 (all_back Known (blocks_in parent first) (blocks_among parent more) all))

  parent_named : (o : Option ℕ) → IfThere (HasBlock t) o → IfThere (λ n. n < length (blocks_of t)) o
  parent_named None h = tt
  parent_named (Some n) h = named n h

  good_procedure : (f : TypedProcedure) → IsProcedure t f → AllByRecursion Known (blocks_of_procedure f) → AllByRecursion Good (blocks_of_procedure f)
  good_procedure f h all = (
    record {
      parent = parent_named f.parent h.1;
      parameters = h.2;
      head = h.0;
      end = h.3;
      statements = h.4;
      apart = all.0.1;
      inner = below (blocks_among f.head.number f.statements) all.1;
    },
    good_among f.statements f.head.number all.0.0 h.4 all.1,
  )

  good_procedures : (fs : List TypedProcedure) → AllByRecursion (IsProcedure t) fs → AllByRecursion Known (flat_map blocks_of_procedure fs) → AllByRecursion Good (flat_map blocks_of_procedure fs)
  good_procedures [] h all = tt
  good_procedures (f ∷ fs) h all =
      all_both Good (blocks_of_procedure f) (flat_map blocks_of_procedure fs)
      (good_procedure f h.0 (all_front Known (blocks_of_procedure f) (flat_map blocks_of_procedure fs) all))
      (good_procedures fs h.1 (all_back Known (blocks_of_procedure f) (flat_map blocks_of_procedure fs) all))

  pub good_blocks : IsWellNumbered t → IsWellFormed t → AllByRecursion Good (blocks_of t)
  good_blocks well formed =
      let known = all_pairs (λ b. b.head.number < length (blocks_of t)) (λ b. KeepApart 0 b.head.temporaries b.statements) Known (λ b h k. (h, k)) (unit_blocks t)
      (numbers_there t well) well.temporaries in
      all_by_number Good (unit_blocks t) (good_procedures t.procedures formed.procedures known)

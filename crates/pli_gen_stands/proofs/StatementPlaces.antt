-- The statements of a tree each have the place that stands with their number, where no number stands twice.
use Rattle.std.specs.Prelude.{◌≡◌, ℕ, suc, nat_eq, Bool, true, false, List, [], ◌∷◌, ◌++◌, map, refl}
use Rattle.std.specs.Prelude.{◌||◌, if◌then◌else◌}
use Rattle.std.specs.List.{list_any, AllByRecursion}
use Rattle.std.proofs.Common.{ap, ◌∙◌, true≢false}
use Rattle.std.proofs.lemmas.Bool.{eq-eqb}
use Rattle.std.proofs.lemmas.List.{map-append}
use Rattle.pli_type_tree.specs.TypedTree.{TypedStatement, Statement, TypedStatements, NoStatement, StatementThen, OtherWise, NoElse, Else}
use Rattle.pli_type_tree.specs.TypedTree.{Form, Null, Assign, AssignString, AssignAggregate, AssignArea, EmptyArea, Put, Allocate, Free, If, Begin, Group, While, Iterate, Call, Goto, Return, ReturnValue, Stop, On, Revert, Signal}
use Rattle.pli_gen_emit.specs.TreeTranslation.{value_code, statement_code, places_in, places_in_form, places_in_else, places_among, list_place}
use Rattle.pli_gen_emit.specs.TreeTranslation.{statement_place, place_after, BlockTree, block_code, places_of}
use Rattle.pli_gen.specs.WellNumbered.{AreDistinct, numbers_in, numbers_in_form, numbers_in_else, numbers_among, numbers_of}

-- a place that another number does not hide
not_hidden : (n p : ℕ) (full es : List (ℕ × ℕ)) → list_any (nat_eq n) (map (λ e. e.0) es) ≡ false
    → AllByRecursion (λ e. statement_place full e.0 ≡ e.1) es → AllByRecursion (λ e. statement_place ((n, p) ∷ full) e.0 ≡ e.1) es
not_hidden n p full [] none known = tt
not_hidden n p full (e ∷ es) none known =
    let both = neither (nat_eq n e.0) (list_any (nat_eq n) (map (λ e. e.0) es)) none in
    (ap (λ b. if b then p else statement_place full e.0) both.0 ∙ known.0, not_hidden n p full es both.1 known.1)
  where
    neither : (a b : Bool) → (a || b) ≡ false → (a ≡ false) × (b ≡ false)
    neither true b h = absurd (true≢false h)
    neither false b h = (refl, h)

-- where no number stands twice, each statement's place is the one that stands with it
pub each_has_its_place : (es : List (ℕ × ℕ)) → AreDistinct (map (λ e. e.0) es) → AllByRecursion (λ e. statement_place es e.0 ≡ e.1) es
each_has_its_place [] distinct = tt
each_has_its_place ((n, p) ∷ es) distinct =
    (ap (λ b. if b then p else statement_place es n) (eq-eqb n n refl), not_hidden n p es es distinct.0 (each_has_its_place es distinct.1))

-- the numbers of two parts
both_numbered : (xs ys : List (ℕ × ℕ)) (ns ms : List ℕ) → map (λ e. e.0) xs ≡ ns → map (λ e. e.0) ys ≡ ms → map (λ e. e.0) (xs ++ ys) ≡ ns ++ ms
both_numbered xs ys ns ms n m = map-append (λ e. e.0) xs ys ∙ ap (λ ns. ns ++ map (λ e. e.0) ys) n ∙ ap (λ ms. ns ++ ms) m

-- the statements that have places are those of the tree
mutual
  numbered_in : (s : TypedStatement) (p : ℕ) → map (λ e. e.0) (places_in s p) ≡ numbers_in s
  numbered_in (Statement number form) p = ap (λ ns. number ∷ ns) (numbered_in_form form (suc p))

  numbered_in_form : (f : Form) (p : ℕ) → map (λ e. e.0) (places_in_form f p) ≡ numbers_in_form f
  numbered_in_form (If e consequence alternative) p =
      let q = suc (place_after (value_code e) p) in
      let r = suc (place_after (statement_code consequence q) q) in
      both_numbered (places_in consequence q) (places_in_else alternative r) (numbers_in consequence) (numbers_in_else alternative) (numbered_in consequence q) (numbered_in_else alternative r)
  numbered_in_form (Group statements) p = numbered_among statements p
  numbered_in_form (While e statements) p = numbered_among statements (suc (suc (place_after (value_code e) (suc p))))
  numbered_in_form (Iterate i statements) p = numbered_among statements (list_place i p)
  numbered_in_form Null p = refl
  numbered_in_form (Assign target e) p = refl
  numbered_in_form (AssignString target e) p = refl
  numbered_in_form (AssignAggregate target source) p = refl
  numbered_in_form (AssignArea target source) p = refl
  numbered_in_form (EmptyArea target) p = refl
  numbered_in_form (Put skip items) p = refl
  numbered_in_form (Allocate items) p = refl
  numbered_in_form (Free items) p = refl
  numbered_in_form (Begin head statements) p = refl
  numbered_in_form (Call callee args) p = refl
  numbered_in_form (Goto outward label) p = refl
  numbered_in_form (Return outward) p = refl
  numbered_in_form (ReturnValue outward e) p = refl
  numbered_in_form Stop p = refl
  numbered_in_form (On condition block) p = refl
  numbered_in_form (Revert condition) p = refl
  numbered_in_form (Signal condition) p = refl

  numbered_in_else : (a : OtherWise) (p : ℕ) → map (λ e. e.0) (places_in_else a p) ≡ numbers_in_else a
  numbered_in_else NoElse p = refl
  numbered_in_else (Else s) p = numbered_in s p

  numbered_among : (ss : TypedStatements) (p : ℕ) → map (λ e. e.0) (places_among ss p) ≡ numbers_among ss
  numbered_among NoStatement p = refl
  numbered_among (StatementThen s more) p =
      let q = place_after (statement_code s p) p in
      both_numbered (places_in s p) (places_among more q) (numbers_in s) (numbers_among more) (numbered_in s p) (numbered_among more q)

-- those of blocks
pub numbered_blocks : (bs : List BlockTree) (p : ℕ) → map (λ e. e.0) (places_of bs p) ≡ numbers_of bs
numbered_blocks [] p = refl
numbered_blocks (b ∷ bs) p =
    let q = place_after (block_code b p) p in
    both_numbered (places_among b.statements p) (places_of bs q) (numbers_among b.statements) (numbers_of bs) (numbered_among b.statements p) (numbered_blocks bs q)

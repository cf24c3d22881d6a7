-- The static variables are the same, whether units know the external ones by name, as
-- trees do, or by number, as code does.
use Rattle.std.specs.Prelude.{◌≡◌, ℕ, suc, ◌+◌, ◌<◌, ◌≤◌, nat_eq, Bool, true, false, cond, Some, None, List, [], ◌∷◌, ◌++◌, map, position, refl}
use Rattle.std.specs.Cmp.Lexicographic.{nat_list_eq_equiv}
use Rattle.std.specs.List.{position_from}
use Rattle.std.specs.Map.{lookup}
use Rattle.std.proofs.Common.{ap, ◌∙◌, sym, arith}
use Rattle.std.proofs.lemmas.Bool.{eqb-true, eq-eqb}
use Rattle.std.proofs.lemmas.Iterator.Adapters.{position_from-zero}
use Rattle.pli_base.specs.Name.{Name}
use Rattle.pli_base.specs.Words.{same_name}
use Rattle.pli_world.specs.World.{Standing, World, Answer, Yields, Raises, Wrong, further, made_once, with_static, statics_made}
use Rattle.pli_program.specs.Program as programs
use Rattle.pli_program.specs.Program.{UnitCode}
use Rattle.pli_machine_step.specs.Runs.{all_statics_made}
use Rattle.pli_type_tree.specs.Globals.{global_variable}
use Rattle.pli_type_tree.specs.Templates.{variable_of}
use Rattle.pli_type_tree.specs.TypedTree.{Global, OwnVariable, ExternalVariable, EntryPoint, TypedUnit}
use Rattle.pli_meaning_tree.specs.Effects.{Label}
use Rattle.pli_meaning_tree.specs.ProgramMeaning.{all_made}
use Rattle.pli_meaning_simulation.specs.CodeStands.{GlobalsStand, UnitsStand}

-- names have numbers from one on
number_after : (name : Name) (names : List Name) (first number : ℕ) → position_from (same_name name) first names ≡ Some number → first ≤ number
number_after name [] first number e = absurd (cc)
number_after name (other ∷ names) first number e = by (same_name name other) e (number_after name names (first + 1) number)
  where
    by : (b : Bool) → cond b (Some first) (position_from (same_name name) (first + 1) names) ≡ Some number → (position_from (same_name name) (first + 1) names ≡ Some number → first + 1 ≤ number) → first ≤ number
    by true e rest = let same : first ≡ number = cc in omega (arith, same)
    by false e rest = omega (arith, rest e)

-- one number is not another
apart : (k l : ℕ) → k < l → (nat_eq k l ≡ false) × (nat_eq l k ≡ false)
apart k l less = (by k l (λ e. absurd (omega (arith, e, less))) (nat_eq k l) refl, by l k (λ e. absurd (omega (arith, e, less))) (nat_eq l k) refl)
  where
    by : (m n : ℕ) → (m ≡ n → ⊥) → (b : Bool) → nat_eq m n ≡ b → b ≡ false
    by m n never true e = absurd (never (eqb-true m n e))
    by m n never false e = refl

-- two names are the same where their numbers are
numbers_decide : (a b : Name) (names : List Name) (first k l : ℕ) → position_from (same_name a) first names ≡ Some k → position_from (same_name b) first names ≡ Some l
    → nat_eq k l ≡ same_name a b
numbers_decide a b [] first k l e f = absurd (cc)
numbers_decide a b (name ∷ names) first k l e f = by (same_name a name) (same_name b name) refl refl e f (numbers_decide a b names (first + 1) k l)
  where
    -- a is this name, and so is b where it is the same
    alike : same_name a name ≡ true → same_name a b ≡ same_name b name
    alike is = nat_list_eq_equiv.congr a name b is ∙ nat_list_eq_equiv.symm name b

    by : (x y : Bool) → same_name a name ≡ x → same_name b name ≡ y
        → cond x (Some first) (position_from (same_name a) (first + 1) names) ≡ Some k → cond y (Some first) (position_from (same_name b) (first + 1) names) ≡ Some l
        → (position_from (same_name a) (first + 1) names ≡ Some k → position_from (same_name b) (first + 1) names ≡ Some l → nat_eq k l ≡ same_name a b) → nat_eq k l ≡ same_name a b
    by true true is it e f rest = let one : first ≡ k = cc in let two : first ≡ l = cc in eq-eqb k l (sym one ∙ two) ∙ sym (alike is ∙ it)
    by true false is it e f rest =
        let one : first ≡ k = cc in
        (apart k l (omega (arith, one, number_after b names (first + 1) l f))).0 ∙ sym (alike is ∙ it)
    by false true is it e f rest =
        let two : first ≡ l = cc in
        (apart l k (omega (arith, two, number_after a names (first + 1) k e))).1
        ∙ sym (nat_list_eq_equiv.symm a b ∙ nat_list_eq_equiv.congr b name a it ∙ nat_list_eq_equiv.symm name a ∙ is)
    by false false is it e f rest = rest e f

module _ (names : List Name) where
  abbrev IsNumber : Name → ℕ → Type 0
  IsNumber name number = position (same_name name) names ≡ Some number

  same_numbers : (a b : Name) (k l : ℕ) → IsNumber a k → IsNumber b l → nat_eq k l ≡ same_name a b
  same_numbers a b k l e f = numbers_decide a b names 0 k l (sym (position_from-zero (same_name a) names) ∙ e) (sym (position_from-zero (same_name b) names) ∙ f)

  -- the same external ones are made, by name and by number
  abbrev AreShared : List (Name × Standing) → List (ℕ × Standing) → Type 0
  AreShared [] [] = Unit {0}
  AreShared (x ∷ xs) (y ∷ ys) = IsNumber x.0 y.0 × (y.1 ≡ x.1) × AreShared xs ys
  AreShared [] (y ∷ ys) = ⊥
  AreShared (x ∷ xs) [] = ⊥

  shared_more : (xs : List (Name × Standing)) (ys : List (ℕ × Standing)) → AreShared xs ys → (name : Name) (number : ℕ) → IsNumber name number → (s : Standing)
      → AreShared (xs ++ (name, s) ∷ []) (ys ++ (number, s) ∷ [])
  shared_more [] [] all name number is s = (is, refl, tt)
  shared_more [] (y ∷ ys) all name number is s = absurd all
  shared_more (x ∷ xs) [] all name number is s = absurd all
  shared_more (x ∷ xs) (y ∷ ys) all name number is s = (all.0, all.1, shared_more xs ys all.2 name number is s)

  -- the same is found
  found_same : (xs : List (Name × Standing)) (ys : List (ℕ × Standing)) → AreShared xs ys → (name : Name) (number : ℕ) → IsNumber name number
      → lookup (nat_eq number) ys ≡ lookup (same_name name) xs
  found_same [] [] all name number is = refl
  found_same [] (y ∷ ys) all name number is = absurd all
  found_same (x ∷ xs) [] all name number is = absurd all
  found_same (x ∷ xs) (y ∷ ys) all name number is =
      ap (λ b. cond b (Some y.1) (lookup (nat_eq number) ys)) (same_numbers name x.0 number y.0 is all.0)
      ∙ ap (λ s. cond (same_name name x.0) (Some s) (lookup (nat_eq number) ys)) all.1
      ∙ ap (cond (same_name name x.0) (Some x.1)) (found_same xs ys all.2 name number is)

  -- what is made then, after the variables of a unit
  module _ (by_number : List (ℕ × Standing) → World → Answer Unit) (by_name : List (Name × Standing) → World → Answer Unit)
      (alike : (xs : List (Name × Standing)) (ys : List (ℕ × Standing)) → AreShared xs ys → (w : World) → by_number ys w ≡ by_name xs w) where
    once_same : (o : Answer Standing) (f : Standing → World → Answer (List (ℕ × Standing))) (g : Standing → World → Answer (List (Name × Standing)))
        → ((s : Standing) (w : World) → further (f s w) by_number ≡ further (g s w) by_name) → further (further o f) by_number ≡ further (further o g) by_name
    once_same (Yields s w) f g h = h s w
    once_same (Raises e w) f g h = refl
    once_same Wrong f g h = refl

    unit_same : (program : List TypedUnit) (unit number : ℕ) (ts : List Global) (gs : List programs.GlobalCode) → GlobalsStand program names ts gs
        → (xs : List (Name × Standing)) (ys : List (ℕ × Standing)) → AreShared xs ys → (w : World)
        → further (statics_made nat_eq unit number (map programs.global_variable gs) ys w) by_number ≡ further (statics_made same_name unit number (map global_variable ts) xs w) by_name
    unit_same program unit number [] [] stand xs ys all w = alike xs ys all w
    unit_same program unit number [] (g ∷ gs) stand xs ys all w = absurd stand
    unit_same program unit number (t ∷ ts) [] stand xs ys all w = absurd stand
    unit_same program unit number (OwnVariable kind t ∷ ts) (g ∷ gs) stand xs ys all w =
        ap (λ g. further (statics_made nat_eq unit number (programs.global_variable g ∷ map programs.global_variable gs) ys w) by_number) stand.0
        ∙ once_same (made_once kind (variable_of t) None w) _ _ (λ s v. unit_same program unit (suc number) ts gs stand.1 xs ys all (with_static unit number s v))
    unit_same program unit number (ExternalVariable name kind t ∷ ts) (g ∷ gs) stand xs ys all w =
        let k = stand.0.external in
        let is = stand.0.named in
        ap (λ g. further (statics_made nat_eq unit number (programs.global_variable g ∷ map programs.global_variable gs) ys w) by_number) stand.0.is
        ∙ ap (λ o. further (further (made_once kind (variable_of t) o w)
        (λ s w. statics_made nat_eq unit (suc number) (map programs.global_variable gs) (ys ++ (k, s) ∷ []) (with_static unit number s w))) by_number) (found_same xs ys all name k is)
        ∙ once_same (made_once kind (variable_of t) (lookup (same_name name) xs) w) _ _
        (λ s v. unit_same program unit (suc number) ts gs stand.1 (xs ++ (name, s) ∷ []) (ys ++ (k, s) ∷ []) (shared_more xs ys all name k is s) (with_static unit number s v))
    unit_same program unit number (EntryPoint name signature ∷ ts) (g ∷ gs) stand xs ys all w =
        ap (λ g. further (statics_made nat_eq unit number (programs.global_variable g ∷ map programs.global_variable gs) ys w) by_number) stand.0.is
        ∙ unit_same program unit (suc number) ts gs stand.1 xs ys all w

  pub statics_same : (program : List TypedUnit) (at : Label → ℕ) (unit : ℕ) (ts : List TypedUnit) (us : List UnitCode) → UnitsStand program names at unit ts us
      → (xs : List (Name × Standing)) (ys : List (ℕ × Standing)) → AreShared xs ys → (w : World) → all_statics_made unit us ys w ≡ all_made unit ts xs w
  statics_same program at unit [] [] stand xs ys all w = refl
  statics_same program at unit [] (u ∷ us) stand xs ys all w = absurd stand
  statics_same program at unit (t ∷ ts) [] stand xs ys all w = absurd stand
  statics_same program at unit (t ∷ ts) (u ∷ us) stand xs ys all w =
      unit_same (λ ys w. all_statics_made (suc unit) us ys w) (λ xs w. all_made (suc unit) ts xs w) (statics_same program at (suc unit) ts us stand.1)
      program unit 0 t.globals u.globals stand.0.globals xs ys all w

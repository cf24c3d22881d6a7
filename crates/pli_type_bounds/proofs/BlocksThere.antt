-- Each block of a source tree is one of the typed unit, with its slots.
use Rattle.std.specs.Prelude.{◌≡◌, ℕ, suc, ◌+◌, ◌≤◌, ◌<◌, nat_eq, nat_lt, Bool, true, false, ◌&&◌, ◌||◌, Option, Some, None, List, [], ◌∷◌, ◌++◌, length}
use Rattle.std.specs.Prelude.{slice_get, Result, Ok, Err, refl}
use Rattle.std.specs.List.{flat_map, list_any}
use Rattle.std.proofs.Common.{arith, sym, ap, ◌∙◌, subst, eq-eqb, inl, inr}
use Rattle.std.proofs.lemmas.Bool.{and_parts, cases_lt, eqb-true, lt-ltb}
use Rattle.std.proofs.lemmas.Grind.{flat_map-append}
use Rattle.std.proofs.lemmas.List.Folds.{list_any-append}
use Rattle.pli_base.specs.Statements as tree
use Rattle.pli_base.specs.Statements.{ExternalProcedure, Statement, Numbered, Body, Statements, Ended, Before, Alternative}
use Rattle.pli_base.specs.declared.token.Fault.{Fault}
use Rattle.pli_gen_emit.specs.TreeTranslation.{BlockTree, has_number, procedure_block, begin_block, blocks_in, blocks_of_form, blocks_of_else, blocks_among, blocks_of_procedure}
use Rattle.pli_map.specs.Description.{Description}
use Rattle.pli_map.specs.ParameterTypes.{ParameterType}
use Rattle.pli_declare.specs.TreeBlocks as source
use Rattle.pli_declare.specs.declared.block_numbers.ResolvedBlockKind.TheVariants as kinds
use Rattle.pli_type_rules.specs.Checked.{external_of, unit_of}
use Rattle.pli_type_rules.specs.Names.{NamedUnit, NamedAs}
use Rattle.pli_type_rules.specs.declared.beginning.Beginning.{Beginning}
use Rattle.pli_type_rules.specs.StatementTyping.{Surroundings, naming_at, block_at, leaves_nothing, condition, iteration, WithProcedures, of_own, together}
use Rattle.pli_type_rules.specs.StatementTyping.{alone, made, head_of, procedure_of, on_unit_of, as_procedure, put_before, inside, after_limits, in_begin, in_group, in_on_unit, in_procedure, only}
use Rattle.pli_type_rules.specs.StatementTyping.{statement_typed, body_typed, alternative_typed, statements_typed}
use Rattle.pli_type_rules.specs.Temporaries.{Next, next_after}
use Rattle.pli_type_laws.proofs.BlocksKnown.{Sits, sits_parts, begun_count, begin_no_procedure, unit_no_procedure}
use Rattle.pli_type_laws.specs.SourceBlocks.{SourceBlock, unit_blocks, begun_in, begun_by, begun_among, begun_after}
use Rattle.pli_type_tree.specs.Templates.{Template}
use Rattle.pli_type_tree.specs.TypedTree as typed
use Rattle.pli_type_tree.specs.TypedTree.{Form, TypedStatement, TypedStatements, NoStatement, OtherWise, NoElse, Else, BlockHead, Global, TypedProcedure, TypedUnit}
use Rattle.pli_type_laws.proofs.NumberedUnits.{nothing_left}
use Rattle.pli_type_laws.proofs.TypedParts.{OnTyped}
use Rattle.pli_type_laws.specs.TypedUnits.{unit_with}
use Rattle.pli_deck_laws.specs.WellFormed.{slots_of, HasBlock, HasSlot}
use Rattle.pli_deck_laws.specs.WellFormed as whole

-- ---- tests on lists

or_front : (a b c d : Bool) → (a || c) ≡ true → ((a || b) || (c || d)) ≡ true
or_front true b c d e = refl
or_front false true true d e = refl
or_front false true false d e = absurd (cc)
or_front false false true d e = refl
or_front false false false d e = absurd (cc)

or_back : (a b c d : Bool) → (b || d) ≡ true → ((a || b) || (c || d)) ≡ true
or_back true b c d e = refl
or_back false true c d e = refl
or_back false false true true e = refl
or_back false false false true e = refl
or_back false false c false e = absurd (cc)

or_right : (a b : Bool) → b ≡ true → (a || b) ≡ true
or_right true b e = refl
or_right false b e = e

or_middle : (a b c : Bool) → (b || c) ≡ true → (c || (a || b)) ≡ true
or_middle a true true e = refl
or_middle true true false e = refl
or_middle false true false e = refl
or_middle a false true e = refl
or_middle a false false e = absurd (cc)

any_of_four : {A : Type 0} (p : A → Bool) (xs ys vs ws : List A)
    → list_any p ((xs ++ ys) ++ (vs ++ ws)) ≡ ((list_any p xs || list_any p ys) || (list_any p vs || list_any p ws))
any_of_four p xs ys vs ws =
    list_any-append p (xs ++ ys) (vs ++ ws)
    ∙ ap (λ a. a || list_any p (vs ++ ws)) (list_any-append p xs ys) ∙ ap (λ b. (list_any p xs || list_any p ys) || b) (list_any-append p vs ws)

any_weaker : {A : Type 0} (p q : A → Bool) (xs : List A) → ((x : A) → p x ≡ true → q x ≡ true) → list_any p xs ≡ true → list_any q xs ≡ true
any_weaker p q [] f h = h
any_weaker p q (x ∷ xs) f h = by (p x) refl h (λ e. any_weaker p q xs f e)
  where
    by : (b : Bool) → p x ≡ b → (b || list_any p xs) ≡ true → (list_any p xs ≡ true → list_any q xs ≡ true) → (q x || list_any q xs) ≡ true
    by true e g rest = ap (λ b. b || list_any q xs) (f x e)
    by false e g rest = or_right (q x) (list_any q xs) (rest g)

-- the blocks of procedures
abbrev within : List TypedProcedure → List BlockTree
within fs = flat_map blocks_of_procedure fs

within_both : (fs gs : List TypedProcedure) → within (fs ++ gs) ≡ within fs ++ within gs
within_both fs gs = flat_map-append blocks_of_procedure fs gs

module _ (sizes : ℕ → ℕ) where
  -- the block of this number, with its slots
  abbrev is_it : (number : ℕ) → BlockTree → Bool
  is_it k b = has_number k b && nat_eq (slots_of b) (sizes k)

  abbrev pub Here : List BlockTree → (number : ℕ) → Type 0
  Here bs k = list_any (is_it k) bs ≡ true

  here_both : (xs ys vs ws : List BlockTree) (k : ℕ) → Here (xs ++ vs) k → Here ((xs ++ ys) ++ (vs ++ ws)) k
  here_both xs ys vs ws k h =
      let p = is_it k in
      any_of_four p xs ys vs ws ∙ or_front (list_any p xs) (list_any p ys) (list_any p vs) (list_any p ws) (sym (list_any-append p xs vs) ∙ h)

  here_other : (xs ys vs ws : List BlockTree) (k : ℕ) → Here (ys ++ ws) k → Here ((xs ++ ys) ++ (vs ++ ws)) k
  here_other xs ys vs ws k h =
      let p = is_it k in
      any_of_four p xs ys vs ws ∙ or_back (list_any p xs) (list_any p ys) (list_any p vs) (list_any p ws) (sym (list_any-append p ys ws) ∙ h)

  -- those from one number on before another are here: in a part, or in the procedures in it
  abbrev pub AreHere : {A : Type 0} → ((parent : ℕ) → A → List BlockTree) → (from to : ℕ) → WithProcedures A → Type 0
  AreHere blocks from to y = (parent k : ℕ) → from ≤ k → k < to → Here (blocks parent y.part ++ within y.procedures) k

  none_here : {A : Type 0} (blocks : (parent : ℕ) → A → List BlockTree) (from to : ℕ) (r : Result (WithProcedures A) (List Fault)) → to ≤ from
      → OnTyped (AreHere blocks from to) r
  none_here blocks from to (Ok y) le = λ parent k low high. absurd (omega (arith, le, low, high))
  none_here blocks from to (Err fs) le = tt

  made_here : {A B : Type 0} (bs : (parent : ℕ) → A → List BlockTree) (cs : (parent : ℕ) → B → List BlockTree) (f : A → B) (from to : ℕ)
      (r : Result (WithProcedures A) (List Fault)) → ((parent : ℕ) (x : A) → cs parent (f x) ≡ bs parent x)
      → OnTyped (AreHere bs from to) r → OnTyped (AreHere cs from to) (made f r)
  made_here bs cs f from to (Ok y) same h =
      λ parent k low high. subst (λ xs. Here (xs ++ within y.procedures) k) (sym (same parent y.part)) (h parent k low high)
  made_here bs cs f from to (Err fs) same h = tt

  -- a part of its own before another
  with_here : {A B C : Type 0} (bs : (parent : ℕ) → B → List BlockTree) (cs : (parent : ℕ) → C → List BlockTree) (f : A → B → C) (from to : ℕ)
      (r : Result A Fault) (q : Result (WithProcedures B) (List Fault)) → ((parent : ℕ) (x : A) (y : B) → cs parent (f x y) ≡ bs parent y)
      → OnTyped (AreHere bs from to) q → OnTyped (AreHere cs from to) (together f (of_own r) q)
  with_here bs cs f from to (Ok x) (Ok y) same h =
      λ parent k low high. subst (λ xs. Here (xs ++ within y.procedures) k) (sym (same parent x y.part)) (h parent k low high)
  with_here bs cs f from to (Ok x) (Err gs) same h = tt
  with_here bs cs f from to (Err e) (Ok y) same h = tt
  with_here bs cs f from to (Err e) (Err gs) same h = tt

  both_here : {A B C : Type 0} (os : (parent : ℕ) → A → List BlockTree) (bs : (parent : ℕ) → B → List BlockTree) (cs : (parent : ℕ) → C → List BlockTree)
      (f : A → B → C) (from middle to : ℕ) (r : Result (WithProcedures A) (List Fault)) (q : Result (WithProcedures B) (List Fault))
      → ((parent : ℕ) (x : A) (y : B) → cs parent (f x y) ≡ os parent x ++ bs parent y)
      → OnTyped (AreHere os from middle) r → OnTyped (AreHere bs middle to) q → OnTyped (AreHere cs from to) (together f r q)
  both_here os bs cs f from middle to (Ok x) (Ok y) same h g = λ parent k low high. each parent k low high
    where
      joined : (parent k : ℕ) → Here ((os parent x.part ++ bs parent y.part) ++ (within x.procedures ++ within y.procedures)) k
          → Here (cs parent (f x.part y.part) ++ within (x.procedures ++ y.procedures)) k
      joined parent k e =
          subst (λ xs. Here (xs ++ within (x.procedures ++ y.procedures)) k) (sym (same parent x.part y.part))
          (subst (λ ys. Here ((os parent x.part ++ bs parent y.part) ++ ys) k) (sym (within_both x.procedures y.procedures)) e)

      each : (parent k : ℕ) → from ≤ k → k < to → Here (cs parent (f x.part y.part) ++ within (x.procedures ++ y.procedures)) k
      each parent k low high = elim (cases_lt k middle) [
        | inl front ↦ joined parent k (here_both (os parent x.part) (bs parent y.part) (within x.procedures) (within y.procedures) k (h parent k low front))
        | inr back ↦ joined parent k (here_other (os parent x.part) (bs parent y.part) (within x.procedures) (within y.procedures) k (g parent k back high))
      ]
  both_here os bs cs f from middle to (Ok x) (Err gs) same h g = tt
  both_here os bs cs f from middle to (Err fs) (Ok y) same h g = tt
  both_here os bs cs f from middle to (Err fs) (Err gs) same h g = tt

  -- ---- blocks that begin

  it_is : (k n : ℕ) (b : BlockTree) → b.head.number ≡ k → slots_of b ≡ sizes k → is_it k b ≡ true
  it_is k n b number slots = rw (eq-eqb b.head.number k number, eq-eqb (slots_of b) (sizes k) slots) refl

  first_or : (k from to : ℕ) (b : BlockTree) (bs : List BlockTree) → from ≤ k → k < to → is_it from b ≡ true
      → ((k : ℕ) → suc from ≤ k → k < to → Here bs k) → Here (b ∷ bs) k
  first_or k from to b bs low high it rest = elim (cases_lt from k) [
    | inl past ↦ or_right (is_it k b) (list_any (is_it k) bs) (rest k (omega (arith, past)) high)
    | inr not ↦ (let same : from ≡ k = omega (arith, low, not) in
        subst (λ k. Here (b ∷ bs) k) same (ap (λ c. c || list_any (is_it from) bs) it))
  ]

  begin_here : (head : BlockHead) (from to : ℕ) (r : Result (WithProcedures TypedStatements) (List Fault)) → head.number ≡ from
      → length head.variables ≡ sizes from → OnTyped (AreHere blocks_among (suc from) to) r
      → OnTyped (AreHere blocks_of_form from to) (made (typed.Begin head) r)
  begin_here head from to (Ok y) number slots h =
      λ parent k low high.
      first_or k from to (begin_block parent head y.part) (blocks_among head.number y.part ++ within y.procedures) low high
      (it_is from from (begin_block parent head y.part) number (omega (arith, slots))) (λ k low high. h head.number k low high)
  begin_here head from to (Err fs) number slots h = tt

  procedure_here : (left : Form) (make : TypedStatements → TypedProcedure) (from to : ℕ) (r : Result (WithProcedures TypedStatements) (List Fault))
      → ((parent : ℕ) → blocks_of_form parent left ≡ [])
      → ((list : TypedStatements) → ((make list).head.number ≡ from) × (slots_of (procedure_block (make list)) ≡ sizes from) × ((make list).statements ≡ list))
      → OnTyped (AreHere blocks_among (suc from) to) r → OnTyped (AreHere blocks_of_form from to) (as_procedure left make r)
  procedure_here left make from to (Ok y) none known h =
      λ parent k low high. subst (λ xs. Here (xs ++ within (y.procedures ++ make y.part ∷ [])) k) (sym (none parent)) (each k low high)
    where
      turned : (k : ℕ) → Here (blocks_of_procedure (make y.part) ++ within y.procedures) k → Here (within (y.procedures ++ make y.part ∷ [])) k
      turned k e =
          let p = is_it k in
          let own = blocks_of_procedure (make y.part) in
          ap (list_any p) (within_both y.procedures (make y.part ∷ []))
          ∙ list_any-append p (within y.procedures) (own ++ [])
          ∙ ap (λ b. list_any p (within y.procedures) || b) (list_any-append p own [])
          ∙ or_turned (list_any p own) (list_any p (within y.procedures)) (sym (list_any-append p own (within y.procedures)) ∙ e)
        where
          or_turned : (a b : Bool) → (a || b) ≡ true → (b || (a || false)) ≡ true
          or_turned true true e = refl
          or_turned true false e = refl
          or_turned false true e = refl
          or_turned false false e = absurd (cc)

      each : (k : ℕ) → from ≤ k → k < to → Here (within (y.procedures ++ make y.part ∷ [])) k
      each k low high =
          let it = known y.part in
          turned k
          (first_or k from to (procedure_block (make y.part)) (blocks_among (make y.part).head.number (make y.part).statements ++ within y.procedures) low high
          (it_is from from (procedure_block (make y.part)) it.0 it.1)
          (λ k low high. subst (λ list. Here (blocks_among (make y.part).head.number list ++ within y.procedures) k) (sym it.2)
          (h (make y.part).head.number k low high)))
  procedure_here left make from to (Err fs) none known h = tt

  -- ---- lists

  put_here : (nothing : Bool) (number from middle to : ℕ) (r : Result (WithProcedures Form) (List Fault)) (q : Result (WithProcedures TypedStatements) (List Fault))
      → (nothing ≡ true → OnTyped (λ y. y.part ≡ typed.Null) r) → OnTyped (AreHere blocks_of_form from middle) r → OnTyped (AreHere blocks_among middle to) q
      → OnTyped (AreHere blocks_among from to) (together (put_before nothing) (made (typed.Statement number) r) q)
  put_here false number from middle to r q null h g =
      both_here blocks_in blocks_among blocks_among (put_before false) from middle to (made (typed.Statement number) r) q (λ parent x y. refl)
      (made_here blocks_of_form blocks_in (typed.Statement number) from middle r (λ parent x. refl) h) g
  put_here true number from middle to (Ok x) (Ok y) null h g =
      both_here (λ parent (f : Form). []) blocks_among blocks_among (λ f more. more) from middle to (Ok x) (Ok y) (λ parent x y. refl)
      (λ parent k low high. subst (λ (f : Form). Here (blocks_of_form parent f ++ within x.procedures) k) (null refl) (h parent k low high)) g
  put_here true number from middle to (Ok x) (Err gs) null h g = tt
  put_here true number from middle to (Err fs) (Ok y) null h g = tt
  put_here true number from middle to (Err fs) (Err gs) null h g = tt

-- ---- statements

module _ (program : ExternalProcedure) (is_based : ℕ → Bool) (based : List ℕ → ℕ → List Template) (areas : List ℕ → ℕ → Option Beginning)
    (meaning : List ℕ → ℕ → NamedAs) (parameters : ℕ → List ParameterType) (returned : ℕ → Option Description) (automatic : ℕ → List Template)
    (globals : List Global)
    (without_parameters : (number : ℕ) (b : SourceBlock) → slice_get (unit_blocks program) number ≡ Some b → (b.kind ≡ kinds.Procedure → ⊥)
    → parameters number ≡ []) where
  abbrev U : NamedUnit
  U = unit_with program is_based based areas meaning parameters returned automatic globals

  abbrev All : List SourceBlock
  All = unit_blocks program

  abbrev pub sizes_of : ℕ → ℕ
  sizes_of k = length (parameters k) + length (automatic k)

  own_slots : (number : ℕ) (b : SourceBlock) → slice_get All number ≡ Some b → (b.kind ≡ kinds.Procedure → ⊥)
      → length (automatic number) ≡ sizes_of number
  own_slots number b there other =
      let none : length (parameters number) ≡ 0 = ap (λ (ts : List ParameterType). length ts) (without_parameters number b there other) in
      omega (arith, none)

  at_end : {A : Type 0} (blocks : (parent : ℕ) → A → List BlockTree) (from one other : ℕ) (r : Result (WithProcedures A) (List Fault)) → one ≡ other
      → OnTyped (AreHere sizes_of blocks from one) r → OnTyped (AreHere sizes_of blocks from other) r
  at_end blocks from one other r e h = subst (λ to. OnTyped (AreHere sizes_of blocks from to) r) e h

  mutual
    statement_here : (s : Surroundings) (x : Next) (st : Statement) → Sits All x.block (begun_in s.blocks x.block st)
        → OnTyped (AreHere sizes_of blocks_in x.block (x.block + source.blocks_in st)) (statement_typed U s x st)
    statement_here s x (Numbered number label at body) sits =
        made_here sizes_of blocks_of_form blocks_in (typed.Statement number) x.block (x.block + source.blocks_of body) (body_typed U s x number at body)
        (λ parent f. refl) (body_here s x number at body sits)

    body_here : (s : Surroundings) (x : Next) (number at : ℕ) (body : Body) → Sits All x.block (begun_by s.blocks x.block number body)
        → OnTyped (AreHere sizes_of blocks_of_form x.block (x.block + source.blocks_of body)) (body_typed U s x number at body)
    body_here s x number at (tree.Procedure heading ss end) sits =
        procedure_here sizes_of typed.Null (procedure_of U (Some (block_at s)) x.block number end ss) x.block (x.block + source.blocks_of (tree.Procedure heading ss end))
        (statements_typed U (in_procedure x.block (returned x.block) ss s) (inside x) ss) (λ parent. refl) (λ list. (refl, refl, refl))
        (at_end blocks_among (suc x.block) (suc x.block + source.blocks_among ss) _
        (statements_typed U (in_procedure x.block (returned x.block) ss s) (inside x) ss) (omega arith)
        (list_here (in_procedure x.block (returned x.block) ss s) (inside x) ss sits.1))
    body_here s x number at (tree.Begin ss end) sits =
        begin_here sizes_of (head_of U x.block number ss) x.block (x.block + source.blocks_of (tree.Begin ss end))
        (statements_typed U (in_begin x.block ss s) (inside x) ss) refl (own_slots x.block _ sits.0 begin_no_procedure)
        (at_end blocks_among (suc x.block) (suc x.block + source.blocks_among ss) _
        (statements_typed U (in_begin x.block ss s) (inside x) ss) (omega arith) (list_here (in_begin x.block ss s) (inside x) ss sits.1))
    body_here s x number at (tree.Do None ss end) sits =
        made_here sizes_of blocks_among blocks_of_form typed.Group x.block (x.block + source.blocks_among ss) (statements_typed U (in_group ss s) x ss)
        (λ parent list. refl) (list_here (in_group ss s) x ss sits)
    body_here s x number at (tree.Do (Some (tree.While tested)) ss end) sits =
        with_here sizes_of blocks_among blocks_of_form typed.While x.block (x.block + source.blocks_among ss) (condition (naming_at U s) tested)
        (statements_typed U (in_group ss s) x ss) (λ parent c list. refl) (list_here (in_group ss s) x ss sits)
    body_here s x number at (tree.Do (Some (tree.Iterate variable equals first range tested)) ss end) sits =
        with_here sizes_of blocks_among blocks_of_form typed.Iterate x.block (x.block + source.blocks_among ss)
        (iteration (naming_at U s) x.temporary variable equals first range tested)
        (statements_typed U (in_group ss s) (after_limits range x) ss) (λ parent c list. refl) (list_here (in_group ss s) (after_limits range x) ss sits)
    body_here s x number at (tree.If tested consequence alternative) sits =
        let parts = sits_parts All x.block (source.blocks_in consequence) (begun_in s.blocks x.block consequence) _ (begun_count s.blocks x.block consequence) sits in
        at_end blocks_of_form x.block (x.block + source.blocks_in consequence + source.blocks_in_else alternative) _
        (body_typed U s x number at (tree.If tested consequence alternative)) (omega arith)
        (with_here sizes_of (λ parent (b : TypedStatement × OtherWise). blocks_in parent b.0 ++ blocks_of_else parent b.1) blocks_of_form
        (λ c (b : TypedStatement × OtherWise). typed.If c b.0 b.1) x.block (x.block + source.blocks_in consequence + source.blocks_in_else alternative)
        (condition (naming_at U s) tested)
        (together (λ y z. (y, z)) (statement_typed U s x consequence) (alternative_typed U s (next_after is_based x consequence) alternative))
        (λ parent c b. refl)
        (both_here sizes_of blocks_in blocks_of_else (λ parent (b : TypedStatement × OtherWise). blocks_in parent b.0 ++ blocks_of_else parent b.1)
        (λ y z. (y, z)) x.block (x.block + source.blocks_in consequence) (x.block + source.blocks_in consequence + source.blocks_in_else alternative)
        (statement_typed U s x consequence) (alternative_typed U s (next_after is_based x consequence) alternative) (λ parent y z. refl)
        (statement_here s x consequence parts.0) (alternative_here s (next_after is_based x consequence) alternative parts.1)))
    body_here s x number at tree.Null sits = none_here sizes_of blocks_of_form x.block (x.block + 0) (body_typed U s x number at tree.Null) (omega arith)
    body_here s x number at (tree.Assign target equals value) sits =
        none_here sizes_of blocks_of_form x.block (x.block + 0) (body_typed U s x number at (tree.Assign target equals value)) (omega arith)
    body_here s x number at (tree.Declare declared) sits =
        none_here sizes_of blocks_of_form x.block (x.block + 0) (body_typed U s x number at (tree.Declare declared)) (omega arith)
    body_here s x number at tree.Stop sits = none_here sizes_of blocks_of_form x.block (x.block + 0) (body_typed U s x number at tree.Stop) (omega arith)
    body_here s x number at (tree.Allocate list) sits =
        none_here sizes_of blocks_of_form x.block (x.block + 0) (body_typed U s x number at (tree.Allocate list)) (omega arith)
    body_here s x number at (tree.Free list) sits =
        none_here sizes_of blocks_of_form x.block (x.block + 0) (body_typed U s x number at (tree.Free list)) (omega arith)
    body_here s x number at (tree.Call name arguments) sits =
        none_here sizes_of blocks_of_form x.block (x.block + 0) (body_typed U s x number at (tree.Call name arguments)) (omega arith)
    body_here s x number at (tree.Goto label) sits =
        none_here sizes_of blocks_of_form x.block (x.block + 0) (body_typed U s x number at (tree.Goto label)) (omega arith)
    body_here s x number at (tree.Return value) sits =
        none_here sizes_of blocks_of_form x.block (x.block + 0) (body_typed U s x number at (tree.Return value)) (omega arith)
    body_here s x number at (tree.Put skip list) sits =
        none_here sizes_of blocks_of_form x.block (x.block + 0) (body_typed U s x number at (tree.Put skip list)) (omega arith)
    body_here s x number at (tree.On c (Numbered own label first inner)) sits =
        let unit : Statement = Numbered own label first inner in
        let there : Surroundings = in_on_unit x.block (Numbered own label first inner) s in
        let slots : length (automatic x.block) ≡ sizes_of x.block = own_slots x.block _ sits.0 unit_no_procedure in
        procedure_here sizes_of (typed.On c x.block) (on_unit_of U (Some (block_at s)) x.block number (Numbered own label first inner)) x.block
        (x.block + source.blocks_of (tree.On c (Numbered own label first inner)))
        (statements_typed U there (inside x) (only (Numbered own label first inner))) (λ parent. refl)
        (λ list. (refl, omega (arith, slots), refl))
        (at_end blocks_among (suc x.block) (suc x.block + source.blocks_of inner) _ (statements_typed U there (inside x) (only unit)) (omega arith)
        (put_here sizes_of (leaves_nothing inner) own (suc x.block) (suc x.block + source.blocks_of inner) (suc x.block + source.blocks_of inner)
        (body_typed U there (inside x) own first inner) (Ok (alone NoStatement)) (λ e. nothing_left U there (inside x) own first inner e)
        (body_here there (inside x) own first inner sits.1)
        (none_here sizes_of blocks_among (suc x.block + source.blocks_of inner) (suc x.block + source.blocks_of inner) (Ok (alone NoStatement)) (omega arith))))
    body_here s x number at (tree.Revert c) sits =
        none_here sizes_of blocks_of_form x.block (x.block + 0) (body_typed U s x number at (tree.Revert c)) (omega arith)
    body_here s x number at (tree.Signal c) sits =
        none_here sizes_of blocks_of_form x.block (x.block + 0) (body_typed U s x number at (tree.Signal c)) (omega arith)

    alternative_here : (s : Surroundings) (x : Next) (e : Alternative) → Sits All x.block (begun_after s.blocks x.block e)
        → OnTyped (AreHere sizes_of blocks_of_else x.block (x.block + source.blocks_in_else e)) (alternative_typed U s x e)
    alternative_here s x tree.NoElse sits = none_here sizes_of blocks_of_else x.block (x.block + 0) (alternative_typed U s x tree.NoElse) (omega arith)
    alternative_here s x (tree.Else st) sits =
        made_here sizes_of blocks_in blocks_of_else Else x.block (x.block + source.blocks_in st) (statement_typed U s x st) (λ parent y. refl)
        (statement_here s x st sits)

    pub list_here : (s : Surroundings) (x : Next) (ss : Statements) → Sits All x.block (begun_among s.blocks x.block ss)
        → OnTyped (AreHere sizes_of blocks_among x.block (x.block + source.blocks_among ss)) (statements_typed U s x ss)
    list_here s x Ended sits = none_here sizes_of blocks_among x.block (x.block + 0) (statements_typed U s x Ended) (omega arith)
    list_here s x (Before (Numbered number label at body) more) sits =
        let first : Statement = Numbered number label at body in
        let parts = sits_parts All x.block (source.blocks_of body) (begun_by s.blocks x.block number body) _ (begun_count s.blocks x.block (Numbered number label at body)) sits in
        at_end blocks_among x.block (x.block + source.blocks_of body + source.blocks_among more) _
        (statements_typed U s x (Before (Numbered number label at body) more)) (omega arith)
        (put_here sizes_of (leaves_nothing body) number x.block (x.block + source.blocks_of body) (x.block + source.blocks_of body + source.blocks_among more)
        (body_typed U s x number at body) (statements_typed U s (next_after is_based x (Numbered number label at body)) more)
        (λ e. nothing_left U s x number at body e) (body_here s x number at body parts.0)
        (list_here s (next_after is_based x (Numbered number label at body)) more parts.1))

  -- ---- the unit

  module _ (y : WithProcedures TypedStatements)
      (h : AreHere sizes_of blocks_among 1 (1 + source.blocks_among program.statements) y) where
    abbrev T : TypedUnit
    T = unit_of U y

    all_here : (k : ℕ) → k < 1 + source.blocks_among program.statements → Here sizes_of (whole.unit_blocks T) k
    all_here k lt =
        first_or sizes_of k 0 (1 + source.blocks_among program.statements) (procedure_block (external_of U y.part)) (blocks_among 0 y.part ++ within y.procedures)
        (omega arith) lt (it_is sizes_of 0 0 (procedure_block (external_of U y.part)) refl refl) (λ k low high. h 0 k low high)

    pub has_block : (k : ℕ) → k < 1 + source.blocks_among program.statements → HasBlock T k
    has_block k lt =
        any_weaker (is_it sizes_of k) (has_number k) (whole.unit_blocks T)
        (λ b e. (and_parts (has_number k b) (nat_eq (slots_of b) (sizes_of k)) e).0) (all_here k lt)

    pub has_slot : (k slot : ℕ) → k < 1 + source.blocks_among program.statements → slot < sizes_of k → HasSlot T slot
    has_slot k slot lt within =
        any_weaker (is_it sizes_of k) (λ b. nat_lt slot (slots_of b)) (whole.unit_blocks T)
        (λ b e. let same : slots_of b ≡ sizes_of k = eqb-true (slots_of b) (sizes_of k) (and_parts (has_number k b) (nat_eq (slots_of b) (sizes_of k)) e).1 in
        lt-ltb slot (slots_of b) (omega (arith, within, same))) (all_here k lt)

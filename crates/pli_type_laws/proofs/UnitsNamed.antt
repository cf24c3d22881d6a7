-- Each ON that the type checker gives names an ON-unit of its block: by induction on the source tree. What is said of a part
-- rests on where the ON-units among its procedures stand.
use Rattle.std.specs.Prelude.{◌≡◌, ℕ, Bool, true, false, Option, Some, None, List, [], ◌∷◌, ◌++◌, slice_get, Result, Ok, Err, refl}
use Rattle.std.specs.List.{AllByRecursion}
use Rattle.std.proofs.Common.{sym, subst}
use Rattle.std.proofs.lemmas.Grind.{flat_map-append}
use Rattle.pli_base.specs.Results.{◌>>=◌}
use Rattle.pli_base.specs.Statements as tree
use Rattle.pli_base.specs.Statements.{Statement, Numbered, Body, Statements, Ended, Before, Alternative}
use Rattle.pli_base.specs.declared.token.Fault.{Fault}
use Rattle.pli_gen_emit.specs.TreeTranslation.{BlockTree, blocks_of_procedure, procedure_block, blocks_in, blocks_of_form}
use Rattle.pli_gen_emit.specs.TreeTranslation.{blocks_of_else, blocks_among}
use Rattle.pli_gen.specs.laws.ListLaws.{all_front, all_back}
use Rattle.pli_gen.specs.WellNumbered.{IsOnUnitIn, NamesOnUnits, NamesUnitsForm, NamesUnitsElse, NameUnits}
use Rattle.pli_map.specs.Description.{Description}
use Rattle.pli_program.specs.Program.{OnUnit}
use Rattle.pli_type_rules.specs.AllocationTyping.{all_allocated}
use Rattle.pli_type_rules.specs.Names.{NamedUnit}
use Rattle.pli_type_rules.specs.StatementTyping.{Enclosing, Surroundings, WithProcedures, naming_at, block_at, labels_of, with_labels, in_group, in_begin}
use Rattle.pli_type_rules.specs.StatementTyping.{in_procedure, in_on_unit, only, inside, after_limits, head_of, procedure_of, on_unit_of}
use Rattle.pli_type_rules.specs.StatementTyping.{as_procedure, alone, of_own, made, together, put_before, says_nothing}
use Rattle.pli_type_rules.specs.StatementTyping.{assignment, condition, iteration, call_typed, goto_typed, return_typed}
use Rattle.pli_type_rules.specs.StatementTyping.{statement_typed, body_typed, alternative_typed, statements_typed}
use Rattle.pli_type_rules.specs.Temporaries.{Next, next_after}
use Rattle.pli_type_rules.specs.TypingSteps.{put_form, if_form, items, free_typed}
use Rattle.pli_type_laws.proofs.Denotations.{OnRead}
use Rattle.pli_type_laws.proofs.NumberedParts.{blocks_within}
use Rattle.pli_type_laws.proofs.Shapes.{IsSimple, simple_assignment, simple_goto, simple_call, simple_return, simple_free}
use Rattle.pli_type_laws.proofs.TypedParts.{OnTyped}
use Rattle.pli_type_laws.proofs.InitialHeld.{all_after}
use Rattle.pli_type_tree.specs.TypedTree as typed
use Rattle.pli_type_tree.specs.TypedTree.{AllocatedItem, Form, OtherWise, Else, TypedExpression, TypedProcedure, TypedStatement}
use Rattle.pli_type_tree.specs.TypedTree.{TypedStatements, NoStatement}

-- what holds of two lists, one after the other, holds of each
pub all_parts : {A : Type 0} (P : A → Type 0) (xs ys : List A) → AllByRecursion P (xs ++ ys) → AllByRecursion P xs × AllByRecursion P ys
all_parts P xs ys h = (all_front P xs ys h, all_back P xs ys h)

-- the block of an ON-unit
on_unit_kind : (f : TypedProcedure) → f.is_on_unit ≡ true → (procedure_block f).kind ≡ OnUnit
on_unit_kind f is = rw is refl

module _ (bs : List BlockTree) where
  -- an ON-unit stands among these blocks, in the block that it says
  abbrev pub Gives : TypedProcedure → Type 0
  Gives f =
      (parent : ℕ) → f.is_on_unit ≡ true → f.parent ≡ Some parent → f.parameters ≡ 0 → IsOnUnitIn bs parent f.head.number

  -- a block stands there under its number
  abbrev pub Placed : BlockTree → Type 0
  Placed b = slice_get bs b.head.number ≡ Some b

  gives : (f : TypedProcedure) → Placed (procedure_block f) → Gives f
  gives f there = λ parent is at none. record {
    tree = procedure_block f;
    there = there;
    kind = on_unit_kind f is;
    parent = at;
    parameters = none;
  }

  pub gives_all : (fs : List TypedProcedure) → AllByRecursion Placed (blocks_within fs) → AllByRecursion Gives fs
  gives_all [] h = tt
  gives_all (f ∷ fs) h =
      let parts : AllByRecursion Placed (blocks_of_procedure f) × AllByRecursion Placed (blocks_within fs) =
      all_parts Placed (blocks_of_procedure f) (blocks_within fs) h in
      (gives f parts.0.0, gives_all fs parts.1)

  -- each ON in a block names one of its units
  abbrev pub Named : BlockTree → Type 0
  Named b = NameUnits bs b.head.number b.statements

  -- each ON in a part does, and in the BEGIN blocks inside it
  pub record IsNamed {A : Type 0} (names : A → Type 0) (inner : (parent : ℕ) → A → List BlockTree) (x : A) : Type 0 where
    pub here : names x
    pub blocks : (parent : ℕ) → AllByRecursion Named (inner parent x)

  abbrev FormNamed : (block : ℕ) → Form → Type 0
  FormNamed block = IsNamed (NamesUnitsForm bs block) blocks_of_form

  abbrev StatementNamed : (block : ℕ) → TypedStatement → Type 0
  StatementNamed block = IsNamed (NamesOnUnits bs block) blocks_in

  abbrev ElseNamed : (block : ℕ) → OtherWise → Type 0
  ElseNamed block = IsNamed (NamesUnitsElse bs block) blocks_of_else

  abbrev pub ListNamed : (block : ℕ) → TypedStatements → Type 0
  ListNamed block = IsNamed (NameUnits bs block) blocks_among

  -- where the ON-units among its procedures stand, a part is so, and so are its procedures
  abbrev pub Given : {A : Type 0} → (A → Type 0) → WithProcedures A → Type 0
  Given P y = AllByRecursion Gives y.procedures → P y.part × AllByRecursion Named (blocks_within y.procedures)

  -- ---- parts

  within_both : (fs gs : List TypedProcedure) → AllByRecursion Named (blocks_within fs) → AllByRecursion Named (blocks_within gs)
      → AllByRecursion Named (blocks_within (fs ++ gs))
  within_both fs gs h k =
      subst (AllByRecursion Named) (sym (flat_map-append blocks_of_procedure fs gs))
      (all_after Named (blocks_within fs) (blocks_within gs) h k)

  given_made : {A B : Type 0} (P : A → Type 0) (Q : B → Type 0) (f : A → B) (r : Result (WithProcedures A) (List Fault))
      → ((x : A) → P x → Q (f x)) → OnTyped (Given P) r → OnTyped (Given Q) (made f r)
  given_made P Q f (Ok y) k h = λ g. (k y.part (h g).0, (h g).1)
  given_made P Q f (Err fs) k h = tt

  given_with : {A B C : Type 0} (P : B → Type 0) (Q : C → Type 0) (f : A → B → C) (q : Result A Fault)
      (r : Result (WithProcedures B) (List Fault)) → ((x : A) (y : B) → P y → Q (f x y)) → OnTyped (Given P) r
      → OnTyped (Given Q) (together f (of_own q) r)
  given_with P Q f (Ok x) (Ok y) k h = λ g. (k x y.part (h g).0, (h g).1)
  given_with P Q f (Ok x) (Err fs) k h = tt
  given_with P Q f (Err e) (Ok y) k h = tt
  given_with P Q f (Err e) (Err fs) k h = tt

  given_both : {A B C : Type 0} (P : A → Type 0) (Q : B → Type 0) (R : C → Type 0) (f : A → B → C)
      (r : Result (WithProcedures A) (List Fault)) (q : Result (WithProcedures B) (List Fault))
      → ((x : A) (y : B) → P x → Q y → R (f x y)) → OnTyped (Given P) r → OnTyped (Given Q) q → OnTyped (Given R) (together f r q)
  given_both P Q R f (Ok x) (Ok y) k h j = λ g.
      let parts : AllByRecursion Gives x.procedures × AllByRecursion Gives y.procedures = all_parts Gives x.procedures y.procedures g in
      (k x.part y.part (h parts.0).0 (j parts.1).0, within_both x.procedures y.procedures (h parts.0).1 (j parts.1).1)
  given_both P Q R f (Ok x) (Err gs) k h j = tt
  given_both P Q R f (Err fs) (Ok y) k h j = tt
  given_both P Q R f (Err fs) (Err gs) k h j = tt

  -- a procedure or an ON-unit
  given_ended : (P : TypedStatements → Type 0) (Q : Form → Type 0) (left : Form) (make : TypedStatements → TypedProcedure)
      (r : Result (WithProcedures TypedStatements) (List Fault)) → ((list : TypedStatements) → Gives (make list) → Q left)
      → ((list : TypedStatements) → P list → AllByRecursion Named (blocks_of_procedure (make list))) → OnTyped (Given P) r
      → OnTyped (Given Q) (as_procedure left make r)
  given_ended P Q left make (Ok y) k j h = λ g.
      let parts : AllByRecursion Gives y.procedures × AllByRecursion Gives (make y.part ∷ []) =
      all_parts Gives y.procedures (make y.part ∷ []) g in (
        k y.part parts.1.0,
        within_both y.procedures (make y.part ∷ []) (h parts.0).1
            (all_after Named (blocks_of_procedure (make y.part)) [] (j y.part (h parts.0).0) tt),
      )
  given_ended P Q left make (Err fs) k j h = tt

  -- ---- forms without statements in them

  simple_named : (block : ℕ) (f : Form) → IsSimple f → FormNamed block f
  simple_named block (typed.If c s e) h = absurd h
  simple_named block (typed.Begin head ss) h = absurd h
  simple_named block (typed.Group ss) h = absurd h
  simple_named block (typed.While c ss) h = absurd h
  simple_named block (typed.Iterate i ss) h = absurd h
  simple_named block (typed.Allocate list) h = absurd h
  simple_named block (typed.On c number) h = absurd h
  simple_named block f h = record { here = tt; blocks = λ parent. tt }

  own_named : (block : ℕ) (r : Result Form Fault) → OnRead IsSimple r → OnTyped (Given (FormNamed block)) (of_own r)
  own_named block (Ok f) h = λ g. (simple_named block f h, tt)
  own_named block (Err f) h = tt

  allocate_named : (block : ℕ) (r : Result (List AllocatedItem) Fault)
      → OnTyped (Given (FormNamed block)) (of_own (r >>= λ xs. Ok (typed.Allocate xs)))
  allocate_named block (Ok xs) = λ g. (record { here = tt; blocks = λ parent. tt }, tt)
  allocate_named block (Err f) = tt

  put_named : (block : ℕ) (skip : Bool) (r : Result (List TypedExpression) Fault) → OnTyped (Given (FormNamed block)) (put_form skip r)
  put_named block skip (Ok xs) = λ g. (record { here = tt; blocks = λ parent. tt }, tt)
  put_named block skip (Err f) = tt

  -- ---- forms with statements in them

  if_named : (block : ℕ) (q : Result TypedExpression Fault) (r : Result (WithProcedures TypedStatement) (List Fault))
      (o : Result (WithProcedures OtherWise) (List Fault)) → OnTyped (Given (StatementNamed block)) r
      → OnTyped (Given (ElseNamed block)) o → OnTyped (Given (FormNamed block)) (if_form q r o)
  if_named block (Ok x) (Ok s) (Ok e) h j = λ g.
      let parts : AllByRecursion Gives s.procedures × AllByRecursion Gives e.procedures = all_parts Gives s.procedures e.procedures g in (
        record {
          here = ((h parts.0).0.here, (j parts.1).0.here);
          blocks = λ parent.
              all_after Named (blocks_in parent s.part) (blocks_of_else parent e.part) ((h parts.0).0.blocks parent)
              ((j parts.1).0.blocks parent);
        },
        within_both s.procedures e.procedures (h parts.0).1 (j parts.1).1,
      )
  if_named block (Ok x) (Ok s) (Err gs) h j = tt
  if_named block (Ok x) (Err fs) (Ok e) h j = tt
  if_named block (Ok x) (Err fs) (Err gs) h j = tt
  if_named block (Err f) (Ok s) (Ok e) h j = tt
  if_named block (Err f) (Ok s) (Err gs) h j = tt
  if_named block (Err f) (Err fs) (Ok e) h j = tt
  if_named block (Err f) (Err fs) (Err gs) h j = tt

  before_named : (block : ℕ) (nothing : Bool) (s : TypedStatement) (ss : TypedStatements) → StatementNamed block s
      → ListNamed block ss → ListNamed block (put_before nothing s ss)
  before_named block true s ss h k = k
  before_named block false s ss h k = record {
    here = (h.here, k.here);
    blocks = λ parent. all_after Named (blocks_in parent s) (blocks_among parent ss) (h.blocks parent) (k.blocks parent);
  }

  group_block : (labels : List ℕ) (es : List Enclosing) (begins : ℕ) (value : Option Description)
      → block_at (record { blocks = with_labels labels es; begins = begins; value = value })
      ≡ block_at (record { blocks = es; begins = begins; value = value })
  group_block labels [] begins value = refl
  group_block labels (e ∷ es) begins value = refl

  -- ---- the induction

  module _ (u : NamedUnit) where
    group_named : (s : Surroundings) (x : Next) (ss : Statements)
        → OnTyped (Given (ListNamed (block_at (in_group ss s)))) (statements_typed u (in_group ss s) x ss)
        → OnTyped (Given (ListNamed (block_at s))) (statements_typed u (in_group ss s) x ss)
    group_named s x ss h =
        subst (λ b. OnTyped (Given (ListNamed b)) (statements_typed u (in_group ss s) x ss))
        (group_block (labels_of ss) s.blocks s.begins s.value) h

    mutual
      statement_named : (s : Surroundings) (x : Next) (st : Statement)
          → OnTyped (Given (StatementNamed (block_at s))) (statement_typed u s x st)
      statement_named s x (Numbered number label at body) =
          given_made (FormNamed (block_at s)) (StatementNamed (block_at s)) (typed.Statement number) (body_typed u s x number at body)
          (λ f h. record { here = h.here; blocks = h.blocks }) (body_named s x number at body)

      body_named : (s : Surroundings) (x : Next) (number at : ℕ) (body : Body)
          → OnTyped (Given (FormNamed (block_at s))) (body_typed u s x number at body)
      body_named s x number at tree.Null = own_named (block_at s) (Ok typed.Null) tt
      body_named s x number at (tree.Assign target equals value) =
          own_named (block_at s) (assignment (naming_at u s) at target equals value)
          (simple_assignment (naming_at u s) at target equals value)
      body_named s x number at (tree.Declare declared) = own_named (block_at s) (Ok typed.Null) tt
      body_named s x number at (tree.Procedure heading ss end) =
          given_ended (ListNamed x.block) (FormNamed (block_at s)) typed.Null (procedure_of u (Some (block_at s)) x.block number end ss)
          (statements_typed u (in_procedure x.block (u.returned x.block) ss s) (inside x) ss)
          (λ list g. record { here = tt; blocks = λ parent. tt }) (λ list h. (h.here, h.blocks x.block))
          (list_named (in_procedure x.block (u.returned x.block) ss s) (inside x) ss)
      body_named s x number at (tree.Begin ss end) =
          given_made (ListNamed x.block) (FormNamed (block_at s)) (typed.Begin (head_of u x.block number ss))
          (statements_typed u (in_begin x.block ss s) (inside x) ss)
          (λ list h. record { here = tt; blocks = λ parent. (h.here, h.blocks x.block) })
          (list_named (in_begin x.block ss s) (inside x) ss)
      body_named s x number at (tree.Do None ss end) =
          given_made (ListNamed (block_at s)) (FormNamed (block_at s)) typed.Group (statements_typed u (in_group ss s) x ss)
          (λ list h. record { here = h.here; blocks = h.blocks }) (group_named s x ss (list_named (in_group ss s) x ss))
      body_named s x number at (tree.Do (Some (tree.While tested)) ss end) =
          given_with (ListNamed (block_at s)) (FormNamed (block_at s)) typed.While (condition (naming_at u s) tested)
          (statements_typed u (in_group ss s) x ss) (λ c list h. record { here = h.here; blocks = h.blocks }) (group_named s x ss (list_named (in_group ss s) x ss))
      body_named s x number at (tree.Do (Some (tree.Iterate variable equals first range tested)) ss end) =
          given_with (ListNamed (block_at s)) (FormNamed (block_at s)) typed.Iterate
          (iteration (naming_at u s) x.temporary variable equals first range tested)
          (statements_typed u (in_group ss s) (after_limits range x) ss) (λ i list h. record { here = h.here; blocks = h.blocks })
          (group_named s (after_limits range x) ss (list_named (in_group ss s) (after_limits range x) ss))
      body_named s x number at (tree.If tested consequence alternative) =
          if_named (block_at s) (condition (naming_at u s) tested) (statement_typed u s x consequence)
          (alternative_typed u s (next_after u.is_based x consequence) alternative) (statement_named s x consequence)
          (alternative_named s (next_after u.is_based x consequence) alternative)
      body_named s x number at tree.Stop = own_named (block_at s) (Ok typed.Stop) tt
      body_named s x number at (tree.Allocate list) =
          allocate_named (block_at s) (all_allocated (naming_at u s) x.temporary list)
      body_named s x number at (tree.Free list) =
          own_named (block_at s) (free_typed (naming_at u s) list) (simple_free (naming_at u s) list)
      body_named s x number at (tree.Call name arguments) =
          own_named (block_at s) (call_typed (naming_at u s) name arguments) (simple_call (naming_at u s) name arguments)
      body_named s x number at (tree.Goto label) =
          own_named (block_at s) (goto_typed (naming_at u s) s label) (simple_goto (naming_at u s) s label)
      body_named s x number at (tree.Return value) =
          own_named (block_at s) (return_typed (naming_at u s) s at value) (simple_return (naming_at u s) s at value)
      body_named s x number at (tree.Put skip list) = put_named (block_at s) skip (items (naming_at u s) list)
      body_named s x number at (tree.On c unit) =
          given_ended (ListNamed x.block) (FormNamed (block_at s)) (typed.On c x.block)
          (on_unit_of u (Some (block_at s)) x.block number unit) (statements_typed u (in_on_unit x.block unit s) (inside x) (only unit))
          (λ list g. record { here = g (block_at s) refl refl refl; blocks = λ parent. tt }) (λ list h. (h.here, h.blocks x.block))
          (given_both (StatementNamed x.block) (ListNamed x.block) (ListNamed x.block) (put_before (says_nothing unit))
          (statement_typed u (in_on_unit x.block unit s) (inside x) unit) (Ok (alone NoStatement))
          (λ st ss h k. before_named x.block (says_nothing unit) st ss h k) (statement_named (in_on_unit x.block unit s) (inside x) unit)
          (λ g. (record { here = tt; blocks = λ parent. tt }, tt)))
      body_named s x number at (tree.Revert c) = own_named (block_at s) (Ok (typed.Revert c)) tt
      body_named s x number at (tree.Signal c) = own_named (block_at s) (Ok (typed.Signal c)) tt

      alternative_named : (s : Surroundings) (x : Next) (a : Alternative)
          → OnTyped (Given (ElseNamed (block_at s))) (alternative_typed u s x a)
      alternative_named s x tree.NoElse = λ g. (record { here = tt; blocks = λ parent. tt }, tt)
      alternative_named s x (tree.Else st) =
          given_made (StatementNamed (block_at s)) (ElseNamed (block_at s)) Else (statement_typed u s x st)
          (λ y h. record { here = h.here; blocks = h.blocks }) (statement_named s x st)

      pub list_named : (s : Surroundings) (x : Next) (ss : Statements)
          → OnTyped (Given (ListNamed (block_at s))) (statements_typed u s x ss)
      list_named s x Ended = λ g. (record { here = tt; blocks = λ parent. tt }, tt)
      list_named s x (Before first more) =
          given_both (StatementNamed (block_at s)) (ListNamed (block_at s)) (ListNamed (block_at s)) (put_before (says_nothing first))
          (statement_typed u s x first) (statements_typed u s (next_after u.is_based x first) more)
          (λ st ss h k. before_named (block_at s) (says_nothing first) st ss h k) (statement_named s x first)
          (list_named s (next_after u.is_based x first) more)

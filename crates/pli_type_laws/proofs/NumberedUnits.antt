-- What the type checker gives is numbered well: by induction on the source tree.
use Rattle.std.specs.Prelude.{◌≡◌, ℕ, zero, suc, ◌+◌, ◌-◌, ◌≤◌, ◌<◌, Bool, true, false, Option, Some, None, List, [], ◌∷◌}
use Rattle.std.specs.Prelude.{length, map, Result, Ok, Err, refl}
use Rattle.std.specs.List.{flat_map, AllByRecursion}
use Rattle.std.proofs.Common.{arith, sym, ap, ◌∙◌, subst, length-append}
use Rattle.std.proofs.lemmas.Bool.{false≢true}
use Rattle.pli_base.specs.Statements as tree
use Rattle.pli_base.specs.Statements.{Statement, Numbered, Body, Range, Statements, Ended, Before, Alternative, count, body_count}
use Rattle.pli_base.specs.Statements.{list_count, alternative_count}
use Rattle.pli_base.specs.declared.statement.Condition.{Condition}
use Rattle.pli_base.specs.declared.token.Fault.{Fault}
use Rattle.pli_gen_emit.specs.TreeTranslation.{BlockTree, blocks_of_procedure, blocks_in, blocks_of_form, blocks_of_else, blocks_among, by_number}
use Rattle.pli_gen.specs.WellNumbered.{numbers_in, numbers_in_form, numbers_in_else, numbers_among, HasTurns, HaveRoom}
use Rattle.pli_gen.specs.WellNumbered.{KeepApart, next_temporary, IsWellNumbered}
use Rattle.pli_parse_expression.specs.Expressions.{Deeper}
use Rattle.pli_type_rules.specs.Checked.{in_unit, first_inside, external_of, unit_of, typed_as, checked}
use Rattle.pli_type_rules.specs.Names.{NamedUnit}
use Rattle.pli_type_rules.specs.StatementTyping.{Surroundings, naming_at, block_at, leaves_nothing, assignment, condition, iteration}
use Rattle.pli_type_rules.specs.StatementTyping.{call_typed, goto_typed, return_typed, WithProcedures, alone, of_own, together, made, head_of}
use Rattle.pli_type_rules.specs.StatementTyping.{procedure_of, on_unit_of, as_procedure, put_before, inside, after_limits, in_group, in_begin, in_on_unit, in_procedure, only}
use Rattle.pli_type_rules.specs.StatementTyping.{statement_typed, body_typed, alternative_typed, statements_typed}
use Rattle.pli_declare.specs.TreeBlocks as blocks
use Rattle.pli_type_rules.specs.Temporaries.{Next, next_after, limits_kept, based_among, temporaries_in, temporaries_of, temporaries_among, temporaries_in_else}
use Rattle.pli_type_rules.specs.TypingSteps.{items, allocate_typed, free_typed}
use Rattle.pli_type_laws.proofs.Counting.{same, below, below_next, below_bound, in_blocks, of_blocks, in_both, of_both}
use Rattle.pli_type_laws.proofs.Counting.{blocks_placed, ordered_distinct}
use Rattle.pli_type_laws.proofs.Denotations.{OnRead}
use Rattle.pli_type_laws.proofs.NumberedParts.{AreRoomy, roomy_both, blocks_within, Good, good_alone, good_made, good_both}
use Rattle.pli_type_laws.proofs.NumberedParts.{HereForm, HereStatement, HereElse, HereList, GoodForm, GoodStatement, GoodElse, GoodList}
use Rattle.pli_type_laws.proofs.NumberedParts.{good_numbered, good_begin, good_procedure}
use Rattle.pli_type_laws.proofs.Shapes.{IsSimple, simple_assignment, simple_goto, simple_call, simple_return, simple_free, IsAllocation, allocate_keeps, HasOwn, iteration_keeps}
use Rattle.pli_type_laws.proofs.TypedParts.{OnTyped, on_given, unit_given}
use Rattle.pli_type_laws.proofs.UnitsNamed.{Given, ListNamed, Named, Placed, all_parts, gives_all, list_named}
use Rattle.pli_type_laws.specs.TypedUnits.{TypedUnitsAreNumbered}
use Rattle.pli_type_laws.proofs.InitialHeld.{all_after}
use Rattle.pli_type_laws.specs.NameFacts.{KnowsBased}
use Rattle.pli_type_laws.specs.Nesting.{NestsWithin, BodyNests, ListNests, ElseNests}
use Rattle.pli_type_laws.specs.Numbering.{IsNumbered, IsNumberedBody, AreNumbered, IsNumberedElse}
use Rattle.pli_type_tree.specs.Iterations.{is_iterated}
use Rattle.pli_type_tree.specs.TypedTree as typed
use Rattle.pli_type_tree.specs.TypedTree.{TypedExpression, Iteration, Form, TypedStatement, TypedStatements, NoStatement, StatementThen}
use Rattle.pli_type_tree.specs.TypedTree.{OtherWise, NoElse, Else, TypedProcedure, TypedUnit}

-- ---- forms

simple_good : (m t z a b k : ℕ) (f : Form) → a ≤ b → IsSimple f → GoodForm m t z a b k k (alone f)
simple_good m t z a b k (typed.If c s e) le h = absurd h
simple_good m t z a b k (typed.Begin head ss) le h = absurd h
simple_good m t z a b k (typed.Group ss) le h = absurd h
simple_good m t z a b k (typed.While c ss) le h = absurd h
simple_good m t z a b k (typed.Iterate i ss) le h = absurd h
simple_good m t z a b k (typed.Allocate items) le h = absurd h
simple_good m t z a b k (typed.On c block) le h = absurd h
simple_good m t z a b k f le h =
    good_alone numbers_in_form blocks_of_form (HereForm m t z) a b k f le refl (λ parent. refl)
    ((λ j lt. tt), (λ used size u s. tt))

own_good : (m t z a b k l : ℕ) (r : Result Form Fault) → a ≤ b → k ≡ l → OnRead IsSimple r
    → OnTyped (GoodForm m t z a b k l) (of_own r)
own_good m t z a b k l (Ok f) le e h = subst (λ l. GoodForm m t z a b k l (alone f)) e (simple_good m t z a b k f le h)
own_good m t z a b k l (Err f) le e h = tt

allocate_good : (m t count a b k l : ℕ) (r : Result Form Fault) → a ≤ b → k ≡ l → OnRead (IsAllocation t count) r
    → OnTyped (GoodForm m t (t + count) a b k l) (of_own r)
allocate_good m t count a b k l (Ok (typed.Allocate items)) le e h =
    subst (λ l. GoodForm m t (t + count) a b k l (alone (typed.Allocate items))) e
    (good_alone numbers_in_form blocks_of_form (HereForm m t (t + count)) a b k (typed.Allocate items) le refl (λ parent. refl) ((λ j lt. tt), h.0))
allocate_good m t count a b k l (Ok f) le e h = absurd h
allocate_good m t count a b k l (Err f) le e h = tt

put_form_good : (m t z a b k l : ℕ) (skip : Bool) (r : Result (List TypedExpression) Fault) → a ≤ b → k ≡ l
    → OnTyped (GoodForm m t z a b k l) (made (typed.Put skip) (of_own r))
put_form_good m t z a b k l skip (Ok xs) le e =
    subst (λ l. GoodForm m t z a b k l (alone (typed.Put skip xs))) e (simple_good m t z a b k (typed.Put skip xs) le tt)
put_form_good m t z a b k l skip (Err f) le e = tt

-- a group
group_good : (m i t z a b c k l : ℕ) (r : Result (WithProcedures TypedStatements) (List Fault)) → m ≡ suc i → b ≤ c
    → OnTyped (GoodList i t z a b k l) r → OnTyped (GoodForm m t z a c k l) (made typed.Group r)
group_good m i t z a b c k l (Ok y) e le g =
    good_made numbers_among blocks_among (HereList i t z) numbers_in_form blocks_of_form (HereForm m t z) a b c k l y
    (typed.Group y.part) le g refl (λ parent. refl) ((λ j lt. g.5.0 j (omega (arith, e, lt))), g.5.1)
group_good m i t z a b c k l (Err fs) e le g = tt

while_good : (m i t z a b c k l : ℕ) (q : Result TypedExpression Fault) (r : Result (WithProcedures TypedStatements) (List Fault))
    → m ≡ suc i → b ≤ c → OnTyped (GoodList i t z a b k l) r → OnTyped (GoodForm m t z a c k l) (together typed.While (of_own q) r)
while_good m i t z a b c k l (Ok x) (Ok y) e le g =
    good_made numbers_among blocks_among (HereList i t z) numbers_in_form blocks_of_form (HereForm m t z) a b c k l y
    (typed.While x y.part) le g refl (λ parent. refl)
    ((λ j lt. (omega (arith, e, lt), g.5.0 (j - 1) (omega (arith, e, lt)))), g.5.1)
while_good m i t z a b c k l (Ok x) (Err fs) e le g = tt
while_good m i t z a b c k l (Err f) (Ok y) e le g = tt
while_good m i t z a b c k l (Err f) (Err fs) e le g = tt

turns : (iterated : Bool) (i j : ℕ) (list : TypedStatements) → suc i < j → ((j : ℕ) → i < j → HaveRoom j list)
    → HasTurns iterated j (λ n. HaveRoom n list)
turns true i j list lt h = (omega (arith, lt), h (j - 1) (omega (arith, lt)))
turns false i j list lt h = h j (omega (arith, lt))

iterate_good : (m i t z a b c k l : ℕ) (range : Option Range) (q : Result Iteration Fault)
    (r : Result (WithProcedures TypedStatements) (List Fault)) → m ≡ suc i → b ≤ c → t + suc (limits_kept range) ≤ z
    → OnRead (HasOwn t range) q
    → OnTyped (GoodList i (t + suc (limits_kept range)) z a b k l) r
    → OnTyped (GoodForm m t z a c k l) (together typed.Iterate (of_own q) r)
iterate_good m i t z a b c k l range (Ok x) (Ok y) e le room h g =
    good_made numbers_among blocks_among (HereList i (t + suc (limits_kept range)) z) numbers_in_form blocks_of_form (HereForm m t z)
    a b c k l y (typed.Iterate x y.part) le g refl (λ parent. refl) (
      (λ j lt. turns (is_iterated x.range) i j y.part (omega (arith, e, lt)) g.5.0),
      (λ used size u s. (
        omega (arith, u, h.0),
        omega (arith, room, s, h.0, h.1),
        g.5.1 (next_temporary x) size (omega (arith, h.0, h.1)) s,
      )),
    )
iterate_good m i t z a b c k l range (Ok x) (Err fs) e le room h g = tt
iterate_good m i t z a b c k l range (Err f) (Ok y) e le room h g = tt
iterate_good m i t z a b c k l range (Err f) (Err fs) e le room h g = tt

begin_good : (m i t a b c k l : ℕ) (head : typed.BlockHead) (r : Result (WithProcedures TypedStatements) (List Fault)) → i < 64
    → b ≤ c → head.number ≡ k → OnTyped (GoodList i 0 head.temporaries a b (suc k) l) r
    → OnTyped (GoodForm m t t a c k l) (made (typed.Begin head) r)
begin_good m i t a b c k l head (Ok y) few le e g = good_begin i m t a b c k l head y few le e g
begin_good m i t a b c k l head (Err fs) few le e g = tt

procedure_good : (u : NamedUnit) (parent : Option ℕ) (statement end : ℕ) (ss : Statements) (m i t a b c k l : ℕ)
    (r : Result (WithProcedures TypedStatements) (List Fault)) → i < 64 → b ≤ c
    → OnTyped (GoodList i 0 (temporaries_among u.is_based ss) a b (suc k) l) r
    → OnTyped (GoodForm m t t a c k l) (as_procedure typed.Null (procedure_of u parent k statement end ss) r)
procedure_good u parent statement end ss m i t a b c k l (Ok y) few le g =
    good_procedure i m t a b c k l typed.Null (procedure_of u parent k statement end ss y.part) y.procedures refl (λ parent. refl)
    ((λ j lt. tt), (λ used size u s. tt)) few le refl g
procedure_good u parent statement end ss m i t a b c k l (Err fs) few le g = tt

unit_good : (u : NamedUnit) (condition : Condition) (parent : Option ℕ) (statement : ℕ) (unit : Statement) (m i t a b c k l : ℕ)
    (r : Result (WithProcedures TypedStatements) (List Fault)) → i < 64 → b ≤ c
    → OnTyped (GoodList i 0 (temporaries_among u.is_based (only unit)) a b (suc k) l) r
    → OnTyped (GoodForm m t t a c k l) (as_procedure (typed.On condition k) (on_unit_of u parent k statement unit) r)
unit_good u condition parent statement unit m i t a b c k l (Ok y) few le g =
    good_procedure i m t a b c k l (typed.On condition k) (on_unit_of u parent k statement unit y.part) y.procedures refl (λ parent. refl)
    ((λ j lt. tt), (λ used size u s. tt)) few le refl g
unit_good u condition parent statement unit m i t a b c k l (Err fs) few le g = tt

-- IF
if_good : (m i t w z a b c k l n : ℕ) (q : Result TypedExpression Fault) (r : Result (WithProcedures TypedStatement) (List Fault))
    (o : Result (WithProcedures OtherWise) (List Fault)) → m ≡ suc i → t ≤ w → w ≤ z → OnTyped (GoodStatement i t w a b k l) r
    → OnTyped (GoodElse i w z b c l n) o
    → OnTyped (GoodForm m t z a c k n)
    (together (λ x (both : TypedStatement × OtherWise). typed.If x both.0 both.1) (of_own q)
    (together (λ s otherwise. (s, otherwise)) r o))
if_good m i t w z a b c k l n (Ok x) (Ok s) (Ok e) is low high g h =
    good_both numbers_in blocks_in (HereStatement i t w) numbers_in_else blocks_of_else (HereElse i w z) numbers_in_form blocks_of_form
    (HereForm m t z) a b c k l n s e (typed.If x s.part e.part) g h refl (λ parent. refl) (
      (λ j lt. (g.5.0 j (omega (arith, is, lt)), h.5.0 j (omega (arith, is, lt)))),
      (λ used size u v. (g.5.1 used size u (omega (arith, v, high)), h.5.1 used size (omega (arith, u, low)) v)),
    )
if_good m i t w z a b c k l n (Ok x) (Ok s) (Err fs) is low high g h = tt
if_good m i t w z a b c k l n (Ok x) (Err fs) (Ok e) is low high g h = tt
if_good m i t w z a b c k l n (Ok x) (Err fs) (Err gs) is low high g h = tt
if_good m i t w z a b c k l n (Err f) (Ok s) (Ok e) is low high g h = tt
if_good m i t w z a b c k l n (Err f) (Ok s) (Err fs) is low high g h = tt
if_good m i t w z a b c k l n (Err f) (Err fs) (Ok e) is low high g h = tt
if_good m i t w z a b c k l n (Err f) (Err fs) (Err gs) is low high g h = tt

else_good : (m t z a b k l : ℕ) (r : Result (WithProcedures TypedStatement) (List Fault)) → OnTyped (GoodStatement m t z a b k l) r
    → OnTyped (GoodElse m t z a b k l) (made Else r)
else_good m t z a b k l (Ok s) g = g
else_good m t z a b k l (Err fs) g = tt

numbered_good : (m t z a b k l number : ℕ) (r : Result (WithProcedures Form) (List Fault)) → number ≡ a
    → OnTyped (GoodForm m t z (suc a) b k l) r → OnTyped (GoodStatement m t z a b k l) (made (typed.Statement number) r)
numbered_good m t z a b k l number (Ok y) e g = good_numbered m t z a b k l number y e g
numbered_good m t z a b k l number (Err fs) e g = tt

-- ---- lists

-- what leaves nothing among the statements
abbrev IsNothing : (a b k l : ℕ) → WithProcedures TypedStatement → Type 0
IsNothing a b k l y = Good (λ (x : TypedStatement). []) (λ parent (x : TypedStatement). []) (λ (x : TypedStatement). Unit {0}) a b k l y

nothing_good : (m t z a b k l number : ℕ) (y : WithProcedures Form) → y.part ≡ typed.Null
    → GoodStatement m t z a b k l (record { part = typed.Statement number y.part; procedures = y.procedures })
    → IsNothing a b k l (record { part = typed.Statement number y.part; procedures = y.procedures })
nothing_good m t z a b k l number y null g = (
  (λ parent n. omega (arith, g.0 parent n)),
  (λ parent n. omega (arith, g.1 parent n, ap (λ f. of_blocks n (blocks_of_form parent f)) null)),
  (λ parent. omega (arith, g.2 parent, ap (λ f. length (blocks_of_form parent f)) null)),
  (λ parent. tt),
  g.4,
  tt,
)

put_good : (m t w z a b c k l n number : ℕ) (nothing : Bool) (r : Result (WithProcedures Form) (List Fault))
    (q : Result (WithProcedures TypedStatements) (List Fault)) → t ≤ w → w ≤ z
    → (nothing ≡ true → OnTyped (λ y. y.part ≡ typed.Null) r)
    → OnTyped (GoodStatement m t w a b k l) (made (typed.Statement number) r) → OnTyped (GoodList m w z b c l n) q
    → OnTyped (GoodList m t z a c k n) (together (put_before nothing) (made (typed.Statement number) r) q)
put_good m t w z a b c k l n number false (Ok x) (Ok y) low high null g h =
    good_both numbers_in blocks_in (HereStatement m t w) numbers_among blocks_among (HereList m w z) numbers_among blocks_among
    (HereList m t z) a b c k l n (record { part = typed.Statement number x.part; procedures = x.procedures }) y
    (StatementThen (typed.Statement number x.part) y.part) g h refl (λ parent. refl) (
      (λ j lt. (g.5.0 j lt, h.5.0 j lt)),
      (λ used size u v. (g.5.1 used size u (omega (arith, v, high)), h.5.1 used size (omega (arith, u, low)) v)),
    )
put_good m t w z a b c k l n number true (Ok x) (Ok y) low high null g h =
    good_both (λ (x : TypedStatement). []) (λ parent (x : TypedStatement). []) (λ (x : TypedStatement). Unit {0}) numbers_among
    blocks_among (HereList m w z) numbers_among blocks_among (HereList m t z) a b c k l n
    (record { part = typed.Statement number x.part; procedures = x.procedures }) y y.part
    (nothing_good m t w a b k l number x (null refl) g) h refl (λ parent. refl)
    ((λ j lt. h.5.0 j lt), (λ used size u v. h.5.1 used size (omega (arith, u, low)) v))
put_good m t w z a b c k l n number nothing (Ok x) (Err fs) low high null g h = tt
put_good m t w z a b c k l n number nothing (Err fs) (Ok y) low high null g h = tt
put_good m t w z a b c k l n number nothing (Err fs) (Err gs) low high null g h = tt

procedure_null : (make : TypedStatements → TypedProcedure) (r : Result (WithProcedures TypedStatements) (List Fault))
    → OnTyped (λ y. y.part ≡ typed.Null) (as_procedure typed.Null make r)
procedure_null make (Ok y) = refl
procedure_null make (Err fs) = tt

pub nothing_left : (u : NamedUnit) (s : Surroundings) (x : Next) (number at : ℕ) (body : Body) → leaves_nothing body ≡ true
    → OnTyped (λ y. y.part ≡ typed.Null) (body_typed u s x number at body)
nothing_left u s x number at (tree.Declare declared) e = refl
nothing_left u s x number at (tree.Procedure heading ss end) e =
    procedure_null (procedure_of u (Some (block_at s)) x.block number end ss)
    (statements_typed u (in_procedure x.block (u.returned x.block) ss s) (inside x) ss)
nothing_left u s x number at body e = absurd (false≢true e)

-- at other ends
form_at : (m t z v a b c k l n : ℕ) (r : Result (WithProcedures Form) (List Fault)) → z ≡ v → b ≡ c → l ≡ n
    → OnTyped (GoodForm m t z a b k l) r → OnTyped (GoodForm m t v a c k n) r
form_at m t z v a b c k l n r e f g h =
    subst (λ n. OnTyped (GoodForm m t v a c k n) r) g
    (subst (λ c. OnTyped (GoodForm m t v a c k l) r) f (subst (λ v. OnTyped (GoodForm m t v a b k l) r) e h))

list_at : (m t z v a b c k l n : ℕ) (r : Result (WithProcedures TypedStatements) (List Fault)) → z ≡ v → b ≡ c → l ≡ n
    → OnTyped (GoodList m t z a b k l) r → OnTyped (GoodList m t v a c k n) r
list_at m t z v a b c k l n r e f g h =
    subst (λ n. OnTyped (GoodList m t v a c k n) r) g
    (subst (λ c. OnTyped (GoodList m t v a c k l) r) f (subst (λ v. OnTyped (GoodList m t v a b k l) r) e h))

deeper_in : (levels : ℕ) (F : ℕ → Type 0) (X : Type 0) → Deeper F levels → ((m : ℕ) → levels ≡ suc m → F m → X) → X
deeper_in zero F X h g = absurd h
deeper_in (suc m) F X h g = g m refl h

module _ (u : NamedUnit) (knows : KnowsBased u) where
  mutual
    statement_good : (d : Bool) (m : ℕ) (s : Surroundings) (x : Next) (a : ℕ) (st : Statement) → m < 64 → NestsWithin d m st
        → IsNumbered a st
        → OnTyped (GoodStatement m x.temporary (x.temporary + temporaries_in u.is_based st) a (a + count st) x.block
        (x.block + blocks.blocks_in st)) (statement_typed u s x st)
    statement_good d m s x a (Numbered number label at body) few n h =
        numbered_good m x.temporary _ a _ x.block _ number (body_typed u s x number at body) h.0
        (form_at m x.temporary _ _ (suc a) _ _ x.block _ _ (body_typed u s x number at body) refl (omega arith) refl
        (body_good d m s x number at (suc a) body few n h.1))

    body_good : (d : Bool) (m : ℕ) (s : Surroundings) (x : Next) (number at a : ℕ) (body : Body) → m < 64 → BodyNests d m body
        → IsNumberedBody a body
        → OnTyped (GoodForm m x.temporary (x.temporary + temporaries_of u.is_based body) a (a + body_count body) x.block
        (x.block + blocks.blocks_of body)) (body_typed u s x number at body)
    body_good d m s x number at a (tree.Procedure heading ss end) few n h =
        deeper_in m (λ m. ListNests true m ss) _ n.1
        (λ i e g. form_at m x.temporary x.temporary _ a _ _ x.block _ _
        (body_typed u s x number at (tree.Procedure heading ss end)) (omega arith) refl (omega arith)
        (procedure_good u (Some (block_at s)) number end ss m i x.temporary a (a + list_count ss) (a + (list_count ss + 1)) x.block
        (suc x.block + blocks.blocks_among ss)
        (statements_typed u (in_procedure x.block (u.returned x.block) ss s) (inside x) ss) (omega (arith, few, e)) (omega arith)
        (list_at i 0 (0 + temporaries_among u.is_based ss) _ a _ _ (suc x.block) _ _
        (statements_typed u (in_procedure x.block (u.returned x.block) ss s) (inside x) ss) (omega arith) refl refl
        (list_good true i (in_procedure x.block (u.returned x.block) ss s) (inside x) a ss (omega (arith, few, e)) g h.0))))
    body_good d m s x number at a (tree.Begin ss end) few n h =
        deeper_in m (λ m. ListNests true m ss) _ n
        (λ i e g. form_at m x.temporary x.temporary _ a _ _ x.block _ _
        (body_typed u s x number at (tree.Begin ss end)) (omega arith) refl (omega arith)
        (begin_good m i x.temporary a (a + list_count ss) (a + (list_count ss + 1)) x.block
        (suc x.block + blocks.blocks_among ss) (head_of u x.block number ss)
        (statements_typed u (in_begin x.block ss s) (inside x) ss) (omega (arith, few, e)) (omega arith) refl
        (list_at i 0 (0 + temporaries_among u.is_based ss) _ a _ _ (suc x.block) _ _
        (statements_typed u (in_begin x.block ss s) (inside x) ss) (omega arith) refl refl
        (list_good true i (in_begin x.block ss s) (inside x) a ss (omega (arith, few, e)) g h.0))))
    body_good d m s x number at a (tree.Do None ss end) few n h =
        deeper_in m (λ m. ListNests false m ss) _ n
        (λ i e g. group_good m i x.temporary _ a (a + list_count ss) _ x.block _ (statements_typed u (in_group ss s) x ss) e
        (omega arith)
        (list_at i x.temporary (x.temporary + temporaries_among u.is_based ss) _ a _ _ x.block _ _
        (statements_typed u (in_group ss s) x ss) (omega arith) refl refl
        (list_good false i (in_group ss s) x a ss (omega (arith, few, e)) g h.0)))
    body_good d m s x number at a (tree.Do (Some (tree.While tested)) ss end) few n h =
        deeper_in m (λ m. ListNests false m ss) _ n
        (λ i e g. while_good m i x.temporary _ a (a + list_count ss) _ x.block _ (condition (naming_at u s) tested)
        (statements_typed u (in_group ss s) x ss) e (omega arith)
        (list_at i x.temporary (x.temporary + temporaries_among u.is_based ss) _ a _ _ x.block _ _
        (statements_typed u (in_group ss s) x ss) (omega arith) refl refl
        (list_good false i (in_group ss s) x a ss (omega (arith, few, e)) g h.0)))
    body_good d m s x number at a (tree.Do (Some (tree.Iterate variable equals first range tested)) ss end) few n h =
        deeper_in m (λ m. ListNests false m ss) _ n
        (λ i e g. iterate_good m i x.temporary _ a (a + list_count ss) _ x.block _ range
        (iteration (naming_at u s) x.temporary variable equals first range tested)
        (statements_typed u (in_group ss s) (after_limits range x) ss) e (omega arith) (omega arith)
        (iteration_keeps (naming_at u s) x.temporary variable equals first range tested)
        (list_at i (x.temporary + suc (limits_kept range)) (x.temporary + suc (limits_kept range) + temporaries_among u.is_based ss) _ a _ _
        x.block _ _ (statements_typed u (in_group ss s) (after_limits range x) ss) (omega arith) refl refl
        (list_good false i (in_group ss s) (after_limits range x) a ss (omega (arith, few, e)) g h.0)))
    body_good d m s x number at a (tree.If tested consequence alternative) few n h =
        deeper_in m (λ m. NestsWithin false m consequence × ElseNests m alternative) _ n
        (λ i e g. form_at m x.temporary
        (x.temporary + temporaries_in u.is_based consequence + temporaries_in_else u.is_based alternative) _ a
        (a + count consequence + alternative_count alternative) _ x.block
        (x.block + blocks.blocks_in consequence + blocks.blocks_in_else alternative) _
        (body_typed u s x number at (tree.If tested consequence alternative)) (omega arith) (omega arith) (omega arith)
        (if_good m i x.temporary (x.temporary + temporaries_in u.is_based consequence) _ a (a + count consequence) _ x.block
        (x.block + blocks.blocks_in consequence) _ (condition (naming_at u s) tested) (statement_typed u s x consequence)
        (alternative_typed u s (next_after u.is_based x consequence) alternative) e (omega arith) (omega arith)
        (statement_good false i s x a consequence (omega (arith, few, e)) g.0 h.0)
        (alternative_good i s (next_after u.is_based x consequence) (a + count consequence) alternative (omega (arith, few, e)) g.1 h.1)))
    body_good d m s x number at a tree.Null few n h =
        own_good m x.temporary _ a (a + 0) x.block (x.block + 0) (Ok typed.Null) (omega arith) (omega arith) tt
    body_good d m s x number at a (tree.Declare declared) few n h =
        own_good m x.temporary _ a (a + 0) x.block (x.block + 0) (Ok typed.Null) (omega arith) (omega arith) tt
    body_good d m s x number at a tree.Stop few n h =
        own_good m x.temporary _ a (a + 0) x.block (x.block + 0) (Ok typed.Stop) (omega arith) (omega arith) tt
    body_good d m s x number at a (tree.Assign target equals value) few n h =
        own_good m x.temporary _ a (a + 0) x.block (x.block + 0) (assignment (naming_at u s) at target equals value) (omega arith)
        (omega arith) (simple_assignment (naming_at u s) at target equals value)
    body_good d m s x number at a (tree.Allocate list) few n h =
        allocate_good m x.temporary (based_among u.is_based list) a (a + 0) x.block (x.block + 0) (allocate_typed (naming_at u s) x.temporary list) (omega arith)
        (omega arith) (allocate_keeps (naming_at u s) u.is_based (knows (map (λ b. b.number) s.blocks)) x.temporary list)
    body_good d m s x number at a (tree.Free list) few n h =
        own_good m x.temporary _ a (a + 0) x.block (x.block + 0) (free_typed (naming_at u s) list) (omega arith)
        (omega arith) (simple_free (naming_at u s) list)
    body_good d m s x number at a (tree.Call name arguments) few n h =
        own_good m x.temporary _ a (a + 0) x.block (x.block + 0) (call_typed (naming_at u s) name arguments) (omega arith)
        (omega arith) (simple_call (naming_at u s) name arguments)
    body_good d m s x number at a (tree.Goto label) few n h =
        own_good m x.temporary _ a (a + 0) x.block (x.block + 0) (goto_typed (naming_at u s) s label) (omega arith)
        (omega arith) (simple_goto (naming_at u s) s label)
    body_good d m s x number at a (tree.Return value) few n h =
        own_good m x.temporary _ a (a + 0) x.block (x.block + 0) (return_typed (naming_at u s) s at value) (omega arith)
        (omega arith) (simple_return (naming_at u s) s at value)
    body_good d m s x number at a (tree.Put skip list) few n h =
        put_form_good m x.temporary _ a (a + 0) x.block (x.block + 0) skip (items (naming_at u s) list) (omega arith) (omega arith)
    body_good d m s x number at a (tree.On c (Numbered own label first inner)) few n h =
        let unit : Statement = Numbered own label first inner in
        let there : Surroundings = in_on_unit x.block (Numbered own label first inner) s in
        let z : ℕ = 0 + temporaries_in u.is_based (Numbered own label first inner) in
        let b : ℕ = a + count (Numbered own label first inner) in
        let l : ℕ = suc x.block + blocks.blocks_in (Numbered own label first inner) in
        deeper_in m (λ m. NestsWithin false m unit) _ n
        (λ i e g. form_at m x.temporary x.temporary _ a _ _ x.block _ _
        (body_typed u s x number at (tree.On c unit)) (omega arith) refl (omega arith)
        (unit_good u c (Some (block_at s)) number unit m i x.temporary a b b x.block l
        (statements_typed u there (inside x) (only unit)) (omega (arith, few, e)) (omega arith)
        (list_at i 0 z _ a b b (suc x.block) l l (statements_typed u there (inside x) (only unit)) (omega arith) refl refl
        (put_good i 0 z z a b b (suc x.block) l l own (leaves_nothing inner) (body_typed u there (inside x) own first inner)
        (Ok (alone NoStatement)) (omega arith) (omega arith) (λ says. nothing_left u there (inside x) own first inner says)
        (statement_good false i there (inside x) a (Numbered own label first inner) (omega (arith, few, e)) g h)
        (good_alone numbers_among blocks_among (HereList i z z) b b l NoStatement (omega arith) refl (λ parent. refl)
        ((λ j lt. tt), (λ used size u s. tt)))))))
    body_good d m s x number at a (tree.Revert c) few n h =
        own_good m x.temporary _ a (a + 0) x.block (x.block + 0) (Ok (typed.Revert c)) (omega arith) (omega arith) tt
    body_good d m s x number at a (tree.Signal c) few n h =
        own_good m x.temporary _ a (a + 0) x.block (x.block + 0) (Ok (typed.Signal c)) (omega arith) (omega arith) tt

    alternative_good : (m : ℕ) (s : Surroundings) (x : Next) (a : ℕ) (e : Alternative) → m < 64 → ElseNests m e
        → IsNumberedElse a e
        → OnTyped (GoodElse m x.temporary (x.temporary + temporaries_in_else u.is_based e) a (a + alternative_count e) x.block
        (x.block + blocks.blocks_in_else e)) (alternative_typed u s x e)
    alternative_good m s x a tree.NoElse few n h =
        subst (λ l. GoodElse m x.temporary (x.temporary + 0) a (a + 0) x.block l (alone NoElse)) (omega arith)
        (good_alone numbers_in_else blocks_of_else (HereElse m x.temporary (x.temporary + 0)) a (a + 0) x.block NoElse (omega arith)
        refl (λ parent. refl) ((λ j lt. tt), (λ used size u s. tt)))
    alternative_good m s x a (tree.Else st) few n h =
        else_good m x.temporary _ a _ x.block _ (statement_typed u s x st) (statement_good false m s x a st few n h)

    pub list_good : (d : Bool) (m : ℕ) (s : Surroundings) (x : Next) (a : ℕ) (ss : Statements) → m < 64 → ListNests d m ss
        → AreNumbered a ss
        → OnTyped (GoodList m x.temporary (x.temporary + temporaries_among u.is_based ss) a (a + list_count ss) x.block
        (x.block + blocks.blocks_among ss)) (statements_typed u s x ss)
    list_good d m s x a Ended few n h =
        subst (λ l. GoodList m x.temporary (x.temporary + 0) a (a + 0) x.block l (alone NoStatement)) (omega arith)
        (good_alone numbers_among blocks_among (HereList m x.temporary (x.temporary + 0)) a (a + 0) x.block NoStatement (omega arith)
        refl (λ parent. refl) ((λ j lt. tt), (λ used size u s. tt)))
    list_good d m s x a (Before (Numbered number label at body) more) few n h =
        list_at m x.temporary
        (x.temporary + temporaries_in u.is_based (Numbered number label at body) + temporaries_among u.is_based more) _ a
        (a + count (Numbered number label at body) + list_count more) _ x.block
        (x.block + blocks.blocks_in (Numbered number label at body) + blocks.blocks_among more) _
        (statements_typed u s x (Before (Numbered number label at body) more)) (omega arith) (omega arith) (omega arith)
        (put_good m x.temporary (x.temporary + temporaries_in u.is_based (Numbered number label at body)) _ a
        (a + count (Numbered number label at body)) _ x.block (x.block + blocks.blocks_in (Numbered number label at body)) _ number
        (leaves_nothing body) (body_typed u s x number at body)
        (statements_typed u s (next_after u.is_based x (Numbered number label at body)) more) (omega arith) (omega arith)
        (λ e. nothing_left u s x number at body e)
        (statement_good d m s x a (Numbered number label at body) few n.0 h.0)
        (list_good d m s (next_after u.is_based x (Numbered number label at body)) (a + count (Numbered number label at body)) more few n.1 h.1))

  -- ---- the unit

  module _ (a b l : ℕ) (y : WithProcedures TypedStatements) (g : GoodList 63 0 (temporaries_among u.is_based u.tree.statements) a b 1 l y)
      (names : (bs : List BlockTree) → Given bs (ListNamed bs 0) y) where
    abbrev Own : TypedProcedure
    Own = external_of u y.part

    abbrev All : List BlockTree
    All = flat_map blocks_of_procedure (unit_of u y).procedures

    one_below : (n : ℕ) → below n 1 ≡ same n 0
    one_below n = omega (arith, below_next n 0)

    each : (n : ℕ) → of_blocks n All ≡ below n (length All)
    each n =
        omega (arith, of_both n (blocks_of_procedure Own) (blocks_within y.procedures), g.1 0 n, one_below n)
        ∙ ap (below n) (sym (g.2 0) ∙ size)
      where
        size : length (blocks_among 0 y.part) + length (blocks_within y.procedures) + 1 ≡ length All
        size = omega (arith, length-append (blocks_of_procedure Own) (blocks_within y.procedures))

    most : (n : ℕ) → in_blocks n All ≤ 1
    most n =
        omega (arith, in_both n (blocks_of_procedure Own) (blocks_within y.procedures), g.0 0 n, below_bound n b)

    roomy : AreRoomy All
    roomy =
        roomy_both (blocks_of_procedure Own) (blocks_within y.procedures)
        ((g.5.0 64 (omega arith), g.5.1 0 (temporaries_among u.is_based u.tree.statements) (omega arith) (omega arith)), g.3 0) g.4

    all_loops : (bs : List BlockTree) → AreRoomy bs → AllByRecursion (λ b. HaveRoom 64 b.statements) bs
    all_loops [] h = tt
    all_loops (b ∷ bs) h = (h.0.0, all_loops bs h.1)

    all_apart : (bs : List BlockTree) → AreRoomy bs → AllByRecursion (λ b. KeepApart 0 b.head.temporaries b.statements) bs
    all_apart [] h = tt
    all_apart (b ∷ bs) h = (h.0.1, all_apart bs h.1)

    all_named : AllByRecursion (Named (by_number All)) All
    all_named =
        let placed = all_parts (Placed (by_number All)) (blocks_of_procedure Own) (blocks_within y.procedures) (blocks_placed All each) in
        let named = names (by_number All) (gives_all (by_number All) y.procedures placed.1) in
        all_after (Named (by_number All)) (blocks_of_procedure Own) (blocks_within y.procedures) (named.0.here, named.0.blocks 0) named.1

    well_numbered : IsWellNumbered (unit_of u y)
    well_numbered = record {
      blocks = blocks_placed All each;
      statements = ordered_distinct All most;
      loops = all_loops All roomy;
      temporaries = all_apart All roomy;
      units = all_named;
    }

  numbered_unit : (t : TypedUnit) (a b l : ℕ) (r : Result (WithProcedures TypedStatements) (List Fault))
      → OnTyped (GoodList 63 0 (temporaries_among u.is_based u.tree.statements) a b 1 l) r
      → ((bs : List BlockTree) → OnTyped (Given bs (ListNamed bs 0)) r) → typed_as u r ≡ Ok t
      → IsWellNumbered t
  numbered_unit t a b l r g names e =
      unit_given u IsWellNumbered r t
      (λ y is. well_numbered a b l y (on_given (GoodList 63 0 (temporaries_among u.is_based u.tree.statements) a b 1 l) r y is g)
      (λ bs. on_given (Given bs (ListNamed bs 0)) r y is (names bs))) e

  pub unit_numbered : (t : TypedUnit) (from : ℕ) → AreNumbered from u.tree.statements → ListNests true 63 u.tree.statements
      → checked u ≡ Ok t → IsWellNumbered t
  unfolding checked
  unit_numbered t from h n e =
      numbered_unit t from _ _
      (statements_typed u (in_unit (u.returned 0) u.tree.statements) first_inside u.tree.statements)
      (list_at 63 0 (0 + temporaries_among u.is_based u.tree.statements) _ from _ _ 1 _ _
      (statements_typed u (in_unit (u.returned 0) u.tree.statements) first_inside u.tree.statements) (omega arith) refl refl
      (list_good true 63 (in_unit (u.returned 0) u.tree.statements) first_inside from u.tree.statements (omega arith) n h))
      (λ bs. list_named bs u (in_unit (u.returned 0) u.tree.statements) first_inside u.tree.statements) e

pub units_are_numbered : TypedUnitsAreNumbered
units_are_numbered u t from h nests knows e = unit_numbered u knows t from h nests e

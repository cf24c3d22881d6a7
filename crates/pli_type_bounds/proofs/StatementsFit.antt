-- Statements and procedures are within the limits: by induction on the source tree.
use Rattle.std.specs.Prelude.{◌≡◌, ℕ, zero, suc, ◌+◌, ◌≤◌, ◌<◌, Bool, true, false, Option, Some, None, List, [], ◌∷◌, map, length}
use Rattle.std.specs.Prelude.{Result, Ok, Err, refl}
use Rattle.std.specs.List.{AllByRecursion}
use Rattle.std.proofs.Common.{arith, sym, ap, subst}
use Rattle.pli_base.specs.Statements as tree
use Rattle.pli_base.specs.Statements.{ExternalProcedure, Statement, Numbered, Body, Statements, Ended, Before, Alternative}
use Rattle.pli_base.specs.Statements.{count, body_count, list_count, alternative_count}
use Rattle.pli_base.specs.declared.token.Fault.{Fault}
use Rattle.pli_map.specs.Description.{Description}
use Rattle.pli_map.specs.ParameterTypes.{ParameterType}
use Rattle.pli_parse_expression.specs.Expressions.{Deeper}
use Rattle.pli_declare.specs.TreeBlocks as blocks
use Rattle.pli_type_rules.specs.NamedUnits.{names_based}
use Rattle.pli_type_rules.specs.Names.{NamedUnit, NamedAs}
use Rattle.pli_type_rules.specs.declared.beginning.Beginning.{Beginning}
use Rattle.pli_type_rules.specs.StatementTyping.{Enclosing, Surroundings, naming_at, block_at, leaves_nothing, assignment, function_end}
use Rattle.pli_type_rules.specs.StatementTyping.{condition, iteration, call_typed, goto_typed, return_typed, WithProcedures, of_own, together}
use Rattle.pli_type_rules.specs.StatementTyping.{alone, made, head_of, procedure_of, on_unit_of, as_procedure, put_before, inside, after_limits, in_begin, in_group, in_on_unit, in_procedure, lasting_alone, only, with_labels, labels_of}
use Rattle.pli_type_rules.specs.StatementTyping.{statement_typed, body_typed, alternative_typed, statements_typed}
use Rattle.pli_type_rules.specs.Temporaries.{Next, next_after, based_among, temporaries_in, temporaries_of, temporaries_among, temporaries_in_else}
use Rattle.pli_type_rules.specs.TypingSteps.{items, allocate_typed, free_typed}
use Rattle.pli_type_laws.specs.TypedUnits.{unit_with}
use Rattle.pli_type_laws.proofs.Shapes.{IsAllocation, allocate_keeps, HasOwn, iteration_keeps}
use Rattle.pli_type_laws.specs.Nesting.{NestsWithin, BodyNests, ListNests, ElseNests}
use Rattle.pli_type_laws.specs.Numbering.{IsNumbered, IsNumberedBody, AreNumbered, IsNumberedElse}
use Rattle.pli_type_tree.specs.Templates.{Template}
use Rattle.pli_type_tree.specs.TypedTree as typed
use Rattle.pli_type_tree.specs.TypedTree.{Form, TypedStatement, TypedStatements, NoStatement, OtherWise, NoElse, Else}
use Rattle.pli_type_tree.specs.TypedTree.{Global, TypedProcedure, TypedUnit}
use Rattle.pli_type_bounds.proofs.AllocationsFit.{allocate_fits, free_fits}
use Rattle.pli_type_bounds.proofs.FormsFit.{condition_fits, items_fit, assignment_fits, call_fits, return_fits, goto_fits, iteration_fits}
use Rattle.pli_type_laws.proofs.Denotations.{OnRead}
use Rattle.pli_type_laws.proofs.TypedParts.{OnTyped}
use Rattle.pli_type_laws.proofs.InitialHeld.{all_after}
use Rattle.pli_type_bounds.proofs.Meanings.{IsAreaNamed, IsMeaning}
use Rattle.pli_deck_laws.specs.Limits.{link_limit, parameter_limit, word_limit, IfThere, IsDescription, IsTemplate}
use Rattle.pli_deck_laws.specs.WellFormed.{HasBlock, IsHead, IsExpression, IsIteration, IsStatement, IsForm, IsElse, AreStatements, IsProcedure, kept_in, kept_in_form, kept_in_else, kept_among}

-- what is to be known of a unit: names mean what is within the limits, blocks have few parameters and templates
-- within the limits, and so many of them are those of the typed unit; and where BASED variables are named is known
pub record UnitFits (t : TypedUnit) (is_based : ℕ → Bool) (based : (blocks : List ℕ) → (block : ℕ) → List Template)
    (areas : (blocks : List ℕ) → (block : ℕ) → Option Beginning) (meaning : (blocks : List ℕ) → ℕ → NamedAs) (parameters : (block : ℕ) → List ParameterType)
    (returned : (block : ℕ) → Option Description) (automatic : (block : ℕ) → List Template) (size : ℕ) : Type 0 where
  pub names : (blocks : List ℕ) (at : ℕ) → length blocks ≤ link_limit → AllByRecursion (λ b. b < size) blocks → IsMeaning t (meaning blocks at)
  pub few : (block : ℕ) → length (parameters block) ≤ parameter_limit
  pub returned_fits : (block : ℕ) → IfThere IsDescription (returned block)
  pub templates : (block : ℕ) → AllByRecursion IsTemplate (automatic block)
  pub blocks : (number : ℕ) → number < size → HasBlock t number
  pub based_fits : (blocks : List ℕ) (block : ℕ) → AllByRecursion IsTemplate (based blocks block)
  pub areas_fit : (blocks : List ℕ) (block : ℕ) → length blocks ≤ link_limit → AllByRecursion (λ b. b < size) blocks → IsAreaNamed t (areas blocks block)
  pub knows : (blocks : List ℕ) (at : ℕ) → names_based (meaning blocks at) ≡ is_based at

-- a place of the text: blocks may nest so many levels deeper
pub record Sits (size levels : ℕ) (s : Surroundings) : Type 0 where
  pub deep : length s.blocks + levels ≤ link_limit
  pub begins : s.begins ≤ length s.blocks
  pub block : block_at s < size
  pub around : AllByRecursion (λ b. b < size) (map (λ (b : Enclosing). b.number) s.blocks)
  pub value : IfThere IsDescription s.value

-- a part with the procedures in it
abbrev pub Fit : {A : Type 0} → TypedUnit → (A → Type 0) → WithProcedures A → Type 0
Fit t P y = P y.part × AllByRecursion (IsProcedure t) y.procedures

labels_length : (labels : List ℕ) (bs : List Enclosing) → length (with_labels labels bs) ≡ length bs
labels_length labels [] = refl
labels_length labels (b ∷ bs) = refl

lasting_length : (bs : List Enclosing) → length (lasting_alone bs) ≡ length bs
lasting_length [] = refl
lasting_length (b ∷ bs) = refl

lasting_around : (size : ℕ) (bs : List Enclosing) → AllByRecursion (λ b. b < size) (map (λ (b : Enclosing). b.number) bs)
    → AllByRecursion (λ b. b < size) (map (λ (b : Enclosing). b.number) (lasting_alone bs))
lasting_around size [] h = h
lasting_around size (b ∷ bs) h = h

labels_block : (labels : List ℕ) (bs : List Enclosing) (begins other : ℕ) (value some : Option Description)
    → block_at (record { blocks = with_labels labels bs; begins = begins; value = value })
    ≡ block_at (record { blocks = bs; begins = other; value = some })
labels_block labels [] begins other value some = refl
labels_block labels (b ∷ bs) begins other value some = refl

labels_around : (size : ℕ) (labels : List ℕ) (bs : List Enclosing) → AllByRecursion (λ b. b < size) (map (λ (b : Enclosing). b.number) bs)
    → AllByRecursion (λ b. b < size) (map (λ (b : Enclosing). b.number) (with_labels labels bs))
labels_around size labels [] h = h
labels_around size labels (b ∷ bs) h = h

map_length : (bs : List Enclosing) → length (map (λ (b : Enclosing). b.number) bs) ≡ length bs
map_length [] = refl
map_length (b ∷ bs) = ap suc (map_length bs)

deeper_in : (levels : ℕ) (F : ℕ → Type 0) (X : Type 0) → Deeper F levels → ((m : ℕ) → levels ≡ suc m → F m → X) → X
deeper_in zero F X h g = absurd h
deeper_in (suc m) F X h g = g m refl h

both_read : {A : Type 0} (P Q : A → Type 0) (r : Result A Fault) → OnRead P r → OnRead Q r → OnRead (λ x. P x × Q x) r
both_read P Q (Ok x) h g = (h, g)
both_read P Q (Err f) h g = tt

-- statements within the limits, which keep at least so many temporaries
abbrev StatementFits : TypedUnit → ℕ → TypedStatement → Type 0
StatementFits t n s = IsStatement t s × (n ≤ kept_in s)

abbrev FormFits : TypedUnit → ℕ → Form → Type 0
FormFits t n f = IsForm t f × (n ≤ kept_in_form f)

abbrev ElseFits : TypedUnit → ℕ → OtherWise → Type 0
ElseFits t n e = IsElse t e × (n ≤ kept_in_else e)

abbrev pub ListFits : TypedUnit → ℕ → TypedStatements → Type 0
ListFits t n list = AreStatements t list × (n ≤ kept_among list)

-- what leaves nothing among the statements keeps nothing there
nothing_kept : (is_based : ℕ → Bool) (body : Body) → leaves_nothing body ≡ true → temporaries_of is_based body ≡ 0
nothing_kept is_based (tree.Declare declared) e = refl
nothing_kept is_based (tree.Procedure heading statements end) e = refl
nothing_kept is_based body e = absurd (cc)

-- ALLOCATE keeps as many temporaries as its items have
allocation_kept : (temporary count : ℕ) (r : Result Form Fault) → OnRead (IsAllocation temporary count) r
    → OnRead (λ f. count ≤ kept_in_form f) r
allocation_kept temporary count (Ok (typed.Allocate items)) h = omega (arith, h.1)
allocation_kept temporary count (Ok f) h = absurd h
allocation_kept temporary count (Err e) h = tt

module _ (t : TypedUnit) where
  own_fits : {A : Type 0} (P : A → Type 0) (r : Result A Fault) → OnRead P r → OnTyped (Fit t P) (of_own r)
  own_fits P (Ok x) h = (h, tt)
  own_fits P (Err f) h = tt

  -- a form without statements in it
  form_fits : (r : Result Form Fault) → OnRead (IsForm t) r → OnTyped (Fit t (FormFits t 0)) (of_own r)
  form_fits (Ok f) h = ((h, omega arith), tt)
  form_fits (Err f) h = tt

  made_fits : {A B : Type 0} (P : A → Type 0) (Q : B → Type 0) (f : A → B) (r : Result (WithProcedures A) (List Fault))
      → ((x : A) → P x → Q (f x)) → OnTyped (Fit t P) r → OnTyped (Fit t Q) (made f r)
  made_fits P Q f (Ok y) g h = (g y.part h.0, h.1)
  made_fits P Q f (Err fs) g h = tt

  both_fit : {A B C : Type 0} (P : A → Type 0) (Q : B → Type 0) (R : C → Type 0) (f : A → B → C)
      (r : Result (WithProcedures A) (List Fault)) (q : Result (WithProcedures B) (List Fault))
      → ((x : A) (y : B) → P x → Q y → R (f x y)) → OnTyped (Fit t P) r → OnTyped (Fit t Q) q → OnTyped (Fit t R) (together f r q)
  both_fit P Q R f (Ok x) (Ok y) g h k = (g x.part y.part h.0 k.0, all_after (IsProcedure t) x.procedures y.procedures h.1 k.1)
  both_fit P Q R f (Ok x) (Err gs) g h k = tt
  both_fit P Q R f (Err fs) (Ok y) g h k = tt
  both_fit P Q R f (Err fs) (Err gs) g h k = tt

  put_fits : (b : Bool) (x : TypedStatement) (y : TypedStatements) (m n : ℕ) → (b ≡ true → m ≡ 0) → StatementFits t m x → ListFits t n y
      → ListFits t (m + n) (put_before b x y)
  put_fits true x y m n none h k = (k.0, omega (arith, k.1, none refl))
  put_fits false x y m n none h k = ((h.0, k.0), omega (arith, h.1, k.1))

module _ (t : TypedUnit) (program : ExternalProcedure) (is_based : ℕ → Bool) (based : List ℕ → ℕ → List Template) (areas : List ℕ → ℕ → Option Beginning)
    (meaning : List ℕ → ℕ → NamedAs) (parameters : ℕ → List ParameterType) (returned : ℕ → Option Description) (automatic : ℕ → List Template)
    (globals : List Global) (size : ℕ) (fits : UnitFits t is_based based areas meaning parameters returned automatic size) where
  abbrev U : NamedUnit
  U = unit_with program is_based based areas meaning parameters returned automatic globals

  abbrev numbers : Surroundings → List ℕ
  numbers s = map (λ b. b.number) s.blocks

  known : (levels : ℕ) (s : Surroundings) → Sits size levels s → (at : ℕ) → IsMeaning t (meaning (numbers s) at)
  known levels s sits at = fits.names (numbers s) at (omega (arith, map_length s.blocks, sits.deep)) sits.around

  there : (levels : ℕ) (s : Surroundings) → Sits size levels s → (block : ℕ) → IsAreaNamed t (areas (numbers s) block)
  there levels s sits block = fits.areas_fit (numbers s) block (omega (arith, map_length s.blocks, sits.deep)) sits.around

  -- ---- places inside

  in_a_group : (m : ℕ) (s : Surroundings) (ss : Statements) → Sits size (suc m) s → Sits size m (in_group ss s)
  in_a_group m s ss sits = record {
    deep = omega (arith, sits.deep, labels_length (labels_of ss) s.blocks);
    begins = omega (arith, sits.begins, labels_length (labels_of ss) s.blocks);
    block = subst (λ n. n < size) (sym (labels_block (labels_of ss) s.blocks s.begins s.begins s.value s.value)) sits.block;
    around = labels_around size (labels_of ss) s.blocks sits.around;
    value = sits.value;
  }

  in_a_begin : (m number : ℕ) (s : Surroundings) (ss : Statements) → number < size → Sits size (suc m) s → Sits size m (in_begin number ss s)
  in_a_begin m number s ss lt sits = record {
    deep = omega (arith, sits.deep);
    begins = omega (arith, sits.begins);
    block = lt;
    around = (lt, sits.around);
    value = sits.value;
  }

  in_a_procedure : (m number : ℕ) (s : Surroundings) (ss : Statements) → number < size → Sits size (suc m) s
      → Sits size m (in_procedure number (returned number) ss s)
  in_a_procedure m number s ss lt sits = record {
    deep = omega (arith, sits.deep);
    begins = omega arith;
    block = lt;
    around = (lt, sits.around);
    value = fits.returned_fits number;
  }

  in_a_unit : (m number : ℕ) (s : Surroundings) (unit : Statement) → number < size → Sits size (suc m) s
      → Sits size m (in_on_unit number unit s)
  in_a_unit m number s unit lt sits = record {
    deep = omega (arith, sits.deep, lasting_length s.blocks);
    begins = omega arith;
    block = lt;
    around = (lt, lasting_around size s.blocks sits.around);
    value = tt;
  }

  fewer : (m : ℕ) (s : Surroundings) → Sits size (suc m) s → Sits size m s
  fewer m s sits = record {
    deep = omega (arith, sits.deep);
    begins = sits.begins;
    block = sits.block;
    around = sits.around;
    value = sits.value;
  }

  near : (levels : ℕ) (s : Surroundings) → Sits size levels s → length s.blocks ≤ link_limit
  near levels s sits = omega (arith, sits.deep)

  few_begins : (levels : ℕ) (s : Surroundings) → Sits size levels s → s.begins ≤ link_limit
  few_begins levels s sits = omega (arith, sits.deep, sits.begins)

  -- ---- blocks

  head_fits : (number statement : ℕ) (ss : Statements) (list : TypedStatements) → statement < word_limit → temporaries_among is_based ss ≤ kept_among list
      → IsHead (head_of U number statement ss) list
  head_fits number statement ss list lt kept = (lt, fits.templates number, kept)

  end_fits : (o : Option Description) (end : ℕ) → end < word_limit → IfThere (λ n. n < word_limit) (function_end o end)
  end_fits None end lt = tt
  end_fits (Some d) end lt = lt

  procedure_fits : (s : Surroundings) (number statement end : ℕ) (ss : Statements) (list : TypedStatements) → block_at s < size
      → statement < word_limit → end < word_limit → ListFits t (temporaries_among is_based ss) list
      → IsProcedure t (procedure_of U (Some (block_at s)) number statement end ss list)
  procedure_fits s number statement end ss list inside lt last h =
      (head_fits number statement ss list lt h.1, fits.blocks (block_at s) inside, fits.few number, end_fits (returned number) end last, h.0)

  on_unit_fits : (s : Surroundings) (number statement : ℕ) (unit : Statement) (list : TypedStatements) → block_at s < size
      → statement < word_limit → ListFits t (temporaries_among is_based (only unit)) list
      → IsProcedure t (on_unit_of U (Some (block_at s)) number statement unit list)
  on_unit_fits s number statement unit list inside lt h =
      (head_fits number statement (only unit) list lt h.1, fits.blocks (block_at s) inside, omega arith, tt, h.0)

  procedures_fit : (n : ℕ) (left : Form) (make : TypedStatements → TypedProcedure) (r : Result (WithProcedures TypedStatements) (List Fault))
      → IsForm t left → ((list : TypedStatements) → ListFits t n list → IsProcedure t (make list)) → OnTyped (Fit t (ListFits t n)) r
      → OnTyped (Fit t (FormFits t 0)) (as_procedure left make r)
  procedures_fit n left make (Ok y) form g h =
      ((form, omega arith), all_after (IsProcedure t) y.procedures (make y.part ∷ []) h.1 (g y.part h.0, tt))
  procedures_fit n left make (Err fs) form g h = tt

  -- ---- statements

  mutual
    statement_fits : (d : Bool) (m : ℕ) (s : Surroundings) (x : Next) (a : ℕ) (st : Statement) → Sits size m s → NestsWithin d m st
        → IsNumbered a st → a + count st ≤ word_limit → x.block + blocks.blocks_in st ≤ size
        → OnTyped (Fit t (StatementFits t (temporaries_in is_based st))) (statement_typed U s x st)
    statement_fits d m s x a (Numbered number label at body) sits n h low room =
        made_fits t (FormFits t (temporaries_of is_based body)) (StatementFits t (temporaries_of is_based body)) (typed.Statement number) (body_typed U s x number at body)
        (λ f k. ((omega (arith, h.0, low), k.0), k.1))
        (body_fits d m s x number at (suc a) body sits n h.1 (omega (arith, h.0, low)) (omega (arith, low)) room)

    body_fits : (d : Bool) (m : ℕ) (s : Surroundings) (x : Next) (number at a : ℕ) (body : Body) → Sits size m s → BodyNests d m body
        → IsNumberedBody a body → number < word_limit → a + body_count body ≤ word_limit → x.block + blocks.blocks_of body ≤ size
        → OnTyped (Fit t (FormFits t (temporaries_of is_based body))) (body_typed U s x number at body)
    body_fits d m s x number at a tree.Null sits n h lt low room = ((tt, omega arith), tt)
    body_fits d m s x number at a (tree.Assign target equals value) sits n h lt low room =
        form_fits t (assignment (naming_at U s) at target equals value)
        (assignment_fits t (based (numbers s)) (areas (numbers s)) (meaning (numbers s)) (known m s sits) at target equals value)
    body_fits d m s x number at a (tree.Declare declared) sits n h lt low room = ((tt, omega arith), tt)
    body_fits d m s x number at a (tree.Procedure heading ss end) sits n h lt low room =
        deeper_in m (λ m. ListNests true m ss) _ n.1
        (λ i e g. procedures_fit (temporaries_among is_based ss) typed.Null (procedure_of U (Some (block_at s)) x.block number end ss)
        (statements_typed U (in_procedure x.block (returned x.block) ss s) (inside x) ss) tt
        (λ list k. procedure_fits s x.block number end ss list sits.block lt (omega (arith, h.1, low)) k)
        (list_fits true i (in_procedure x.block (returned x.block) ss s) (inside x) a ss
        (in_a_procedure i x.block s ss (omega (arith, room)) (subst (λ k. Sits size k s) e sits)) g h.0 (omega (arith, low))
        (omega (arith, room))))
    body_fits d m s x number at a (tree.Begin ss end) sits n h lt low room =
        deeper_in m (λ m. ListNests true m ss) _ n
        (λ i e g. made_fits t (ListFits t (temporaries_among is_based ss)) (FormFits t 0) (typed.Begin (head_of U x.block number ss))
        (statements_typed U (in_begin x.block ss s) (inside x) ss) (λ list k. ((head_fits x.block number ss list lt k.1, k.0), omega arith))
        (list_fits true i (in_begin x.block ss s) (inside x) a ss
        (in_a_begin i x.block s ss (omega (arith, room)) (subst (λ k. Sits size k s) e sits)) g h.0 (omega (arith, low))
        (omega (arith, room))))
    body_fits d m s x number at a (tree.Do None ss end) sits n h lt low room =
        deeper_in m (λ m. ListNests false m ss) _ n
        (λ i e g. made_fits t (ListFits t (temporaries_among is_based ss)) (FormFits t (temporaries_of is_based (tree.Do None ss end))) typed.Group
        (statements_typed U (in_group ss s) x ss) (λ list k. (k.0, omega (arith, k.1)))
        (list_fits false i (in_group ss s) x a ss (in_a_group i s ss (subst (λ k. Sits size k s) e sits)) g h.0 (omega (arith, low)) room))
    body_fits d m s x number at a (tree.Do (Some (tree.While tested)) ss end) sits n h lt low room =
        deeper_in m (λ m. ListNests false m ss) _ n
        (λ i e g. both_fit t (IsExpression t) (ListFits t (temporaries_among is_based ss)) (FormFits t (temporaries_of is_based (tree.Do (Some (tree.While tested)) ss end)))
        typed.While (of_own (condition (naming_at U s) tested)) (statements_typed U (in_group ss s) x ss)
        (λ c list j k. ((j, k.0), omega (arith, k.1)))
        (own_fits t (IsExpression t) (condition (naming_at U s) tested) (condition_fits t (based (numbers s)) (areas (numbers s)) (meaning (numbers s)) (known m s sits) tested))
        (list_fits false i (in_group ss s) x a ss (in_a_group i s ss (subst (λ k. Sits size k s) e sits)) g h.0 (omega (arith, low)) room))
    body_fits d m s x number at a (tree.Do (Some (tree.Iterate variable equals first range tested)) ss end) sits n h lt low room =
        deeper_in m (λ m. ListNests false m ss) _ n
        (λ i e g. both_fit t (λ i. IsIteration t i × HasOwn x.temporary range i) (ListFits t (temporaries_among is_based ss))
        (FormFits t (temporaries_of is_based (tree.Do (Some (tree.Iterate variable equals first range tested)) ss end))) typed.Iterate
        (of_own (iteration (naming_at U s) x.temporary variable equals first range tested))
        (statements_typed U (in_group ss s) (after_limits range x) ss) (λ c list j k. ((j.0, k.0), omega (arith, j.1.1, k.1)))
        (own_fits t (λ i. IsIteration t i × HasOwn x.temporary range i) (iteration (naming_at U s) x.temporary variable equals first range tested)
        (both_read (IsIteration t) (HasOwn x.temporary range) (iteration (naming_at U s) x.temporary variable equals first range tested)
        (iteration_fits t (based (numbers s)) (areas (numbers s)) (meaning (numbers s)) (known m s sits) x.temporary variable equals first range tested)
        (iteration_keeps (naming_at U s) x.temporary variable equals first range tested)))
        (list_fits false i (in_group ss s) (after_limits range x) a ss (in_a_group i s ss (subst (λ k. Sits size k s) e sits)) g h.0
        (omega (arith, low)) room))
    body_fits d m s x number at a (tree.If tested consequence alternative) sits n h lt low room =
        deeper_in m (λ m. NestsWithin false m consequence × ElseNests m alternative) _ n
        (λ i e g. both_fit t (IsExpression t)
        (λ (b : TypedStatement × OtherWise). StatementFits t (temporaries_in is_based consequence) b.0 × ElseFits t (temporaries_in_else is_based alternative) b.1)
        (FormFits t (temporaries_of is_based (tree.If tested consequence alternative)))
        (λ c b. typed.If c b.0 b.1) (of_own (condition (naming_at U s) tested))
        (together (λ y z. (y, z)) (statement_typed U s x consequence) (alternative_typed U s (next_after is_based x consequence) alternative))
        (λ c b j k. ((j, k.0.0, k.1.0), omega (arith, k.0.1, k.1.1)))
        (own_fits t (IsExpression t) (condition (naming_at U s) tested) (condition_fits t (based (numbers s)) (areas (numbers s)) (meaning (numbers s)) (known m s sits) tested))
        (both_fit t (StatementFits t (temporaries_in is_based consequence)) (ElseFits t (temporaries_in_else is_based alternative))
        (λ (b : TypedStatement × OtherWise). StatementFits t (temporaries_in is_based consequence) b.0 × ElseFits t (temporaries_in_else is_based alternative) b.1)
        (λ y z. (y, z))
        (statement_typed U s x consequence) (alternative_typed U s (next_after is_based x consequence) alternative) (λ y z j k. (j, k))
        (statement_fits false i s x a consequence (fewer i s (subst (λ k. Sits size k s) e sits)) g.0 h.0 (omega (arith, low))
        (omega (arith, room)))
        (alternative_fits i s (next_after is_based x consequence) (a + count consequence) alternative (fewer i s (subst (λ k. Sits size k s) e sits)) g.1 h.1
        (omega (arith, low)) (omega (arith, room)))))
    body_fits d m s x number at a tree.Stop sits n h lt low room = ((tt, omega arith), tt)
    body_fits d m s x number at a (tree.Allocate list) sits n h lt low room =
        own_fits t (FormFits t (based_among is_based list)) (allocate_typed (naming_at U s) x.temporary list)
        (both_read (IsForm t) (λ f. based_among is_based list ≤ kept_in_form f) (allocate_typed (naming_at U s) x.temporary list)
        (allocate_fits t (based (numbers s)) (areas (numbers s)) (meaning (numbers s)) (known m s sits) (fits.based_fits (numbers s)) x.temporary list)
        (allocation_kept x.temporary (based_among is_based list) (allocate_typed (naming_at U s) x.temporary list)
        (allocate_keeps (naming_at U s) is_based (fits.knows (numbers s)) x.temporary list)))
    body_fits d m s x number at a (tree.Free list) sits n h lt low room =
        form_fits t (free_typed (naming_at U s) list) (free_fits t (based (numbers s)) (areas (numbers s)) (meaning (numbers s)) (known m s sits) list)
    body_fits d m s x number at a (tree.Call name arguments) sits n h lt low room =
        form_fits t (call_typed (naming_at U s) name arguments) (call_fits t (based (numbers s)) (areas (numbers s)) (meaning (numbers s)) (known m s sits) name arguments)
    body_fits d m s x number at a (tree.Goto label) sits n h lt low room =
        form_fits t (goto_typed (naming_at U s) s label)
        (goto_fits t (based (numbers s)) (areas (numbers s)) (meaning (numbers s)) (known m s sits) s (near m s sits) label)
    body_fits d m s x number at a (tree.Return value) sits n h lt low room =
        form_fits t (return_typed (naming_at U s) s at value)
        (return_fits t (based (numbers s)) (areas (numbers s)) (meaning (numbers s)) (known m s sits) (there m s sits) s (few_begins m s sits) sits.value at value)
    body_fits d m s x number at a (tree.Put skip list) sits n h lt low room =
        made_fits t (AllByRecursion (IsExpression t)) (FormFits t 0) (typed.Put skip) (of_own (items (naming_at U s) list)) (λ xs k. (k, omega arith))
        (own_fits t (AllByRecursion (IsExpression t)) (items (naming_at U s) list) (items_fit t (based (numbers s)) (areas (numbers s)) (meaning (numbers s)) (known m s sits) list))
    body_fits d m s x number at a (tree.On c (Numbered own label first inner)) sits n h lt low room =
        let unit : Statement = Numbered own label first inner in
        let there : Surroundings = in_on_unit x.block (Numbered own label first inner) s in
        deeper_in m (λ m. NestsWithin false m (Numbered own label first inner)) _ n
        (λ i e g. procedures_fit (temporaries_among is_based (only (Numbered own label first inner))) (typed.On c x.block)
        (on_unit_of U (Some (block_at s)) x.block number (Numbered own label first inner))
        (statements_typed U there (inside x) (only (Numbered own label first inner))) (fits.blocks x.block (omega (arith, room)))
        (λ list k. on_unit_fits s x.block number (Numbered own label first inner) list sits.block lt k)
        (both_fit t (StatementFits t (temporaries_of is_based inner)) (ListFits t 0) (ListFits t (temporaries_of is_based inner + 0))
        (put_before (leaves_nothing inner)) (statement_typed U there (inside x) unit) (Ok (alone NoStatement))
        (λ y z j k. put_fits t (leaves_nothing inner) y z (temporaries_of is_based inner) 0 (nothing_kept is_based inner) j k)
        (statement_fits false i there (inside x) a (Numbered own label first inner)
        (in_a_unit i x.block s (Numbered own label first inner) (omega (arith, room)) (subst (λ k. Sits size k s) e sits)) g h
        (omega (arith, low)) (omega (arith, room)))
        ((tt, omega arith), tt)))
    body_fits d m s x number at a (tree.Revert c) sits n h lt low room = ((tt, omega arith), tt)
    body_fits d m s x number at a (tree.Signal c) sits n h lt low room = ((tt, omega arith), tt)

    alternative_fits : (m : ℕ) (s : Surroundings) (x : Next) (a : ℕ) (e : Alternative) → Sits size m s → ElseNests m e
        → IsNumberedElse a e → a + alternative_count e ≤ word_limit → x.block + blocks.blocks_in_else e ≤ size
        → OnTyped (Fit t (ElseFits t (temporaries_in_else is_based e))) (alternative_typed U s x e)
    alternative_fits m s x a tree.NoElse sits n h low room = ((tt, omega arith), tt)
    alternative_fits m s x a (tree.Else st) sits n h low room =
        made_fits t (StatementFits t (temporaries_in is_based st)) (ElseFits t (temporaries_in is_based st)) Else (statement_typed U s x st) (λ y k. k)
        (statement_fits false m s x a st sits n h low room)

    pub list_fits : (d : Bool) (m : ℕ) (s : Surroundings) (x : Next) (a : ℕ) (ss : Statements) → Sits size m s → ListNests d m ss
        → AreNumbered a ss → a + list_count ss ≤ word_limit → x.block + blocks.blocks_among ss ≤ size
        → OnTyped (Fit t (ListFits t (temporaries_among is_based ss))) (statements_typed U s x ss)
    list_fits d m s x a Ended sits n h low room = ((tt, omega arith), tt)
    list_fits d m s x a (Before (Numbered number label at body) more) sits n h low room =
        both_fit t (StatementFits t (temporaries_of is_based body)) (ListFits t (temporaries_among is_based more)) (ListFits t (temporaries_of is_based body + temporaries_among is_based more))
        (put_before (leaves_nothing body))
        (statement_typed U s x (Numbered number label at body)) (statements_typed U s (next_after is_based x (Numbered number label at body)) more)
        (λ y z j k. put_fits t (leaves_nothing body) y z (temporaries_of is_based body) (temporaries_among is_based more) (nothing_kept is_based body) j k)
        (statement_fits d m s x a (Numbered number label at body) sits n.0 h.0 (omega (arith, low)) (omega (arith, room)))
        (list_fits d m s (next_after is_based x (Numbered number label at body)) (a + count (Numbered number label at body)) more sits n.1 h.1
        (omega (arith, low)) (omega (arith, room)))

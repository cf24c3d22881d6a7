-- What room is left for the numbers of blocks and of temporaries.
use Rattle.std.proofs.Common.{◌≡◌, ◌≤◌, ◌<◌, ◌+◌, ◌*◌, ◌++◌, ◌∷◌, [], ℕ, suc, Bool, true, false, if◌then◌else◌, List, Option, Some, None, length, drop, get_or, sym, ap, ◌∙◌, subst, arith}
use Rattle.std.specs.List.{flat_map}
use Rattle.std.proofs.lemmas.List.{length-append, length-map}
use Rattle.pli_base.specs.Statements as tree
use Rattle.pli_base.specs.Statements.{Allocation, Statement, Numbered, Body, Alternative, Statements, Ended, Before, Control}
use Rattle.pli_base.specs.Syntax.{Expression}
use Rattle.pli_base.specs.declared.statement.Condition.{Condition}
use Rattle.pli_base.specs.declared.statement.Procedure.{Procedure, out-Procedure}
use Rattle.pli_base.specs.declared.statement.Statement as program
use Rattle.pli_base.specs.laws.StatementLaws.{unit_statements}
use Rattle.pli_base.specs.views.StatementView as source
use Rattle.pli_declare_outline.specs.Outlines.{Mark, PlacedMark, allocation_marks, alternative_marks, both_marks, body_marks, control_marks, expression_marks, label_marks, optional_marks, outline_of, placed, regions_among, regions_else, regions_in, regions_of, statement_marks, statements_marks, statements_regions}
use Rattle.pli_resolve.proofs.RegionWalks.{list_regions_counted}
use Rattle.pli_declare.specs.TreeBlocks.{blocks_in, blocks_of, blocks_among, blocks_in_else}
use Rattle.pli_type_rules.specs.StatementTyping.{only}
use Rattle.pli_type_rules.specs.Temporaries.{Next, based_among, next_after, kept_by, temporaries_among, temporaries_in_else, temporaries_in, temporaries_of}
use Rattle.pli_type_templates.specs.ItemNames.{HasFewMarks, HasFewRegions}
use Rattle.pli_type_walk.specs.NumbersTaken.{taken_among, taken_else, taken_in, taken_of}
use Rattle.pli_type_walk.specs.Walking.{HasRoom}
use Rattle.pli_type_parts.proofs.SearchLemmas.{front}

-- ---- blocks and temporaries in what is taken

one_more : (b : Bool) (n m : ℕ) → n ≤ m → (if b then 1 else 0) + n ≤ suc m
one_more true n m few = omega (arith, few)
one_more false n m few = omega (arith, few)

few_items : (is_based : ℕ → Bool) (items : List Allocation) → based_among is_based items ≤ length items
few_items is_based [] = omega arith
few_items is_based (a ∷ others) = one_more (is_based a.name.at) (based_among is_based others) (length others) (few_items is_based others)

few_kept : (control : Option Control) → kept_by control ≤ 3
few_kept None = omega arith
few_kept (Some (tree.While condition)) = omega arith
few_kept (Some (tree.Iterate variable equals first None condition)) = omega arith
few_kept (Some (tree.Iterate variable equals first (Some (tree.To to by)) condition)) = omega arith
few_kept (Some (tree.Iterate variable equals first (Some (tree.By by None)) condition)) = omega arith
few_kept (Some (tree.Iterate variable equals first (Some (tree.By by (Some to))) condition)) = omega arith
few_kept (Some (tree.Iterate variable equals first (Some (tree.Repeat next)) condition)) = omega arith

module _ (is_based : ℕ → Bool) where
  mutual
    few_in : (s : Statement) → blocks_in s + temporaries_in is_based s ≤ taken_in s
    few_in (Numbered number label at body) = few_of body

    pub few_of : (b : Body) → blocks_of b + temporaries_of is_based b ≤ taken_of b
    few_of (tree.Procedure heading statements end) = omega (arith, few_among statements)
    few_of (tree.Begin statements end) = omega (arith, few_among statements)
    few_of (tree.Do control statements end) = omega (arith, few_kept control, few_among statements)
    few_of (tree.If condition consequence alternative) = omega (arith, few_in consequence, few_else alternative)
    few_of (tree.On condition unit) = omega (arith, few_in unit)
    few_of (tree.Allocate items) = omega (arith, few_items is_based items)
    few_of other = omega arith

    few_among : (ss : Statements) → blocks_among ss + temporaries_among is_based ss ≤ taken_among ss
    few_among Ended = omega arith
    few_among (Before first more) = omega (arith, few_in first, few_among more)

    few_else : (a : Alternative) → blocks_in_else a + temporaries_in_else is_based a ≤ taken_else a
    few_else tree.NoElse = omega arith
    few_else (tree.Else statement) = few_in statement

-- ---- what is taken, by the regions and marks of an outline

item_marked : (k : ℕ) (ms ns : List Mark) → k ≤ length ns → suc k ≤ suc (length (ms ++ ns))
item_marked k ms ns few = omega (arith, few, length-append ms ns)

items_marked : (items : List Allocation) → length items ≤ length (flat_map allocation_marks items)
items_marked [] = omega arith
items_marked (a ∷ others) = item_marked (length others) (both_marks a.area a.target) (flat_map allocation_marks others) (items_marked others)

abbrev place : ℕ → Mark → PlacedMark
place here m = record { region = here; mark = m }

-- in a region, also after the mark that it begins with
in_region : (regions taken n : ℕ) → taken ≤ 4 * regions + n → 4 + taken ≤ 4 * (1 + regions) + n
in_region regions taken n few = omega (arith, few)

entered : (regions taken n : ℕ) → taken ≤ 4 * regions + n → 4 + taken ≤ 4 * (1 + regions) + suc n
entered regions taken n few = omega (arith, few)

-- items alone
of_marks : (k m n : ℕ) → k ≤ m → n ≡ m → k ≤ 4 * 0 + n
of_marks k m n few same = omega (arith, few, same)

after_marks : (ms ns : List PlacedMark) (regions taken : ℕ) → taken ≤ 4 * regions + length ns → taken ≤ 4 * regions + length (ms ++ ns)
after_marks ms ns regions taken few = omega (arith, few, length-append ms ns)

both_marked : (ms ns : List PlacedMark) (k l m n : ℕ) → k ≤ 4 * m + length ms → l ≤ 4 * n + length ns → k + l ≤ 4 * (m + n) + length (ms ++ ns)
both_marked ms ns k l m n few others = omega (arith, few, others, length-append ms ns)

mutual
  marked_in : (s : Statement) (here next : ℕ) → taken_in s ≤ 4 * regions_in s + length (statement_marks here next s)
  marked_in (Numbered number label at body) here next =
      after_marks (placed here (label_marks label body)) (body_marks here next body) (regions_of body) (taken_of body) (marked_of body here next)

  marked_of : (b : Body) (here next : ℕ) → taken_of b ≤ 4 * regions_of b + length (body_marks here next b)
  marked_of (tree.Procedure heading statements end) here next =
      entered (regions_among statements) (taken_among statements) (length (statements_marks next (next + 1) statements)) (marked_among statements next (next + 1))
  marked_of (tree.Begin statements end) here next =
      in_region (regions_among statements) (taken_among statements) (length (statements_marks next (next + 1) statements)) (marked_among statements next (next + 1))
  marked_of (tree.Do control statements end) here next =
      let inside = statements_marks next (next + 1) statements in
      after_marks (placed here (optional_marks control_marks control)) inside (1 + regions_among statements) (4 + taken_among statements)
      (in_region (regions_among statements) (taken_among statements) (length inside) (marked_among statements next (next + 1)))
  marked_of (tree.If condition consequence alternative) here next =
      let cs = placed here (expression_marks condition) in
      let fs = statement_marks here next consequence in
      let ss = alternative_marks here (next + regions_in consequence) alternative in
      both_marked (cs ++ fs) ss (taken_in consequence) (taken_else alternative) (regions_in consequence) (regions_else alternative)
      (after_marks cs fs (regions_in consequence) (taken_in consequence) (marked_in consequence here next))
      (marked_else alternative here (next + regions_in consequence))
  marked_of (tree.On condition unit) here next =
      in_region (regions_in unit) (taken_in unit) (length (statement_marks next (next + 1) unit)) (marked_in unit next (next + 1))
  marked_of (tree.Allocate items) here next =
      of_marks (length items) (length (flat_map allocation_marks items)) _ (items_marked items) (length-map (flat_map allocation_marks items) (place here))
  marked_of other here next = omega arith

  pub marked_among : (ss : Statements) (here next : ℕ) → taken_among ss ≤ 4 * regions_among ss + length (statements_marks here next ss)
  marked_among Ended here next = omega arith
  marked_among (Before first more) here next =
      both_marked (statement_marks here next first) (statements_marks here (next + regions_in first) more) (taken_in first) (taken_among more)
      (regions_in first) (regions_among more) (marked_in first here next) (marked_among more here (next + regions_in first))

  marked_else : (a : Alternative) (here next : ℕ) → taken_else a ≤ 4 * regions_else a + length (alternative_marks here next a)
  marked_else tree.NoElse here next = omega arith
  marked_else (tree.Else statement) here next = marked_in statement here next

-- ---- room

pub room_first : (x : Next) (taken more : ℕ) → HasRoom x (taken + more) → HasRoom x taken
room_first x taken more room = omega (arith, room)

-- after a statement
pub room_after : (is_based : ℕ → Bool) (x : Next) (s : Statement) (more : ℕ) → HasRoom x (taken_in s + more)
    → HasRoom (next_after is_based x s) more
room_after is_based x s more room = omega (arith, room, few_in is_based s)

-- inside a block
pub room_inside : (x : Next) (taken : ℕ) → HasRoom x (4 + taken) → HasRoom (record { block = suc x.block; temporary = 0 }) taken
room_inside x taken room = omega (arith, room)

-- inside an ON-unit, whose list is its statement
pub room_on_unit : (x : Next) (b : Body) (c : Condition) (s : Statement) → b ≡ tree.On c s → HasRoom x (taken_of b)
    → HasRoom x (4 + taken_among (only s))
room_on_unit x b c s is room = omega (arith, subst (λ b. HasRoom x (taken_of b)) is room)

-- for what controls a group
pub room_header : (x : Next) (b : Body) (control : Option Control) (ss : Statements) (end : ℕ) → b ≡ tree.Do control ss end
    → HasRoom x (taken_of b) → HasRoom x 4
room_header x b control ss end is room = room_first x 4 (taken_among ss) (subst (λ b. HasRoom x (taken_of b)) is room)

-- after what controls a group
pub room_controlled : (x : Next) (control : Option Control) (taken : ℕ) → HasRoom x (4 + taken)
    → HasRoom (record { block = x.block; temporary = x.temporary + kept_by control }) taken
room_controlled x control taken room = omega (arith, room, few_kept control)

-- in the statements of an IF, after its condition
pub room_if : (x mid : Next) (b : Body) (e : Expression) (s s' : Statement) (a : Alternative) → b ≡ tree.If e s a → mid ≡ x → s' ≡ s
    → HasRoom x (taken_of b) → HasRoom mid (taken_in s' + taken_else a)
room_if x mid b e s s' a is same again room =
    subst (λ y. HasRoom y (taken_in s' + taken_else a)) (sym same)
    (subst (λ t. HasRoom x (taken_in t + taken_else a)) (sym again) (subst (λ b. HasRoom x (taken_of b)) is room))

-- in the other of them
pub room_else : (is_based : ℕ → Bool) (x there : Next) (s : Statement) (a : Alternative) (o o' : Statement) → there ≡ next_after is_based x s
    → a ≡ tree.Else o → o' ≡ o
    → HasRoom x (taken_in s + taken_else a) → HasRoom there (taken_in o')
room_else is_based x there s a o o' next is again room =
    subst (λ y. HasRoom y (taken_in o')) (sym next)
    (subst (HasRoom (next_after is_based x s)) (ap taken_else is ∙ sym (ap taken_in again)) (room_after is_based x s (taken_else a) room))

-- the current statement, and those after it
pub room_next : (x : Next) (ss : List program.Statement) (i : ℕ) (s : program.Statement) → s ≡ get_or ss i s → i < length ss
    → HasRoom x (taken_among (source.statements_view (drop i ss)))
    → HasRoom x (taken_in (source.statement_view s) + taken_among (source.statements_view (drop (i + 1) ss)))
room_next x ss i s is lt room = subst (HasRoom x) (front (λ ys. taken_among (source.statements_view ys)) ss i s is lt) room

-- in the external procedure
pub room_at_first : (u : Procedure) (ss : List program.Statement) → ss ≡ (out-Procedure u).statements.items → HasFewRegions (source.unit_view u)
    → HasFewMarks (source.unit_view u) → HasRoom (record { block = 1; temporary = 0 }) (taken_among (source.statements_view ss))
unfolding outline_of
room_at_first u ss is few marks =
    let same : taken_among (source.statements_view ss) ≡ taken_among (source.unit_view u).statements =
    ap (λ xs. taken_among (source.statements_view xs)) is ∙ ap taken_among (sym (unit_statements u)) in
    let most : suc (length (statements_regions 0 1 (source.unit_view u).statements)) ≤ 1152921504606846976 = few in
    let many : suc (length (statements_marks 0 1 (source.unit_view u).statements)) ≤ 1152921504606846976 = marks in
    let counted = list_regions_counted (source.unit_view u).statements 0 1 in
    let taken = marked_among (source.unit_view u).statements 0 1 in
    omega (arith, most, many, counted, taken, same)

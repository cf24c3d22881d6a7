-- Each mark of a unit stands in a region where a statement stands, and a label is that statement's.
use Rattle.std.proofs.Common.{◌≡◌, ℕ, ◌+◌, ◌<◌, ◌≤◌, Bool, true, false, nat_lt, if◌then◌else◌, Option, Some, None, List, [], ◌∷◌, ◌++◌, length, Contains, get_or, zero, suc, refl, subst, arith}
use Rattle.std.specs.List.{flat_map}
use Rattle.std.proofs.lemmas.List.Elements.{Contains-append_left, Contains-append_right}
use Rattle.pli_base.specs.Syntax.{Expression, Referred, Constant, Parenthesized, Prefix, Infix, Reference, Named, JoinedParts, Alone, Joined, Arguments, Absent, Given, Expressions, Empty, Listed, first_token}
use Rattle.pli_base.specs.declared.syntax.Identifier.{Identifier}
use Rattle.pli_base.specs.declared.syntax.Joining.TheVariants.{Member, Located}
use Rattle.pli_base.specs.Statements as tree
use Rattle.pli_base.specs.Statements.{Range, To, By, Repeat, Control, While, Iterate, Allocation, Statement, Numbered, Body, Procedure, Begin, Do, If, On, Statements, Ended, Before, Alternative, NoElse, Else, ExternalProcedure}
use Rattle.pli_declare_outline.specs.Outlines.{Mark, Declared, Labelled, Entered, Used, Jumped, PlacedMark, outline_of, regions_in, regions_of, regions_among, regions_else, reference_marks, joined_marks, argument_marks, list_marks, expression_marks, optional_marks, range_marks, control_marks, both_marks, allocation_marks, head_marks, label_marks, placed, statement_marks, body_marks, statements_marks, alternative_marks}
use Rattle.pli_declare.specs.Tables.{inner_marks}
use Rattle.pli_declare_outline.specs.StatementPlaces.{statement_places, body_places, statements_places, alternative_places, end_place, unit_places}
use Rattle.pli_declare_outline.specs.declared.statement_places.StatementPlace.{StatementPlace}

-- all of a list
abbrev pub Each : {A : Type 0} → (P : A → Type 0) → List A → Type 0
Each P [] = Unit {0}
Each P (x ∷ xs) = P x × Each P xs

pub each_both : {A : Type 0} (P : A → Type 0) (xs ys : List A) → Each P xs → Each P ys → Each P (xs ++ ys)
each_both P [] ys h k = k
each_both P (x ∷ xs) ys h k = (h.0, each_both P xs ys h.1 k)

pub each_weaker : {A : Type 0} (P Q : A → Type 0) (xs : List A) → ((x : A) → P x → Q x) → Each P xs → Each Q xs
each_weaker P Q [] f h = tt
each_weaker P Q (x ∷ xs) f h = (f x h.0, each_weaker P Q xs f h.1)

pub each_at : {A : Type 0} (P : A → Type 0) (xs : List A) (x : A) (k : ℕ) → Each P xs → k < length xs → get_or xs k x ≡ x → P x
each_at P [] x k h lt e = absurd (omega (arith, lt))
each_at P (y ∷ ys) x zero h lt e = subst P e h.0
each_at P (y ∷ ys) x (suc k) h lt e = each_at P ys x k h.1 (omega (arith, lt)) e

pub each_all : {A B : Type 0} (P : B → Type 0) (f : A → List B) (xs : List A) → ((x : A) → Each P (f x)) → Each P (flat_map f xs)
each_all P f [] h = tt
each_all P f (x ∷ xs) h = each_both P (f x) (flat_map f xs) (h x) (each_all P f xs h)

-- no label
abbrev IsPlain : Mark → Type 0
IsPlain (Labelled label) = ⊥
IsPlain (Declared items) = Unit {0}
IsPlain (Entered heading region) = Unit {0}
IsPlain (Used names) = Unit {0}
IsPlain (Jumped label) = Unit {0}

abbrev ArePlain : List Mark → Type 0
ArePlain ms = Each IsPlain ms

plain_both : (xs ys : List Mark) → ArePlain xs → ArePlain ys → ArePlain (xs ++ ys)
plain_both xs ys h k = each_both IsPlain xs ys h k

mutual
  plain_reference : (r : Reference) → ArePlain (reference_marks r)
  plain_reference (Named name arguments more) = (tt, plain_both (argument_marks arguments) (joined_marks more) (plain_arguments arguments) (plain_joined more))

  plain_joined : (j : JoinedParts) → ArePlain (joined_marks j)
  plain_joined Alone = tt
  plain_joined (Joined Member name arguments more) = plain_both (argument_marks arguments) (joined_marks more) (plain_arguments arguments) (plain_joined more)
  plain_joined (Joined Located name arguments more) = (tt, plain_both (argument_marks arguments) (joined_marks more) (plain_arguments arguments) (plain_joined more))

  plain_arguments : (a : Arguments) → ArePlain (argument_marks a)
  plain_arguments Absent = tt
  plain_arguments (Given list) = plain_list list

  plain_list : (es : Expressions) → ArePlain (list_marks es)
  plain_list Empty = tt
  plain_list (Listed e es) = plain_both (expression_marks e) (list_marks es) (plain_expression e) (plain_list es)

  plain_expression : (e : Expression) → ArePlain (expression_marks e)
  plain_expression (Referred r) = plain_reference r
  plain_expression (Constant at value) = tt
  plain_expression (Parenthesized at e) = plain_expression e
  plain_expression (Prefix operator at e) = plain_expression e
  plain_expression (Infix operator at l r) = plain_both (expression_marks l) (expression_marks r) (plain_expression l) (plain_expression r)

plain_optional : {A : Type 0} (marks : A → List Mark) (o : Option A) → ((x : A) → ArePlain (marks x)) → ArePlain (optional_marks marks o)
plain_optional marks None h = tt
plain_optional marks (Some x) h = h x

plain_range : (r : Range) → ArePlain (range_marks r)
plain_range (To to by) = plain_both (expression_marks to) (optional_marks expression_marks by) (plain_expression to) (plain_optional expression_marks by plain_expression)
plain_range (By by to) = plain_both (expression_marks by) (optional_marks expression_marks to) (plain_expression by) (plain_optional expression_marks to plain_expression)
plain_range (Repeat next) = plain_expression next

plain_control : (c : Control) → ArePlain (control_marks c)
plain_control (While condition) = plain_expression condition
plain_control (Iterate variable equals first range condition) =
    plain_both ((reference_marks variable ++ expression_marks first) ++ optional_marks range_marks range) (optional_marks expression_marks condition)
    (plain_both (reference_marks variable ++ expression_marks first) (optional_marks range_marks range)
    (plain_both (reference_marks variable) (expression_marks first) (plain_reference variable) (plain_expression first))
    (plain_optional range_marks range plain_range))
    (plain_optional expression_marks condition plain_expression)

plain_either : (b : Bool) (xs ys : List Mark) → ArePlain xs → ArePlain ys → ArePlain (if b then xs else ys)
plain_either true xs ys h k = h
plain_either false xs ys h k = k

plain_pair : (area target : Option Reference) → ArePlain (both_marks area target)
plain_pair None target = plain_optional reference_marks target plain_reference
plain_pair (Some area) None = plain_both (reference_marks area) [] (plain_reference area) tt
plain_pair (Some area) (Some target) =
    plain_either (nat_lt (first_token target) (first_token area)) (reference_marks target ++ reference_marks area) (reference_marks area ++ reference_marks target)
    (plain_both (reference_marks target) (reference_marks area) (plain_reference target) (plain_reference area))
    (plain_both (reference_marks area) (reference_marks target) (plain_reference area) (plain_reference target))

plain_allocation : (a : Allocation) → ArePlain (allocation_marks a)
plain_allocation a = (tt, plain_pair a.area a.target)

plain_head : (b : Body) → ArePlain (head_marks b)
plain_head (tree.Assign target equals value) = plain_both (reference_marks target) (expression_marks value) (plain_reference target) (plain_expression value)
plain_head (tree.Declare items) = (tt, tt)
plain_head (tree.Allocate allocations) = each_all IsPlain allocation_marks allocations plain_allocation
plain_head (tree.Free references) = each_all IsPlain reference_marks references plain_reference
plain_head (tree.Call name arguments) = (tt, plain_arguments arguments)
plain_head (tree.Goto label) = (tt, tt)
plain_head (tree.Return value) = plain_optional expression_marks value plain_expression
plain_head (tree.Put skip items) = each_all IsPlain expression_marks items plain_expression
plain_head other = tt

-- marks beside statements
abbrev pub IsLabelOf : Option Identifier → Mark → Type 0
IsLabelOf l (Labelled label) = l ≡ Some label
IsLabelOf l (Declared items) = Unit {0}
IsLabelOf l (Entered heading region) = Unit {0}
IsLabelOf l (Used names) = Unit {0}
IsLabelOf l (Jumped label) = Unit {0}

-- a statement stands in the region of a mark, which has a number below the bound
pub record StandsBy (bound : ℕ) (places : List StatementPlace) (p : PlacedMark) : Type 0 where
  pub place : StatementPlace
  pub stands : Contains places place
  pub region : place.region ≡ p.region
  pub label : IsLabelOf place.label p.mark
  pub within : p.region < bound

abbrev AllStand : (bound : ℕ) → List StatementPlace → List PlacedMark → Type 0
AllStand bound places ps = Each (StandsBy bound places) ps

more_places : (bound : ℕ) (xs ys : List StatementPlace) → ((q : StatementPlace) → Contains xs q → Contains ys q) → (ps : List PlacedMark) → AllStand bound xs ps → AllStand bound ys ps
more_places bound xs ys f ps h =
    each_weaker (StandsBy bound xs) (StandsBy bound ys) ps
    (λ p s. record { place = s.place; stands = f s.place s.stands; region = s.region; label = s.label; within = s.within }) h

front : (bound : ℕ) (xs ys : List StatementPlace) (ps : List PlacedMark) → AllStand bound xs ps → AllStand bound (xs ++ ys) ps
front bound xs ys ps h = more_places bound xs (xs ++ ys) (λ q c. Contains-append_left xs ys q c) ps h

back : (bound : ℕ) (xs ys : List StatementPlace) (ps : List PlacedMark) → AllStand bound ys ps → AllStand bound (xs ++ ys) ps
back bound xs ys ps h = more_places bound ys (xs ++ ys) (λ q c. Contains-append_right xs ys q c) ps h

-- marks of a statement's own, without a label among them
label_none : (l : Option Identifier) (m : Mark) → IsPlain m → IsLabelOf l m
label_none l (Labelled label) h = absurd h
label_none l (Declared items) h = tt
label_none l (Entered heading region) h = tt
label_none l (Used names) h = tt
label_none l (Jumped label) h = tt

module _ (bound : ℕ) (me : StatementPlace) (rest : List StatementPlace) (here : ℕ) (at : me.region ≡ here) (low : here < bound) where
  own : (ms : List Mark) → ArePlain ms → AllStand bound (me ∷ rest) (placed here ms)
  own [] h = tt
  own (m ∷ ms) h = (record { place = me; stands = (0, omega arith, refl); region = at; label = label_none me.label m h.0; within = low }, own ms h.1)

  labelled : (label : Option Identifier) (b : Body) → me.label ≡ label → AllStand bound (me ∷ rest) (placed here (label_marks label b))
  labelled label (Procedure heading statements end) e = tt
  labelled None b e = none b
    where
      none : (b : Body) → AllStand bound (me ∷ rest) (placed here (label_marks None b))
      none (Procedure heading statements end) = tt
      none other = tt
  labelled (Some l) b e = some b
    where
      some : (b : Body) → AllStand bound (me ∷ rest) (placed here (label_marks (Some l) b))
      some (Procedure heading statements end) = tt
      some other = (record { place = me; stands = (0, omega arith, refl); region = at; label = e; within = low }, tt)

mutual
  stand : (bound : ℕ) (s : Statement) (here next : ℕ) → here < bound → next + regions_in s ≤ bound → AllStand bound (statement_places here next s) (statement_marks here next s)
  stand bound (Numbered number label at body) here next low high =
      let me : StatementPlace = record { number = number; region = here; label = label } in
      each_both (StandsBy bound (me ∷ body_places here next body)) (placed here (label_marks label body)) (body_marks here next body)
      (labelled bound me (body_places here next body) here refl low label body refl)
      (stand_body bound body here next me refl low high)

  stand_body : (bound : ℕ) (b : Body) (here next : ℕ) (me : StatementPlace) → me.region ≡ here → here < bound → next + regions_of b ≤ bound
      → AllStand bound (me ∷ body_places here next b) (body_marks here next b)
  stand_body bound (Procedure heading statements end) here next me at low high =
      let places = statements_places next (next + 1) statements in (
        record { place = me; stands = (0, omega arith, refl); region = at; label = tt; within = low },
        back bound (me ∷ []) (places ++ end_place next end) (statements_marks next (next + 1) statements)
            (front bound places (end_place next end) (statements_marks next (next + 1) statements)
            (stand_list bound statements next (next + 1) (omega (arith, high)) (omega (arith, high)))),
      )
  stand_body bound (Begin statements end) here next me at low high =
      let places = statements_places next (next + 1) statements in
      back bound (me ∷ []) (places ++ end_place next end) (statements_marks next (next + 1) statements)
      (front bound places (end_place next end) (statements_marks next (next + 1) statements)
      (stand_list bound statements next (next + 1) (omega (arith, high)) (omega (arith, high))))
  stand_body bound (Do control statements end) here next me at low high =
      let places = statements_places next (next + 1) statements in
      each_both (StandsBy bound (me ∷ places ++ end_place next end)) (placed here (optional_marks control_marks control)) (statements_marks next (next + 1) statements)
      (own bound me (places ++ end_place next end) here at low (optional_marks control_marks control) (plain_optional control_marks control plain_control))
      (back bound (me ∷ []) (places ++ end_place next end) (statements_marks next (next + 1) statements)
      (front bound places (end_place next end) (statements_marks next (next + 1) statements)
      (stand_list bound statements next (next + 1) (omega (arith, high)) (omega (arith, high)))))
  stand_body bound (If condition consequence alternative) here next me at low high =
      let middle = next + regions_in consequence in
      let first = statement_places here next consequence in
      let second = alternative_places here middle alternative in
      each_both (StandsBy bound (me ∷ first ++ second)) (placed here (expression_marks condition) ++ statement_marks here next consequence) (alternative_marks here middle alternative)
      (each_both (StandsBy bound (me ∷ first ++ second)) (placed here (expression_marks condition)) (statement_marks here next consequence)
      (own bound me (first ++ second) here at low (expression_marks condition) (plain_expression condition))
      (back bound (me ∷ []) (first ++ second) (statement_marks here next consequence)
      (front bound first second (statement_marks here next consequence) (stand bound consequence here next low (omega (arith, high))))))
      (back bound (me ∷ []) (first ++ second) (alternative_marks here middle alternative)
      (back bound first second (alternative_marks here middle alternative) (stand_else bound alternative here middle low (omega (arith, high)))))
  stand_body bound (On condition unit) here next me at low high =
      back bound (me ∷ []) (statement_places next (next + 1) unit) (statement_marks next (next + 1) unit)
      (stand bound unit next (next + 1) (omega (arith, high)) (omega (arith, high)))
  stand_body bound other here next me at low high = own bound me [] here at low (head_marks other) (plain_head other)

  stand_list : (bound : ℕ) (ss : Statements) (here next : ℕ) → here < bound → next + regions_among ss ≤ bound → AllStand bound (statements_places here next ss) (statements_marks here next ss)
  stand_list bound Ended here next low high = tt
  stand_list bound (Before first more) here next low high =
      let middle = next + regions_in first in
      let xs = statement_places here next first in
      let ys = statements_places here middle more in
      each_both (StandsBy bound (xs ++ ys)) (statement_marks here next first) (statements_marks here middle more)
      (front bound xs ys (statement_marks here next first) (stand bound first here next low (omega (arith, high))))
      (back bound xs ys (statements_marks here middle more) (stand_list bound more here middle low (omega (arith, high))))

  stand_else : (bound : ℕ) (a : Alternative) (here next : ℕ) → here < bound → next + regions_else a ≤ bound → AllStand bound (alternative_places here next a) (alternative_marks here next a)
  stand_else bound NoElse here next low high = tt
  stand_else bound (Else statement) here next low high = stand bound statement here next low high

-- the marks of a unit but the first
pub marks_stand : (u : ExternalProcedure) (p : PlacedMark) → Contains (inner_marks (outline_of u).marks) p → StandsBy (1 + regions_among u.statements) (unit_places u) p
unfolding outline_of unit_places
marks_stand u p c =
    let first : StatementPlace = record { number = u.heading.number; region = 0; label = None } in
    let places = statements_places 0 1 u.statements in
    let marks = statements_marks 0 1 u.statements in
    let bound = 1 + regions_among u.statements in
    each_at (StandsBy bound (first ∷ places ++ end_place 0 u.end)) marks p c.0
    (back bound (first ∷ []) (places ++ end_place 0 u.end) marks
    (front bound places (end_place 0 u.end) marks
    (stand_list bound u.statements 0 1 (omega arith) (omega arith))))
    c.1 c.2

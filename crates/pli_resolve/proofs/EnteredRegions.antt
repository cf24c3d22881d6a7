-- Which marks enter procedures: those of the regions that are procedures, in their order.
use Rattle.std.proofs.Common.{◌≡◌, ℕ, ◌+◌, Bool, true, false, nat_lt, if◌then◌else◌, Option, Some, None, List, [], ◌∷◌, ◌++◌, length, refl, sym, ap, ◌∙◌, arith}
use Rattle.std.specs.List.{flat_map}
use Rattle.std.proofs.lemmas.Grind.{flat_map-append}
use Rattle.pli_base.specs.Syntax.{Expression, Referred, Constant, Parenthesized, Prefix, Infix, Reference, Named, JoinedParts, Alone, Joined, Arguments, Absent, Given, Expressions, Empty, Listed, first_token}
use Rattle.pli_base.specs.declared.syntax.Identifier.{Identifier}
use Rattle.pli_base.specs.declared.syntax.Joining.TheVariants.{Member, Located}
use Rattle.pli_base.specs.Statements as tree
use Rattle.pli_base.specs.Statements.{Heading, Range, To, By, Repeat, Control, While, Iterate, Allocation, Statement, Numbered, Body, Procedure, Begin, Do, If, On, Statements, Ended, Before, Alternative, NoElse, Else}
use Rattle.pli_declare_outline.specs.Outlines.{Mark, Entered, PlacedMark, reference_marks, joined_marks, argument_marks, list_marks, expression_marks, optional_marks, range_marks, control_marks, both_marks, allocation_marks, head_marks, label_marks, placed, regions_in, statement_marks, body_marks, statements_marks, alternative_marks}
use Rattle.pli_resolve.proofs.RegionWalks.{statement_headings, body_headings, statements_headings, alternative_headings, headings_counted}

-- the procedure that a mark enters, with its region
abbrev pub entered : Mark → List (Heading × ℕ)
entered (Entered heading region) = (heading, region) ∷ []
entered mark = []

abbrev pub entered_in : List PlacedMark → List (Heading × ℕ)
entered_in ps = flat_map (λ p. entered p.mark) ps

abbrev pub entered_by : List Mark → List (Heading × ℕ)
entered_by ms = flat_map entered ms

-- the headings of regions, the first of which has this number, with the regions
abbrev pub headed_from : (first : ℕ) → List (Option Heading) → List (Heading × ℕ)
headed_from n [] = []
headed_from n (Some heading ∷ hs) = (heading, n) ∷ headed_from (n + 1) hs
headed_from n (None ∷ hs) = headed_from (n + 1) hs

pub headed_both : (n k : ℕ) (xs ys : List (Option Heading)) → n + length xs ≡ k → headed_from n (xs ++ ys) ≡ headed_from n xs ++ headed_from k ys
headed_both n k [] ys e = let same : n ≡ k = omega (arith, e) in ap (λ m. headed_from m ys) same
headed_both n k (Some heading ∷ xs) ys e = ap (λ hs. (heading, n) ∷ hs) (headed_both (n + 1) k xs ys (omega (arith, e)))
headed_both n k (None ∷ xs) ys e = headed_both (n + 1) k xs ys (omega (arith, e))

in_both : (ps qs : List PlacedMark) → entered_in (ps ++ qs) ≡ entered_in ps ++ entered_in qs
in_both ps qs = flat_map-append (λ (p : PlacedMark). entered p.mark) ps qs

by_both : (xs ys : List Mark) → entered_by (xs ++ ys) ≡ entered_by xs ++ entered_by ys
by_both xs ys = flat_map-append entered xs ys

none_both : (xs ys : List Mark) → entered_by xs ≡ [] → entered_by ys ≡ [] → entered_by (xs ++ ys) ≡ []
none_both xs ys e f = by_both xs ys ∙ ap (λ hs. hs ++ entered_by ys) e ∙ f

none_all : {A : Type 0} (marks : A → List Mark) (xs : List A) → ((x : A) → entered_by (marks x) ≡ []) → entered_by (flat_map marks xs) ≡ []
none_all marks [] none = refl
none_all marks (x ∷ xs) none = none_both (marks x) (flat_map marks xs) (none x) (none_all marks xs none)

-- expressions enter none
mutual
  none_reference : (r : Reference) → entered_by (reference_marks r) ≡ []
  none_reference (Named name arguments more) = none_both (argument_marks arguments) (joined_marks more) (none_arguments arguments) (none_joined more)

  none_joined : (j : JoinedParts) → entered_by (joined_marks j) ≡ []
  none_joined Alone = refl
  none_joined (Joined Member name arguments more) = none_both (argument_marks arguments) (joined_marks more) (none_arguments arguments) (none_joined more)
  none_joined (Joined Located name arguments more) = none_both (argument_marks arguments) (joined_marks more) (none_arguments arguments) (none_joined more)

  none_arguments : (a : Arguments) → entered_by (argument_marks a) ≡ []
  none_arguments Absent = refl
  none_arguments (Given list) = none_list list

  none_list : (es : Expressions) → entered_by (list_marks es) ≡ []
  none_list Empty = refl
  none_list (Listed e es) = none_both (expression_marks e) (list_marks es) (none_expression e) (none_list es)

  none_expression : (e : Expression) → entered_by (expression_marks e) ≡ []
  none_expression (Referred r) = none_reference r
  none_expression (Constant at value) = refl
  none_expression (Parenthesized at e) = none_expression e
  none_expression (Prefix operator at e) = none_expression e
  none_expression (Infix operator at l r) = none_both (expression_marks l) (expression_marks r) (none_expression l) (none_expression r)

none_optional : {A : Type 0} (marks : A → List Mark) (o : Option A) → ((x : A) → entered_by (marks x) ≡ []) → entered_by (optional_marks marks o) ≡ []
none_optional marks None none = refl
none_optional marks (Some x) none = none x

none_range : (r : Range) → entered_by (range_marks r) ≡ []
none_range (To to by) = none_both (expression_marks to) (optional_marks expression_marks by) (none_expression to) (none_optional expression_marks by none_expression)
none_range (By by to) = none_both (expression_marks by) (optional_marks expression_marks to) (none_expression by) (none_optional expression_marks to none_expression)
none_range (Repeat next) = none_expression next

none_control : (c : Control) → entered_by (control_marks c) ≡ []
none_control (While condition) = none_expression condition
none_control (Iterate variable equals first range condition) =
    none_both ((reference_marks variable ++ expression_marks first) ++ optional_marks range_marks range) (optional_marks expression_marks condition)
    (none_both (reference_marks variable ++ expression_marks first) (optional_marks range_marks range)
    (none_both (reference_marks variable) (expression_marks first) (none_reference variable) (none_expression first))
    (none_optional range_marks range none_range))
    (none_optional expression_marks condition none_expression)

none_either : (b : Bool) (xs ys : List Mark) → entered_by xs ≡ [] → entered_by ys ≡ [] → entered_by (if b then xs else ys) ≡ []
none_either true xs ys e f = e
none_either false xs ys e f = f

none_pair : (area target : Option Reference) → entered_by (both_marks area target) ≡ []
none_pair None target = none_optional reference_marks target none_reference
none_pair (Some area) None = none_both (reference_marks area) [] (none_reference area) refl
none_pair (Some area) (Some target) =
    none_either (nat_lt (first_token target) (first_token area)) (reference_marks target ++ reference_marks area) (reference_marks area ++ reference_marks target)
    (none_both (reference_marks target) (reference_marks area) (none_reference target) (none_reference area))
    (none_both (reference_marks area) (reference_marks target) (none_reference area) (none_reference target))

none_allocation : (a : Allocation) → entered_by (allocation_marks a) ≡ []
none_allocation a = none_pair a.area a.target

none_head : (b : Body) → entered_by (head_marks b) ≡ []
none_head (tree.Assign target equals value) = none_both (reference_marks target) (expression_marks value) (none_reference target) (none_expression value)
none_head (tree.Declare items) = refl
none_head (tree.Allocate allocations) = none_all allocation_marks allocations none_allocation
none_head (tree.Free references) = none_all reference_marks references none_reference
none_head (tree.Call name arguments) = none_arguments arguments
none_head (tree.Goto label) = refl
none_head (tree.Return value) = none_optional expression_marks value none_expression
none_head (tree.Put skip items) = none_all expression_marks items none_expression
none_head other = refl

none_label : (label : Option Identifier) (b : Body) → entered_by (label_marks label b) ≡ []
none_label None (Procedure heading statements end) = refl
none_label (Some l) (Procedure heading statements end) = refl
none_label None other = refl
none_label (Some l) other = refl

-- marks in a region
placed_by : (here : ℕ) (ms : List Mark) → entered_in (placed here ms) ≡ entered_by ms
placed_by here [] = refl
placed_by here (m ∷ ms) = ap (λ hs. entered m ++ hs) (placed_by here ms)

none_placed : (here : ℕ) (ms : List Mark) → entered_by ms ≡ [] → entered_in (placed here ms) ≡ []
none_placed here ms e = placed_by here ms ∙ e

past : (ps qs : List PlacedMark) (hs : List (Heading × ℕ)) → entered_in ps ≡ [] → entered_in qs ≡ hs → entered_in (ps ++ qs) ≡ hs
past ps qs hs e f = in_both ps qs ∙ ap (λ xs. xs ++ entered_in qs) e ∙ f

two : (ps qs : List PlacedMark) (next middle : ℕ) (xs ys : List (Option Heading)) → next + length xs ≡ middle
    → entered_in ps ≡ headed_from next xs → entered_in qs ≡ headed_from middle ys → entered_in (ps ++ qs) ≡ headed_from next (xs ++ ys)
two ps qs next middle xs ys l e f =
    in_both ps qs ∙ ap (λ hs. hs ++ entered_in qs) e ∙ ap (λ hs. headed_from next xs ++ hs) f ∙ sym (headed_both next middle xs ys l)

mutual
  pub entered_of : (s : Statement) (here next : ℕ) → entered_in (statement_marks here next s) ≡ headed_from next (statement_headings s)
  entered_of (Numbered number label at body) here next =
      past (placed here (label_marks label body)) (body_marks here next body) (headed_from next (body_headings body))
      (none_placed here (label_marks label body) (none_label label body)) (entered_of_body body here next)

  entered_of_body : (b : Body) (here next : ℕ) → entered_in (body_marks here next b) ≡ headed_from next (body_headings b)
  entered_of_body (Procedure heading statements end) here next = ap (λ hs. (heading, next) ∷ hs) (entered_among statements next (next + 1))
  entered_of_body (Begin statements end) here next = entered_among statements next (next + 1)
  entered_of_body (Do control statements end) here next =
      past (placed here (optional_marks control_marks control)) (statements_marks next (next + 1) statements) (headed_from (next + 1) (statements_headings statements))
      (none_placed here (optional_marks control_marks control) (none_optional control_marks control none_control)) (entered_among statements next (next + 1))
  entered_of_body (If condition consequence alternative) here next =
      two (placed here (expression_marks condition) ++ statement_marks here next consequence) (alternative_marks here (next + regions_in consequence) alternative)
      next (next + regions_in consequence) (statement_headings consequence) (alternative_headings alternative)
      (omega (arith, headings_counted consequence))
      (past (placed here (expression_marks condition)) (statement_marks here next consequence) (headed_from next (statement_headings consequence))
      (none_placed here (expression_marks condition) (none_expression condition)) (entered_of consequence here next))
      (entered_else alternative here (next + regions_in consequence))
  entered_of_body (On condition unit) here next = entered_of unit next (next + 1)
  entered_of_body other here next = none_placed here (head_marks other) (none_head other)

  pub entered_among : (ss : Statements) (here next : ℕ) → entered_in (statements_marks here next ss) ≡ headed_from next (statements_headings ss)
  entered_among Ended here next = refl
  entered_among (Before first more) here next =
      two (statement_marks here next first) (statements_marks here (next + regions_in first) more) next (next + regions_in first) (statement_headings first) (statements_headings more)
      (omega (arith, headings_counted first)) (entered_of first here next) (entered_among more here (next + regions_in first))

  entered_else : (a : Alternative) (here next : ℕ) → entered_in (alternative_marks here next a) ≡ headed_from next (alternative_headings a)
  entered_else NoElse here next = refl
  entered_else (Else statement) here next = entered_of statement here next

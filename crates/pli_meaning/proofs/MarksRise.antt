-- The marks of an outline stand in the order of the text.
use Rattle.std.proofs.Common.{◌≡◌, ◌+◌, ◌≤◌, ℕ, cond, List, [], ◌∷◌, ◌++◌, Option, Some, None, refl, ap, ◌∙◌, subst, sym, append_assoc, arith, inl, inr}
use Rattle.std.specs.List.{flat_map}
use Rattle.std.proofs.lemmas.Bool.{cases_lt, lt-ltb, le-ltb}
use Rattle.std.proofs.lemmas.List.{append-nil}
use Rattle.pli_base.specs.Syntax.{Expression, Referred, Constant, Parenthesized, Prefix, Infix, Reference, Named, JoinedParts, Alone, Joined, Arguments, Absent, Given, Expressions, Empty, Listed}
use Rattle.pli_base.specs.Statements.{Range, To, By, Repeat, Control, While, Iterate, Allocation, Statement, Numbered, Body, Null, Assign, Declare, Procedure, Begin, Do, If, On, Revert, Signal, Stop, Allocate, Free, Call, Goto, Return, Put, Statements, Ended, Before, Alternative, NoElse, Else}
use Rattle.pli_base.specs.TreeTokens.{Rises, expression_tokens, reference_tokens, joined_tokens, argument_tokens, listed_tokens, tokens_of_each, tokens_of_some, name_tokens, item_tokens, range_tokens, control_tokens, placed_tokens, allocation_tokens, statement_tokens, begun_tokens, statements_tokens, alternative_tokens}
use Rattle.pli_base.specs.laws.TreeTokenLaws.{rises_up}
use Rattle.pli_base.specs.declared.syntax.Identifier.{Identifier}
use Rattle.pli_base.specs.declared.syntax.Joining.TheVariants.{Member, Located}
use Rattle.pli_declare_outline.specs.Outlines.{Mark, Declared, Used, Jumped, PlacedMark, outline_of, placed, reference_marks, joined_marks, argument_marks, list_marks, expression_marks, optional_marks, range_marks, control_marks, both_marks, allocation_marks, label_marks, statement_marks, body_marks, statements_marks, alternative_marks, regions_in}
use Rattle.pli_meaning.specs.MarkTokens.{mark_tokens, placed_mark_tokens, MarksRise}
use Rattle.pli_meaning.specs.StatementStarts.{Begins, BodyBegins, AllBegin, ElseBegins}
use Rattle.pli_meaning.proofs.RisingLemmas.{Keeps, kept, none_kept, token_kept, token_left, rises_apart, both_kept, each_kept}

-- the tokens of these marks rise where those of the text do
abbrev Marked : List Mark → List ℕ → Type 0
Marked ms ts = Keeps (tokens_of_each mark_tokens ms) ts

abbrev Outlined : List PlacedMark → List ℕ → Type 0
Outlined ps ts = Keeps (placed_mark_tokens ps) ts

marked_both : (ms ns : List Mark) (ts us : List ℕ) → Marked ms ts → Marked ns us → Marked (ms ++ ns) (ts ++ us)
marked_both ms ns ts us k l = each_kept mark_tokens ms ns ts us k l

outlined_both : (ps qs : List PlacedMark) (ts us : List ℕ) → Outlined ps ts → Outlined qs us → Outlined (ps ++ qs) (ts ++ us)
outlined_both ps qs ts us k l = each_kept (λ p. mark_tokens p.mark) ps qs ts us k l

mutual
  reference_marked : (r : Reference) → Marked (reference_marks r) (reference_tokens r)
  reference_marked (Named name arguments more) =
      token_kept name.at (tokens_of_each mark_tokens (argument_marks arguments ++ joined_marks more)) (argument_tokens arguments ++ joined_tokens more)
      (marked_both (argument_marks arguments) (joined_marks more) (argument_tokens arguments) (joined_tokens more) (arguments_marked arguments) (joined_marked more))

  joined_marked : (m : JoinedParts) → Marked (joined_marks m) (joined_tokens m)
  joined_marked Alone = none_kept []
  joined_marked (Joined Member name arguments more) =
      token_left name.at (tokens_of_each mark_tokens (argument_marks arguments ++ joined_marks more)) (argument_tokens arguments ++ joined_tokens more)
      (marked_both (argument_marks arguments) (joined_marks more) (argument_tokens arguments) (joined_tokens more) (arguments_marked arguments) (joined_marked more))
  joined_marked (Joined Located name arguments more) =
      token_kept name.at (tokens_of_each mark_tokens (argument_marks arguments ++ joined_marks more)) (argument_tokens arguments ++ joined_tokens more)
      (marked_both (argument_marks arguments) (joined_marks more) (argument_tokens arguments) (joined_tokens more) (arguments_marked arguments) (joined_marked more))

  arguments_marked : (a : Arguments) → Marked (argument_marks a) (argument_tokens a)
  arguments_marked Absent = none_kept []
  arguments_marked (Given list) = list_marked list

  list_marked : (l : Expressions) → Marked (list_marks l) (listed_tokens l)
  list_marked Empty = none_kept []
  list_marked (Listed e es) = marked_both (expression_marks e) (list_marks es) (expression_tokens e) (listed_tokens es) (expression_marked e) (list_marked es)

  expression_marked : (e : Expression) → Marked (expression_marks e) (expression_tokens e)
  expression_marked (Referred r) = reference_marked r
  expression_marked (Constant at value) = none_kept (at ∷ [])
  expression_marked (Parenthesized at e) = token_left at (tokens_of_each mark_tokens (expression_marks e)) (expression_tokens e) (expression_marked e)
  expression_marked (Prefix operator at e) = token_left at (tokens_of_each mark_tokens (expression_marks e)) (expression_tokens e) (expression_marked e)
  expression_marked (Infix operator at l r) =
      marked_both (expression_marks l) (expression_marks r) (expression_tokens l) (at ∷ expression_tokens r) (expression_marked l)
      (token_left at (tokens_of_each mark_tokens (expression_marks r)) (expression_tokens r) (expression_marked r))

some_marked : {A : Type 0} (marks : A → List Mark) (tokens : A → List ℕ) → ((x : A) → Marked (marks x) (tokens x)) → (o : Option A)
    → Marked (optional_marks marks o) (tokens_of_some tokens o)
some_marked marks tokens each None = none_kept []
some_marked marks tokens each (Some x) = each x

all_marked : {A : Type 0} (marks : A → List Mark) (tokens : A → List ℕ) → ((x : A) → Marked (marks x) (tokens x)) → (xs : List A)
    → Marked (flat_map marks xs) (tokens_of_each tokens xs)
all_marked marks tokens each [] = none_kept []
all_marked marks tokens each (x ∷ xs) = marked_both (marks x) (flat_map marks xs) (tokens x) (tokens_of_each tokens xs) (each x) (all_marked marks tokens each xs)

possible_marked : (o : Option Expression) → Marked (optional_marks expression_marks o) (tokens_of_some expression_tokens o)
possible_marked o = some_marked expression_marks expression_tokens expression_marked o

range_marked : (r : Range) → Marked (range_marks r) (range_tokens r)
range_marked (To to by) = marked_both (expression_marks to) (optional_marks expression_marks by) (expression_tokens to) (tokens_of_some expression_tokens by) (expression_marked to) (possible_marked by)
range_marked (By by to) = marked_both (expression_marks by) (optional_marks expression_marks to) (expression_tokens by) (tokens_of_some expression_tokens to) (expression_marked by) (possible_marked to)
range_marked (Repeat next) = expression_marked next

control_marked : (c : Control) → Marked (control_marks c) (control_tokens c)
control_marked (While condition) = expression_marked condition
control_marked (Iterate variable equals first range condition) =
    let v = reference_marks variable in
    let f = expression_marks first in
    let r = optional_marks range_marks range in
    let c = optional_marks expression_marks condition in
    let rt = tokens_of_some range_tokens range in
    let ct = tokens_of_some expression_tokens condition in
    let grouped : v ++ f ++ r ++ c ≡ v ++ (f ++ (r ++ c)) = append_assoc (v ++ f) r c ∙ append_assoc v f (r ++ c) in
    subst (λ ms. Marked ms (reference_tokens variable ++ (equals ∷ (expression_tokens first ++ (rt ++ ct))))) (sym grouped)
    (marked_both v (f ++ (r ++ c)) (reference_tokens variable) (equals ∷ (expression_tokens first ++ (rt ++ ct))) (reference_marked variable)
    (token_left equals (tokens_of_each mark_tokens (f ++ (r ++ c))) (expression_tokens first ++ (rt ++ ct))
    (marked_both f (r ++ c) (expression_tokens first) (rt ++ ct) (expression_marked first)
    (marked_both r c rt ct (some_marked range_marks range_tokens range_marked range) (possible_marked condition)))))

-- IN and SET in either order
areas_marked : (area target : Option Reference) → Marked (both_marks area target) (placed_tokens area target)
areas_marked None None = none_kept []
areas_marked None (Some t) = reference_marked t
areas_marked (Some a) None = marked_both (reference_marks a) [] (reference_tokens a) [] (reference_marked a) (none_kept [])
areas_marked (Some (Named n args m)) (Some (Named o others k)) = λ low high h.
    let a = Named n args m in
    let t = Named o others k in
    let am = reference_marks a in
    let tm = reference_marks t in
    let ra = reference_tokens a in
    let rt = reference_tokens t in
    elim (cases_lt n.at o.at) [
      | inl less ↦
          subst (λ b. Rises low (tokens_of_each mark_tokens (cond b (tm ++ am) (am ++ tm))) high) (sym (le-ltb o.at n.at (omega (arith, less))))
          (marked_both am tm ra rt (reference_marked a) (reference_marked t) low high
          (subst (λ b. Rises low (cond b (ra ++ rt) (rt ++ ra)) high) (lt-ltb n.at o.at less) h))
      | inr more ↦
          let turned : Rises low (rt ++ ra) high = subst (λ b. Rises low (cond b (ra ++ rt) (rt ++ ra)) high) (le-ltb n.at o.at more) h in
          let apart = rises_apart rt ra low high turned in
          let after : o.at + 1 ≤ apart.0 = rises_up (argument_tokens others ++ joined_tokens k) (o.at + 1) apart.0 apart.1.1 in
          subst (λ b. Rises low (tokens_of_each mark_tokens (cond b (tm ++ am) (am ++ tm))) high) (sym (lt-ltb o.at n.at (omega (arith, after, apart.2.0))))
          (marked_both tm am rt ra (reference_marked t) (reference_marked a) low high turned)
    ]

allocation_marked : (a : Allocation) → Marked (allocation_marks a) (allocation_tokens a)
allocation_marked a = token_kept a.name.at (tokens_of_each mark_tokens (both_marks a.area a.target)) (placed_tokens a.area a.target) (areas_marked a.area a.target)

-- marks in a region

placed_same : (here : ℕ) (ms : List Mark) → placed_mark_tokens (placed here ms) ≡ tokens_of_each mark_tokens ms
placed_same here [] = refl
placed_same here (m ∷ ms) = ap (λ ts. mark_tokens m ++ ts) (placed_same here ms)

placed_marked : (here : ℕ) (ms : List Mark) (ts : List ℕ) → Marked ms ts → Outlined (placed here ms) ts
placed_marked here ms ts k = subst (λ us. Keeps us ts) (sym (placed_same here ms)) k

-- after a label
labelled : (here : ℕ) (ms : List Mark) (label : Option Identifier) (ps : List PlacedMark) (ts : List ℕ) → Marked ms (tokens_of_some name_tokens label) → Outlined ps ts
    → Outlined (placed here ms ++ ps) (tokens_of_some name_tokens label ++ ts)
labelled here ms label ps ts k l = outlined_both (placed here ms) ps (tokens_of_some name_tokens label) ts (placed_marked here ms (tokens_of_some name_tokens label) k) l

label_marked : (label : Option Identifier) (body : Body) → Marked (label_marks label body) (tokens_of_some name_tokens label)
label_marked label (Procedure heading statements end) = none_kept (tokens_of_some name_tokens label)
label_marked None other = none_kept []
label_marked (Some l) other = kept (l.at ∷ [])

-- a statement without statements inside it
simple : (here : ℕ) (label : Option Identifier) (body : Body) (ms : List Mark) (ts : List ℕ) → Marked ms ts
    → Outlined (placed here (label_marks label body) ++ placed here ms) (tokens_of_some name_tokens label ++ ts)
simple here label body ms ts k = labelled here (label_marks label body) label (placed here ms) ts (label_marked label body) (placed_marked here ms ts k)

one_left : (at : ℕ) (ms : List Mark) (ts : List ℕ) → Marked ms ts → Marked ms (at ∷ ts)
one_left at ms ts k = token_left at (tokens_of_each mark_tokens ms) ts k

mutual
  statement_marked : (here next : ℕ) (s : Statement) → Begins s → Outlined (statement_marks here next s) (statement_tokens s)
  statement_marked here next (Numbered number label at body) b = body_marked here next label at body b

  body_marked : (here next : ℕ) (label : Option Identifier) (at : ℕ) (body : Body) → BodyBegins label at body
      → Outlined (placed here (label_marks label body) ++ body_marks here next body) (tokens_of_some name_tokens label ++ begun_tokens at body)
  body_marked here next label at (Procedure heading statements end) b =
      let ps = tokens_of_each name_tokens heading.parameters in
      let ms = statements_marks next (next + 1) statements in
      let ts = statements_tokens statements in
      subst (λ l. Keeps (heading.name.at ∷ (ps ++ placed_mark_tokens ms)) (tokens_of_some name_tokens l ++ (at ∷ (ps ++ ts)))) (sym b.0)
      (token_kept heading.name.at (ps ++ placed_mark_tokens ms) (at ∷ (ps ++ ts))
      (token_left at (ps ++ placed_mark_tokens ms) (ps ++ ts)
      (both_kept ps ps (placed_mark_tokens ms) ts (kept ps) (statements_marked next (next + 1) statements b.1))))
  body_marked here next label at (Begin statements end) b =
      let ms = statements_marks next (next + 1) statements in
      labelled here (label_marks label (Begin statements end)) label ms (at ∷ statements_tokens statements) (label_marked label (Begin statements end))
      (token_left at (placed_mark_tokens ms) (statements_tokens statements) (statements_marked next (next + 1) statements b))
  body_marked here next label at (Do control statements end) b =
      let cs = optional_marks control_marks control in
      let ct = tokens_of_some control_tokens control in
      let ms = statements_marks next (next + 1) statements in
      labelled here (label_marks label (Do control statements end)) label (placed here cs ++ ms) (at ∷ (ct ++ statements_tokens statements)) (label_marked label (Do control statements end))
      (token_left at (placed_mark_tokens (placed here cs ++ ms)) (ct ++ statements_tokens statements)
      (outlined_both (placed here cs) ms ct (statements_tokens statements) (placed_marked here cs ct (some_marked control_marks control_tokens control_marked control))
      (statements_marked next (next + 1) statements b)))
  body_marked here next label at (If condition consequence alternative) b =
      let cs = placed here (expression_marks condition) in
      let fs = statement_marks here next consequence in
      let ss = alternative_marks here (next + regions_in consequence) alternative in
      let ct = expression_tokens condition in
      let ft = statement_tokens consequence in
      let st = alternative_tokens alternative in
      labelled here (label_marks label (If condition consequence alternative)) label (cs ++ fs ++ ss) (at ∷ (ct ++ (ft ++ st))) (label_marked label (If condition consequence alternative))
      (token_left at (placed_mark_tokens (cs ++ fs ++ ss)) (ct ++ (ft ++ st))
      (subst (λ ms. Outlined ms (ct ++ (ft ++ st))) (sym (append_assoc cs fs ss))
      (outlined_both cs (fs ++ ss) ct (ft ++ st) (placed_marked here (expression_marks condition) ct (expression_marked condition))
      (outlined_both fs ss ft st (statement_marked here next consequence b.0) (else_marked here (next + regions_in consequence) alternative b.1)))))
  body_marked here next label at (On condition unit) b =
      let ms = statement_marks next (next + 1) unit in
      labelled here (label_marks label (On condition unit)) label ms (at ∷ statement_tokens unit) (label_marked label (On condition unit))
      (token_left at (placed_mark_tokens ms) (statement_tokens unit) (statement_marked next (next + 1) unit b))
  body_marked here next label at (Assign target equals value) b =
      simple here label (Assign target equals value) (reference_marks target ++ expression_marks value) (reference_tokens target ++ (equals ∷ expression_tokens value))
      (marked_both (reference_marks target) (expression_marks value) (reference_tokens target) (equals ∷ expression_tokens value) (reference_marked target) (one_left equals (expression_marks value) (expression_tokens value) (expression_marked value)))
  body_marked here next label at (Declare items) b =
      let ts = tokens_of_each item_tokens items in
      simple here label (Declare items) (Declared items ∷ []) (at ∷ ts)
      (one_left at (Declared items ∷ []) ts (subst (λ us. Keeps us ts) (sym (append-nil ts)) (kept ts)))
  body_marked here next label at (Allocate allocations) b =
      simple here label (Allocate allocations) (flat_map allocation_marks allocations) (at ∷ tokens_of_each allocation_tokens allocations)
      (one_left at (flat_map allocation_marks allocations) (tokens_of_each allocation_tokens allocations) (all_marked allocation_marks allocation_tokens allocation_marked allocations))
  body_marked here next label at (Free references) b =
      simple here label (Free references) (flat_map reference_marks references) (at ∷ tokens_of_each reference_tokens references)
      (one_left at (flat_map reference_marks references) (tokens_of_each reference_tokens references) (all_marked reference_marks reference_tokens reference_marked references))
  body_marked here next label at (Call name arguments) b =
      simple here label (Call name arguments) (Used (name ∷ []) ∷ argument_marks arguments) (at ∷ (name.at ∷ argument_tokens arguments))
      (one_left at (Used (name ∷ []) ∷ argument_marks arguments) (name.at ∷ argument_tokens arguments)
      (token_kept name.at (tokens_of_each mark_tokens (argument_marks arguments)) (argument_tokens arguments) (arguments_marked arguments)))
  body_marked here next label at (Goto name) b =
      simple here label (Goto name) (Jumped name ∷ []) (at ∷ (name.at ∷ [])) (one_left at (Jumped name ∷ []) (name.at ∷ []) (kept (name.at ∷ [])))
  body_marked here next label at (Return value) b =
      simple here label (Return value) (optional_marks expression_marks value) (at ∷ tokens_of_some expression_tokens value)
      (one_left at (optional_marks expression_marks value) (tokens_of_some expression_tokens value) (possible_marked value))
  body_marked here next label at (Put skip items) b =
      simple here label (Put skip items) (flat_map expression_marks items) (at ∷ tokens_of_each expression_tokens items)
      (one_left at (flat_map expression_marks items) (tokens_of_each expression_tokens items) (all_marked expression_marks expression_tokens expression_marked items))
  body_marked here next label at Null b = simple here label Null [] (at ∷ []) (none_kept (at ∷ []))
  body_marked here next label at (Revert condition) b = simple here label (Revert condition) [] (at ∷ []) (none_kept (at ∷ []))
  body_marked here next label at (Signal condition) b = simple here label (Signal condition) [] (at ∷ []) (none_kept (at ∷ []))
  body_marked here next label at Stop b = simple here label Stop [] (at ∷ []) (none_kept (at ∷ []))

  statements_marked : (here next : ℕ) (ss : Statements) → AllBegin ss → Outlined (statements_marks here next ss) (statements_tokens ss)
  statements_marked here next Ended b = none_kept []
  statements_marked here next (Before first more) b =
      outlined_both (statement_marks here next first) (statements_marks here (next + regions_in first) more) (statement_tokens first) (statements_tokens more)
      (statement_marked here next first b.0) (statements_marked here (next + regions_in first) more b.1)

  else_marked : (here next : ℕ) (a : Alternative) → ElseBegins a → Outlined (alternative_marks here next a) (alternative_tokens a)
  else_marked here next NoElse b = none_kept []
  else_marked here next (Else statement) b = statement_marked here next statement b

pub marks_rise : MarksRise
unfolding outline_of
marks_rise u low high b h =
    let ps = tokens_of_each name_tokens u.heading.parameters in
    let ms = statements_marks 0 1 u.statements in
    token_kept u.heading.name.at (ps ++ placed_mark_tokens ms) (ps ++ statements_tokens u.statements)
    (both_kept ps ps (placed_mark_tokens ms) (statements_tokens u.statements) (kept ps) (statements_marked 0 1 u.statements b)) low high h

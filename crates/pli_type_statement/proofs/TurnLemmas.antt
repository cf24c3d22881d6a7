-- One turn of the loop over statements; and statements by their parts.
use Rattle.std.proofs.Common.{◌≡◌, IfOk, ◌++◌, ◌+◌, ◌<◌, ◌≤◌, ◌&&◌, ℕ, zero, suc, Bool, true, false, [], ◌∷◌, List, Option, Some, None, option_map, Result, Ok, Err, map, drop, get_or, length, is_some, refl, ap, sym, ◌∙◌, subst, arith}
use Rattle.pli_base.specs.Results.{◌>>=◌}
use Rattle.pli_base.specs.Statements as tree
use Rattle.pli_base.specs.Statements.{Control}
use Rattle.pli_base.specs.Syntax.{Expression}
use Rattle.pli_base.specs.declared.statement.Statement.{Statement}
use Rattle.pli_base.specs.declared.token.Fault.{Fault}
use Rattle.pli_base.specs.views.StatementView as source
use Rattle.pli_type_rules.specs.Names.{NamedUnit}
use Rattle.pli_type_rules.specs.StatementTyping as spec
use Rattle.pli_type_rules.specs.StatementTyping.{Surroundings, WithProcedures, alone, of_own, together, made, put_before, leaves_nothing, body_typed, statement_typed, statements_typed, naming_at, condition, iteration}
use Rattle.pli_type_rules.specs.Temporaries.{Next, next_after, kept_by, temporaries_of}
use Rattle.pli_type_rules.specs.TypingSteps.{items, put_form}
use Rattle.pli_type_tree.specs.TypedTree as typed
use Rattle.pli_type_tree.specs.TypedTree.{Form, TypedExpression, TypedStatement, TypedStatements, StatementThen, NoStatement}
use Rattle.pli_type_tree.specs.declared.statement.TypedStatement as program
use Rattle.pli_type_tree.specs.views.TypedView.{statement_view, statements_view}
use Rattle.pli_type_iteration.specs.Headers as headers
use Rattle.pli_type_iteration.specs.Headers.{Header, header_typed, group_of}
use Rattle.pli_type_parts.specs.Parts.{after_body, after_list, both, listed_if}
use Rattle.pli_type_walk.specs.Compound.{is_compound}
use Rattle.pli_type_simple.specs.Simple.{simple_typed}
use Rattle.pli_type_walk.specs.Walking.{IsPlaced, Walks, WalksBody, WalksList, unit_at, around, based_names, next_at}
use Rattle.pli_type_walk.specs.declared.walk.TypingWalk.{TypingWalk}
use Rattle.pli_type_parts.proofs.SearchLemmas.{front}
use Rattle.pli_type_walk.proofs.WalkLemmas.{as_typed, moved, then_walked, nothing_walked}

-- statements without statements in them

abbrev when : Bool → Type 0 → Type 0
when true P = Unit {0}
when false P = P

impossible : (P : Type 0) → true ≡ false → P
impossible P e = subst (λ b. when b P) e tt

own_put : (skip : Bool) (r : Result (List TypedExpression) Fault)
    → of_own (r >>= λ xs. Ok (typed.Put skip xs)) ≡ put_form skip r
own_put skip (Ok xs) = refl
own_put skip (Err f) = refl

simple_body : (u : NamedUnit) (s : Surroundings) (x : Next) (number at : ℕ) (b : tree.Body) → is_compound b ≡ false
    → of_own (simple_typed (naming_at u s) s x.temporary at b) ≡ body_typed u s x number at b
simple_body u s x number at (tree.Procedure heading ss end) h = impossible _ h
simple_body u s x number at (tree.Begin ss end) h = impossible _ h
simple_body u s x number at (tree.Do control ss end) h = impossible _ h
simple_body u s x number at (tree.If e c a) h = impossible _ h
simple_body u s x number at (tree.On c unit) h = impossible _ h
simple_body u s x number at (tree.Put skip printed) h = own_put skip (items (naming_at u s) printed)
simple_body u s x number at other h = refl

abbrev pub next_of : ℕ → ℕ → Next
next_of block temporary = record { block = block; temporary = temporary }

pub same_next : (x y x' y' : ℕ) → x ≡ x' → y ≡ y' → next_of (x) (y) ≡ next_of x' y'
same_next x y x' y' e f = ap (λ b. record { block = b; temporary = y }) e ∙ ap (λ t. record { block = x'; temporary = t }) f

simple_next : (f : ℕ → Bool) (x : Next) (b : tree.Body) → is_compound b ≡ false
    → next_of (x.block) (x.temporary + temporaries_of f b) ≡ after_body f x b
simple_next f x (tree.Procedure heading ss end) h = impossible _ h
simple_next f x (tree.Begin ss end) h = impossible _ h
simple_next f x (tree.Do control ss end) h = impossible _ h
simple_next f x (tree.If e c a) h = impossible _ h
simple_next f x (tree.On c unit) h = impossible _ h
simple_next f x other h = same_next _ _ _ _ (omega arith) refl

simple_walked : (old new : TypingWalk) (number at : ℕ) (b : tree.Body) (form : Option Form) → is_compound b ≡ false
    → Walks Form old new (next_of old.next.block (old.next.temporary + temporaries_of (based_names old) b))
    (of_own (simple_typed (naming_at (unit_at old) (around old)) (around old) old.next.temporary at b)) form
    → WalksBody old new number at b form
simple_walked old new number at b form h w =
    as_typed old new _ _ _ _ _ _ (simple_next (based_names old) (next_at old) b h)
    (simple_body (unit_at old) (around old) (next_at old) number at b h) refl w

pub simple_answer : {X E : Type 0} (view : X → Form) (result : Result (Option X) E) (old new : TypingWalk) (number at : ℕ) (b : tree.Body)
    → is_compound b ≡ false
    → IfOk result (λ form. Walks Form old new (next_of old.next.block (old.next.temporary + temporaries_of (based_names old) b))
    (of_own (simple_typed (naming_at (unit_at old) (around old)) (around old) old.next.temporary at b)) (option_map view form))
    → IfOk result (λ form. WalksBody old new number at b (option_map view form))
simple_answer view (Ok form) old new number at b h w = simple_walked old new number at b (option_map view form) h w
simple_answer view (Err e) old new number at b h w = tt

-- an IF

pub if_next_none : (w mid new : TypingWalk) (s s' : tree.Statement) → s' ≡ s → (e : Expression) → based_names mid ≡ based_names w
    → next_at mid ≡ next_at w → next_at new ≡ next_after (based_names mid) (next_at mid) s'
    → next_at new ≡ after_body (based_names w) (next_at w) (tree.If e s tree.NoElse)
if_next_none w mid new s s' is e based first second =
    second ∙ ap (λ f. next_after f (next_at mid) s') based ∙ ap (λ s. next_after (based_names w) (next_at mid) s) is
    ∙ ap (λ n. next_after (based_names w) n s) first
    ∙ same_next _ _ _ _ (omega arith) (omega arith)

pub if_next_some : (w mid there new : TypingWalk) (s s' o o' : tree.Statement) → s' ≡ s → o' ≡ o → (e : Expression)
    → based_names mid ≡ based_names w → based_names there ≡ based_names w → next_at mid ≡ next_at w
    → next_at there ≡ next_after (based_names mid) (next_at mid) s' → next_at new ≡ next_after (based_names there) (next_at there) o'
    → next_at new ≡ after_body (based_names w) (next_at w) (tree.If e s (tree.Else o))
if_next_some w mid there new s s' o o' is other e based based' first second third =
    let f = based_names w in
    third ∙ ap (λ g. next_after g (next_at there) o') based' ∙ ap (λ o. next_after f (next_at there) o) other
    ∙ ap (λ n. next_after f n o)
    (second ∙ ap (λ g. next_after g (next_at mid) s') based ∙ ap (λ s. next_after f (next_at mid) s) is ∙ ap (λ n. next_after f n s) first)
    ∙ same_next _ _ _ _ (omega arith) (omega arith)

-- groups

plain_group : (r : Result (WithProcedures TypedStatements) (List Fault))
    → together group_of (Ok (alone headers.Plain)) r ≡ made typed.Group r
plain_group (Ok x) = refl
plain_group (Err fs) = refl

header_group : {A : Type 0} (make : A → Header) (t : Result A Fault) (r : Result (WithProcedures TypedStatements) (List Fault))
    → together group_of (of_own (t >>= λ x. Ok (make x))) r ≡ together (λ x. group_of (make x)) (of_own t) r
header_group make (Ok x) (Ok y) = refl
header_group make (Ok x) (Err gs) = refl
header_group make (Err f) (Ok y) = refl
header_group make (Err f) (Err gs) = refl

pub after_header : Next → Option Control → Next
after_header x control = record { block = x.block; temporary = x.temporary + kept_by control }

do_group : (u : NamedUnit) (s : Surroundings) (x : Next) (number at : ℕ) (control : Option Control) (ss : tree.Statements) (end : ℕ)
    → together group_of (of_own (header_typed (naming_at u s) x.temporary control))
    (statements_typed u (spec.in_group ss s) (record { block = x.block; temporary = x.temporary + kept_by control }) ss)
    ≡ body_typed u s x number at (tree.Do control ss end)
do_group u s x number at None ss end =
    plain_group _ ∙ ap (λ y. made typed.Group (statements_typed u (spec.in_group ss s) y ss)) (same_next x.block (x.temporary + 0) x.block x.temporary refl (omega arith))
do_group u s x number at (Some (tree.While e)) ss end =
    header_group headers.While (condition (naming_at u s) e) _
    ∙ ap (λ y. together typed.While (of_own (condition (naming_at u s) e)) (statements_typed u (spec.in_group ss s) y ss)) (same_next x.block (x.temporary + 0) x.block x.temporary refl (omega arith))
do_group u s x number at (Some (tree.Iterate v equals e r c)) ss end =
    header_group headers.Iterate (iteration (naming_at u s) x.temporary v equals e r c) _

pub do_walked : (old mid new : TypingWalk) (number at : ℕ) (control : Option Control) (ss : tree.Statements) (end : ℕ)
    (header : Option Header) (list : Option TypedStatements)
    → Walks Header old mid (record { block = old.next.block; temporary = old.next.temporary + kept_by control })
    (of_own (header_typed (naming_at (unit_at old) (around old)) old.next.temporary control)) header
    → WalksList mid new (spec.in_group ss (around mid)) ss list
    → WalksBody old new number at (tree.Do control ss end) (both group_of header list)
do_walked old mid new number at control ss end header list first second =
    as_typed old new _ _ _ _ _ _
    (moved (λ u a x. after_list u.is_based x ss) old mid _ first.back first.next ∙ same_next _ _ _ _ refl (omega arith))
    (do_group (unit_at old) (around old) (next_at old) number at control ss end) refl
    (then_walked group_of old mid new _ _ _ _ _ header list first second
    (moved (λ u s x. statements_typed u (spec.in_group ss s) x ss) old mid _ first.back first.next))

-- lists

-- statements in front of others
abbrev pub before : List TypedStatement → TypedStatements → TypedStatements
before [] more = more
before (s ∷ ss) more = StatementThen s (before ss more)

-- statements in front of those that are left, unless one of either has a fault
abbrev pub in_front : (complete : Bool) → List TypedStatement → Option TypedStatements → Option TypedStatements
in_front true ss (Some more) = Some (before ss more)
in_front complete ss more = None

before_one : (ss : List TypedStatement) (s : TypedStatement) (more : TypedStatements)
    → before (ss ++ s ∷ []) more ≡ before ss (StatementThen s more)
before_one [] s more = refl
before_one (t ∷ ss) s more = ap (StatementThen t) (before_one ss s more)

before_none : (ss : List TypedStatement) (more : TypedStatements) → before (ss ++ []) more ≡ before ss more
before_none [] more = refl
before_none (t ∷ ss) more = ap (StatementThen t) (before_none ss more)

-- one statement more
one_more : (complete nothing : Bool) (ss : List TypedStatement) (t : Option TypedStatement) (more : Option TypedStatements)
    → in_front complete ss (both (put_before nothing) t more) ≡ in_front (complete && is_some t) (ss ++ listed_if nothing t) more
one_more true true ss (Some t) (Some more) = ap Some (sym (before_none ss more))
one_more true false ss (Some t) (Some more) = ap Some (sym (before_one ss t more))
one_more true nothing ss (Some t) None = refl
one_more true nothing ss None (Some more) = refl
one_more true nothing ss None None = refl
one_more false nothing ss (Some t) (Some more) = refl
one_more false nothing ss (Some t) None = refl
one_more false nothing ss None (Some more) = refl
one_more false nothing ss None None = refl

pub none_in_front : (r : Option TypedStatements) → r ≡ in_front true [] r
none_in_front None = refl
none_in_front (Some ss) = refl

all_in_front : (ss : List program.TypedStatement) → before (map statement_view ss) NoStatement ≡ statements_view ss
all_in_front [] = refl
all_in_front (s ∷ ss) = ap (StatementThen (statement_view s)) (all_in_front ss)

-- whatever is done from here, the whole does from the start
abbrev pub GoesOn : (old now : TypingWalk) → (complete : Bool) → List TypedStatement → (all left : tree.Statements) → Type 0
GoesOn old now complete ts all left =
    (new : TypingWalk) → (part : Option TypedStatements) → WalksList now new (around now) left part
    → WalksList old new (around old) all (in_front complete ts part)

pub goes_on_first : (old : TypingWalk) (all : tree.Statements) → GoesOn old old true [] all all
goes_on_first old all new part w = as_typed old new _ _ _ _ _ _ refl refl (sym (none_in_front part)) w

step_walked : (now mid new : TypingWalk) (s : Statement) (more : tree.Statements) (t : Option TypedStatement) (part : Option TypedStatements)
    → Walks TypedStatement now mid (next_after (based_names now) (next_at now) (source.statement_view s))
    (statement_typed (unit_at now) (around now) (next_at now) (source.statement_view s)) t
    → WalksList mid new (around mid) more part
    → WalksList now new (around now) (tree.Before (source.statement_view s) more)
    (both (put_before (leaves_nothing (source.body_view s.body))) t part)
step_walked now mid new s more t part first second =
    as_typed now new _ _ _ _ _ _
    (moved (λ u a x. after_list u.is_based x more) now mid _ first.back first.next ∙ same_next _ _ _ _ (omega arith) (omega arith)) refl refl
    (then_walked (put_before (leaves_nothing (source.body_view s.body))) now mid new _ _ _ _ _ t part first second
    (moved (λ u a x. statements_typed u a x more) now mid _ first.back first.next))

pub goes_on_next : (old now mid : TypingWalk) (complete kept still nothing : Bool) (ts us : List TypedStatement) (all : tree.Statements)
    (ss : List Statement) (i : ℕ) (s : Statement) (t : Option TypedStatement)
    → s ≡ get_or ss i s → i < length ss → nothing ≡ leaves_nothing (source.body_view s.body)
    → kept ≡ is_some t → still ≡ (complete && kept) → us ≡ ts ++ listed_if nothing t
    → Walks TypedStatement now mid (next_after (based_names now) (next_at now) (source.statement_view s))
    (statement_typed (unit_at now) (around now) (next_at now) (source.statement_view s)) t
    → GoesOn old now complete ts all (source.statements_view (drop i ss))
    → GoesOn old mid still us all (source.statements_view (drop (i + 1) ss))
goes_on_next old now mid complete kept still nothing ts us all ss i s t is lt says keeps stays puts first goes new part w =
    let more = source.statements_view (drop (i + 1) ss) in
    let step : WalksList now new (around now) (source.statements_view (drop i ss)) (both (put_before nothing) t part) =
    subst (λ ys. WalksList now new (around now) ys (both (put_before nothing) t part)) (sym (front source.statements_view ss i s is lt))
    (subst (λ b. WalksList now new (around now) (tree.Before (source.statement_view s) more) (both (put_before b) t part)) (sym says)
    (step_walked now mid new s more t part first w)) in
    subst (λ p. WalksList old new (around old) all p)
    (one_more complete nothing ts t part ∙ ap (λ b. in_front (complete && b) (ts ++ listed_if nothing t) part) (sym keeps)
    ∙ ap (λ b. in_front b (ts ++ listed_if nothing t) part) (sym stays) ∙ ap (λ vs. in_front still vs part) (sym puts))
    (goes new (both (put_before nothing) t part) step)

-- the end of the list

past_end : {A : Type 0} (xs : List A) (i : ℕ) → length xs ≤ i → drop i xs ≡ []
past_end [] zero h = refl
past_end [] (suc i) h = refl
past_end (x ∷ xs) zero h = absurd (omega arith)
past_end (x ∷ xs) (suc i) h = past_end xs i (omega arith)

ended_walked : (old now : TypingWalk) (complete : Bool) (ts : List TypedStatement) (all : tree.Statements) (ss : List Statement) (i : ℕ)
    → length ss ≤ i → IsPlaced now → GoesOn old now complete ts all (source.statements_view (drop i ss))
    → WalksList old now (around old) all (in_front complete ts (Some NoStatement))
ended_walked old now complete ts all ss i past placed goes =
    goes now (Some NoStatement)
    (subst (λ ys. WalksList now now (around now) (source.statements_view ys) (Some NoStatement)) (sym (past_end ss i past))
    (nothing_walked now _ NoStatement placed (same_next _ _ _ _ (omega arith) (omega arith))))

pub all_walked : (old now : TypingWalk) (complete : Bool) (ts : List program.TypedStatement) (all : tree.Statements) (ss : List Statement) (i : ℕ)
    → length ss ≤ i → complete ≡ true → IsPlaced now
    → GoesOn old now complete (map statement_view ts) all (source.statements_view (drop i ss))
    → WalksList old now (around old) all (Some (statements_view ts))
all_walked old now complete ts all ss i past e placed goes =
    subst (λ p. WalksList old now (around old) all p)
    (ap (λ b. in_front b (map statement_view ts) (Some NoStatement)) e ∙ ap Some (all_in_front ts))
    (ended_walked old now complete (map statement_view ts) all ss i past placed goes)

pub none_walked : (old now : TypingWalk) (complete : Bool) (ts : List program.TypedStatement) (all : tree.Statements) (ss : List Statement) (i : ℕ)
    → length ss ≤ i → complete ≡ false → IsPlaced now
    → GoesOn old now complete (map statement_view ts) all (source.statements_view (drop i ss))
    → WalksList old now (around old) all None
none_walked old now complete ts all ss i past e placed goes =
    subst (λ p. WalksList old now (around old) all p) (ap (λ b. in_front b (map statement_view ts) (Some NoStatement)) e)
    (ended_walked old now complete (map statement_view ts) all ss i past placed goes)

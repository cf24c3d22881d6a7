-- Lists of items, one after another.
use Rattle.std.proofs.Common.{◌≡◌, ◌++◌, ◌+◌, ◌<◌, ◌≤◌, ℕ, [], ◌∷◌, List, Result, Ok, Err, map, drop, get_or, length, refl, ap, sym, ◌∙◌, append-nil, append_assoc}
use Rattle.pli_base.specs.Results.{◌>>=◌}
use Rattle.pli_base.specs.Syntax as tree
use Rattle.pli_base.specs.declared.syntax.Expression.{Expression}
use Rattle.pli_base.specs.declared.token.Fault.{Fault}
use Rattle.pli_base.specs.views.SyntaxView as syntax
use Rattle.pli_type_rules.specs.Names.{Naming}
use Rattle.pli_type_rules.specs.StatementTyping.{item}
use Rattle.pli_type_rules.specs.TypingSteps.{items}
use Rattle.pli_base.specs.answers.FailureAnswers.{Fails}
use Rattle.pli_base.specs.declared.failure.Failure.{Failure}
use Rattle.pli_base.specs.declared.failure.Failure.TheVariants as errors
use Rattle.pli_type_tree.specs.TypedTree.{TypedExpression}
use Rattle.pli_type_parts.proofs.SearchLemmas.{front, past_lists}

-- items in front of those that are left, unless one of these has a fault
abbrev pub after : List TypedExpression → Result (List TypedExpression) Fault → Result (List TypedExpression) Fault
after xs (Ok ys) = Ok (xs ++ ys)
after xs (Err f) = Err f

more_items : (xs : List TypedExpression) (x : TypedExpression) (r : Result (List TypedExpression) Fault)
    → after xs (r >>= λ ys. Ok (x ∷ ys)) ≡ after (xs ++ x ∷ []) r
more_items xs x (Ok ys) = ap Ok (sym (append_assoc xs (x ∷ []) ys))
more_items xs x (Err f) = refl

item_then : (n : Naming) (xs : List TypedExpression) (x : TypedExpression) (e : tree.Expression) (es : List tree.Expression)
    → item n e ≡ Ok x → after xs (items n (e ∷ es)) ≡ after (xs ++ x ∷ []) (items n es)
item_then n xs x e es h =
    ap (λ r. after xs (r >>= λ y. items n es >>= λ ys. Ok (y ∷ ys))) h ∙ more_items xs x (items n es)

item_faulty : (n : Naming) (xs : List TypedExpression) (f : Fault) (e : tree.Expression) (es : List tree.Expression)
    → item n e ≡ Err f → after xs (items n (e ∷ es)) ≡ Err f
item_faulty n xs f e es h = ap (λ r. after xs (r >>= λ y. items n es >>= λ ys. Ok (y ∷ ys))) h

pub none_after : (r : Result (List TypedExpression) Fault) → after [] r ≡ r
none_after (Ok ys) = refl
none_after (Err f) = refl

pub item_typed : (n : Naming) (es : List Expression) (i : ℕ) (e : Expression) (xs ys : List TypedExpression)
    (x : TypedExpression) (whole : Result (List TypedExpression) Fault) → e ≡ get_or es i e → i < length es
    → item n (syntax.expression_view e) ≡ Ok x → ys ≡ xs ++ x ∷ []
    → after xs (items n (map syntax.expression_view (drop i es))) ≡ whole
    → after ys (items n (map syntax.expression_view (drop (i + 1) es))) ≡ whole
item_typed n es i e xs ys x whole is lt h put was =
    ap (λ zs. after zs (items n (map syntax.expression_view (drop (i + 1) es)))) put
    ∙ sym (item_then n xs x (syntax.expression_view e) (map syntax.expression_view (drop (i + 1) es)) h)
    ∙ sym (front (λ ys. after xs (items n (map syntax.expression_view ys))) es i e is lt)
    ∙ was

pub item_stops : (n : Naming) (es : List Expression) (i : ℕ) (e : Expression) (xs : List TypedExpression)
    (error : Failure Fault) (whole : Result (List TypedExpression) Fault) → e ≡ get_or es i e → i < length es
    → Fails error (item n (syntax.expression_view e))
    → after xs (items n (map syntax.expression_view (drop i es))) ≡ whole
    → Fails error whole
item_stops n es i e xs errors.OutOfMemory whole is lt h was = tt
item_stops n es i e xs (errors.Fault f) whole is lt h was =
    sym was ∙ front (λ ys. after xs (items n (map syntax.expression_view ys))) es i e is lt
    ∙ item_faulty n xs f (syntax.expression_view e) (map syntax.expression_view (drop (i + 1) es)) h

pub items_end : (n : Naming) (es : List Expression) (i : ℕ) (xs : List TypedExpression)
    (whole : Result (List TypedExpression) Fault) → length es ≤ i
    → after xs (items n (map syntax.expression_view (drop i es))) ≡ whole → whole ≡ Ok xs
items_end n es i xs whole past was =
    sym was ∙ ap (λ ys. after xs (items n (map syntax.expression_view ys))) (past_lists es i past)
    ∙ ap Ok (append-nil xs)

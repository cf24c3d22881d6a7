-- References to variables.
use Rattle.std.proofs.Common.{◌≡◌, ◌⊎◌, ℕ, true, inl, inr, List, [], ◌∷◌, ◌++◌, map, refl, ap, ◌∙◌, sym}
use Rattle.std.proofs.lemmas.Bool.{false≢true}
use Rattle.pli_type_rules.specs.References.{subscripts_at, reference_to, StridedPart}
use Rattle.pli_type_names.specs.SymbolMeaning.{is_way}
use Rattle.pli_type_tree.specs.TypedTree.{Subscripts, NoSubscript, SubscriptThen, Stride, TypedExpression}
use Rattle.pli_type_tree.specs.TypedTree.{Root, Part}
use Rattle.pli_type_tree.specs.declared.expression.Stride as program
use Rattle.pli_type_tree.specs.declared.expression.TypedExpression as value
use Rattle.pli_type_tree.specs.declared.expression.TypedSubscript.{TypedSubscript}
use Rattle.pli_type_tree.specs.views.TypedView.{expression_view, stride_view, subscripts_view}

-- subscripts after those in a vector
abbrev pub subscripts_before : List TypedSubscript → Subscripts → Subscripts
subscripts_before [] more = more
subscripts_before (x ∷ xs) more =
    SubscriptThen (stride_view x.stride) (expression_view x.value) (subscripts_before xs more)

pub before_pushed : (xs : List TypedSubscript) (x : TypedSubscript) (more : Subscripts)
    → subscripts_before xs (SubscriptThen (stride_view x.stride) (expression_view x.value) more)
    ≡ subscripts_before (xs ++ x ∷ []) more
before_pushed [] x more = refl
before_pushed (y ∷ ys) x more =
    ap (SubscriptThen (stride_view y.stride) (expression_view y.value)) (before_pushed ys x more)

pub before_none : (xs : List TypedSubscript) → subscripts_before xs NoSubscript ≡ subscripts_view xs
before_none [] = refl
before_none (x ∷ xs) = ap (SubscriptThen (stride_view x.stride) (expression_view x.value)) (before_none xs)

-- where strides or subscripts have run out
pub nothing_placed : (ss : List Stride) (xs : List TypedExpression) → (ss ≡ []) ⊎ (xs ≡ [])
    → subscripts_at ss xs ≡ NoSubscript
nothing_placed ss xs (inl p) = ap (λ ss. subscripts_at ss xs) p
nothing_placed ss xs (inr p) = ap (subscripts_at ss) p ∙ none ss
  where
    none : (ss : List Stride) → subscripts_at ss [] ≡ NoSubscript
    none [] = refl
    none (s ∷ ss) = refl

-- one more
pub placed_more : (done after : List TypedSubscript) (x : TypedSubscript) (ss left : List program.Stride)
    (xs later : List value.TypedExpression) → ss ≡ x.stride ∷ left → xs ≡ x.value ∷ later
    → after ≡ done ++ x ∷ []
    → subscripts_before after (subscripts_at (map stride_view left) (map expression_view later))
    ≡ subscripts_before done (subscripts_at (map stride_view ss) (map expression_view xs))
placed_more done after x ss left xs later p q pushed =
    let rest = subscripts_at (map stride_view left) (map expression_view later) in
    ap (λ zs. subscripts_before zs rest) pushed ∙ sym (before_pushed done x rest)
    ∙ sym (ap (λ zs. subscripts_before done (subscripts_at (map stride_view zs) (map expression_view xs))) p
    ∙ ap (λ zs. subscripts_before done (subscripts_at (map stride_view (x.stride ∷ left)) (map expression_view zs))) q)

-- a part, not a whole variable
pub reference_is_part : (root : Root) (path : List ℕ) (p : StridedPart) (xs : List TypedExpression)
    → (is_way path ≡ true) ⊎ (xs ≡ [] → ⊥)
    → reference_to root path p xs ≡ Part root p.offset p.description (subscripts_at p.strides xs)
reference_is_part root (i ∷ path) p xs h = refl
reference_is_part root [] p (x ∷ xs) h = refl
reference_is_part root [] p [] (inl e) = absurd (false≢true e)
reference_is_part root [] p [] (inr h) = absurd (h refl)

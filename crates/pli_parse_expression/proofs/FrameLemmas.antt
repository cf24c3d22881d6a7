-- The stack of frames.
use Rattle.std.proofs.Common.{◌≡◌, ◌+◌, ◌<◌, ◌≤◌, ℕ, Bool, List, [], ◌∷◌, ◌++◌, Option, drop, get_or, length, refl, ap, ◌∙◌, sym}
use Rattle.std.proofs.lemmas.List.{at_drop_more, at_drop_all}
use Rattle.pli_base.specs.declared.token.TokenText.{TokenText}
use Rattle.pli_parse_expression.specs.Assignments.{accepts, moved, move, kind_of, may_end, after_frame}
use Rattle.pli_parse_expression.specs.declared.assignment.Frame.{Frame}
use Rattle.pli_parse_expression.specs.declared.assignment.Move.{Move}
use Rattle.pli_parse_expression.specs.declared.assignment.Move.TheVariants.{Enters, Leaves}
use Rattle.pli_parse_expression.specs.declared.assignment.State.{State}
use Rattle.pli_parse_expression.specs.answers.Tests.{onto, answered}
use Rattle.pli_base.specs.Words.{Tokens}

pub onto_push : (around : List Frame) (f : Frame) (fs : List Frame) → onto (around ++ f ∷ []) fs ≡ f ∷ onto around fs
onto_push [] f fs = refl
onto_push (g ∷ around) f fs = onto_push around f (g ∷ fs)

pub next_token : (s : State) (f : Frame) (fs : List Frame) (ts : Tokens) (i : ℕ) (d : TokenText) → i < length ts
    → accepts s f fs (drop i ts) ≡ moved (move s f (kind_of (get_or ts i d))) (λ s f fs. accepts s f fs (drop (i + 1) ts)) f fs
unfolding accepts
next_token s f fs ts i d less = at_drop_more (accepts s f fs) ts i d less

pub no_token : (s : State) (f : Frame) (fs : List Frame) (ts : Tokens) (i : ℕ) → length ts ≤ i → accepts s f fs (drop i ts) ≡ may_end s f
unfolding accepts
no_token s f fs ts i less = at_drop_all (accepts s f fs) ts i less

pub entered : (step : Move) (g : Frame) (s : State) (more : State → Frame → List Frame → Bool) (around new : List Frame) (f : Frame) → step ≡ Enters g s → new ≡ around ++ f ∷ []
    → moved step more f (onto around []) ≡ more s g (onto new [])
entered step g s more around new f is grown =
    ap (λ m. moved m more f (onto around [])) is ∙ ap (more s g) (sym (onto_push around f []) ∙ ap (λ fs. onto fs []) (sym grown))

pub left : (step : Move) (more : State → Frame → List Frame → Bool) (old new : List Frame) (f outer : Frame) (s : State) → step ≡ Leaves → old ≡ new ++ outer ∷ [] → s ≡ after_frame f
    → moved step more f (onto old []) ≡ more s outer (onto new [])
left step more old new f outer s is shrunk after =
    ap (λ m. moved m more f (onto old [])) is ∙ ap (λ fs. moved Leaves more f (onto fs [])) shrunk ∙ ap (moved Leaves more f) (onto_push new outer [])
    ∙ ap (λ s. more s outer (onto new [])) (sym after)

-- one token on
pub step_on : (s : State) (f : Frame) (around new : List Frame) (ts : Tokens) (i : ℕ) (d : TokenText) (total : Bool) (m : Move) (o : Option (State × Frame)) → i < length ts
    → accepts s f (onto around []) (drop i ts) ≡ total → m ≡ move s f (kind_of (get_or ts i d))
    → ((more : State → Frame → List Frame → Bool) → moved m more f (onto around []) ≡ answered more (onto new []) o)
    → total ≡ answered (λ s f fs. accepts s f fs (drop (i + 1) ts)) (onto new []) o
step_on s f around new ts i d total m o less so_far is leads =
    sym so_far ∙ next_token s f (onto around []) ts i d less
    ∙ ap (λ m. moved m (λ s f fs. accepts s f fs (drop (i + 1) ts)) f (onto around [])) (sym is)
    ∙ leads (λ s f fs. accepts s f fs (drop (i + 1) ts))

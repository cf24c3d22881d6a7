-- No `;` stands among the tokens of an assignment.
use Rattle.std.proofs.Common.{◌≡◌, Bool, true, false, List, [], ◌∷◌, refl, ap, ◌∙◌, sym}
use Rattle.std.specs.List.{AllByRecursion}
use Rattle.pli_base.specs.Words.{Tokens, is_semicolon}
use Rattle.pli_base.specs.declared.token.Sign.TheVariants as signs
use Rattle.pli_base.specs.declared.token.TokenText.{TokenText}
use Rattle.pli_base.specs.declared.token.TokenText.TheVariants as tokens
use Rattle.pli_parse_expression.specs.Assignments.{kind_of, move, moved, after_frame, accepts, is_assignment}
use Rattle.pli_parse_expression.specs.declared.assignment.TokenKind.TheVariants.{Foreign}
use Rattle.pli_parse_expression.specs.declared.assignment.State.{State}
use Rattle.pli_parse_expression.specs.declared.assignment.State.TheVariants.{NameWanted, OperandWanted, ListBegun}
use Rattle.pli_parse_expression.specs.declared.assignment.Frame.{Frame}
use Rattle.pli_parse_expression.specs.declared.assignment.Frame.TheVariants.{Target, Whole}
use Rattle.pli_parse_expression.specs.declared.assignment.Move.{Move}
use Rattle.pli_parse_expression.specs.declared.assignment.Move.TheVariants.{Stops, Goes, Enters, Leaves, Turns}

foreign_stops : (s : State) (f : Frame) → move s f Foreign ≡ Stops
foreign_stops NameWanted f = refl
foreign_stops OperandWanted f = refl
foreign_stops ListBegun f = refl
foreign_stops s Target = refl
foreign_stops s f = refl

is_foreign : (t : TokenText) → is_semicolon t ≡ true → kind_of t ≡ Foreign
is_foreign (tokens.Sign signs.Semicolon) h = refl
is_foreign t h = cc

later_accepted : (m : Move) (f : Frame) (fs : List Frame) (ts : Tokens) → moved m (λ s f fs. accepts s f fs ts) f fs ≡ true → (s : State) × (g : Frame) × (gs : List Frame) × (accepts s g gs ts ≡ true)
later_accepted Stops f fs ts h = cc
later_accepted (Goes s) f fs ts h = (s, f, fs, h)
later_accepted (Enters g s) f fs ts h = (s, g, f ∷ fs, h)
later_accepted Leaves f [] ts h = cc
later_accepted Leaves f (g ∷ fs) ts h = (after_frame f, g, fs, h)
later_accepted Turns f fs ts h = (OperandWanted, Whole, fs, h)

none_accepted : (s : State) (f : Frame) (fs : List Frame) (ts : Tokens) → accepts s f fs ts ≡ true → AllByRecursion (λ t. is_semicolon t ≡ false) ts
unfolding accepts
none_accepted s f fs [] h = tt
none_accepted s f fs (t ∷ ts) h = let l = later_accepted (move s f (kind_of t)) f fs ts h in (by (is_semicolon t) refl, none_accepted l.0 l.1 l.2 ts l.3)
  where
    by : (b : Bool) → is_semicolon t ≡ b → is_semicolon t ≡ false
    by true e = let refused = sym (ap (λ m. moved m (λ s f fs. accepts s f fs ts) f fs) (ap (move s f) (is_foreign t e) ∙ foreign_stops s f)) ∙ h in cc
    by false e = e

pub no_semicolon : (ts : Tokens) → is_assignment ts ≡ true → AllByRecursion (λ t. is_semicolon t ≡ false) ts
unfolding is_assignment
no_semicolon ts h = none_accepted NameWanted Target [] ts h

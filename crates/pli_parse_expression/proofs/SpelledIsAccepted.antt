-- What a reference, `=` and one expression spell is accepted as an assignment.
use Rattle.std.proofs.Common.{◌≡◌, ◌+◌, ℕ, true, List, [], ◌∷◌, ◌++◌, length, refl, ap, ◌∙◌, sym, append_assoc}
use Rattle.std.proofs.lemmas.List.{append-nil}
use Rattle.pli_base.specs.Syntax.{Expression, Referred, Constant, Parenthesized, Prefix, Infix, Reference, Named, JoinedParts, Alone, Joined, Absent, Given, Expressions, Empty, Listed}
use Rattle.pli_base.specs.Syntax as tree
use Rattle.pli_base.specs.declared.syntax.ConstantValue.{ConstantValue}
use Rattle.pli_base.specs.declared.syntax.ConstantValue.TheVariants as constants
use Rattle.pli_base.specs.declared.syntax.PrefixOperator.{PrefixOperator}
use Rattle.pli_base.specs.declared.syntax.PrefixOperator.TheVariants as prefixes
use Rattle.pli_base.specs.declared.syntax.InfixOperator.{InfixOperator}
use Rattle.pli_base.specs.declared.syntax.InfixOperator.TheVariants as infixes
use Rattle.pli_base.specs.declared.syntax.Joining.{Joining}
use Rattle.pli_base.specs.declared.syntax.Joining.TheVariants.{Member, Located}
use Rattle.pli_base.specs.declared.token.Sign.TheVariants as signs
use Rattle.pli_base.specs.declared.token.TokenText.{TokenText}
use Rattle.pli_base.specs.declared.token.TokenText.TheVariants as tokens
use Rattle.pli_parse_expression.specs.Operators.{prefix_sign, infix_sign, joining_sign, constant_token}
use Rattle.pli_parse_expression.specs.Expressions.{SpellsExpression, SpellsReference, SpellsJoined, SpellsArguments, SpellsListed, SpellsFurther}
use Rattle.pli_parse_expression.specs.AssignmentGrammar.{IsAssignment}
use Rattle.pli_parse_expression.specs.Assignments.{kind_of, move, may_end, moved, accepts, is_assignment}
use Rattle.pli_parse_expression.specs.declared.assignment.TokenKind.{TokenKind}
use Rattle.pli_parse_expression.specs.declared.assignment.TokenKind.TheVariants.{Name, Value, Opens, Closes, Separates, Joins, Equal, Sign, Operates}
use Rattle.pli_parse_expression.specs.declared.assignment.State.{State}
use Rattle.pli_parse_expression.specs.declared.assignment.State.TheVariants.{NameWanted, OperandWanted, ListBegun, AfterName, AfterList, AfterOperand}
use Rattle.pli_parse_expression.specs.declared.assignment.Frame.{Frame}
use Rattle.pli_parse_expression.specs.declared.assignment.Frame.TheVariants.{Target, Whole, Group, Arguments}
use Rattle.pli_parse_expression.specs.declared.assignment.Move.{Move}
use Rattle.pli_parse_expression.specs.declared.assignment.Move.TheVariants.{Goes, Enters, Leaves, Turns}
use Rattle.pli_base.specs.Words.{Tokens}

-- after an operand
abbrev pub IsAfter : State → Type 0
IsAfter AfterName = Unit {0}
IsAfter AfterList = Unit {0}
IsAfter AfterOperand = Unit {0}
IsAfter s = ⊥

-- after a name, or a list
abbrev pub IsAfterPart : State → Type 0
IsAfterPart AfterName = Unit {0}
IsAfterPart AfterList = Unit {0}
IsAfterPart s = ⊥

-- an operand may come
abbrev pub IsStart : State → Type 0
IsStart OperandWanted = Unit {0}
IsStart ListBegun = Unit {0}
IsStart s = ⊥

-- a name may come
abbrev pub IsNameStart : State → Type 0
IsNameStart NameWanted = Unit {0}
IsNameStart s = IsStart s

-- in an expression
abbrev pub InExpression : Frame → Type 0
InExpression Target = ⊥
InExpression f = Unit {0}

-- what holds after each kind of operand
after_each : (P : State → Type 0) → P AfterName → P AfterList → P AfterOperand → (s : State) → IsAfter s → P s
after_each P a b c AfterName h = a
after_each P a b c AfterList h = b
after_each P a b c AfterOperand h = c
after_each P a b c s h = absurd h

-- after a name and after a list
part_each : (P : State → Type 0) → P AfterName → P AfterList → (s : State) → IsAfterPart s → P s
part_each P a b AfterName h = a
part_each P a b AfterList h = b
part_each P a b s h = absurd h

-- wherever an operand may come
start_each : (P : State → Type 0) → P OperandWanted → P ListBegun → (s : State) → IsStart s → P s
start_each P a b OperandWanted h = a
start_each P a b ListBegun h = b
start_each P a b s h = absurd h

-- and in each part of an expression
frame_each : (P : Frame → Type 0) → P Whole → P Group → P Arguments → (f : Frame) → InExpression f → P f
frame_each P a b c Whole h = a
frame_each P a b c Group h = b
frame_each P a b c Arguments h = c
frame_each P a b c Target h = absurd h

part_is_after : (s : State) → IsAfterPart s → IsAfter s
part_is_after = part_each IsAfter tt tt

start_is_name : (s : State) → IsStart s → IsNameStart s
start_is_name = start_each IsNameStart tt tt

-- after an operand of an expression such a token leads to the next one
abbrev JoinsOperands : TokenKind → Type 0
JoinsOperands k = (f : Frame) → InExpression f → (s : State) → IsAfter s → move s f k ≡ Goes OperandWanted

equal_joins : JoinsOperands Equal
equal_joins = frame_each _ (after_each _ refl refl refl) (after_each _ refl refl refl) (after_each _ refl refl refl)

sign_joins : JoinsOperands Sign
sign_joins = frame_each _ (after_each _ refl refl refl) (after_each _ refl refl refl) (after_each _ refl refl refl)

operates_joins : JoinsOperands Operates
operates_joins = frame_each _ (after_each _ refl refl refl) (after_each _ refl refl refl) (after_each _ refl refl refl)

infix_joins : (o : InfixOperator) → JoinsOperands (kind_of (tokens.Sign (infix_sign o)))
infix_joins infixes.Equal = equal_joins
infix_joins infixes.Add = sign_joins
infix_joins infixes.Subtract = sign_joins
infix_joins o = operates_joins

open_move : (f : Frame) (s : State) → IsStart s → move s f Opens ≡ Enters Group OperandWanted
open_move f = start_each _ refl refl

name_move : (s : State) (f : Frame) → IsNameStart s → move s f Name ≡ Goes AfterName
name_move NameWanted f h = refl
name_move OperandWanted f h = refl
name_move ListBegun f h = refl
name_move s f h = absurd h

value_move : (f : Frame) (s : State) → IsStart s → move s f Value ≡ Goes AfterOperand
value_move f = start_each _ refl refl

join_move : (f : Frame) (s : State) → IsAfterPart s → move s f Joins ≡ Goes NameWanted
join_move f = part_each _ refl refl

group_move : (s : State) → IsAfter s → move s Group Closes ≡ Leaves
group_move = after_each _ refl refl refl

list_move : (s : State) → IsAfter s → move s Arguments Closes ≡ Leaves
list_move = after_each _ refl refl refl

comma_move : (s : State) → IsAfter s → move s Arguments Separates ≡ Goes OperandWanted
comma_move = after_each _ refl refl refl

target_move : (s : State) → IsAfter s → move s Target Equal ≡ Turns
target_move = after_each _ refl refl refl

whole_ends : (s : State) → IsAfter s → may_end s Whole ≡ true
whole_ends = after_each _ refl refl refl

prefix_move : (f : Frame) (o : PrefixOperator) (s : State) → IsStart s → move s f (kind_of (tokens.Sign (prefix_sign o))) ≡ Goes OperandWanted
prefix_move f prefixes.Plus = start_each _ refl refl
prefix_move f prefixes.Minus = start_each _ refl refl
prefix_move f prefixes.Not = start_each _ refl refl

constant_move : (f : Frame) (v : ConstantValue) (s : State) → IsStart s → move s f (kind_of (constant_token v)) ≡ Goes AfterOperand
constant_move f (constants.Decimal v d) = value_move f
constant_move f (constants.Binary v d) = value_move f
constant_move f (constants.Characters v) = value_move f
constant_move f (constants.Bits v) = value_move f

joining_move : (f : Frame) (j : Joining) (s : State) → IsAfterPart s → move s f (kind_of (tokens.Sign (joining_sign j))) ≡ Goes NameWanted
joining_move f Member = join_move f
joining_move f Located = join_move f

-- one token on
pub one_on : (s : State) (f : Frame) (fs : List Frame) (t : TokenText) (ts : Tokens) (m : Move) → move s f (kind_of t) ≡ m → accepts s f fs (t ∷ ts) ≡ moved m (λ s f fs. accepts s f fs ts) f fs
unfolding accepts
one_on s f fs t ts m is = ap (λ m. moved m (λ s f fs. accepts s f fs ts) f fs) is

pub infix_on : (s : State) (f : Frame) (fs : List Frame) (o : InfixOperator) (ts : Tokens) → IsAfter s → InExpression f → accepts s f fs (tokens.Sign (infix_sign o) ∷ ts) ≡ accepts OperandWanted f fs ts
infix_on s f fs o ts after within = one_on s f fs (tokens.Sign (infix_sign o)) ts (Goes OperandWanted) (infix_joins o f within s after)

-- the tokens are passed over, and the test stands after an operand
abbrev Passes : (Stands : State → Type 0) → State → Frame → List Frame → Tokens → Tokens → Type 0
Passes Stands s f fs ts more = (after : State) × Stands after × (accepts s f fs (ts ++ more) ≡ accepts after f fs more)

mutual
  expression_passes : (e : Expression) (p : ℕ) (ts more : Tokens) (s : State) (f : Frame) (fs : List Frame) → SpellsExpression p ts e → IsStart s → InExpression f → Passes IsAfter s f fs ts more
  expression_passes (Referred r) p ts more s f fs spelled start within = reference_passes r p ts more s f fs spelled (start_is_name s start)
  expression_passes (Constant at v) p ts more s f fs spelled start within =
      (AfterOperand, tt, ap (λ us. accepts s f fs (us ++ more)) spelled.0 ∙ one_on s f fs (constant_token v) more (Goes AfterOperand) (constant_move f v s start))
  expression_passes (Parenthesized at e) p ts more s f fs (us, shape, place, spelled) start within =
      let i = expression_passes e (p + 1) us (tokens.Sign signs.CloseParenthesis ∷ more) OperandWanted Group (f ∷ fs) spelled tt tt in (
        AfterOperand,
        tt,
        ap (λ vs. accepts s f fs (vs ++ more)) shape
            ∙ ap (λ vs. accepts s f fs (tokens.Sign signs.OpenParenthesis ∷ vs)) (append_assoc us (tokens.Sign signs.CloseParenthesis ∷ []) more)
            ∙ one_on s f fs (tokens.Sign signs.OpenParenthesis) (us ++ tokens.Sign signs.CloseParenthesis ∷ more) (Enters Group OperandWanted) (open_move f s start)
            ∙ i.2
            ∙ one_on i.0 Group (f ∷ fs) (tokens.Sign signs.CloseParenthesis) more Leaves (group_move i.0 i.1),
      )
  expression_passes (Prefix o at e) p ts more s f fs (us, shape, place, is, spelled) start within =
      let i = expression_passes e (p + 1) us more OperandWanted f fs spelled tt within in (
        i.0,
        i.1,
        ap (λ vs. accepts s f fs (vs ++ more)) shape ∙ one_on s f fs (tokens.Sign (prefix_sign o)) (us ++ more) (Goes OperandWanted) (prefix_move f o s start) ∙ i.2,
      )
  expression_passes (Infix o at l r) p ts more s f fs (ls, rs, shape, place, left, low, right, above) start within =
      let i = expression_passes l p ls (tokens.Sign (infix_sign o) ∷ (rs ++ more)) s f fs left start within in
      let j = expression_passes r (p + length ls + 1) rs more OperandWanted f fs right tt within in (
        j.0,
        j.1,
        ap (λ vs. accepts s f fs (vs ++ more)) shape ∙ ap (accepts s f fs) (append_assoc ls (tokens.Sign (infix_sign o) ∷ rs) more) ∙ i.2 ∙ infix_on i.0 f fs o (rs ++ more) i.1 within ∙ j.2,
      )

  reference_passes : (r : Reference) (p : ℕ) (ts more : Tokens) (s : State) (f : Frame) (fs : List Frame) → SpellsReference p ts r → IsNameStart s → Passes IsAfter s f fs ts more
  reference_passes (Named name arguments m) p ts more s f fs (front, rest, shape, place, spelled, later) start =
      let i = arguments_pass arguments (p + 1) front (rest ++ more) f fs spelled in
      let j = joined_pass m (p + 1 + length front) rest more i.0 f fs later i.1 in (
        j.0,
        j.1,
        ap (λ vs. accepts s f fs (vs ++ more)) shape
            ∙ ap (λ vs. accepts s f fs (tokens.Word name.name ∷ vs)) (append_assoc front rest more)
            ∙ one_on s f fs (tokens.Word name.name) (front ++ (rest ++ more)) (Goes AfterName) (name_move s f start)
            ∙ i.2
            ∙ j.2,
      )

  joined_pass : (m : JoinedParts) (p : ℕ) (ts more : Tokens) (s : State) (f : Frame) (fs : List Frame) → SpellsJoined p ts m → IsAfterPart s → Passes IsAfter s f fs ts more
  joined_pass Alone p ts more s f fs shape after = (s, part_is_after s after, ap (λ vs. accepts s f fs (vs ++ more)) shape)
  joined_pass (Joined joining name arguments m) p ts more s f fs (front, rest, shape, place, spelled, later) after =
      let i = arguments_pass arguments (p + 2) front (rest ++ more) f fs spelled in
      let j = joined_pass m (p + 2 + length front) rest more i.0 f fs later i.1 in (
        j.0,
        j.1,
        ap (λ vs. accepts s f fs (vs ++ more)) shape
            ∙ ap (λ vs. accepts s f fs (tokens.Sign (joining_sign joining) ∷ tokens.Word name.name ∷ vs)) (append_assoc front rest more)
            ∙ one_on s f fs (tokens.Sign (joining_sign joining)) (tokens.Word name.name ∷ (front ++ (rest ++ more))) (Goes NameWanted) (joining_move f joining s after)
            ∙ one_on NameWanted f fs (tokens.Word name.name) (front ++ (rest ++ more)) (Goes AfterName) (name_move NameWanted f tt)
            ∙ i.2
            ∙ j.2,
      )

  arguments_pass : (a : tree.Arguments) (p : ℕ) (ts more : Tokens) (f : Frame) (fs : List Frame) → SpellsArguments p ts a → Passes IsAfterPart AfterName f fs ts more
  arguments_pass Absent p ts more f fs shape = (AfterName, tt, ap (λ vs. accepts AfterName f fs (vs ++ more)) shape)
  arguments_pass (Given list) p ts more f fs (us, shape, spelled) = (
    AfterList,
    tt,
    ap (λ vs. accepts AfterName f fs (vs ++ more)) shape
        ∙ ap (λ vs. accepts AfterName f fs (tokens.Sign signs.OpenParenthesis ∷ vs)) (append_assoc us (tokens.Sign signs.CloseParenthesis ∷ []) more)
        ∙ one_on AfterName f fs (tokens.Sign signs.OpenParenthesis) (us ++ tokens.Sign signs.CloseParenthesis ∷ more) (Enters Arguments ListBegun) refl
        ∙ listed_pass list (p + 1) us more f fs spelled,
  )

  listed_pass : (list : Expressions) (p : ℕ) (ts more : Tokens) (f : Frame) (fs : List Frame) → SpellsListed p ts list → accepts ListBegun Arguments (f ∷ fs) (ts ++ tokens.Sign signs.CloseParenthesis ∷ more) ≡ accepts AfterList f fs more
  listed_pass Empty p ts more f fs shape =
      ap (λ vs. accepts ListBegun Arguments (f ∷ fs) (vs ++ tokens.Sign signs.CloseParenthesis ∷ more)) shape ∙ one_on ListBegun Arguments (f ∷ fs) (tokens.Sign signs.CloseParenthesis) more Leaves refl
  listed_pass (Listed e list) p ts more f fs (front, rest, shape, spelled, later) =
      let i = expression_passes e p front (rest ++ tokens.Sign signs.CloseParenthesis ∷ more) ListBegun Arguments (f ∷ fs) spelled tt tt in
      ap (λ vs. accepts ListBegun Arguments (f ∷ fs) (vs ++ tokens.Sign signs.CloseParenthesis ∷ more)) shape
      ∙ ap (accepts ListBegun Arguments (f ∷ fs)) (append_assoc front rest (tokens.Sign signs.CloseParenthesis ∷ more))
      ∙ i.2
      ∙ further_pass list (p + length front) rest more i.0 f fs later i.1

  further_pass : (list : Expressions) (p : ℕ) (ts more : Tokens) (s : State) (f : Frame) (fs : List Frame) → SpellsFurther p ts list → IsAfter s → accepts s Arguments (f ∷ fs) (ts ++ tokens.Sign signs.CloseParenthesis ∷ more) ≡ accepts AfterList f fs more
  further_pass Empty p ts more s f fs shape after =
      ap (λ vs. accepts s Arguments (f ∷ fs) (vs ++ tokens.Sign signs.CloseParenthesis ∷ more)) shape ∙ one_on s Arguments (f ∷ fs) (tokens.Sign signs.CloseParenthesis) more Leaves (list_move s after)
  further_pass (Listed e list) p ts more s f fs (front, rest, shape, spelled, later) after =
      let i = expression_passes e (p + 1) front (rest ++ tokens.Sign signs.CloseParenthesis ∷ more) OperandWanted Arguments (f ∷ fs) spelled tt tt in
      ap (λ vs. accepts s Arguments (f ∷ fs) (vs ++ tokens.Sign signs.CloseParenthesis ∷ more)) shape
      ∙ ap (λ vs. accepts s Arguments (f ∷ fs) (tokens.Sign signs.Comma ∷ vs)) (append_assoc front rest (tokens.Sign signs.CloseParenthesis ∷ more))
      ∙ one_on s Arguments (f ∷ fs) (tokens.Sign signs.Comma) (front ++ (rest ++ tokens.Sign signs.CloseParenthesis ∷ more)) (Goes OperandWanted) (comma_move s after)
      ∙ i.2
      ∙ further_pass list (p + 1 + length front) rest more i.0 f fs later i.1

pub assignment_accepted : (p : ℕ) (ts : Tokens) → IsAssignment p ts → is_assignment ts ≡ true
unfolding is_assignment accepts
assignment_accepted p ts (ls, rs, target, value, shape, left, right) =
    let i = reference_passes target p ls (tokens.Sign signs.Equals ∷ rs) NameWanted Target [] left tt in
    let j = expression_passes value (p + length ls + 1) rs [] OperandWanted Whole [] right tt tt in
    ap (accepts NameWanted Target []) shape
    ∙ i.2
    ∙ one_on i.0 Target [] (tokens.Sign signs.Equals) rs Turns (target_move i.0 i.1)
    ∙ ap (accepts OperandWanted Whole []) (sym (append-nil rs))
    ∙ j.2
    ∙ whole_ends j.0 j.1

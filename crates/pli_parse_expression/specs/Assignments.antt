-- The test for an assignment (own): a reference, `=` and one expression. It knows no limits.
use Rattle.std.specs.Prelude.{Bool, true, false, List, [], ◌∷◌}
use Rattle.pli_base.specs.declared.token.Sign.TheVariants as signs
use Rattle.pli_base.specs.declared.token.TokenText.{TokenText}
use Rattle.pli_base.specs.declared.token.TokenText.TheVariants as tokens
use Rattle.pli_base.specs.Words.{Tokens}
use Rattle.pli_parse_expression.specs.declared.assignment.TokenKind.{TokenKind}
use Rattle.pli_parse_expression.specs.declared.assignment.TokenKind.TheVariants.{Name, Value, Opens, Closes}
use Rattle.pli_parse_expression.specs.declared.assignment.TokenKind.TheVariants.{Separates, Joins, Equal}
use Rattle.pli_parse_expression.specs.declared.assignment.TokenKind.TheVariants.{Sign}
use Rattle.pli_parse_expression.specs.declared.assignment.TokenKind.TheVariants.{Negates, Operates, Foreign}
use Rattle.pli_parse_expression.specs.declared.assignment.State.{State}
use Rattle.pli_parse_expression.specs.declared.assignment.State.TheVariants.{NameWanted, OperandWanted}
use Rattle.pli_parse_expression.specs.declared.assignment.State.TheVariants.{ListBegun, AfterName}
use Rattle.pli_parse_expression.specs.declared.assignment.State.TheVariants.{AfterList, AfterOperand}
use Rattle.pli_parse_expression.specs.declared.assignment.Frame.{Frame}
use Rattle.pli_parse_expression.specs.declared.assignment.Frame.TheVariants.{Target, Whole, Group, Arguments}
use Rattle.pli_parse_expression.specs.declared.assignment.Move.{Move}
use Rattle.pli_parse_expression.specs.declared.assignment.Move.TheVariants.{Stops, Goes, Enters}
use Rattle.pli_parse_expression.specs.declared.assignment.Move.TheVariants.{Leaves, Turns}

-- what a token can be in an expression: a constant is a value; `+` and `-` are signs, prefix or infix; `^`
-- negates; the other infix operators operate
abbrev pub kind_of : TokenText → TokenKind
kind_of (tokens.Word n) = Name
kind_of (tokens.Sign signs.OpenParenthesis) = Opens
kind_of (tokens.Sign signs.CloseParenthesis) = Closes
kind_of (tokens.Sign signs.Comma) = Separates
kind_of (tokens.Sign signs.Period) = Joins
kind_of (tokens.Sign signs.Arrow) = Joins
kind_of (tokens.Sign signs.Equals) = Equal
kind_of (tokens.Sign signs.Plus) = Sign
kind_of (tokens.Sign signs.Minus) = Sign
kind_of (tokens.Sign signs.Not) = Negates
kind_of (tokens.Sign signs.Or) = Operates
kind_of (tokens.Sign signs.And) = Operates
kind_of (tokens.Sign signs.NotEqual) = Operates
kind_of (tokens.Sign signs.Less) = Operates
kind_of (tokens.Sign signs.LessOrEqual) = Operates
kind_of (tokens.Sign signs.Greater) = Operates
kind_of (tokens.Sign signs.GreaterOrEqual) = Operates
kind_of (tokens.Sign signs.Concatenate) = Operates
kind_of (tokens.Sign signs.Times) = Operates
kind_of (tokens.Sign s) = Foreign
kind_of t = Value

-- Where the test stands: a name must come; an operand must; an operand or `)` must, right after the `(` of a
-- list; or it is after a name, after a list of arguments, or after another operand. What it stands in: the
-- target, the expression after `=`, the parentheses of an expression, or those of a list. What a token does:
-- it cannot stand there; the test goes on; parentheses begin; they end; or the expression begins.

-- where an operand must come
abbrev pub operand_move : TokenKind → Move
operand_move Name = Goes AfterName
operand_move Value = Goes AfterOperand
operand_move Opens = Enters Group OperandWanted
operand_move Sign = Goes OperandWanted
operand_move Negates = Goes OperandWanted
operand_move k = Stops

-- after an operand that nothing joins any more
abbrev pub after_move : Frame → TokenKind → Move
after_move Target Equal = Turns
after_move Target k = Stops
after_move Group Closes = Leaves
after_move Arguments Closes = Leaves
after_move Arguments Separates = Goes OperandWanted
after_move f Equal = Goes OperandWanted
after_move f Sign = Goes OperandWanted
after_move f Operates = Goes OperandWanted
after_move f k = Stops

-- what the next token does, by what is wanted and what is open
abbrev pub move : State → Frame → TokenKind → Move
move NameWanted f Name = Goes AfterName
move NameWanted f k = Stops
move OperandWanted f k = operand_move k
move ListBegun f Closes = Leaves
move ListBegun f k = operand_move k
move AfterName f Opens = Enters Arguments ListBegun
move AfterName f Joins = Goes NameWanted
move AfterName f k = after_move f k
move AfterList f Joins = Goes NameWanted
move AfterList f k = after_move f k
move AfterOperand f k = after_move f k

-- after the parenthesis that ends the frame
abbrev pub after_frame : Frame → State
after_frame Arguments = AfterList
after_frame f = AfterOperand

-- the tokens may end there
abbrev pub may_end : State → Frame → Bool
may_end AfterName Whole = true
may_end AfterList Whole = true
may_end AfterOperand Whole = true
may_end s f = false

-- what a move leads to, in a frame and those around it
abbrev pub moved : Move → (more : State → Frame → List Frame → Bool) → Frame → List Frame → Bool
moved Stops more f fs = false
moved (Goes s) more f fs = more s f fs
moved (Enters g s) more f fs = more s g (f ∷ fs)
moved Leaves more f [] = false
moved Leaves more f (g ∷ fs) = more (after_frame f) g fs
moved Turns more f fs = more OperandWanted Whole fs

-- one pass over the tokens, with the frames that are open, the innermost first
unfoldable pub accepts : State → Frame → List Frame → Tokens → Bool
accepts s f fs [] = may_end s f
accepts s f fs (t ∷ ts) = moved (move s f (kind_of t)) (λ s f fs. accepts s f fs ts) f fs

-- whether tokens are a reference, `=` and one expression
unfoldable pub is_assignment : Tokens → Bool
is_assignment ts = accepts NameWanted Target [] ts

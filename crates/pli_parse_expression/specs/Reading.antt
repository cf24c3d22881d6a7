-- Reading expressions and references at the front of tokens (X3.74, limits own): the tree, the place after
-- it and the rest, or the one fault. Tokens are counted from 0, and p is the place of the first.
use Rattle.std.specs.Prelude.{ℕ, zero, suc, ◌+◌, nat_lt, Bool, true, false, Option, Some, None, Result}
use Rattle.std.specs.Prelude.{◌∷◌, length, option_map, if◌then◌else◌}
use Rattle.pli_base.specs.Name.{Name}
use Rattle.pli_base.specs.Syntax.{Expression, Referred, Constant, Parenthesized, Prefix, Infix, Reference}
use Rattle.pli_base.specs.Syntax.{Named, JoinedParts, Alone, Joined, Arguments, Absent, Given, Expressions}
use Rattle.pli_base.specs.Syntax.{Empty, Listed}
use Rattle.pli_base.specs.declared.syntax.ConstantValue.TheVariants as constants
use Rattle.pli_base.specs.declared.syntax.PrefixOperator.{PrefixOperator}
use Rattle.pli_base.specs.declared.syntax.PrefixOperator.TheVariants as prefixes
use Rattle.pli_base.specs.declared.syntax.InfixOperator.{InfixOperator}
use Rattle.pli_base.specs.declared.syntax.Joining.{Joining}
use Rattle.pli_base.specs.declared.code.Code.TheVariants.{ExpressionExpected, ParenthesisExpected}
use Rattle.pli_base.specs.declared.code.Code.TheVariants.{NameExpected, NestedTooDeep}
use Rattle.pli_base.specs.declared.token.Fault.{Fault}
use Rattle.pli_base.specs.declared.token.Sign.TheVariants.{OpenParenthesis, Plus, Minus}
use Rattle.pli_base.specs.declared.token.Sign.TheVariants.{Not}
use Rattle.pli_base.specs.declared.token.TokenText.TheVariants.{Word, Decimal, Binary, Characters, Bits, Sign}
use Rattle.pli_parse_expression.specs.Operators.{operator_limit, level_of, operator_at, joining_at}
use Rattle.pli_parse_expression.specs.Operators.{begins_expression}
use Rattle.pli_base.specs.Words.{Tokens, name_first, rest_after, is_comma, is_close}
use Rattle.pli_base.specs.Results.{◌>>=◌}
use Rattle.pli_base.specs.Reading.{Front, read_as, at_fault, expected, taken}
use Rattle.pli_parse_expression.specs.declared.counted.Counted.{Counted}

-- a tree that was read, with the operators of the outermost expression so far
abbrev pub counting : {A : Type 0} → A → (count : ℕ) → Counted A
counting tree count = record { tree = tree; count = count }

-- such a tree, the place after it and the tokens from there
abbrev pub counted : {A : Type 0} → A → (count p : ℕ) → Tokens → Result (Front (Counted A)) Fault
counted tree count p ts = read_as (counting tree count) p ts

-- what reads an expression after so many operators
abbrev pub Reader : Type 0
Reader = (count p : ℕ) → Tokens → Result (Front (Counted Expression)) Fault

-- one operator more, if there are not too many before it
abbrev pub limited : {A : Type 0} → (count p : ℕ) → Result A Fault → Result A Fault
limited count p read = if nat_lt count operator_limit then read else at_fault NestedTooDeep p

-- one level more, if one may still be opened: what reads inside it
abbrev pub opened : {A : Type 0} → Option Reader → (p : ℕ) → (Reader → Result A Fault) → Result A Fault
opened None p read = at_fault NestedTooDeep p
opened (Some inside) p read = read inside

-- after a value: its closing parenthesis
abbrev pub closed : {A : Type 0} → A → (count p : ℕ) → Tokens → Result (Front (Counted A)) Fault
closed value count p ts =
    taken is_close ParenthesisExpected p ts >>= λ us. counted value count (p + 1) us

-- an operand, and then what more makes of it
abbrev pub operand_then : Reader
    → (more : (min count : ℕ) → Expression → ℕ → Tokens → Result (Front (Counted Expression)) Fault)
    → (min : ℕ)
    → Reader
operand_then operand more min count p ts = operand count p ts
    >>= λ x. more min x.value.count x.value.tree x.next x.rest

-- after a left operand: an infix operator, its right operand, which takes all that binds tighter, and so on;
-- or the end
abbrev pub grouped : Reader
    → (more : (min count : ℕ) → Expression → ℕ → Tokens → Result (Front (Counted Expression)) Fault)
    → (min count : ℕ)
    → Expression → ℕ → Tokens → Option (InfixOperator × Tokens) → Result (Front (Counted Expression)) Fault
grouped operand more min count left p ts None =
    counted left count p ts
grouped operand more min count left p ts (Some x) =
    limited count p (operand_then operand more (level_of x.0 + 1) (count + 1) (p
    + 1) x.1 >>= λ y. more min y.value.count (Infix x.0 p left y.value.tree) y.next y.rest)

-- goes on as long as infix operators of level min or more come; each takes one of the bound, which is more
-- than the number of tokens
unfoldable pub infix_from : Reader → (bound min count : ℕ) → Expression → ℕ → Tokens
    → Result (Front (Counted Expression)) Fault
infix_from operand zero min count left p ts = expected ExpressionExpected p ts
infix_from operand (suc bound) min count left p ts =
    grouped operand (infix_from operand bound) min count left p ts (operator_at min ts)

-- after an infix operator: its right operand, which takes all that binds tighter
abbrev pub right_of : Reader → (bound : ℕ) → InfixOperator → Reader
right_of operand bound operator count p ts =
    limited count p (operand_then operand (infix_from operand bound) (level_of operator + 1) (count + 1) (p
    + 1) ts)

-- the longest expression of such operands
unfoldable pub expression_of : Reader → Reader
expression_of operand count p ts = operand_then operand (infix_from operand (length ts + 1)) 0 count p ts

-- an expression after a comma, and then what more reads; or the end
abbrev pub listed_after : Reader → (more : (count p : ℕ) → Tokens
    → Result (Front (Counted Expressions)) Fault)
    → (count p : ℕ) → Tokens → Option Tokens → Result (Front (Counted Expressions)) Fault
listed_after one more count p ts None = counted Empty count p ts
listed_after one more count p ts (Some us) =
    one count (p
    + 1) us >>= λ x. more x.value.count x.next x.rest
    >>= λ y. counted (Listed x.value.tree y.value.tree) y.value.count y.next y.rest

-- expressions, each after a comma, as long as commas come; each takes one of the bound, which is more than
-- the number of tokens
unfoldable pub further_from : Reader → (bound count p : ℕ) → Tokens
    → Result (Front (Counted Expressions)) Fault
further_from one zero count p ts = expected ExpressionExpected p ts
further_from one (suc bound) count p ts =
    listed_after one (further_from one bound) count p ts (rest_after is_comma ts)

-- one expression or more, with commas between, and the closing parenthesis
unfoldable pub listed_at : Reader → (count p : ℕ) → Tokens → Result (Front (Counted Expressions)) Fault
listed_at one count p ts =
    one count p ts >>= λ x. further_from one (length x.rest
    + 1) x.value.count x.next x.rest
    >>= λ y. closed (Listed x.value.tree y.value.tree) y.value.count y.next y.rest

-- after `(`: expressions and `)`, or `)` alone
unfoldable pub list_at : Reader → (count p : ℕ) → Tokens → Result (Front (Counted Expressions)) Fault
list_at one count p ts = if begins_expression ts then listed_at one count p ts else closed Empty count p ts

-- what stands in parentheses after a name, if there are some
unfoldable pub arguments_at : Option Reader → (count p : ℕ) → Tokens
    → Result (Front (Counted Arguments)) Fault
arguments_at one count p (Sign OpenParenthesis ∷ ts) =
    opened one p (λ one. list_at one count (p
    + 1) ts >>= λ x. counted (Given x.value.tree) x.value.count x.next x.rest)
arguments_at one count p ts = counted Absent count p ts

-- a part that is joined, from its name on, and then what more reads
abbrev pub part_after : Option Reader → (more : (count p : ℕ) → Tokens
    → Result (Front (Counted JoinedParts)) Fault)
    → Joining → (count p : ℕ) → Tokens → Option (Name × Tokens) → Result (Front (Counted JoinedParts)) Fault
part_after one more joining count p ts None = expected NameExpected p ts
part_after one more joining count p ts (Some n) =
    arguments_at one count (p + 1) n.1 >>= λ x. more x.value.count x.next x.rest
    >>= λ y. counted (Joined joining (record { name = n.0; at = p }) x.value.tree y.value.tree)
    y.value.count y.next y.rest

-- the further names of a reference, if a sign joins one
abbrev pub parts_after : Option Reader → (more : (count p : ℕ) → Tokens
    → Result (Front (Counted JoinedParts)) Fault)
    → (count p : ℕ) → Tokens → Option (Joining × Tokens) → Result (Front (Counted JoinedParts)) Fault
parts_after one more count p ts None = counted Alone count p ts
parts_after one more count p ts (Some x) = part_after one more x.0 count (p + 1) x.1 (name_first x.1)

-- parts, as long as `.` or `->` comes; each takes one of the bound, which is more than the number of tokens
unfoldable pub joined_from : Option Reader → (bound count p : ℕ) → Tokens
    → Result (Front (Counted JoinedParts)) Fault
joined_from one zero count p ts = expected NameExpected p ts
joined_from one (suc bound) count p ts = parts_after one (joined_from one bound) count p ts (joining_at ts)

-- a reference from its first name on
abbrev pub reference_after : Option Reader → (count p : ℕ) → Tokens → Option (Name × Tokens)
    → Result (Front (Counted Reference)) Fault
reference_after one count p ts None = expected NameExpected p ts
reference_after one count p ts (Some n) =
    arguments_at one count (p + 1) n.1
    >>= λ x. joined_from one (length x.rest + 1) x.value.count x.next x.rest
    >>= λ y. counted (Named (record { name = n.0; at = p }) x.value.tree y.value.tree)
    y.value.count y.next y.rest

-- a reference, whose arguments are read by one
unfoldable pub reference_of : Option Reader → (count p : ℕ) → Tokens
    → Result (Front (Counted Reference)) Fault
reference_of one count p ts = reference_after one count p ts (name_first ts)

-- a prefix operator, which opens a level, and its operand
unfoldable pub prefix_of : Option Reader → PrefixOperator → (count p : ℕ) → Tokens
    → Result (Front (Counted Expression)) Fault
prefix_of inside operator count p ts =
    limited count p (opened inside p (λ operand. operand (count + 1) (p
    + 1) ts >>= λ x. counted (Prefix operator p x.value.tree) x.value.count x.next x.rest))

-- after `(`, which opens a level: an expression and `)`
unfoldable pub parenthesis_of : Option Reader → (count p : ℕ) → Tokens
    → Result (Front (Counted Expression)) Fault
parenthesis_of inside count p ts =
    opened inside p (λ operand. expression_of operand count (p
    + 1) ts >>= λ x. closed (Parenthesized p x.value.tree) x.value.count x.next x.rest)

-- a constant
unfoldable pub constant_at : Reader
constant_at count p (Decimal v d ∷ ts) =
    counted (Constant p (constants.Decimal v d)) count (p + 1) ts
constant_at count p (Binary v d ∷ ts) =
    counted (Constant p (constants.Binary v d)) count (p + 1) ts
constant_at count p (Characters s ∷ ts) =
    counted (Constant p (constants.Characters s)) count (p + 1) ts
constant_at count p (Bits s ∷ ts) =
    counted (Constant p (constants.Bits s)) count (p + 1) ts
constant_at count p ts = expected ExpressionExpected p ts

-- an operand, whose inside is made of such operands
unfoldable pub operand_of : Option Reader → Reader
operand_of inside count p (Word n ∷ ts) =
    reference_of (option_map expression_of inside) count p (Word n
    ∷ ts) >>= λ x. counted (Referred x.value.tree) x.value.count x.next x.rest
operand_of inside count p (Sign OpenParenthesis ∷ ts) = parenthesis_of inside count p ts
operand_of inside count p (Sign Plus ∷ ts) = prefix_of inside prefixes.Plus count p ts
operand_of inside count p (Sign Minus ∷ ts) = prefix_of inside prefixes.Minus count p ts
operand_of inside count p (Sign Not ∷ ts) = prefix_of inside prefixes.Not count p ts
operand_of inside count p ts = constant_at count p ts

-- what reads inside one level more, where so many may still be opened
unfoldable pub inside : (levels : ℕ) → Option Reader
inside zero = None
inside (suc levels) = Some (operand_of (inside levels))

-- an operand where so many levels may still be opened
abbrev pub operand_at : (levels : ℕ) → Reader
operand_at levels = operand_of (inside levels)

-- the longest expression, after so many operators of the outermost one
unfoldable pub expression_at : (levels : ℕ) → Reader
expression_at levels = expression_of (operand_at levels)

-- an expression that is outermost: its operators are counted from 0, and are not counted outside
abbrev pub outermost : Reader → Reader
outermost reader count p ts =
    reader 0 p ts >>= λ x. counted x.value.tree count x.next x.rest

-- what reads an argument: an outermost expression, or a part of one
abbrev pub argument_of : (is_outermost : Bool) → Reader → Reader
argument_of true operand = outermost (expression_of operand)
argument_of false operand = expression_of operand

-- a reference that is no part of an expression: each of its arguments is an outermost expression
unfoldable pub reference_at : (levels p : ℕ) → Tokens → Result (Front (Counted Reference)) Fault
reference_at levels p ts = reference_of (option_map (argument_of true) (inside levels)) 0 p ts

-- Items and what they are read as, and faults: computed. Each text begins at token 1, after DECLARE.
use Rattle.std.specs.Prelude.{◌≡◌, ℕ, Some, None, List, [], ◌∷◌, codes, true, false}
use Rattle.pli_base.specs.Words.{Tokens}
use Rattle.pli_base.specs.Reading.{at_fault, read_as}
use Rattle.pli_base.specs.declared.code.Code.TheVariants.{ParenthesisExpected, SemicolonExpected}
use Rattle.pli_base.specs.declared.code.Code.TheVariants.{NameExpected, EndMissing, BadAttribute}
use Rattle.pli_base.specs.declared.code.Code.TheVariants.{ConstantExpected}
use Rattle.pli_base.specs.declared.token.Sign.TheVariants.{Colon, Semicolon, Comma, Period, OpenParenthesis}
use Rattle.pli_base.specs.declared.token.Sign.TheVariants.{CloseParenthesis, Minus, Times}
use Rattle.pli_base.specs.declared.token.TokenText.{TokenText}
use Rattle.pli_base.specs.declared.token.TokenText.TheVariants.{Word, Decimal, Characters, Sign}
use Rattle.pli_parse_declaration.specs.DeclarationReading.{declaration_at}
use Rattle.pli_base.specs.Declarations as tree
use Rattle.pli_base.specs.declared.syntax.Identifier.{Identifier}
use Rattle.pli_base.specs.declared.declaration.InitialValue.TheVariants as initial
use Rattle.pli_base.specs.declared.declaration.WrittenBounds.TheVariants as limits
use Rattle.pli_base.specs.declared.declaration.WrittenLength.TheVariants as extent

-- the token of a name
abbrev pub w : List ℕ → TokenText
w n = Word n

-- the sign `(`
abbrev pub left : TokenText
left = Sign OpenParenthesis

-- the sign `)`
abbrev pub right : TokenText
right = Sign CloseParenthesis

-- the sign `,`
abbrev pub comma : TokenText
comma = Sign Comma

-- a `;` that is the last token
abbrev pub semicolon : Tokens
semicolon = Sign Semicolon ∷ []

-- a name at a token
abbrev pub named : List ℕ → ℕ → Identifier
named n p = record { name = n; at = p }

-- one name without level and dimensions
abbrev pub plain : List ℕ → ℕ → List tree.Attribute → tree.Item
plain n p attributes =
    record { level = None; names = named n p ∷ []; dimensions = []; attributes = attributes }

-- `FIXED FIXED BIN(31);` declares FIXED
abbrev pub NameThatIsKeyword : Type 0
NameThatIsKeyword =
    declaration_at 1 (w (codes "FIXED") ∷ w (codes "FIXED") ∷ w (codes "BIN") ∷ left ∷ Decimal 31 2 ∷ right
    ∷ semicolon)
    ≡ read_as (plain (codes "FIXED") 1 (tree.Simple (tree.Fixed None) ∷ tree.Simple (tree.Binary (Some 31))
    ∷ []) ∷ []) 8 []

-- `1 S, 2 (A, B) (0:9, -1) CHAR(3) VAR;`
abbrev pub Levels : Type 0
Levels =
    declaration_at 1 (Decimal 1 1 ∷ w (codes "S") ∷ comma ∷ Decimal 2 1 ∷ left ∷ w (codes "A") ∷ comma
    ∷ w (codes "B") ∷ right
    ∷ left ∷ Decimal 0 1 ∷ Sign Colon ∷ Decimal 9 1 ∷ comma ∷ Sign Minus ∷ Decimal 1 1 ∷ right
    ∷ w (codes "CHAR") ∷ left ∷ Decimal 3 1 ∷ right ∷ w (codes "VAR") ∷ semicolon)
    ≡ read_as (
    record { level = Some 1; names = named (codes "S") 2 ∷ []; dimensions = []; attributes = [] }
    ∷ record {
      level = Some 2;
      names = named (codes "A") 6 ∷ named (codes "B") 8 ∷ [];
      dimensions =
          limits.Stated (Some (record { negative = false; value = 0 }))
          (record { negative = false; value = 9 })
          ∷ limits.Stated None (record { negative = true; value = 1 }) ∷ [];
      attributes = tree.Simple (tree.Character (Some (extent.Stated 3))) ∷ tree.Simple tree.Varying ∷ [];
    } ∷ []) 24 []

-- `F ENTRY(ENTRY(BIT, ENTRY) RETURNS(BIT), (5) BIT) RETURNS(PTR);` keeps nothing of what an ENTRY in a
-- description holds
abbrev pub Nest : Type 0
Nest =
    declaration_at 1 (w (codes "F") ∷ w (codes "ENTRY") ∷ left ∷ w (codes "ENTRY") ∷ left ∷ w (codes "BIT")
    ∷ comma ∷ w (codes "ENTRY") ∷ right
    ∷ w (codes "RETURNS") ∷ left ∷ w (codes "BIT") ∷ right ∷ comma ∷ left ∷ Decimal 5 1 ∷ right
    ∷ w (codes "BIT") ∷ right
    ∷ w (codes "RETURNS") ∷ left ∷ w (codes "PTR") ∷ right ∷ semicolon)
    ≡ read_as (plain (codes "F") 1 (
    tree.Entry (Some (
    record { dimensions = []; attributes = tree.AnyEntry ∷ tree.AnyReturns ∷ [] }
    ∷ record {
      dimensions = limits.Stated None (record { negative = false; value = 5 }) ∷ [];
      attributes = tree.Plain (tree.Bit None) ∷ [];
    } ∷ []))
    ∷ tree.Returns (tree.Plain tree.Pointer ∷ []) ∷ []) ∷ []) 25 []

-- `P(*, *) CHAR(*);`
abbrev pub Asterisks : Type 0
Asterisks =
    declaration_at 1 (w (codes "P") ∷ left ∷ Sign Times ∷ comma ∷ Sign Times ∷ right ∷ w (codes "CHAR") ∷ left
    ∷ Sign Times ∷ right ∷ semicolon)
    ≡ read_as (record {
      level = None;
      names = named (codes "P") 1 ∷ [];
      dimensions = limits.Any ∷ limits.Any ∷ [];
      attributes = tree.Simple (tree.Character (Some extent.Any)) ∷ [];
    } ∷ []) 12 []

-- `P(1:*) BIT;`: an asterisk is all that a bound says
abbrev pub NoAsteriskAfterColon : Type 0
NoAsteriskAfterColon =
    declaration_at 1 (w (codes "P") ∷ left ∷ Decimal 1 1 ∷ Sign Colon ∷ Sign Times ∷ right ∷ w (codes "BIT")
    ∷ semicolon) ≡ at_fault ConstantExpected 5

-- `X FIXED(*);`: a precision is a number
abbrev pub NoAsteriskAsPrecision : Type 0
NoAsteriskAsPrecision =
    declaration_at 1 (w (codes "X") ∷ w (codes "FIXED") ∷ left ∷ Sign Times ∷ right ∷ semicolon)
    ≡ at_fault ConstantExpected 4

-- `X BASED(S.P) INIT((2) -3, NULL, 'A');`
abbrev pub Values : Type 0
Values =
    declaration_at 1 (w (codes "X") ∷ w (codes "BASED") ∷ left ∷ w (codes "S") ∷ Sign Period ∷ w (codes "P")
    ∷ right
    ∷ w (codes "INIT") ∷ left ∷ left ∷ Decimal 2 1 ∷ right ∷ Sign Minus ∷ Decimal 3 1 ∷ comma
    ∷ w (codes "NULL") ∷ comma ∷ Characters (codes "A") ∷ right ∷ semicolon)
    ≡ read_as (plain (codes "X") 1 (
    tree.Simple (tree.Based (Some (codes "S" ∷ codes "P" ∷ [])))
    ∷ tree.Simple (tree.Initial (initial.Integer (Some 2) (record { negative = true; value = 3 })
    ∷ initial.Null ∷ initial.Characters (codes "A") ∷ [])) ∷ []) ∷ []) 21 []

-- `X FOO;`: where only parts that need not stand are passed over, the `;` must stand
abbrev pub WrongWord : Type 0
WrongWord = declaration_at 1 (w (codes "X") ∷ w (codes "FOO") ∷ semicolon) ≡ at_fault SemicolonExpected 2

-- `(1) X;`
abbrev pub NoLevelInParentheses : Type 0
NoLevelInParentheses =
    declaration_at 1 (left ∷ Decimal 1 1 ∷ right ∷ w (codes "X") ∷ semicolon) ≡ at_fault NameExpected 2

-- `X FIXED(5,00);`
abbrev pub NoScaleButZero : Type 0
NoScaleButZero =
    declaration_at 1 (w (codes "X") ∷ w (codes "FIXED") ∷ left ∷ Decimal 5 1 ∷ comma ∷ Decimal 0 2 ∷ right
    ∷ semicolon) ≡ at_fault ConstantExpected 6

-- `X INIT((2)'A');`: a factor stands before an integer only
abbrev pub NoFactorOfString : Type 0
NoFactorOfString =
    declaration_at 1 (w (codes "X") ∷ w (codes "INIT") ∷ left ∷ left ∷ Decimal 2 1 ∷ right
    ∷ Characters (codes "A") ∷ right ∷ semicolon) ≡ at_fault ConstantExpected 7

-- `F ENTRY(FOO);` and `F ENTRY(BIT, FOO);`: where no description must stand, the `)` must
abbrev pub NoDescription : Type 0
NoDescription =
    declaration_at 1 (w (codes "F") ∷ w (codes "ENTRY") ∷ left ∷ w (codes "FOO") ∷ right ∷ semicolon)
    ≡ at_fault ParenthesisExpected 4

-- `F ENTRY(BIT, FOO);`: after a comma a description must stand
abbrev pub NoDescriptionAfterComma : Type 0
NoDescriptionAfterComma =
    declaration_at 1 (w (codes "F") ∷ w (codes "ENTRY") ∷ left ∷ w (codes "BIT") ∷ comma ∷ w (codes "FOO")
    ∷ right ∷ semicolon) ≡ at_fault BadAttribute 6

-- `F ENTRY(ENTRY((5)));`, within a nest
abbrev pub NoAttributeInNest : Type 0
NoAttributeInNest =
    declaration_at 1 (w (codes "F") ∷ w (codes "ENTRY") ∷ left ∷ w (codes "ENTRY") ∷ left ∷ left ∷ Decimal 5 1
    ∷ right ∷ right ∷ right ∷ semicolon)
    ≡ at_fault BadAttribute 9

-- `F ENTRY(ENTRY(BIT`: a text that ends has its fault at its last token
abbrev pub TextEnds : Type 0
TextEnds =
    declaration_at 1 (w (codes "F") ∷ w (codes "ENTRY") ∷ left ∷ w (codes "ENTRY") ∷ left ∷ w (codes "BIT")
    ∷ []) ≡ at_fault EndMissing 6

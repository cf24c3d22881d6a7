-- Worked examples of the operations on strings.
use Rattle.std.specs.Prelude.{◌≡◌, ℕ, zero, suc, Bool, true, false, pos, negsuc, List, [], ◌∷◌, Some, None}
use Rattle.std.specs.Prelude.{codes}
use Rattle.std.specs.declared.cmp.Ordering.TheVariants.{Less, Equal, Greater}
use Rattle.std.specs.Ordering.{nat_cmp, bool_cmp}
use Rattle.pli_value.specs.Conversions.{number_characters, bit_characters}
use Rattle.pli_value.specs.Strings.{order_of, substring, substring_from, fitted, index_of, conjunction}
use Rattle.pli_value.specs.Packing.{packed, unpacked}
use Rattle.pli_value.specs.Strings.{disjunction, negation, is_true}

-- bits written from left to right
abbrev pub bits : List ℕ → List Bool
bits [] = []
bits (zero ∷ rest) = false ∷ bits rest
bits (suc n ∷ rest) = true ∷ bits rest

-- 'AB' = 'AB ', '' = ' ', 'A' < 'B', 'B' > 'AZ', and 'A' > 'A' followed by a tab, which is less than a blank
abbrev pub CharacterOrders : Type 0
CharacterOrders = (order_of 32 nat_cmp (codes "AB") (codes "AB ") ≡ Equal)
    × (order_of 32 nat_cmp [] (codes " ") ≡ Equal)
    × (order_of 32 nat_cmp (codes "A") (codes "B") ≡ Less)
    × (order_of 32 nat_cmp (codes "B") (codes "AZ") ≡ Greater)
    × (order_of 32 nat_cmp (codes "A") (codes "A\t") ≡ Greater)

-- '11'B = '110'B, ''B = '00'B, '10'B < '11'B, '1'B > '01'B
abbrev pub BitOrders : Type 0
BitOrders = (order_of false bool_cmp (bits (1 ∷ 1 ∷ [])) (bits (1 ∷ 1 ∷ 0 ∷ [])) ≡ Equal)
    × (order_of false bool_cmp [] (bits (0 ∷ 0 ∷ [])) ≡ Equal)
    × (order_of false bool_cmp (bits (1 ∷ 0 ∷ [])) (bits (1 ∷ 1 ∷ [])) ≡ Less)
    × (order_of false bool_cmp (bits (1 ∷ [])) (bits (0 ∷ 1 ∷ [])) ≡ Greater)

-- INDEX('AABAB', 'AB'), INDEX('AB', 'ABC'), and with an empty operand
abbrev pub Places : Type 0
Places = (index_of (codes "AABAB") (codes "AB") ≡ 2) × (index_of (codes "AB") (codes "ABC") ≡ 0)
    × (index_of (codes "AB") [] ≡ 0) × (index_of [] (codes "A") ≡ 0) × (index_of [] [] ≡ 0)

-- SUBSTR('ABC', 2, 2), ('ABC', 4, 0), ('ABC', 3, 2), ('ABC', 0, 1), ('ABC', 2, -1), ('ABC', 4) and ('ABC', 5)
abbrev pub Parts : Type 0
Parts = (substring (codes "ABC") (pos 2) (pos 2) ≡ Some (codes "BC"))
    × (substring (codes "ABC") (pos 4) (pos 0) ≡ Some [])
    × (substring (codes "ABC") (pos 3) (pos 2) ≡ None) × (substring (codes "ABC") (pos 0) (pos 1) ≡ None)
    × (substring (codes "ABC") (pos 2) (negsuc 0) ≡ None)
    × (substring_from (codes "ABC") (pos 4) ≡ Some []) × (substring_from (codes "ABC") (pos 5) ≡ None)

-- 'ABC' in CHARACTER(2) and in CHARACTER(5)
abbrev pub Assigned : Type 0
Assigned = (fitted 32 2 (codes "ABC") ≡ codes "AB") × (fitted 32 5 (codes "ABC") ≡ codes "ABC  ")

-- '1100'B & '101'B, '1100'B | '101'B, ^'101'B, ''B & '1'B and ''B | ''B
abbrev pub BitOperations : Type 0
BitOperations = (conjunction (bits (1 ∷ 1 ∷ 0 ∷ 0 ∷ [])) (bits (1 ∷ 0 ∷ 1 ∷ [])) ≡ bits (1 ∷ 0 ∷ 0 ∷ 0 ∷ []))
    × (disjunction (bits (1 ∷ 1 ∷ 0 ∷ 0 ∷ [])) (bits (1 ∷ 0 ∷ 1 ∷ [])) ≡ bits (1 ∷ 1 ∷ 1 ∷ 0 ∷ []))
    × (negation (bits (1 ∷ 0 ∷ 1 ∷ [])) ≡ bits (0 ∷ 1 ∷ 0 ∷ []))
    × (conjunction [] (bits (1 ∷ [])) ≡ bits (0 ∷ [])) × (disjunction [] [] ≡ [])

-- 5 and -5 in four characters, and '101'B
abbrev pub Converted : Type 0
Converted = (number_characters 4 (pos 5) ≡ codes "   5") × (number_characters 4 (negsuc 4) ≡ codes "  -5")
    × (bit_characters (bits (1 ∷ 0 ∷ 1 ∷ [])) ≡ codes "101")

-- no bit, none that is one, and one that is
abbrev pub Conditions : Type 0
Conditions = (is_true [] ≡ false) × (is_true (bits (0 ∷ 0 ∷ [])) ≡ false)
    × (is_true (bits (0 ∷ 1 ∷ 0 ∷ [])) ≡ true)

-- '101000001'B packed
abbrev pub Packed : Type 0
Packed = (packed (bits (1 ∷ 0 ∷ 1 ∷ 0 ∷ 0 ∷ 0 ∷ 0 ∷ 0 ∷ 1 ∷ [])) ≡ 160 ∷ 128 ∷ [])
    × (unpacked 9 (160 ∷ 255 ∷ []) ≡ bits (1 ∷ 0 ∷ 1 ∷ 0 ∷ 0 ∷ 0 ∷ 0 ∷ 0 ∷ 1 ∷ []))
    × (packed [] ≡ [])

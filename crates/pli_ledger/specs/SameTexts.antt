-- Whether token texts are the same.
use mathlib.Core.Bool.{beq}
use Rattle.std.specs.Prelude.{Bool, false, ◌&&◌, nat_eq}
use Rattle.std.specs.Cmp.Lexicographic.{pointwise}
use denote.Enum.Bare.{sameb}
use Rattle.pli_base.specs.Words.{Tokens, same_name}
use Rattle.pli_base.specs.contracts.token.Sign.{the_type}
use Rattle.pli_base.specs.declared.token.TokenText.{TokenText}
use Rattle.pli_base.specs.declared.token.TokenText.TheVariants.{Word, Decimal, Binary, Characters, Bits, Sign}

-- two texts say the same
abbrev pub same_text : TokenText → TokenText → Bool
same_text (Word a) (Word b) = same_name a b
same_text (Decimal a digits) (Decimal b count) = nat_eq a b && nat_eq digits count
same_text (Binary a digits) (Binary b count) = nat_eq a b && nat_eq digits count
same_text (Characters a) (Characters b) = pointwise nat_eq a b
same_text (Bits a) (Bits b) = pointwise beq a b
same_text (Sign a) (Sign b) = sameb the_type a b
same_text a b = false

-- two lists of texts do
abbrev pub same_texts : Tokens → Tokens → Bool
same_texts = pointwise same_text

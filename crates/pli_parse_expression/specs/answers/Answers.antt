-- What the parser answers, against what reading a list of tokens gives.
use Rattle.pli_parse_expression.specs.declared.counted.Counted.{Counted}

-- the tree, apart from where it lies in memory, and the count
abbrev pub counted_view : {X Y : Type 0} → (X → Y) → Counted X → Counted Y
counted_view view x = record { tree = view x.tree; count = x.count }

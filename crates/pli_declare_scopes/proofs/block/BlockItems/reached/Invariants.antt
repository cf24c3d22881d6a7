use Rattle.std.proofs.Common.{◌≡◌, ◌-◌, ◌<◌, ◌≤◌, ℕ, true, length, take}
use Rattle.std.specs.Prelude.{reverse}
use Rattle.pli_declare_scopes.specs.Scopes.{item_at, chain_over, is_part}
use Rattle.pli_declare_scopes.proofs.block.BlockItems.reached.Given as goal

abbrev pub invariant-loop-name : goal.invariant-loop-name
invariant-loop-name l = (n : ℕ) → n < length l.self-inside.items.items → n ≤ l.number → (item_at l.self-inside.items.items n).counts ≡ true
    → is_part (reverse (take (length l.names - 1) l.names)) (chain_over l.self-inside.items.items (item_at l.self-inside.items.items n).owner) ≡ true
    → n ≤ l.bound

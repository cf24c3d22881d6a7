use Rattle.std.proofs.Common.{◌≡◌, ◌+◌, ◌-◌, ◌<◌, true, length, take, IfSome}
use Rattle.std.specs.Prelude.{reverse}
use Rattle.pli_declare_scopes.specs.Scopes.{item_at, chain_over, is_part}
use Rattle.pli_declare_scopes.specs.answers.Leaps.{rank}
use Rattle.pli_declare_scopes.proofs.block.BlockItems.fits.Given as goal

abbrev pub invariant-loop-left : goal.invariant-loop-left
invariant-loop-left l = record {
  left : l.left < length l.names;
  above : IfSome l.above (λ o. o < length l.self-inside.items.items);
  counting : IfSome l.above (λ o. l.self-inside.is_ordered ≡ true → (item_at l.self-inside.items.items o).counts ≡ true);
  partly : is_part (reverse (take l.left l.names)) (chain_over l.self-inside.items.items l.above)
      ≡ is_part (reverse (take (length l.names - 1) l.names)) (chain_over l.self-inside.items.items (item_at l.self-inside.items.items l.number).owner);
}

abbrev pub decreases-loop-left : goal.decreases-loop-left
decreases-loop-left l = rank l.above + rank l.above + (l.tried - l.left)

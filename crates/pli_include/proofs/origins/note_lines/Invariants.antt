use Rattle.std.proofs.Common.{◌≡◌, ◌+◌, ◌≤◌, ◌++◌, map, drop, length}
use Rattle.std.specs.Prelude.{vec_len, vec_capacity}
use Rattle.pli_include.specs.views.OriginsView.{place_in}
use Rattle.pli_include.proofs.origins.note_lines.Given as goal

-- the places that are noted and those of the tokens that are left; and there is room for these
abbrev pub invariant-loop-token : goal.invariant-loop-token
invariant-loop-token l = record {
  items : l.places.items ++ map (place_in l.run) (drop l.token-index l.tokens) ≡ l.initial.places.items ++ map (place_in l.run) l.tokens;
  room : vec_len l.places + length (drop l.token-index l.tokens) ≤ vec_capacity l.places;
}

use Rattle.std.proofs.Common.{◌≡◌, ℕ, nat_eq, unwrap_or, drop}
use Rattle.std.specs.HashMap.{get}
use Rattle.pli_gen.specs.answers.Pieces.{gotos_landed}
use Rattle.pli_gen.proofs.gotos.land_each.Given as goal

-- the GOTOs that are left come to what all come to
abbrev pub invariant-loop-jump : goal.invariant-loop-jump
invariant-loop-jump l =
    let place = λ (n : ℕ). unwrap_or (get nat_eq l.places n) 0 in
    gotos_landed place l.code.items (drop l.jump-index l.gotos) ≡ gotos_landed place l.initial.code.items l.gotos

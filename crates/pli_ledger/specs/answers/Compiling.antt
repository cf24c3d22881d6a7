-- What is done with one unit.
use Rattle.std.specs.Prelude.{◌≡◌, ℕ, Bool, true, false, Option, None, Some, cond}
use Rattle.pli_base.specs.Name.{Name}
use Rattle.pli_base.specs.Words.{Tokens}
use Rattle.pli_deck.specs.declared.compiled.Compiled.{Compiled}
use Rattle.pli_include.specs.Expanded.{Expanded, expansion_of}
use Rattle.pli_include.specs.Expanded.{holds}
use Rattle.pli_members.specs.Members.{Store}
use Rattle.pli_ledger.specs.Kept.{Kept}
use Rattle.pli_ledger.specs.Work.{due_by}
use Rattle.pli_ledger.specs.WorkParts.{stale_kept, compiled_after}
use Rattle.pli_ledger.specs.views.KeptView.{HaveResult}

-- 1 where something was done
abbrev pub one_if : Bool → ℕ
one_if b = cond b 1 0

-- an expansion that is kept and holds is the members'
abbrev pub IsRecalled : Store → Name × Kept → Type 0
IsRecalled s u = (e : Expanded) → u.1.expansion ≡ Some e → holds s e.trace ≡ true → e ≡ expansion_of s u.0

-- the unit is due
abbrev pub unit_is_due : Store → Name × Kept → Bool
unit_is_due s u = due_by s u.1.expansion

-- its expansion is the members'
abbrev pub refreshed : Store → Name × Kept → Name × Kept
refreshed s u = (u.0, record { expansion = Some (expansion_of s u.0); compiled = u.1.compiled })

-- the unit is stale
abbrev pub unit_is_stale : Name × Kept → Bool
unit_is_stale u = stale_kept u.1.expansion u.1.compiled

-- its texts are compiled, if it has some
abbrev pub recompiled : Name × Kept → Name × Kept
recompiled u =
    (u.0, record { expansion = u.1.expansion; compiled = compiled_after u.1.expansion u.1.compiled })

-- a result of the last expansion, where it has none and wants one
abbrev pub IsFresh : (last : Option Expanded) → (compiled : Option Tokens) → Option Compiled → Type 0
IsFresh last compiled None = stale_kept last compiled ≡ false
IsFresh last compiled (Some c) =
    (stale_kept last compiled ≡ true) × HaveResult (compiled_after last compiled) (Some c)

-- Reading the operands of an instruction, one after another, up to the first fault.
use Rattle.std.specs.Prelude.{◌≡◌, ℕ, List, Option, Some, None, Result, Ok, Err}
use Rattle.pli_code.specs.Fields.{Reader}
use Rattle.pli_code.specs.declared.fault.DeckFault.{DeckFault}
use Rattle.pli_code.specs.declared.operands.Operands.{Operands}

-- what is left to be read, unless there was a fault
abbrev pub left_of : Option DeckFault → List ℕ → Result (List ℕ) DeckFault
left_of None bytes = Ok bytes
left_of (Some f) bytes = Err f

-- what is left of operands
abbrev pub operands_view : Operands → Result (List ℕ) DeckFault
operands_view o = left_of o.fault o.rest.now

-- the first of two faults
abbrev pub kept : Option DeckFault → DeckFault → Option DeckFault
kept None f = Some f
kept (Some d) f = Some d

-- reading gives this value and leaves so much, or there was a fault before, or there is one now
abbrev pub IsRead : {X : Type 0} → Reader X → (before : Result (List ℕ) DeckFault) → X
    → (after : Result (List ℕ) DeckFault) → Type 0
IsRead read (Ok bytes) x (Ok rest) = read bytes ≡ Ok (x, rest)
IsRead read (Ok bytes) x (Err f) = read bytes ≡ Err f
IsRead read (Err d) x after = after ≡ Err d

-- the same, as one fact
pub record Reads {X : Type 0} (read : Reader X) (before : Result (List ℕ) DeckFault) (value : X)
    (after : Result (List ℕ) DeckFault) : Type 0 where
  pub is_read : IsRead read before value after

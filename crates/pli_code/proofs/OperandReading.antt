-- Reading an instruction's operands: what is made of them, and where they fault.
use Rattle.std.proofs.Common.{◌≡◌, ◌<◌, ℕ, get_or, arith, List, Option, Some, None, Result, Ok, Err, refl, ap, ◌∙◌}
use Rattle.pli_code.specs.declared.fault.DeckFault.{DeckFault}
use Rattle.std.proofs.lemmas.List.{get_or_past}
use Rattle.pli_code.specs.CodedInstruction.{Instruction}
use Rattle.pli_code.specs.Instructions.{instruction_readers, reader_of}
use Rattle.pli_base.specs.Results.{◌>>=◌}
use Rattle.pli_code.specs.Fields.{Reader, Field, ◌⊗◌, made, nothing, unknown}
use Rattle.pli_code.specs.Operands.{Reads, left_of, kept}
use Rattle.pli_code.proofs.FieldLaws.{as_shaped, with_first, then_second}

pub one_ok : {X Y : Type 0} (f : Field X) (to : X → Y) (bytes : List ℕ) (x : X) (rest : List ℕ) → f.read bytes ≡ Ok (x, rest) → made to f bytes ≡ Ok (to x, rest)
one_ok f to bytes x rest h = ap (λ r. r >>= as_shaped to) h

pub one_err : {X Y : Type 0} (f : Field X) (to : X → Y) (bytes : List ℕ) (d : DeckFault) → f.read bytes ≡ Err d → made to f bytes ≡ Err d
one_err f to bytes d h = ap (λ r. r >>= as_shaped to) h

pair_ok : {X Y : Type 0} (f : Field X) (g : Field Y) (bytes : List ℕ) (x : X) (after : List ℕ) (y : Y) (rest : List ℕ) → f.read bytes ≡ Ok (x, after) → g.read after ≡ Ok (y, rest) → (f ⊗ g).read bytes ≡ Ok ((x, y), rest)
pair_ok f g bytes x after y rest h k = ap (λ r. r >>= then_second (λ _. g)) h ∙ ap (λ r. r >>= with_first x) k

first_err : {X Y : Type 0} (f : Field X) (g : Field Y) (bytes : List ℕ) (d : DeckFault) → f.read bytes ≡ Err d → (f ⊗ g).read bytes ≡ Err d
first_err f g bytes d h = ap (λ r. r >>= then_second (λ _. g)) h

second_err : {X Y : Type 0} (f : Field X) (g : Field Y) (bytes : List ℕ) (x : X) (after : List ℕ) (d : DeckFault) → f.read bytes ≡ Ok (x, after) → g.read after ≡ Err d → (f ⊗ g).read bytes ≡ Err d
second_err f g bytes x after d h k = ap (λ r. r >>= then_second (λ _. g)) h ∙ ap (λ r. r >>= with_first x) k

-- an operand was at fault
pub goes_wrong : {X : Type 0} (read : Reader X) (fault : Option DeckFault) (bytes : List ℕ) (x : X) (e : DeckFault) → read bytes ≡ Err e → Reads read (left_of fault bytes) x (left_of (kept fault e) bytes)
goes_wrong read None bytes x e h = record { is_read = h }
goes_wrong read (Some d) bytes x e h = record { is_read = refl }

-- what has no operand
pub bare : {Y : Type 0} (y : Y) (before : Result (List ℕ) DeckFault) → Reads (made (λ (u : Unit {0}). y) nothing) before y before
bare y (Ok bytes) = record { is_read = refl }
bare y (Err d) = record { is_read = refl }

-- what is made of one operand
pub of_one : {X Y : Type 0} (f : Field X) (to : X → Y) (before : Result (List ℕ) DeckFault) (x : X) (after : Result (List ℕ) DeckFault) → Reads f.read before x after → Reads (made to f) before (to x) after
of_one f to (Ok bytes) x (Ok rest) h = record { is_read = one_ok f to bytes x rest h.is_read }
of_one f to (Ok bytes) x (Err e) h = record { is_read = one_err f to bytes e h.is_read }
of_one f to (Err d) x after h = record { is_read = h.is_read }

-- one operand after another
pub of_both : {X Y : Type 0} (f : Field X) (g : Field Y) (before : Result (List ℕ) DeckFault) (x : X) (between : Result (List ℕ) DeckFault) (y : Y) (after : Result (List ℕ) DeckFault) → Reads f.read before x between → Reads g.read between y after → Reads (f ⊗ g).read before (x, y) after
of_both f g (Ok bytes) x (Ok more) y (Ok rest) h k = record { is_read = pair_ok f g bytes x more y rest h.is_read k.is_read }
of_both f g (Ok bytes) x (Ok more) y (Err e) h k = record { is_read = second_err f g bytes x more e h.is_read k.is_read }
of_both f g (Ok bytes) x (Err e) y after h k = rw k.is_read (record { is_read = first_err f g bytes e h.is_read })
of_both f g (Err d) x between y after h k =
    let e : after ≡ Err d = (rw h.is_read at k).is_read in
    record { is_read = e }

-- no instruction has a number over 67
pub none_beyond : (code : ℕ) (before : Result (List ℕ) DeckFault) (x : Instruction) (after : Result (List ℕ) DeckFault) → 67 < code → Reads unknown before x after → Reads (reader_of code) before x after
unfolding reader_of
none_beyond code before x after over h = rw (beyond code over) h
  where
    beyond : (n : ℕ) → 67 < n → get_or instruction_readers n unknown ≡ unknown
    beyond n more = get_or_past instruction_readers n unknown (omega arith)

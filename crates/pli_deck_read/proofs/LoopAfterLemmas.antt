-- Reading values one after the other, each by the field that the one before gives.
use Rattle.std.proofs.Common.{◌≡◌, ℕ, zero, suc, ◌-◌, ◌+◌, ◌≤◌, ◌<◌, List, [], ◌∷◌, ◌++◌, length, map, get_or, Option, Some, None, Result, Ok, Err, refl, sym, ap, ◌∙◌, arith}
use Rattle.std.proofs.lemmas.List.{append-nil}
use Rattle.pli_code.specs.declared.fault.DeckFault.{DeckFault}
use Rattle.pli_code.specs.Fields.{Field}
use Rattle.pli_deck_write.specs.ModuleFields.{many_after}
use Rattle.pli_base.specs.declared.failure.Failure.{Failure}
use Rattle.pli_base.specs.declared.failure.Failure.TheVariants as errors
use Rattle.pli_deck_read.specs.Earlier.{last_of}
use Rattle.pli_base.specs.answers.FailureAnswers.{Fails}
use Rattle.pli_deck_read.proofs.LoopLemmas.{with_front, regroup}

pub last_pushed : {X : Type 0} (xs : List X) (x : X) → last_of (xs ++ x ∷ []) ≡ Some x
last_pushed [] x = refl
last_pushed (y ∷ []) x = refl
last_pushed (y ∷ z ∷ zs) x = last_pushed (z ∷ zs) x

pub none_before : {X Y : Type 0} (view : X → Y) (xs : List X) → length xs ≡ 0 → last_of (map view xs) ≡ None
none_before view [] none = refl
none_before view (x ∷ xs) none = absurd (omega (arith, none))

pub last_before : {X Y : Type 0} (view : X → Y) (xs : List X) (k : ℕ) (x : X) → k + 1 ≡ length xs → x ≡ get_or xs k x → last_of (map view xs) ≡ Some (view x)
last_before view [] k x count is = absurd (omega (arith, count))
last_before view (y ∷ []) zero x count is = ap (λ z. Some (view z)) (sym is)
last_before view (y ∷ []) (suc k) x count is = absurd (omega (arith, count))
last_before view (y ∷ z ∷ zs) zero x count is = absurd (omega (arith, count))
last_before view (y ∷ z ∷ zs) (suc k) x count is = last_before view (z ∷ zs) k x (omega (arith, count)) is

pub goes_on_after : {X : Type 0} (f : Option X → Field X) (before : Option X) (front : List X) (count i : ℕ) (bytes : List ℕ) (x : X) (after : List ℕ) (total : Result (List X × List ℕ) DeckFault)
    → i < count → (f before).read bytes ≡ Ok (x, after) → with_front front (many_after f before (count - i) bytes) ≡ total
    → with_front (front ++ x ∷ []) (many_after f (Some x) (count - (i + 1)) after) ≡ total
unfolding many_after
goes_on_after f before front count i bytes x after total lt h so_far =
    let k : count - i ≡ suc (count - (i + 1)) = omega arith in
    let one : with_front front (many_after f before (count - i) bytes) ≡ with_front (front ++ x ∷ []) (many_after f (Some x) (count - (i + 1)) after) =
    rw (k, h) (regroup front x (many_after f (Some x) (count - (i + 1)) after)) in
    sym one ∙ so_far

pub ends_after : {X : Type 0} (f : Option X → Field X) (before : Option X) (e : Failure DeckFault) (front : List X) (count i : ℕ) (bytes : List ℕ) (total : Result (List X × List ℕ) DeckFault)
    → i < count → Fails e ((f before).read bytes) → with_front front (many_after f before (count - i) bytes) ≡ total → Fails e total
unfolding many_after
ends_after f before errors.OutOfMemory front count i bytes total lt h so_far = tt
ends_after f before (errors.Fault d) front count i bytes total lt h so_far =
    let k : count - i ≡ suc (count - (i + 1)) = omega arith in
    let one : with_front front (many_after f before (count - i) bytes) ≡ Err d = rw (k, h) refl in
    sym so_far ∙ one

pub is_done_after : {X : Type 0} (f : Option X → Field X) (before : Option X) (front : List X) (count i : ℕ) (bytes : List ℕ) (total : Result (List X × List ℕ) DeckFault) → count ≤ i
    → with_front front (many_after f before (count - i) bytes) ≡ total → total ≡ Ok (front, bytes)
unfolding many_after
is_done_after f before front count i bytes total le so_far =
    let k : count - i ≡ 0 = omega arith in
    let one : with_front front (many_after f before (count - i) bytes) ≡ Ok (front, bytes) = rw k (ap (λ xs. Ok (xs, bytes)) (append-nil front)) in
    sym so_far ∙ one

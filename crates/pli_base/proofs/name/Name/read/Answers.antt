use Rattle.std.proofs.Common.{◌≡◌, ℕ, ◌+◌, ◌-◌, ◌<◌, List, [], ◌∷◌, ◌++◌, length, take, drop, map, replicate, slice_set, get_or, arith, ◌∙◌, sym, ap, rules}
use Rattle.std.proofs.Math.Seq.{take-length}
use Rattle.std.proofs.lemmas.List.{take_more_set, take_more, map-append, length-set, drop-set-lt, drop-drop, drop-replicate}
use Rattle.pli_base.specs.Name.{upper}
use Rattle.pli_base.proofs.WrittenNames.{read_as_itself}
use Rattle.pli_base.proofs.name.Name.read.Goals as goal

one_less : (i : ℕ) → 31 - i - 1 ≡ 31 - (i + 1)
one_less i = omega arith

-- the next character is stored
module _ (bytes text : List ℕ) (i : ℕ) where
  taken : i < length bytes → i < length text → take i bytes ≡ map upper (take i text)
      → take (i + 1) (slice_set bytes i (upper (get_or text i 0))) ≡ map upper (take (i + 1) text)
  taken room more h =
      take_more_set bytes i (upper (get_or text i 0)) room
      ∙ ap (λ s. s ++ upper (get_or text i 0) ∷ []) h
      ∙ sym (map-append upper (take i text) (get_or text i 0 ∷ []))
      ∙ sym (ap (map upper) (take_more text i 0 more))

  dropped : (y : ℕ) → drop i bytes ≡ replicate (31 - i) 0 → drop (i + 1) (slice_set bytes i y) ≡ replicate (31 - (i + 1)) 0
  dropped y h =
      drop-set-lt (i + 1) bytes i y (omega arith)
      ∙ sym (drop-drop 1 i bytes)
      ∙ ap (drop 1) h
      ∙ drop-replicate 1 (31 - i) 0
      ∙ ap (λ n. replicate n 0) (one_less i)

pub loop-place-preserved : goal.loop-place-preserved
loop-place-preserved c =
    let bytes = c.loop-place.bytes in
    let text = c.args.text.now in
    let i = c.loop-place.place in
    (length-set bytes i c.upper.result ∙ c.loop-place.invariant.0, rw c.upper.ensures (taken bytes text i (omega arith) (omega arith) c.loop-place.invariant.1), dropped bytes text i c.upper.result c.loop-place.invariant.2)

pub invariant_of-result : goal.invariant_of-result
invariant_of-result c =
    let text = c.args.text.now in
    let at_end : c.loop-place.place ≡ length text = search rules in
    let read : take c.loop-place.place c.loop-place.bytes ≡ map upper text = c.loop-place.invariant.1 ∙ ap (λ n. map upper (take n text)) at_end ∙ ap (map upper) (take-length text) in
    let whole : take (length text) c.loop-place.bytes ≡ map upper text = ap (λ n. take n c.loop-place.bytes) (sym at_end) ∙ read in
    (search rules, search rules, search rules, rw whole (read_as_itself text (search rules) (search rules)))

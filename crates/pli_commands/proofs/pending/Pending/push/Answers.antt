use Rattle.std.proofs.Common.{◌≡◌, ℕ, ◌+◌, ◌<◌, ◌≤◌, List, [], ◌∷◌, ◌++◌, length, take, slice_set, sym, ap, ◌∙◌, arith, take_all, length-take-le}
use Rattle.std.proofs.lemmas.List.{take_more_set, length_push, take-append-le}
use Rattle.pli_commands.specs.answers.Kept.{kept_limit}
use Rattle.pli_commands.proofs.pending.Pending.push.Goals as goal

-- a byte for which there is room is stored
stored : (bytes : List ℕ) (count byte limit : ℕ) → count < limit → length bytes ≡ limit → (now : List ℕ) → take count bytes ≡ now
    → take (count + 1) (slice_set bytes count byte) ≡ take limit (now ++ byte ∷ [])
stored bytes count byte limit room sized now is =
    let within : count < length bytes = omega arith in
    let counted : length now ≡ count = ap length (sym is) ∙ length-take-le count bytes (omega arith) in
    let fits : length (now ++ byte ∷ []) ≤ limit = omega (arith, length_push now byte) in
    take_more_set bytes count byte within ∙ ap (λ l. l ++ byte ∷ []) is ∙ sym (take_all limit (now ++ byte ∷ []) fits)

-- one for which there is none is left out
dropped : (bytes : List ℕ) (count byte limit : ℕ) → count ≡ limit → length bytes ≡ limit → (now : List ℕ) → take count bytes ≡ now → now ≡ take limit (now ++ byte ∷ [])
dropped bytes count byte limit full sized now is =
    let counted : length now ≡ count = ap length (sym is) ∙ length-take-le count bytes (omega arith) in
    sym (take-append-le limit now (byte ∷ []) (omega arith) ∙ take_all limit now (omega arith))

pub returns-then-self-lt-KEPT_LIMIT : goal.returns-then-self-lt-KEPT_LIMIT
returns-then-self-lt-KEPT_LIMIT c = stored c.self.inside.bytes c.self.inside.count c.args.byte kept_limit (omega arith) c.self.told c.args.self.now c.self.view_is

pub returns-else-self-lt-KEPT_LIMIT : goal.returns-else-self-lt-KEPT_LIMIT
returns-else-self-lt-KEPT_LIMIT c = dropped c.self.inside.bytes c.self.inside.count c.args.byte kept_limit (omega arith) c.self.told c.args.self.now c.self.view_is

-- Values that scalars may hold, one list after another.
use Rattle.std.proofs.Common.{◌≡◌, suc, true, false, List, [], ◌∷◌, ◌++◌, length, refl, sym, ap, ◌∙◌, append-nil, append_assoc}
use Rattle.std.proofs.lemmas.Bool.{and_parts, false≢true}
use Rattle.pli_map.specs.Description.{Description}
use Rattle.pli_map.specs.Values.{holds, are_held}
use Rattle.pli_map.proofs.FirstHeld.{held_on}
use Rattle.pli_value.specs.Value.{Value}
use Rattle.pli_bytes.specs.answers.Laying.{Taken, NoneTaken}

pub held_length : (ds : List Description) (vs : List Value) → are_held ds vs ≡ true → length vs ≡ length ds
held_length [] [] h = refl
held_length [] (v ∷ vs) h = absurd (false≢true h)
held_length (d ∷ ds) [] h = absurd (false≢true h)
held_length (d ∷ ds) (v ∷ vs) h = ap suc (held_length ds vs (and_parts (holds d v) (are_held ds vs) h).1)

-- the others are not held
pub not_after : (ds es : List Description) (vs rest : List Value) → Taken ds vs rest → NoneTaken es rest → NoneTaken (ds ++ es) vs
not_after ds es vs rest first none fs =
    ap (λ l. are_held l vs) (append_assoc ds es fs) ∙ ap (are_held (ds ++ (es ++ fs))) first.is ∙ held_on ds (es ++ fs) first.used rest first.held ∙ none fs

-- the first are not held
pub not_before : (ds es : List Description) (vs : List Value) → NoneTaken ds vs → NoneTaken (ds ++ es) vs
not_before ds es vs none fs = ap (λ l. are_held l vs) (append_assoc ds es fs) ∙ none (es ++ fs)

-- what is left when all scalars have one
pub all_taken : (ds : List Description) (vs : List Value) → Taken ds vs [] → are_held ds vs ≡ true
all_taken ds vs t = ap (are_held ds) (t.is ∙ append-nil t.used) ∙ t.held

pub some_left : (ds : List Description) (vs : List Value) (w : Value) (ws : List Value) → Taken ds vs (w ∷ ws) → are_held ds vs ≡ false
some_left ds vs w ws t =
    ap (λ l. are_held l vs) (sym (append-nil ds)) ∙ ap (are_held (ds ++ [])) t.is ∙ held_on ds [] t.used (w ∷ ws) t.held

pub none_taken : (ds : List Description) (vs : List Value) → NoneTaken ds vs → are_held ds vs ≡ false
none_taken ds vs none = ap (λ l. are_held l vs) (sym (append-nil ds)) ∙ none []

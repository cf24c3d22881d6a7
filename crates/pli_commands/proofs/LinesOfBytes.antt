-- Laws of lines: one byte more, and bytes after bytes.
use Rattle.std.proofs.Common.{◌≡◌, ℕ, ◌+◌, ◌≤◌, Bool, true, false, List, [], ◌∷◌, ◌++◌, length, refl, ap, ◌∙◌, append_assoc, append-nil, arith, if◌then◌else◌}
use Rattle.pli_commands.specs.Lines.{is_line_feed, is_carriage_return, without_return, complete_from, pending_from, complete_lines, pending_line, last_line, input_lines}

pub without_return-push : (text : List ℕ) (c : ℕ) → without_return (text ++ c ∷ []) ≡ (if is_carriage_return c then text else text ++ c ∷ [])
without_return-push [] c = refl
without_return-push (b ∷ []) c =
    elim (is_carriage_return c) as (λ v. b ∷ (if v then [] else c ∷ []) ≡ (if v then b ∷ [] else b ∷ c ∷ [])) [ true ↦ refl | false ↦ refl ]
without_return-push (b ∷ d ∷ text) c =
    ap (λ l. b ∷ l) (without_return-push (d ∷ text) c)
    ∙ elim (is_carriage_return c) as (λ v. b ∷ (if v then d ∷ text else d ∷ (text ++ c ∷ [])) ≡ (if v then b ∷ d ∷ text else b ∷ d ∷ (text ++ c ∷ []))) [ true ↦ refl | false ↦ refl ]

-- at most one byte is dropped
pub length-without_return : (text : List ℕ) → length text ≤ length (without_return text) + 1
length-without_return [] = omega arith
length-without_return (c ∷ []) = elim (is_carriage_return c) as (λ v. 1 ≤ length (if v then [] else c ∷ []) + 1) [ true ↦ omega arith | false ↦ omega arith ]
length-without_return (c ∷ d ∷ text) = omega (arith, length-without_return (d ∷ text))

pub complete_from-append : (begun xs ys : List ℕ) → complete_from begun (xs ++ ys) ≡ complete_from begun xs ++ complete_from (pending_from begun xs) ys
complete_from-append begun [] ys = refl
complete_from-append begun (c ∷ xs) ys =
    elim (is_line_feed c) as (λ v.
    (if v then without_return begun ∷ complete_from [] (xs ++ ys) else complete_from (begun ++ c ∷ []) (xs ++ ys))
    ≡ (if v then without_return begun ∷ complete_from [] xs else complete_from (begun ++ c ∷ []) xs)
    ++ complete_from (if v then pending_from [] xs else pending_from (begun ++ c ∷ []) xs) ys) [
      | true ↦ ap (λ l. without_return begun ∷ l) (complete_from-append [] xs ys)
      | false ↦ complete_from-append (begun ++ c ∷ []) xs ys
    ]

pub pending_from-append : (begun xs ys : List ℕ) → pending_from begun (xs ++ ys) ≡ pending_from (pending_from begun xs) ys
pending_from-append begun [] ys = refl
pending_from-append begun (c ∷ xs) ys =
    elim (is_line_feed c) as (λ v.
    (if v then pending_from [] (xs ++ ys) else pending_from (begun ++ c ∷ []) (xs ++ ys))
    ≡ pending_from (if v then pending_from [] xs else pending_from (begun ++ c ∷ []) xs) ys) [
      | true ↦ pending_from-append [] xs ys
      | false ↦ pending_from-append (begun ++ c ∷ []) xs ys
    ]

-- a line feed ends the line that has begun
pub complete_from-line_feed : (begun bytes : List ℕ) (c : ℕ) (more : List ℕ) → is_line_feed c ≡ true
    → complete_from begun (bytes ++ c ∷ more) ≡ complete_from begun bytes ++ without_return (pending_from begun bytes) ∷ complete_from [] more
complete_from-line_feed begun bytes c more h =
    let p = pending_from begun bytes in
    complete_from-append begun bytes (c ∷ more)
    ∙ ap (λ (v : Bool). complete_from begun bytes ++ (if v then without_return p ∷ complete_from [] more else complete_from (p ++ c ∷ []) more)) h

pub pending_from-line_feed : (begun bytes : List ℕ) (c : ℕ) → is_line_feed c ≡ true → pending_from begun (bytes ++ c ∷ []) ≡ []
pending_from-line_feed begun bytes c h =
    pending_from-append begun bytes (c ∷ []) ∙ ap (λ (v : Bool). if v then [] else pending_from begun bytes ++ c ∷ []) h

-- another byte goes on with it
pub complete_from-other : (begun bytes : List ℕ) (c : ℕ) → is_line_feed c ≡ false → complete_from begun (bytes ++ c ∷ []) ≡ complete_from begun bytes
complete_from-other begun bytes c h =
    complete_from-append begun bytes (c ∷ [])
    ∙ ap (λ (v : Bool). complete_from begun bytes ++ (if v then without_return (pending_from begun bytes) ∷ [] else [])) h
    ∙ append-nil (complete_from begun bytes)

pub pending_from-other : (begun bytes : List ℕ) (c : ℕ) → is_line_feed c ≡ false → pending_from begun (bytes ++ c ∷ []) ≡ pending_from begun bytes ++ c ∷ []
pending_from-other begun bytes c h =
    pending_from-append begun bytes (c ∷ []) ∙ ap (λ (v : Bool). if v then [] else pending_from begun bytes ++ c ∷ []) h

-- the lines of more bytes begin with those that end among the first
pub input_lines-append : (taken left : List ℕ) → (rest : List (List ℕ)) × (input_lines (taken ++ left) ≡ complete_lines taken ++ rest)
input_lines-append taken left = (
  complete_from (pending_line taken) left ++ last_line (pending_line (taken ++ left)),
  ap (λ l. l ++ last_line (pending_line (taken ++ left))) (complete_from-append [] taken left)
      ∙ append_assoc (complete_lines taken) (complete_from (pending_line taken) left) (last_line (pending_line (taken ++ left))),
)

-- A part of the bytes is taken out of the row, and put back. Assumes `Logic`.
use mathlib.Core.Path.{◌≡◌, refl, sym, ap, ◌∙◌, subst}
use Prim.Native.Nat.{ℕ, zero, suc, ◌+◌, ◌≤◌}
use native.Mathlib.Omega.{arith}
use mathlib.Core.List.{List, [], ◌∷◌, ◌++◌, append_assoc}
use lib.ListN.{length, take, drop as drop_l, take-append-drop, length-take, length-drop, length-append}
use lib.Seq.{drop-drop, take_at}
use seplogic.Ra.Ura.{Ura}
use base.Logic.{ent, sep, id⊢, snd∗, via, mono_r}
use base.Fml.{Lft, Share, Fml, fsep}
use types.Logic.{Logic, sem}
use types.Kit.{‵, ◌⊛◌, ◌$◌, ◌∵◌, !, qed, by, move, keep, use1, use2, split, rewrite, fsplit, fjoin, feq_i, feq_l, done}
use denote.Array.{Array}
use denote.Builtin.{u8}
use denote.Memory.{part_at, shared_of}
use denote.RawPtr.Bytes.{bytes, bytes_cut, bytes_glue, bytes_apart, bytes_whole}
use denote.Slice.{elements_shared}
use Rattle.std.specs.List.{refill}
use Rattle.pli_region.specs.Words.{overwritten}

module _ (xs : List ℕ) (at n : ℕ) where
  abbrev pub part : List ℕ
  part = take n (drop_l at xs)

  abbrev pub part_long : at + n ≤ length xs → length part ≡ n
  part_long le = omega (arith, length-take n (drop_l at xs), length-drop at xs)

  abbrev whole : take at xs ++ (part ++ drop_l (at + n) xs) ≡ xs
  whole = ap (λ (l : List ℕ). take at xs ++ l) (ap (λ (l : List ℕ). part ++ l) (sym (drop-drop n at xs)) ∙ take-append-drop n (drop_l at xs)) ∙ take-append-drop at xs

-- what is as long as the bytes before takes the place of all of them
pub refill_all : (n : ℕ) (old ws : List ℕ) → length ws ≡ n → refill n old ws ≡ ws
refill_all n old ws long = take_at ws (drop_l (length ws) old) n long

pub written_long : (xs : List ℕ) (at : ℕ) (ws : List ℕ) → at + length ws ≤ length xs → length (overwritten xs at ws) ≡ length xs
written_long xs at ws le =
    let rest = drop_l (at + length ws) xs in
    omega (arith, length-append (take at xs ++ ws) rest, length-append (take at xs) ws, length-take at xs, length-drop (at + length ws) xs)

module _ {M : Type 1} {𝓤 : Ura M} (𝓛 : Logic 𝓤) (b o : ℕ) (xs : List ℕ) (at n : ℕ) (q : Share) where
  -- the bytes but for the n from the place `at` on
  abbrev pub Around : Fml
  Around = fsep (bytes q (take at xs) b o) (bytes q (drop_l (at + n) xs) b (at + o + n))

  before : at + n ≤ length xs → o + length (take at xs) ≡ at + o
  before le = omega (arith, length-take at xs)

  pub part_cut : at + n ≤ length xs → ent 𝓤 (sem 𝓛 (bytes q xs b o)) (sep 𝓤 (sem 𝓛 (bytes q (part xs at n) b (at + o))) (sem 𝓛 Around))
  part_cut le =
      let run = part xs at n in let rest = drop_l (at + n) xs in
      qed 𝓛 (‵ (bytes q xs b o) ∷ []) ∵ rewrite ! 0 (λ (l : List ℕ). ‵ (bytes q l b o)) (sym (whole xs at n)) refl $
      use1 𝓛 (‵ (bytes q (take at xs) b o) ⊛ ‵ (bytes q (run ++ rest) b (o + length (take at xs)))) (bytes_cut 𝓛 q (take at xs) (run ++ rest) b o) $ split ! $ move ! (1 ∷ []) $
      rewrite ! 0 (λ (k : ℕ). ‵ (bytes q (run ++ rest) b k)) (before le) refl $
      use1 𝓛 (‵ (bytes q run b (at + o)) ⊛ ‵ (bytes q rest b (at + o + length run))) (bytes_cut 𝓛 q run rest b (at + o)) $ split ! $ move ! (1 ∷ []) $
      rewrite ! 0 (λ (k : ℕ). ‵ (bytes q rest b (at + o + k))) (part_long xs at n le) refl $ move ! (2 ∷ 0 ∷ []) $ fjoin ! $ move ! (1 ∷ []) $ done !

  glued : at + n ≤ length xs → (ws : List ℕ) → length ws ≡ n → ent 𝓤 (sep 𝓤 (sem 𝓛 (bytes q ws b (at + o))) (sem 𝓛 Around)) (sem 𝓛 (bytes q (take at xs ++ (ws ++ drop_l (at + n) xs)) b o))
  glued le ws long =
      let rest = drop_l (at + n) xs in
      qed 𝓛 (‵ (bytes q ws b (at + o)) ∷ ‵ Around ∷ []) ∵ move ! (1 ∷ []) $ fsplit ! $ move ! (2 ∷ 1 ∷ []) $
      rewrite ! 1 (λ (k : ℕ). ‵ (bytes q rest b (at + o + k))) (sym long) refl $
      use2 𝓛 (‵ (bytes q (ws ++ rest) b (at + o))) (bytes_glue 𝓛 q ws rest b (at + o)) $
      rewrite ! 0 (λ (k : ℕ). ‵ (bytes q (ws ++ rest) b k)) (sym (before le)) refl $ move ! (1 ∷ 0 ∷ []) $
      use2 𝓛 (‵ (bytes q (take at xs ++ (ws ++ rest)) b o)) (bytes_glue 𝓛 q (take at xs) (ws ++ rest) b o) $ done !

  pub part_glued : at + n ≤ length xs → (ws : List ℕ) → length ws ≡ n → ent 𝓤 (sep 𝓤 (sem 𝓛 (bytes q ws b (at + o))) (sem 𝓛 Around)) (sem 𝓛 (bytes q (overwritten xs at ws) b o))
  part_glued le ws long =
      let is : take at xs ++ (ws ++ drop_l (at + n) xs) ≡ overwritten xs at ws
      = ap (λ (k : ℕ). take at xs ++ (ws ++ drop_l (at + k) xs)) (sym long) ∙ sym (append_assoc (take at xs) ws (drop_l (at + length ws) xs)) in
      subst (λ (l : List ℕ). ent 𝓤 (sep 𝓤 (sem 𝓛 (bytes q ws b (at + o))) (sem 𝓛 Around)) (sem 𝓛 (bytes q l b o))) is (glued le ws long)

  pub part_back : at + n ≤ length xs → ent 𝓤 (sep 𝓤 (sem 𝓛 (bytes q (part xs at n) b (at + o))) (sem 𝓛 Around)) (sem 𝓛 (bytes q xs b o))
  part_back le =
      subst (λ (l : List ℕ). ent 𝓤 (sep 𝓤 (sem 𝓛 (bytes q (part xs at n) b (at + o))) (sem 𝓛 Around)) (sem 𝓛 (bytes q l b o))) (whole xs at n)
      (glued le (part xs at n) (part_long xs at n le))

  -- the part as an array
  pub array_cut : at + n ≤ length xs → ent 𝓤 (sem 𝓛 (bytes q xs b o)) (sep 𝓤 (sem 𝓛 (part_at (Array u8 n) q (part xs at n) b (at + o))) (sem 𝓛 Around))
  array_cut le =
      qed 𝓛 (‵ (bytes q xs b o) ∷ []) ∵ use1 𝓛 (‵ (bytes q (part xs at n) b (at + o)) ⊛ ‵ Around) (part_cut le) $ split ! $
      feq_i ! ℕ (length (part xs at n)) n (part_long xs at n le) $ fjoin ! $
      use1 𝓛 (‵ (part_at (Array u8 n) q (part xs at n) b (at + o))) (bytes_whole 𝓛 q n (part xs at n) b (at + o)) $ done !

  pub array_glued : at + n ≤ length xs → (ws : List ℕ) → ent 𝓤 (sep 𝓤 (sem 𝓛 (part_at (Array u8 n) q ws b (at + o))) (sem 𝓛 Around)) (sem 𝓛 (bytes q (overwritten xs at ws) b o))
  array_glued le ws =
      qed 𝓛 (‵ (part_at (Array u8 n) q ws b (at + o)) ∷ ‵ Around ∷ []) ∵
      use1 𝓛 (‵ (fsep (base.Fml.feq ℕ (length ws) n) (bytes q ws b (at + o)))) (bytes_apart 𝓛 q n ws b (at + o)) $ fsplit ! $ feq_l ! (λ long. by ! (part_glued le ws long))

  pub array_back : at + n ≤ length xs → ent 𝓤 (sep 𝓤 (sem 𝓛 (part_at (Array u8 n) q (part xs at n) b (at + o))) (sem 𝓛 Around)) (sem 𝓛 (bytes q xs b o))
  array_back le =
      qed 𝓛 (‵ (part_at (Array u8 n) q (part xs at n) b (at + o)) ∷ ‵ Around ∷ []) ∵
      use1 𝓛 (‵ (fsep (base.Fml.feq ℕ (length (part xs at n)) n) (bytes q (part xs at n) b (at + o)))) (bytes_apart 𝓛 q n (part xs at n) b (at + o)) $ fsplit ! $ feq_l ! (λ long. by ! (part_back le))

-- the same of what a reference shows
module _ {M : Type 1} {𝓤 : Ura M} (𝓛 : Logic 𝓤) (b : ℕ) (κ : Lft) where
  abbrev Seen : ℕ → List ℕ → Fml
  Seen o xs = elements_shared u8 xs b o κ

  from_on : (xs : List ℕ) (at o k : ℕ) → at ≤ length xs → k ≡ at + o → ent 𝓤 (sem 𝓛 (Seen o xs)) (sem 𝓛 (Seen k (drop_l at xs)))
  from_on xs zero o k le e = let same : o ≡ k = omega arith in subst (λ (j : ℕ). ent 𝓤 (sem 𝓛 (Seen o xs)) (sem 𝓛 (Seen j xs))) same (id⊢ 𝓤 _)
  from_on [] (suc at) o k le e = absurd (omega arith)
  from_on (x ∷ xs) (suc at) o k le e =
      via 𝓤 (sem 𝓛 (Seen (o + 1) xs)) (snd∗ 𝓤 (sem 𝓛 (shared_of u8 x b o κ)) (sem 𝓛 (Seen (o + 1) xs))) (from_on xs at (o + 1) k (omega arith) (omega arith))

  up_to : (xs ys : List ℕ) (o : ℕ) → ent 𝓤 (sem 𝓛 (Seen o (xs ++ ys))) (sem 𝓛 (Seen o xs))
  up_to [] ys o = qed 𝓛 (‵ (Seen o ys) ∷ []) ∵ keep ! [] $ done !
  up_to (x ∷ xs) ys o = mono_r 𝓤 (sem 𝓛 (shared_of u8 x b o κ)) (up_to xs ys (o + 1))

  pub part_seen : (xs : List ℕ) (at n o : ℕ) → at ≤ length xs → ent 𝓤 (sem 𝓛 (Seen o xs)) (sem 𝓛 (Seen (at + o) (take n (drop_l at xs))))
  part_seen xs at n o le =
      qed 𝓛 (‵ (Seen o xs) ∷ []) ∵ use1 𝓛 (‵ (Seen (at + o) (drop_l at xs))) (from_on xs at o (at + o) le refl) $
      rewrite ! 0 (λ (l : List ℕ). ‵ (Seen (at + o) l)) (sym (take-append-drop n (drop_l at xs))) refl $
      by ! (up_to (take n (drop_l at xs)) (drop_l n (drop_l at xs)) (at + o))

-- Blocks by marks: what a mark that is set or taken back does to them, and which block is at a position.
use Rattle.std.proofs.Common.{◌≡◌, ℕ, zero, suc, ◌+◌, ◌*◌, ◌<◌, Bool, true, false, List, [], ◌∷◌, ◌++◌, length, take, replicate, get_or, set, Some, None, refl, sym, ap, ◌∙◌, subst, arith, eq-eqb, ne_eqb, inl, inr}
use Rattle.std.proofs.lemmas.Bool.{lt-ltb, le-ltb, cases_eq, true≢false, false≢true}
use Rattle.std.proofs.lemmas.Option.{same_Some, none-some}
use Rattle.pli_area.specs.Areas.{Block, block_at, with_block, without_block}
use Rattle.pli_area.specs.views.AreaView.{block_from, blocks_from}

-- ---- a mark is set, or taken back

-- a block before all of these
in_front : (b : Block) (bytes : List ℕ) (from : ℕ) (marks : List Bool) → b.position < from + 8 → with_block (blocks_from bytes from marks) b ≡ b ∷ blocks_from bytes from marks
in_front b bytes from [] low = refl
in_front b bytes from (true ∷ marks) low = rw (lt-ltb b.position (from + 8) low) refl
in_front b bytes from (false ∷ marks) low = in_front b bytes (from + 8) marks (omega (arith, low))

pub marked : (bytes : List ℕ) (from : ℕ) (marks : List Bool) (k at : ℕ) → at ≡ from + 8 * k → k < length marks → get_or marks k false ≡ false → blocks_from bytes from (set marks k true) ≡ with_block (blocks_from bytes from marks) (block_from bytes at)
marked bytes from [] k at e l clear = absurd (omega (arith, l))
marked bytes from (true ∷ marks) zero at e l clear = absurd (true≢false clear)
marked bytes from (false ∷ marks) zero at e l clear =
    let same : at ≡ from = omega (arith, e) in
    ap (λ n. block_from bytes n ∷ blocks_from bytes (from + 8) marks) (sym same)
    ∙ sym (in_front (block_from bytes at) bytes (from + 8) marks (omega (arith, same)))
marked bytes from (true ∷ marks) (suc k) at e l clear =
    let inner = marked bytes (from + 8) marks k at (omega (arith, e)) (omega (arith, l)) clear in
    rw (le-ltb (at + 8) (from + 8) (omega (arith, e))) (ap (λ bs. block_from bytes from ∷ bs) inner)
marked bytes from (false ∷ marks) (suc k) at e l clear =
    marked bytes (from + 8) marks k at (omega (arith, e)) (omega (arith, l)) clear

pub cleared : (bytes : List ℕ) (from : ℕ) (marks : List Bool) (k at : ℕ) → at ≡ from + 8 * k → get_or marks k false ≡ true → blocks_from bytes from (set marks k false) ≡ without_block (blocks_from bytes from marks) (at + 8)
cleared bytes from [] k at e is_set = absurd (false≢true is_set)
cleared bytes from (true ∷ marks) zero at e is_set = rw (eq-eqb (from + 8) (at + 8) (omega (arith, e))) refl
cleared bytes from (false ∷ marks) zero at e is_set = absurd (false≢true is_set)
cleared bytes from (true ∷ marks) (suc k) at e is_set =
    let inner = cleared bytes (from + 8) marks k at (omega (arith, e)) is_set in
    rw (ne_eqb (from + 8) (at + 8) (omega (arith, e))) (ap (λ bs. block_from bytes from ∷ bs) inner)
cleared bytes from (false ∷ marks) (suc k) at e is_set = cleared bytes (from + 8) marks k at (omega (arith, e)) is_set

-- ---- which block is at a position

pub found : (bytes : List ℕ) (from : ℕ) (marks : List Bool) (k at : ℕ) → at ≡ from + 8 * k → get_or marks k false ≡ true → block_at (blocks_from bytes from marks) (at + 8) ≡ Some (block_from bytes at)
found bytes from [] k at e is_set = absurd (false≢true is_set)
found bytes from (true ∷ marks) zero at e is_set =
    let same : from ≡ at = omega (arith, e) in
    rw (eq-eqb (from + 8) (at + 8) (omega (arith, e))) (ap (λ n. Some (block_from bytes n)) same)
found bytes from (false ∷ marks) zero at e is_set = absurd (false≢true is_set)
found bytes from (true ∷ marks) (suc k) at e is_set =
    rw (ne_eqb (from + 8) (at + 8) (omega (arith, e))) (found bytes (from + 8) marks k at (omega (arith, e)) is_set)
found bytes from (false ∷ marks) (suc k) at e is_set = found bytes (from + 8) marks k at (omega (arith, e)) is_set

pub absent : (bytes : List ℕ) (from : ℕ) (marks : List Bool) (position : ℕ) → ((k : ℕ) → position ≡ from + 8 * k + 8 → get_or marks k false ≡ false) → block_at (blocks_from bytes from marks) position ≡ None
absent bytes from [] position none = refl
absent bytes from (true ∷ marks) position none =
    elim (cases_eq (from + 8) position) [
      | inl same ↦ absurd (true≢false (none 0 (omega (arith, same))))
      | inr other ↦ rw (ne_eqb (from + 8) position other) (absent bytes (from + 8) marks position (λ k e. none (suc k) (omega (arith, e))))
    ]
absent bytes from (false ∷ marks) position none = absent bytes (from + 8) marks position (λ k e. none (suc k) (omega (arith, e)))

-- the mark of a block that is found
pub record IsMarked (bytes : List ℕ) (from : ℕ) (marks : List Bool) (position : ℕ) (b : Block) : Type 0 where
  pub number : ℕ
  pub here : position ≡ from + 8 * number + 8
  pub is_set : get_or marks number false ≡ true
  pub block : block_from bytes (from + 8 * number) ≡ b

-- one mark further on
further : (bytes : List ℕ) (from : ℕ) (m : Bool) (marks : List Bool) (position : ℕ) (b : Block) → IsMarked bytes (from + 8) marks position b → IsMarked bytes from (m ∷ marks) position b
further bytes from m marks position b i = record {
  number = suc i.number;
  here = let e = i.here in omega (arith, e);
  is_set = i.is_set;
  block = let same : from + 8 * suc i.number ≡ from + 8 + 8 * i.number = omega arith in ap (block_from bytes) same ∙ i.block;
}

pub mark_of : (bytes : List ℕ) (from : ℕ) (marks : List Bool) (position : ℕ) (b : Block) → block_at (blocks_from bytes from marks) position ≡ Some b → IsMarked bytes from marks position b
mark_of bytes from [] position b e = absurd (none-some b e)
mark_of bytes from (true ∷ marks) position b e =
    elim (cases_eq (from + 8) position) [
      | inl same ↦ record {
        number = 0;
        here = omega (arith, same);
        is_set = refl;
        block = let start : from + 8 * 0 ≡ from = omega arith in ap (block_from bytes) start ∙ same_Some (block_from bytes from) b (sym (rw (eq-eqb (from + 8) position same) refl) ∙ e);
      }
      | inr other ↦ further bytes from true marks position b (mark_of bytes (from + 8) marks position b (sym (rw (ne_eqb (from + 8) position other) refl) ∙ e))
    ]
mark_of bytes from (false ∷ marks) position b e = further bytes from false marks position b (mark_of bytes (from + 8) marks position b e)

-- ---- other bytes

-- where each block is the same, all are
pub same_blocks : (bytes others : List ℕ) (from : ℕ) (marks : List Bool) → ((k : ℕ) → get_or marks k false ≡ true → block_from others (from + 8 * k) ≡ block_from bytes (from + 8 * k)) → blocks_from others from marks ≡ blocks_from bytes from marks
same_blocks bytes others from [] same = refl
same_blocks bytes others from (true ∷ marks) same =
    let start : from + 8 * 0 ≡ from = omega arith in
    let first = subst (λ n. block_from others n ≡ block_from bytes n) start (same 0 refl) in
    ap (λ b. b ∷ blocks_from others (from + 8) marks) first
    ∙ ap (λ bs. block_from bytes from ∷ bs) (same_blocks bytes others (from + 8) marks (λ k s. subst (λ n. block_from others n ≡ block_from bytes n) (next k) (same (suc k) s)))
  where
    next : (k : ℕ) → from + 8 * suc k ≡ from + 8 + 8 * k
    next k = omega arith
same_blocks bytes others from (false ∷ marks) same =
    same_blocks bytes others (from + 8) marks (λ k s. subst (λ n. block_from others n ≡ block_from bytes n) (next k) (same (suc k) s))
  where
    next : (k : ℕ) → from + 8 * suc k ≡ from + 8 + 8 * k
    next k = omega arith

-- ---- no marks

pub no_blocks : (bytes : List ℕ) (from count : ℕ) → blocks_from bytes from (replicate count false) ≡ []
no_blocks bytes from zero = refl
no_blocks bytes from (suc count) = no_blocks bytes (from + 8) count

-- marks that are set no more from one on
pub none_more : (bytes : List ℕ) (from : ℕ) (marks : List Bool) (k more : ℕ) → ((n : ℕ) → get_or marks n false ≡ true → n < k) → blocks_from bytes from (take k marks ++ replicate more false) ≡ blocks_from bytes from marks
none_more bytes from [] zero more below = no_blocks bytes from more
none_more bytes from [] (suc k) more below = no_blocks bytes from more
none_more bytes from (true ∷ marks) zero more below = absurd (omega (arith, below 0 refl))
none_more bytes from (false ∷ marks) zero more below =
    no_blocks bytes from more ∙ sym (no_blocks bytes (from + 8) more) ∙ none_more bytes (from + 8) marks zero more (λ n s. absurd (omega (arith, below (suc n) s)))
none_more bytes from (true ∷ marks) (suc k) more below =
    ap (λ bs. block_from bytes from ∷ bs) (none_more bytes (from + 8) marks k more (λ n s. let b = below (suc n) s in omega (arith, b)))
none_more bytes from (false ∷ marks) (suc k) more below =
    none_more bytes (from + 8) marks k more (λ n s. let b = below (suc n) s in omega (arith, b))

-- Sizes and counts up to numbers that stand for every greater one.
use Rattle.std.proofs.Common.{◌≡◌, ℕ, ◌+◌, ◌*◌, ◌≤◌, min, ◌⊎◌, inl, inr, ap, sym, ◌∙◌, arith}
use Rattle.std.specs.Int.{next_multiple_of}
use Rattle.std.proofs.lemmas.Bool.{cases_lt}
use Rattle.pli_map.specs.Description as tree
use Rattle.pli_map.specs.Sizes.{alignment_of, size_of, stride_of, end_after}
use Rattle.pli_map.proofs.Counts.{cut_factor}
use Rattle.pli_map.proofs.Members.{later}
use Rattle.pli_map.proofs.MultipleLemmas.{IsAlignment}
use Rattle.pli_map.proofs.PlaceLaws.{four_alignments}

lower : (far limit x y : ℕ) → far ≤ limit → min (x + 0) limit ≡ min (y + 0) limit → min x far ≡ min y far
lower far limit x y h e = omega arith

-- a factor that was cut at a limit changes nothing up to a lesser one
cut_first : (far limit a b : ℕ) → far ≤ limit → min (min a limit * b) far ≡ min (a * b) far
cut_first far limit a b h = lower far limit (min a limit * b) (a * b) h (cut_factor limit a b 0)

pub cut_second : (far a b : ℕ) → min (a * min b far) far ≡ min (a * b) far
cut_second far a b =
    let turned : min b far * a ≡ a * min b far = omega arith in
    let whole : b * a ≡ a * b = omega arith in
    ap (λ n. min n far) (sym turned) ∙ lower far far (min b far * a) (b * a) (omega arith) (cut_factor far b a 0) ∙ ap (λ n. min n far) whole

twice : (far limit x : ℕ) → far ≤ limit → min (min x limit) far ≡ min x far
twice far limit x h = omega arith

-- a product whose factors and itself were cut is the product up to the least of the limits
pub cut_product : (far limit a b : ℕ) → far ≤ limit → min (min (min a limit * min b far) limit) far ≡ min (a * b) far
cut_product far limit a b h = twice far limit (min a limit * min b far) h ∙ cut_first far limit a (min b far) h ∙ cut_second far a b

pub cut_both : (limit a b : ℕ) → min (min a limit * min b limit) limit ≡ min (a * b) limit
cut_both limit a b = cut_first limit limit a (min b limit) (omega arith) ∙ cut_second limit a b

next_cut : (s a : ℕ) → IsAlignment a → next_multiple_of (min s 4294967296) a ≡ min (next_multiple_of s a) 4294967296
next_cut s a (inl e) = rw e (omega arith)
next_cut s a (inr (inl e)) = rw e (omega arith)
next_cut s a (inr (inr (inl e))) = rw e (omega arith)
next_cut s a (inr (inr (inr e))) = rw e (omega arith)

-- the distance from an element to the next, made of a size that was cut
pub cut_stride : (d : tree.Description) (size alignment : ℕ) → size ≡ min (size_of d) 4294967296 → alignment ≡ alignment_of d
    → next_multiple_of size alignment ≡ min (stride_of d) 4294967296
cut_stride d size alignment size_is alignment_is = rw (size_is, alignment_is) (next_cut (size_of d) (alignment_of d) (four_alignments d))

end_cut_at : (far at : ℕ) (ds : tree.Members) → (far ≤ at) ⊎ (at ≤ far) → min (end_after (min at far) ds) far ≡ min (end_after at ds) far
end_cut_at far at ds (inl h) =
    let cut : min at far ≡ far = omega arith in
    let first = later at ds in
    let second = later far ds in
    rw cut (omega (arith, first, second))
end_cut_at far at ds (inr h) = let cut : min at far ≡ at = omega arith in ap (λ n. min (end_after n ds) far) cut

le_cases : (a b : ℕ) → (a ≤ b) ⊎ (b ≤ a)
le_cases a b = elim (cases_lt a b) [ inl h ↦ inl (omega arith) | inr h ↦ inr (omega arith) ]

-- where members end is the same up to a limit where it was cut on the way
pub end_cut : (far at : ℕ) (ds : tree.Members) → min (end_after (min at far) ds) far ≡ min (end_after at ds) far
end_cut far at ds = end_cut_at far at ds (le_cases far at)

-- one more member: what is left after it ends where what was left before it does
pub end_step : (at size start next : ℕ) (left others : tree.Members) (d : tree.Description) (whole : ℕ) → left ≡ tree.MemberThen d others
    → start ≡ next_multiple_of at (alignment_of d) → size ≡ min (size_of d) 4294967296 → next ≡ min (start + size) 4294967296
    → min (end_after at left) 4294967296 ≡ whole → min (end_after next others) 4294967296 ≡ whole
end_step at size start next left others d whole left_is start_is size_is next_is so_far =
    let real = next_multiple_of at (alignment_of d) + size_of d in
    let cut : next ≡ min real 4294967296 = omega (arith, start_is, size_is, next_is) in
    ap (λ n. min (end_after n others) 4294967296) cut ∙ end_cut 4294967296 real others
    ∙ ap (λ m. min (end_after at m) 4294967296) (sym left_is) ∙ so_far

-- a count so far, with one dimension more
pub count_step : (limit whole count extent others left next : ℕ) → next ≡ min (extent * count) limit → left ≡ extent * others
    → min (count * left) limit ≡ whole → min (next * others) limit ≡ whole
count_step limit whole count extent others left next next_is left_is so_far =
    let cut = cut_factor limit (extent * count) others 0 in
    let same : extent * count * others + 0 ≡ count * left = rw left_is (omega arith) in
    let plain : min (extent * count) limit * others + 0 ≡ next * others = rw next_is (omega arith) in
    ap (λ n. min n limit) (sym plain) ∙ cut ∙ ap (λ n. min n limit) same ∙ so_far

-- The items of ALLOCATE in turn, the temporaries of each after those before it.
use Rattle.std.proofs.Common.{◌≡◌, ◌++◌, ◌+◌, ◌<◌, ◌≤◌, ℕ, [], ◌∷◌, List, Ok, Err, Result, map, drop, get_or, length, ap, sym, ◌∙◌, append-nil}
use Rattle.std.proofs.lemmas.List.{at_drop_all}
use Rattle.pli_base.specs.Results.{◌>>=◌}
use Rattle.pli_base.specs.Statements as tree
use Rattle.pli_base.specs.answers.FailureAnswers.{Fails}
use Rattle.pli_base.specs.declared.failure.Failure.{Failure}
use Rattle.pli_base.specs.declared.failure.Failure.TheVariants as errors
use Rattle.pli_base.specs.declared.statement.Allocation.{Allocation}
use Rattle.pli_base.specs.declared.token.Fault.{Fault}
use Rattle.pli_base.specs.views.StatementView.{allocation_view}
use Rattle.pli_type_rules.specs.AllocationTyping.{allocated, all_allocated, kept_for}
use Rattle.pli_type_rules.specs.Names.{Naming}
use Rattle.pli_type_tree.specs.TypedTree.{AllocatedItem}
use Rattle.pli_type_allocation.proofs.InTurn.{after, front, one_after}

module _ (n : Naming) (es : List Allocation) (i : ℕ) where
  -- those that are left, from this temporary on, after those so far
  abbrev pub left : (from : ℕ) → List AllocatedItem → (temporary : ℕ) → Result (List AllocatedItem) Fault
  left from xs temporary = after xs (all_allocated n temporary (map allocation_view (drop from es)))

  one_then : (xs : List AllocatedItem) (y : AllocatedItem) (k : ℕ) (a : tree.Allocation) (more : List tree.Allocation)
      → allocated n k a ≡ Ok y
      → after xs (all_allocated n k (a ∷ more)) ≡ after (xs ++ y ∷ []) (all_allocated n (k + kept_for y) more)
  one_then xs y k a more h =
      ap (λ r. after xs (r >>= λ z. all_allocated n (k + kept_for z) more >>= λ zs. Ok (z ∷ zs))) h
      ∙ one_after xs y (all_allocated n (k + kept_for y) more)

  one_faulty : (xs : List AllocatedItem) (f : Fault) (k : ℕ) (a : tree.Allocation) (more : List tree.Allocation)
      → allocated n k a ≡ Err f → after xs (all_allocated n k (a ∷ more)) ≡ Err f
  one_faulty xs f k a more h =
      ap (λ r. after xs (r >>= λ z. all_allocated n (k + kept_for z) more >>= λ zs. Ok (z ∷ zs))) h

  pub item_typed : (e : Allocation) (xs ys : List AllocatedItem) (x : AllocatedItem) (k next : ℕ)
      (whole : Result (List AllocatedItem) Fault) → e ≡ get_or es i e → i < length es
      → allocated n k (allocation_view e) ≡ Ok x → ys ≡ xs ++ x ∷ [] → next ≡ k + kept_for x
      → left i xs k ≡ whole → left (i + 1) ys next ≡ whole
  item_typed e xs ys x k next whole is within h put counted was =
      ap (λ zs. after zs (all_allocated n next (map allocation_view (drop (i + 1) es)))) put
      ∙ ap (λ m. after (xs ++ x ∷ []) (all_allocated n m (map allocation_view (drop (i + 1) es)))) counted
      ∙ sym (one_then xs x k (allocation_view e) (map allocation_view (drop (i + 1) es)) h)
      ∙ sym (front (λ bs. after xs (all_allocated n k (map allocation_view bs))) es i e is within)
      ∙ was

  pub item_stops : (e : Allocation) (xs : List AllocatedItem) (k : ℕ) (error : Failure Fault)
      (whole : Result (List AllocatedItem) Fault) → e ≡ get_or es i e → i < length es
      → Fails error (allocated n k (allocation_view e)) → left i xs k ≡ whole → Fails error whole
  item_stops e xs k errors.OutOfMemory whole is within h was = tt
  item_stops e xs k (errors.Fault f) whole is within h was =
      sym was ∙ front (λ bs. after xs (all_allocated n k (map allocation_view bs))) es i e is within
      ∙ one_faulty xs f k (allocation_view e) (map allocation_view (drop (i + 1) es)) h

  pub items_typed : (xs : List AllocatedItem) (k : ℕ) (whole : Result (List AllocatedItem) Fault) → length es ≤ i
      → left i xs k ≡ whole → whole ≡ Ok xs
  items_typed xs k whole past was =
      sym was ∙ at_drop_all (λ bs. after xs (all_allocated n k (map allocation_view bs))) es i past ∙ ap Ok (append-nil xs)

-- What a binary search for a name finds in a store.
use Rattle.std.proofs.Common.{◌≡◌, ℕ, zero, suc, ◌+◌, ◌<◌, ◌≤◌, List, [], ◌∷◌, length, Result, Ok, Err, IfOk, IfErr, Some, sym, ap, ◌∙◌, subst, arith, slice_get, get_or, inl, inr}
use Rattle.std.specs.List.{HoldsAt}
use Rattle.std.specs.List.Sorted.{IsStrictlySortedBy, IsSearchInRange, IsBinarySearchResult, IsPartitionPoint, IsNonDecreasingBy, IsSortedBy}
use Rattle.std.specs.declared.cmp.Ordering.TheVariants.{Less, Equal, Greater}
use Rattle.std.specs.Ordering.{ordering_index, is_lt}
use Rattle.std.specs.Cmp.Lexicographic.{nat_list_cmp_total}
use Rattle.std.specs.Map.{keys_of}
use Rattle.std.proofs.lemmas.Cmp.{eq_by_cmp_equiv}
use Rattle.std.proofs.lemmas.Option.{slice_get_cases, get_or_from_slice_get}
use Rattle.std.proofs.lemmas.List.{get_or-map, length-map}
use Rattle.std.proofs.lemmas.List.Sorted.{searchable_from_sorted}
use Rattle.std.proofs.lemmas.Map.Entries.{lookup_from_place, lookup_at_gap}
use Rattle.std.proofs.lemmas.Map.Keys.{IsDistinct-from_sorted, Less-from_sorted}
use Rattle.std.proofs.lemmas.Map.Lookups.{exact_bytes}
use Rattle.pli_base.specs.Name.{Name}
use Rattle.pli_members.specs.Members.{Member, Store, names_of, name_order}
use Rattle.pli_members.specs.answers.Search.{IsPlace, IsGap}
use Rattle.pli_members.proofs.EditsAtPlace.{insert-at_gap, set-at_place, remove-at_place, above_first, compares_at, above, below}

-- an element stands within its list
in_range_from_slice_get : {X : Type 0} (xs : List X) (i : ℕ) (x : X) → slice_get xs i ≡ Some x → i < length xs
in_range_from_slice_get [] i x h = cc
in_range_from_slice_get (y ∷ xs) zero x h = omega arith
in_range_from_slice_get (y ∷ xs) (suc i) x h = omega (arith, in_range_from_slice_get xs i x h)

-- sorted entries are sorted for a search
sorted_by_key : (es : List (Name × Member)) → IsStrictlySortedBy name_order (keys_of es) → IsSortedBy (λ a b. is_lt (name_order a.0 b.0)) es
sorted_by_key es sorted k d low high =
    let first = get_or-map (λ (e : Name × Member). e.0) es k d d.0 (omega arith) in
    let second = get_or-map (λ (e : Name × Member). e.0) es (k + 1) d d.0 high in
    let rises = Less-from_sorted name_order (keys_of es) k (k + 1) d.0 sorted (omega arith) (simp length-map high) in
    let rising : name_order (get_or es k d).0 (get_or es (k + 1) d).0 ≡ Less = sym (ap (λ n. name_order n (get_or es (k + 1) d).0) first) ∙ sym (ap (name_order (get_or (keys_of es) k d.0)) second) ∙ rises in
    ap is_lt (above nat_list_cmp_total (get_or es (k + 1) d).0 (get_or es k d).0 rising)

module _ (s : Store) (sorted : IsStrictlySortedBy name_order (names_of s)) (name : Name) where
  -- an entry of the name
  pub place_of_entry : (at : ℕ) (m : Member) → slice_get s.entries at ≡ Some (name, m) → IsPlace s name at
  place_of_entry at m stands = record {
    member = m;
    stands = stands;
    found = lookup_from_place (eq_by_cmp_equiv nat_list_cmp_total) s.entries at name m (IsDistinct-from_sorted name_order (names_of s) sorted) stands;
    writes = λ w. set-at_place name_order name nat_list_cmp_total w m s.entries at sorted stands;
    takes = remove-at_place name_order name nat_list_cmp_total m s.entries at sorted stands;
  }

  -- a search that hits
  pub searched_hit : (at : ℕ) → at < length s.entries → HoldsAt (λ e. name_order e.0 name ≡ Equal) s.entries at → IsPlace s name at
  searched_hit at in_range holds =
      elim (slice_get_cases s.entries at).1 [
        | inl h ↦ place_of_entry at h.0.1 (h.2 ∙ ap (λ (n : Name). Some (n, h.0.1)) (exact_bytes h.0.0 name (subst (λ (e : Name × Member). name_order e.0 name ≡ Equal) h.3 (holds h.0))))
        | inr h ↦ absurd (omega (arith, h.0))
      ]

  -- a search that misses
  pub searched_miss : (at : ℕ) → at ≤ length s.entries → (IsNonDecreasingBy (λ e. ordering_index (name_order e.0 name)) s.entries → IsPartitionPoint (λ e. name_order e.0 name ≡ Less) (λ e. name_order e.0 name ≡ Greater) s.entries at) → IsGap s name at
  searched_miss at in_range parts =
      let parted = parts (searchable_from_sorted nat_list_cmp_total (λ (e : Name × Member). e.0) s.entries name (sorted_by_key s.entries sorted)) in
      record {
        in_range = in_range;
        absent = lookup_at_gap nat_list_cmp_total name s.entries at sorted
            (λ j e before here. above nat_list_cmp_total name e.0 (subst (λ (x : Name × Member). name_order x.0 name ≡ Less) (get_or_from_slice_get s.entries j e e here) (parted.0 j e (omega arith) before)))
            (λ e here. below nat_list_cmp_total name e.0 (subst (λ (x : Name × Member). name_order x.0 name ≡ Greater) (get_or_from_slice_get s.entries at e e here) (parted.1 at e (omega arith) (in_range_from_slice_get s.entries at e here))));
        puts = λ m. insert-at_gap name_order name m s.entries at (above_first name_order name nat_list_cmp_total s.entries at in_range parted.0) (compares_at name_order name nat_list_cmp_total s.entries at parted.1);
      }

  -- either
  pub searched : (r : Result ℕ ℕ) → IsSearchInRange r (length s.entries) → IsBinarySearchResult (λ e. name_order e.0 name) s.entries r → record { found : IfOk r (IsPlace s name); absent : IfErr r (IsGap s name) }
  searched (Ok at) in_range holds = record { found = searched_hit at in_range holds; absent = tt }
  searched (Err at) in_range parts = record { found = tt; absent = searched_miss at in_range parts }

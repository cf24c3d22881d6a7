-- Members stand after the items that they are members of, and a bound that is enough describes them.
use Rattle.std.proofs.Common.{◌≡◌, ℕ, zero, suc, ◌+◌, ◌<◌, ◌≤◌, ◌==◌, true, false, if◌then◌else◌, Option, Some, None, IfSome, option_map, List, [], ◌∷◌, length, get_or, refl, ap, ◌∙◌, subst, arith, ◌-◌}
use Rattle.std.specs.Option.{unwrap_or}
use Rattle.std.proofs.lemmas.List.{get_or-map, length-map}
use Rattle.std.proofs.lemmas.Bool.{eqb-true}
use Rattle.pli_base.specs.declared.code.Code.{Code}
use Rattle.pli_map.specs.Description.{Description}
use Rattle.pli_declare.specs.Extents.{all_bounds}
use Rattle.pli_declare.specs.Faults.{with_bounds}
use Rattle.pli_declare.specs.answers.Owners.{AreAfterOwners}
use Rattle.pli_declare.specs.Tables.{Entry, no_entry, written}
use Rattle.pli_declare.specs.Places.{owner_is, members_of, item_of}
use Rattle.pli_declare.specs.Descriptions.{is_of_shape, scalar_at, member_then, members_made, inside, described}
use Rattle.pli_declare.proofs.NumberListLemmas.{filtered}

-- an owner stands before its members
pub before : (entries : List Entry) → AreAfterOwners entries → (k o : ℕ) → k < length entries → (get_or entries k no_entry).owner ≡ Some o → o < k
before entries owners k o within is =
    let h = owners k (omega (arith, length-map entries written, within)) in
    let e = get_or-map written entries k no_entry (record { name = []; owner = None }) within in
    let there : IfSome (get_or entries k no_entry).owner (λ o. o < k) = subst (λ w. IfSome w.owner (λ o. o < k)) e h in
    subst (λ x. IfSome x (λ o. o < k)) is there

named : (x : Option ℕ) (n : ℕ) → unwrap_or (option_map (λ o. o == n) x) false ≡ true → x ≡ Some n
named None n h = cc
named (Some o) n h = ap Some (eqb-true o n h)

-- members are after their owner
pub members_stand : (entries : List Entry) → AreAfterOwners entries → (n i : ℕ) → i < length (members_of entries n)
    → (n < get_or (members_of entries n) i 0) × (get_or (members_of entries n) i 0 < length entries)
members_stand entries owners n =
    filtered (λ k. owner_is n (get_or entries k no_entry)) (λ k. (n < k) × (k < length entries)) 0 (length entries)
    (λ k from to e. (before entries owners k n (omega (arith, to)) (named (get_or entries k no_entry).owner n e), omega (arith, to)))

same_made : (f g : ℕ → Option Description) (ks : List ℕ) → ((i : ℕ) → i < length ks → f (get_or ks i 0) ≡ g (get_or ks i 0)) → members_made f ks ≡ members_made g ks
same_made f g [] h = refl
same_made f g (k ∷ ks) h =
    ap (λ d. member_then d (members_made f ks)) (h 0 (omega arith)) ∙ ap (member_then (g k)) (same_made f g ks (λ i within. h (suc i) (omega (arith, within))))

pub same_inside : (f g : ℕ → Option Description) (scalar : Description) (ks : List ℕ) → ((i : ℕ) → i < length ks → f (get_or ks i 0) ≡ g (get_or ks i 0))
    → inside f scalar ks ≡ inside g scalar ks
same_inside f g scalar [] h = refl
same_inside f g scalar (k ∷ ks) h = ap (option_map _) (same_made f g (k ∷ ks) h)

-- a bound that is enough gives what a greater one gives
pub enough : (entries : List Entry) → AreAfterOwners entries → (codes : List (Option Code)) (a b n : ℕ) → n < length entries → length entries ≤ a + n → length entries ≤ b + n
    → described a entries codes n ≡ described b entries codes n
enough entries owners codes zero b n within p q = absurd (omega arith)
enough entries owners codes (suc a) zero n within p q = absurd (omega arith)
enough entries owners codes (suc a) (suc b) n within p q =
    ap (λ d. if is_of_shape (get_or codes n None) then None else option_map (with_bounds (all_bounds (item_of entries n).dimensions)) d)
    (same_inside (described a entries codes) (described b entries codes) (scalar_at entries n) (members_of entries n)
    (λ i there. let stands = members_stand entries owners n i there in
    enough entries owners codes a b (get_or (members_of entries n) i 0) stands.1 (omega (arith, stands.0, p)) (omega (arith, stands.0, q))))

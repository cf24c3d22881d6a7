-- The owner that is found is the nearest item before with a lesser level, of an item of a level over 1.
use Rattle.std.proofs.Common.{◌≡◌, ℕ, zero, suc, ◌+◌, ◌<◌, ◌≤◌, ◌⊎◌, inl, inr, ◌↔◌, Bool, true, false, IsTrue, nat_lt, nat_eq, ◌||◌, ◌&&◌, List, [], ◌∷◌, ◌++◌, length, map, get_or, take, append_assoc, append-nil, Option, None, Some, if◌then◌else◌, refl, sym, ap, subst, ◌∙◌, arith, rules}
use Rattle.std.proofs.lemmas.Bool.{cases_lt}
use Rattle.std.proofs.lemmas.Bool.Decides.{nat_tests}
use Rattle.std.proofs.lemmas.List.{get_or-map, length-map, get_or-take, length-take-le}
use Rattle.std.specs.Option.{is_none}
use Rattle.pli_declare_scopes.specs.declared.level.Numbered.{Numbered}
use Rattle.pli_declare_scopes.specs.declared.level.ItemStanding.{ItemStanding}
use Rattle.pli_declare_scopes.specs.Levels.{level_of, nearest_after, nearest, owner_of, is_bad, standing, standings_after}
use Rattle.pli_declare_scopes.specs.laws.LevelLaws.{level_at, stands_at, Belongs, IsLeast, HasNoOwner, IsBadLevel, AllStand, OwnersAreNearest, OwnersAreMissed, BadLevelsAreFound, LevelOneHasNoOwner, LevelsFall}

-- levels with the numbers of their items
abbrev pub numbered : ℕ → List ℕ → List Numbered
numbered n [] = []
numbered n (l ∷ ls) = record { number = n; level = l } ∷ numbered (n + 1) ls

stands_after : (ls : List ℕ) (before : List Numbered) (n i : ℕ) (d : ItemStanding) → i < length ls
    → get_or (standings_after before n ls) i d ≡ standing (get_or ls i 0) (nearest (get_or ls i 0) (before ++ numbered n (take i ls)))
stands_after [] before n i d lt = absurd (omega arith)
stands_after (l ∷ ls) before n zero d lt = ap (λ is. standing l (nearest l is)) (sym (append-nil before))
stands_after (l ∷ ls) before n (suc i) d lt =
    let x : Numbered = record { number = n; level = l } in
    stands_after ls (before ++ x ∷ []) (n + 1) i d (omega arith)
    ∙ ap (λ is. standing (get_or ls i 0) (nearest (get_or ls i 0) is)) (append_assoc before (x ∷ []) (numbered (n + 1) (take i ls)))

-- none of the levels is lesser
abbrev NoneLesser : ℕ → List ℕ → Type 0
NoneLesser level qs = (k : ℕ) → k < length qs → level ≤ get_or qs k 0

-- the last lesser level is this one
record LastLesser (level : ℕ) (qs : List ℕ) (j : ℕ) : Type 0 where
  within : j < length qs
  lesser : get_or qs j 0 < level
  after : (k : ℕ) → j < k → k < length qs → level ≤ get_or qs k 0

none_more : (level q : ℕ) (qs : List ℕ) → level ≤ q → NoneLesser level qs → NoneLesser level (q ∷ qs)
none_more level q qs le rest zero lt = le
none_more level q qs le rest (suc k) lt = rest k (omega arith)

last_here : (level q : ℕ) (qs : List ℕ) → q < level → NoneLesser level qs → LastLesser level (q ∷ qs) 0
last_here level q qs lt rest = record { within = omega arith; lesser = lt; after = by }
  where
    by : (k : ℕ) → 0 < k → k < length (q ∷ qs) → level ≤ get_or (q ∷ qs) k 0
    by zero a b = absurd (omega arith)
    by (suc k) a b = rest k (omega arith)

last_after : (level q : ℕ) (qs : List ℕ) (j : ℕ) → LastLesser level qs j → LastLesser level (q ∷ qs) (suc j)
last_after level q qs j h = record { within = omega arith; lesser = h.lesser; after = by }
  where
    by : (k : ℕ) → suc j < k → k < length (q ∷ qs) → level ≤ get_or (q ∷ qs) k 0
    by zero a b = absurd (omega arith)
    by (suc k) a b = h.after k (omega arith) (omega arith)

abbrev Near : Option ℕ → ℕ → ℕ → List ℕ → Type 0
Near found level n qs = ((nearest_after found level (numbered n qs) ≡ found) × NoneLesser level qs)
    ⊎ ((j : ℕ) × (nearest_after found level (numbered n qs) ≡ Some (n + j)) × LastLesser level qs j)

near_more : (q : ℕ) (qs : List ℕ) (found : Option ℕ) (level n : ℕ) (b : Bool) → nat_lt q level ≡ b → Near (if b then Some n else found) level (n + 1) qs → Near found level n (q ∷ qs)
near_more q qs found level n true e rest =
    let same : nearest_after found level (numbered n (q ∷ qs)) ≡ nearest_after (Some n) level (numbered (n + 1) qs) = ap (λ b. nearest_after (if b then Some n else found) level (numbered (n + 1) qs)) e in
    elim rest [
      | inl h ↦ inr (0, same ∙ h.0 ∙ ap (λ (m : ℕ). Some m) (omega arith), last_here level q qs (search (rules, nat_tests)) h.1)
      | inr h ↦ inr (suc h.0, same ∙ h.1 ∙ ap (λ (m : ℕ). Some m) (omega arith), last_after level q qs h.0 h.2)
    ]
near_more q qs found level n false e rest =
    let same : nearest_after found level (numbered n (q ∷ qs)) ≡ nearest_after found level (numbered (n + 1) qs) = ap (λ b. nearest_after (if b then Some n else found) level (numbered (n + 1) qs)) e in
    elim rest [
      | inl h ↦ inl (same ∙ h.0, none_more level q qs (search (rules, nat_tests)) h.1)
      | inr h ↦ inr (suc h.0, same ∙ h.1 ∙ ap (λ (m : ℕ). Some m) (omega arith), last_after level q qs h.0 h.2)
    ]

near : (qs : List ℕ) (found : Option ℕ) (level n : ℕ) → Near found level n qs
near [] found level n = inl (refl, λ k lt. absurd (omega arith))
near (q ∷ qs) found level n = near_more q qs found level n (nat_lt q level) refl (near qs (if nat_lt q level then Some n else found) level (n + 1))

module _ (levels : List (Option ℕ)) (n : ℕ) (lt : n < length levels) where
  abbrev pub found : Option ℕ
  found = nearest (level_at levels n) (numbered 0 (take n (map level_of levels)))

  here : get_or (map level_of levels) n 0 ≡ level_at levels n
  here = get_or-map level_of levels n None 0 lt

  long : n < length (map level_of levels)
  long = omega (arith, length-map levels level_of)

  count : length (take n (map level_of levels)) ≡ n
  count = length-take-le n (map level_of levels) (omega (arith, length-map levels level_of))

  each : (k : ℕ) → k < n → get_or (take n (map level_of levels)) k 0 ≡ level_at levels k
  each k le = get_or-take n (map level_of levels) k 0 le ∙ get_or-map level_of levels k None 0 (omega arith)

  pub stands : stands_at levels n ≡ standing (level_at levels n) found
  stands =
      stands_after (map level_of levels) [] 0 n (standing 1 None) long
      ∙ ap (λ q. standing q (nearest q (numbered 0 (take n (map level_of levels))))) here

  abbrev level : ℕ
  level = level_at levels n

  owner_is : (stands_at levels n).owner ≡ owner_of level found
  owner_is = ap (λ s. s.owner) stands

  near_here : Near None level 0 (take n (map level_of levels))
  near_here = near (take n (map level_of levels)) None level 0

  nothing_before : NoneLesser level (take n (map level_of levels)) → IsLeast levels n
  nothing_before h k le = omega (arith, h k, each k le, count)

  lesser_before : (j : ℕ) → LastLesser level (take n (map level_of levels)) j → (j < n) × (level_at levels j < level) × ((k : ℕ) → j < k → k < n → level ≤ level_at levels k)
  lesser_before j h =
      let within : j < n = omega (arith, count, h.within) in
      (within, omega (arith, each j within, h.lesser), λ k a b. omega (arith, each k b, h.after k, count))

  only_there : (i j : ℕ) → LastLesser level (take n (map level_of levels)) i → Belongs levels n j → i ≡ j
  only_there i j h b =
      let within : i < n = omega (arith, count, h.within) in
      grind (arith, each i within, each j b.before, h.lesser, h.after j, b.lesser, b.nearest i, count)

  -- what is found is the nearest, or there is none
  pub found_least : (found ≡ None) ↔ IsLeast levels n
  found_least = (to, from)
    where
      to : found ≡ None → IsLeast levels n
      to e = elim near_here [
        | inl h ↦ nothing_before h.1
        | inr h ↦ let bad : Some (0 + h.0) ≡ None = sym h.1 ∙ e in cc
      ]

      from : IsLeast levels n → found ≡ None
      from none = elim near_here [
        | inl h ↦ h.0
        | inr h ↦ let b = lesser_before h.0 h.2 in absurd (omega (arith, none h.0 b.0, b.1))
      ]

  owned : (t : Bool) → nat_lt 1 level ≡ t → (stands_at levels n).owner ≡ (if t then found else None)
  owned t e = owner_is ∙ ap (λ b. if b then found else None) e

  pub owner_found : (owner : ℕ) → ((stands_at levels n).owner ≡ Some owner) ↔ Belongs levels n owner
  owner_found owner = (to (nat_lt 1 level) refl, from (nat_lt 1 level) refl)
    where
      to : (t : Bool) → nat_lt 1 level ≡ t → (stands_at levels n).owner ≡ Some owner → Belongs levels n owner
      to false test e = let bad : None ≡ Some owner = sym (owned false test) ∙ e in cc
      to true test e = elim near_here [
        | inl h ↦ let bad : None ≡ Some owner = sym h.0 ∙ sym (owned true test) ∙ e in cc
        | inr h ↦
            let same : Some (0 + h.0) ≡ Some owner = sym h.1 ∙ sym (owned true test) ∙ e in
            let at : 0 + h.0 ≡ owner = cc in
            let j : h.0 ≡ owner = omega arith in
            let b = lesser_before h.0 h.2 in
            let over : 1 < level = search (rules, nat_tests) in
            subst (Belongs levels n) j (record { over_one = over; before = b.0; lesser = b.1; nearest = b.2 })
      ]

      from : (t : Bool) → nat_lt 1 level ≡ t → Belongs levels n owner → (stands_at levels n).owner ≡ Some owner
      from false test b = absurd (grind (arith, nat_tests, b.over_one))
      from true test b = elim near_here [
        | inl h ↦ absurd (omega (arith, nothing_before h.1 owner b.before, b.lesser))
        | inr h ↦ owned true test ∙ h.1 ∙ ap (λ (m : ℕ). Some m) (let at : h.0 ≡ owner = only_there h.0 owner h.2 b in let sum : 0 + h.0 ≡ owner = omega arith in sum)
      ]

  pub owner_missed : ((stands_at levels n).owner ≡ None) ↔ HasNoOwner levels n
  owner_missed = (to (nat_lt 1 level) refl, from (nat_lt 1 level) refl)
    where
      to : (t : Bool) → nat_lt 1 level ≡ t → (stands_at levels n).owner ≡ None → HasNoOwner levels n
      to false test e = inl (grind (arith, nat_tests))
      to true test e = inr (found_least.0 (sym (owned true test) ∙ e))

      from : (t : Bool) → nat_lt 1 level ≡ t → HasNoOwner levels n → (stands_at levels n).owner ≡ None
      from false test none = owned false test
      from true test none = elim none [
        | inl least ↦ absurd (grind (arith, nat_tests, least))
        | inr least ↦ owned true test ∙ found_least.1 least
      ]

stand_count : (ls : List ℕ) (before : List Numbered) (n : ℕ) → length (standings_after before n ls) ≡ length ls
stand_count [] before n = refl
stand_count (l ∷ ls) before n = ap (λ m. suc m) (stand_count ls (before ++ record { number = n; level = l } ∷ []) (n + 1))

pub all_stand : AllStand
all_stand levels = stand_count (map level_of levels) [] 0 ∙ length-map levels level_of

pub owners_are_nearest : OwnersAreNearest
owners_are_nearest levels n owner lt = owner_found levels n lt owner

pub owners_are_missed : OwnersAreMissed
owners_are_missed levels n lt = owner_missed levels n lt

-- a bad level, by its three tests
abbrev Bad : ℕ → Option ℕ → Type 0
Bad level owner = (level ≡ 0) ⊎ (255 < level) ⊎ ((1 < level) × (owner ≡ None))

bad_to : (level : ℕ) (owner : Option ℕ) (a b c : Bool) → nat_eq level 0 ≡ a → nat_lt 255 level ≡ b → nat_lt 1 level ≡ c → (a || b || c && is_none owner) ≡ true → Bad level owner
bad_to level owner true b c p q r h = inl (grind (arith, nat_tests))
bad_to level owner false true c p q r h = inr (inl (search (rules, nat_tests)))
bad_to level None false false true p q r h = inr (inr (search (rules, nat_tests), refl))
bad_to level (Some o) false false true p q r h = cc
bad_to level owner false false false p q r h = cc

bad_from : (level : ℕ) (owner : Option ℕ) (a b c : Bool) → nat_eq level 0 ≡ a → nat_lt 255 level ≡ b → nat_lt 1 level ≡ c → Bad level owner → (a || b || c && is_none owner) ≡ true
bad_from level owner true b c p q r h = refl
bad_from level owner false true c p q r h = refl
bad_from level None false false true p q r h = refl
bad_from level (Some o) false false true p q r h = elim h [
  | inl z ↦ absurd (grind (arith, nat_tests))
  | inr s ↦ elim s [ inl lt ↦ absurd (grind (arith, nat_tests)) | inr t ↦ (let bad : Some o ≡ None = t.1 in cc) ]
]
bad_from level owner false false false p q r h = elim h [
  | inl z ↦ absurd (grind (arith, nat_tests))
  | inr s ↦ elim s [ inl lt ↦ absurd (grind (arith, nat_tests)) | inr t ↦ absurd (grind (arith, nat_tests, t.0)) ]
]

pub bad_levels_are_found : BadLevelsAreFound
bad_levels_are_found levels n lt = (to, from)
  where
    tests : (stands_at levels n).is_bad ≡ is_bad (level_at levels n) (found levels n lt)
    tests = ap (λ s. s.is_bad) (stands levels n lt)

    to : IsTrue (stands_at levels n).is_bad → IsBadLevel levels n
    to h = elim (bad_to (level_at levels n) (found levels n lt) _ _ _ refl refl refl (sym tests ∙ h)) [
      | inl z ↦ inl z
      | inr s ↦ elim s [ inl big ↦ inr (inl big) | inr t ↦ inr (inr (t.0, (found_least levels n lt).0 t.1)) ]
    ]

    from : IsBadLevel levels n → IsTrue (stands_at levels n).is_bad
    from h = tests ∙ bad_from (level_at levels n) (found levels n lt) _ _ _ refl refl refl (elim h [
      | inl z ↦ inl z
      | inr s ↦ elim s [ inl big ↦ inr (inl big) | inr t ↦ inr (inr (t.0, (found_least levels n lt).1 t.1)) ]
    ])

pub level_one_has_no_owner : LevelOneHasNoOwner
level_one_has_no_owner levels n lt good = (to, from)
  where
    not_bad : IsBadLevel levels n → ⊥
    not_bad h = let bad : true ≡ false = sym ((bad_levels_are_found levels n lt).1 h) ∙ good in cc

    positive : (level_at levels n ≡ 0) → ⊥
    positive none = not_bad (inl none)

    least : (level_at levels n ≤ 1) → level_at levels n ≡ 1
    least le = grind (arith, le, positive)

    to : (stands_at levels n).owner ≡ None → level_at levels n ≡ 1
    to e = elim ((owners_are_missed levels n lt).0 e) [
      | inl le ↦ least le
      | inr none ↦ elim (cases_lt 1 (level_at levels n)) [ inl over ↦ absurd (not_bad (inr (inr (over, none)))) | inr le ↦ least (omega (arith, le)) ]
    ]

    from : level_at levels n ≡ 1 → (stands_at levels n).owner ≡ None
    from one = (owners_are_missed levels n lt).1 (inl (omega (arith, one)))

pub levels_fall : LevelsFall
levels_fall levels zero n owner lt c =
    let b = (owners_are_nearest levels n c.0 lt).0 c.1 in
    (omega (arith, b.before, c.2), subst (λ (o : ℕ). level_at levels o < level_at levels n) (sym c.2) b.lesser)
levels_fall levels (suc k) n owner lt c =
    let b = (owners_are_nearest levels n c.0 lt).0 c.1 in
    let rest = levels_fall levels k c.0 owner (omega (arith, b.before, lt)) c.2 in
    (omega (arith, b.before, rest.0), omega (arith, b.lesser, rest.1))

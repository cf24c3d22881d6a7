-- The nearest item with a lesser level.
use Rattle.std.proofs.Common.{◌≡◌, ℕ, ◌+◌, ◌-◌, ◌<◌, ◌≤◌, Bool, true, false, nat_lt, List, [], ◌∷◌, ◌++◌, length, map, get_or, take, drop, append_assoc, Option, None, Some, if◌then◌else◌, refl, sym, ap, ◌∙◌, arith, rules}
use Rattle.std.proofs.lemmas.Bool.Decides.{nat_tests}
use Rattle.std.proofs.lemmas.List.{take_more, at_drop_more}
use Rattle.std.proofs.Math.Seq.{take-length}
use Rattle.pli_declare_scopes.specs.declared.level.ItemStanding.{ItemStanding}
use Rattle.pli_declare_scopes.specs.declared.level.Numbered.{Numbered}
use Rattle.pli_declare_scopes.specs.Levels.{level_of, nearest_after, nearest, standing, standings_after}

-- one more item after some
pub nearest_last : (found : Option ℕ) (level : ℕ) (is : List Numbered) (i : Numbered)
    → nearest_after found level (is ++ i ∷ []) ≡ (if nat_lt i.level level then Some i.number else nearest_after found level is)
nearest_last found level [] i = refl
nearest_last found level (j ∷ js) i = nearest_last (if nat_lt j.level level then Some j.number else found) level js i

-- items that say the same of each level say the same of what follows
pub standings_same : (ls : List ℕ) (a b : List Numbered) (n : ℕ) → ((m : ℕ) → nearest m a ≡ nearest m b) → standings_after a n ls ≡ standings_after b n ls
standings_same [] a b n same = refl
standings_same (l ∷ ls) a b n same =
    let i : Numbered = record { number = n; level = l } in
    let rest = standings_same ls (a ++ i ∷ []) (b ++ i ∷ []) (n + 1)
    (λ m. nearest_last None m a i ∙ ap (λ r. if nat_lt l m then Some n else r) (same m) ∙ sym (nearest_last None m b i)) in
    ap (λ r. standing l r ∷ standings_after (a ++ i ∷ []) (n + 1) ls) (same l) ∙ ap (λ ss. standing l (nearest l b) ∷ ss) rest

-- a list is what stands before its last item, and that item
last_split : (is : List Numbered) (i : Numbered) → 0 < length is → i ≡ get_or is (length is - 1) i → is ≡ take (length is - 1) is ++ i ∷ []
last_split is i some at =
    let whole : length is ≡ (length is - 1) + 1 = omega arith in
    sym (take-length is) ∙ ap (λ n. take n is) whole ∙ take_more is (length is - 1) i (omega arith) ∙ ap (λ j. take (length is - 1) is ++ j ∷ []) (sym at)

module _ (is : List Numbered) (i : Numbered) (some : 0 < length is) (at : i ≡ get_or is (length is - 1) i) where
  -- the last item is the nearest where its level is lesser
  pub last_is_nearest : (level : ℕ) → i.level < level → nearest level is ≡ Some i.number
  last_is_nearest level lt =
      let test : nat_lt i.level level ≡ true = search (rules, nat_tests) in
      ap (nearest level) (last_split is i some at) ∙ nearest_last None level (take (length is - 1) is) i
      ∙ ap (λ b. if b then Some i.number else nearest level (take (length is - 1) is)) test

  -- and else it says nothing
  pub last_is_passed : (level : ℕ) → level ≤ i.level → nearest level (take (length is - 1) is) ≡ nearest level is
  last_is_passed level le =
      let test : nat_lt i.level level ≡ false = search (rules, nat_tests) in
      sym (ap (nearest level) (last_split is i some at) ∙ nearest_last None level (take (length is - 1) is) i
      ∙ ap (λ b. if b then Some i.number else nearest level (take (length is - 1) is)) test)

module _ (before after : List Numbered) (n level : ℕ) (kept : (m : ℕ) → m ≤ level → nearest m after ≡ nearest m before) where
  -- one more item after those that are kept says what it says after all
  pub kept_more : (m : ℕ) → nearest m (after ++ record { number = n; level = level } ∷ []) ≡ nearest m (before ++ record { number = n; level = level } ∷ [])
  kept_more m =
      let i : Numbered = record { number = n; level = level } in
      nearest_last None m after i ∙ by (nat_lt level m) refl ∙ sym (nearest_last None m before i)
    where
      by : (b : Bool) → nat_lt level m ≡ b → (if b then Some n else nearest m after) ≡ (if b then Some n else nearest m before)
      by true e = refl
      by false e = kept m (search (rules, nat_tests))

  -- one more item stands
  pub standings_more : (done whole : List ItemStanding) (levels : List (Option ℕ)) → n < length levels → level ≡ level_of (get_or levels n None)
      → done ++ standings_after before n (map level_of (drop n levels)) ≡ whole
      → (done ++ standing level (nearest level before) ∷ []) ++ standings_after (after ++ record { number = n; level = level } ∷ []) (n + 1) (map level_of (drop (n + 1) levels)) ≡ whole
  standings_more done whole levels lt is all =
      let i : Numbered = record { number = n; level = level } in
      let rest : List ℕ = map level_of (drop (n + 1) levels) in
      append_assoc done (standing level (nearest level before) ∷ []) _
      ∙ ap (λ ss. done ++ standing level (nearest level before) ∷ ss) (standings_same rest (after ++ i ∷ []) (before ++ i ∷ []) (n + 1) kept_more)
      ∙ ap (λ l. done ++ standings_after before n (l ∷ rest)) is
      ∙ sym (at_drop_more (λ ls. done ++ standings_after before n (map level_of ls)) levels n None lt) ∙ all

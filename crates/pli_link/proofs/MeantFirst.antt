-- What a name means in a table of first things is the first thing of its name.
use Rattle.std.proofs.Common.{◌≡◌, ℕ, ◌+◌, ◌<◌, ◌≤◌, Bool, true, false, cond, if◌then◌else◌, Option, Some, None, is_some, List, [], ◌∷◌, ◌++◌, length, refl, sym, ap, ◌∙◌, true≢false, arith}
use Rattle.std.specs.Cmp.Lexicographic.{nat_list_eq_equiv}
use Rattle.std.specs.List.{AllByRecursion}
use Rattle.std.specs.Map.{keys_of, lookup}
use Rattle.std.specs.Option.{option_or}
use Rattle.pli_base.specs.Name.{Name}
use Rattle.pli_base.specs.Words.{same_name, is_among}
use Rattle.pli_link.specs.answers.Tables.{AreSmall}
use Rattle.pli_link.specs.Names.{with_first, firsts, meant, procedures_from, procedures}
use Rattle.pli_link.specs.Units.{Compiled}
use Rattle.pli_link.proofs.NameTables.{some_among}

found_after : {A : Type 0} (test : Name → Bool) (xs ys : List (Name × A)) → lookup test (xs ++ ys) ≡ option_or (lookup test xs) (lookup test ys)
found_after test [] ys = refl
found_after test (x ∷ xs) ys = by (test x.0) (found_after test xs ys)
  where
    by : (b : Bool) → lookup test (xs ++ ys) ≡ option_or (lookup test xs) (lookup test ys)
        → cond b (Some x.1) (lookup test (xs ++ ys)) ≡ option_or (cond b (Some x.1) (lookup test xs)) (lookup test ys)
    by true h = refl
    by false h = h

none_more : {A : Type 0} (o : Option A) → o ≡ option_or o None
none_more None = refl
none_more (Some x) = refl

or_after : {A : Type 0} (a b c : Option A) → option_or (option_or a b) c ≡ option_or a (option_or b c)
or_after None b c = refl
or_after (Some x) b c = refl

there_already : {A : Type 0} (o p : Option A) → is_some o ≡ true → o ≡ option_or o p
there_already None p h = absurd (true≢false (sym h))
there_already (Some x) p h = refl

-- equal names are looked up alike
same_test : (n m : Name) → same_name n m ≡ true → (k : Name) → same_name n k ≡ same_name m k
same_test n m e k = nat_list_eq_equiv.congr n m k e

same_look_up : {A : Type 0} (n m : Name) → same_name n m ≡ true → (xs : List (Name × A)) → lookup (same_name n) xs ≡ lookup (same_name m) xs
same_look_up n m e [] = refl
same_look_up n m e (x ∷ xs) =
    ap (λ b. cond b (Some x.1) (lookup (same_name n) xs)) (same_test n m e x.0) ∙ ap (cond (same_name m x.0) (Some x.1)) (same_look_up n m e xs)

with_first_meant : {A : Type 0} (before : List (Name × A)) (x : Name × A) (n : Name) → meant (with_first before x) n ≡ option_or (meant before n) (meant (x ∷ []) n)
with_first_meant before x n = by (is_among x.0 (keys_of before)) refl
  where
    kept : (b : Bool) → same_name n x.0 ≡ b → is_among x.0 (keys_of before) ≡ true → meant before n ≡ option_or (meant before n) (cond b (Some x.1) None)
    kept true e is = there_already (meant before n) (Some x.1) (ap is_some (same_look_up n x.0 e before) ∙ some_among (same_name x.0) before ∙ is)
    kept false e is = none_more (meant before n)

    by : (b : Bool) → is_among x.0 (keys_of before) ≡ b → meant (if b then before else before ++ x ∷ []) n ≡ option_or (meant before n) (meant (x ∷ []) n)
    by true is = kept (same_name n x.0) refl is
    by false is = found_after (same_name n) before (x ∷ [])

pub meant_first : {A : Type 0} (before xs : List (Name × A)) (n : Name) → meant (firsts before xs) n ≡ option_or (meant before n) (meant xs n)
meant_first before [] n = none_more (meant before n)
meant_first before (x ∷ xs) n =
    meant_first (with_first before x) xs n
    ∙ ap (λ o. option_or o (meant xs n)) (with_first_meant before x n)
    ∙ or_after (meant before n) (meant (x ∷ []) n) (meant xs n)
    ∙ ap (option_or (meant before n)) (sym (found_after (same_name n) (x ∷ []) xs))

-- what holds of all things holds of the first ones
all_with_first : {A : Type 0} (P : Name × A → Type 0) (before : List (Name × A)) (x : Name × A) → AllByRecursion P before → P x → AllByRecursion P (with_first before x)
all_with_first P before x all one = by (is_among x.0 (keys_of before))
  where
    after : (xs : List (Name × _)) → AllByRecursion P xs → AllByRecursion P (xs ++ x ∷ [])
    after [] h = (one, tt)
    after (y ∷ ys) h = (h.0, after ys h.1)

    by : (b : Bool) → AllByRecursion P (if b then before else before ++ x ∷ [])
    by true = all
    by false = after before all

pub all_firsts : {A : Type 0} (P : Name × A → Type 0) (before xs : List (Name × A)) → AllByRecursion P before → AllByRecursion P xs → AllByRecursion P (firsts before xs)
all_firsts P before [] all more = all
all_firsts P before (x ∷ xs) all more = all_firsts P (with_first before x) xs (all_with_first P before x all more.0) more.1

-- the numbers of units are less than their count
numbers_within : (bound number : ℕ) (cs : List Compiled) → number + length cs ≡ bound → AllByRecursion (λ p. p.1 < bound) (procedures_from number cs)
numbers_within bound number [] e = tt
numbers_within bound number (c ∷ cs) e = (omega (arith, e), numbers_within bound (number + 1) cs (omega (arith, e)))

pub procedures_within : (cs : List Compiled) → AllByRecursion (λ p. p.1 < length cs) (procedures cs)
procedures_within cs = all_firsts (λ p. p.1 < length cs) [] (procedures_from 0 cs) tt (numbers_within (length cs) 0 cs (omega arith))

-- a number that is looked up is one of those in the table
pub small_found : (test : Name → Bool) (es : List (Name × ℕ)) (n : ℕ) → AreSmall es → lookup test es ≡ Some n → n < 65536
small_found test [] n all e = let bad : ⊥ = cc in absurd bad
small_found test (x ∷ es) n all e = by (test x.0) e (small_found test es n all.1)
  where
    by : (b : Bool) → cond b (Some x.1) (lookup test es) ≡ Some n → (lookup test es ≡ Some n → n < 65536) → n < 65536
    by true h rest = let same : x.1 ≡ n = cc in omega (arith, all.0, same)
    by false h rest = rest h

pub few_are_small : (cs : List Compiled) → length cs ≤ 65535 → AreSmall (procedures cs)
few_are_small cs few = weaker (procedures cs) (procedures_within cs)
  where
    weaker : (es : List (Name × ℕ)) → AllByRecursion (λ p. p.1 < length cs) es → AreSmall es
    weaker [] h = tt
    weaker (e ∷ es) h = (omega (arith, h.0, few), weaker es h.1)

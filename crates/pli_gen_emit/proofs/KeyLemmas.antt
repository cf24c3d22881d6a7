-- Entries that are put into tables.
use Rattle.std.proofs.Common.{◌≡◌, ℕ, zero, suc, ◌+◌, ◌<◌, ◌||◌, Bool, true, false, List, [], ◌∷◌, ◌++◌, map, length, get_or, drop, replicate, refl, sym, ap, ◌∙◌, if◌then◌else◌}
use Rattle.std.specs.Bool.{Decides}
use Rattle.std.specs.Prelude.{Result, Ok, Err}
use Rattle.std.specs.Result.{IfOk, is_ok}
use Rattle.std.proofs.lemmas.Bool.{false≢true}
use Rattle.std.specs.List.{list_any, AllByRecursion}
use Rattle.std.specs.Ordering.{on}
use Rattle.std.proofs.lemmas.List.{at_drop_more, map-append}
use Rattle.indexmap.specs.IndexSet.{insert_key}
use Rattle.pli_map.specs.ParameterTypes.{ParameterType, Stated, same_type}
use Rattle.pli_map.specs.laws.ParameterLaws.{same_type_decides}
use Rattle.pli_type_tree.specs.Templates.{Template}
use Rattle.pli_value.specs.Value.{Value}
use Rattle.pli_gen_emit.specs.Encoding.{NumberedTables, numbered}
use Rattle.pli_type_keys.specs.Same.{same_template}
use Rattle.pli_type_keys.specs.laws.KeyLaws.{template_decides}
use Rattle.pli_gen_emit.proofs.TableNumbers.{Has, more, now}

module _ {K X : Type 0} (v : K → X) (alike : X → X → Bool) where
  any_viewed : (k : K) (ks : List K) → list_any (alike (v k)) (map v ks) ≡ list_any (on v alike k) ks
  any_viewed k [] = refl
  any_viewed k (y ∷ ks) = ap (λ b. alike (v k) (v y) || b) (any_viewed k ks)

  -- an entry that a table lacks is put at its end
  pub inserted : (ks new : List K) (k : K) → new ≡ insert_key (on v alike) ks k → map v new ≡ numbered alike (map v ks) (v k ∷ [])
  inserted ks new k is = ap (map v) is ∙ either (list_any (on v alike k) ks) ∙ ap (λ b. if b then map v ks else map v ks ++ v k ∷ []) (sym (any_viewed k ks))
    where
      either : (b : Bool) → map v (if b then ks else ks ++ k ∷ []) ≡ (if b then map v ks else map v ks ++ v k ∷ [])
      either true = refl
      either false = map-append v ks (k ∷ [])

module _ {X : Type 0} (alike : X → X → Bool) where
  pub numbered_after : (table xs ys : List X) → numbered alike table (xs ++ ys) ≡ numbered alike (numbered alike table xs) ys
  numbered_after table [] ys = refl
  numbered_after table (x ∷ xs) ys = numbered_after (if list_any (alike x) table then table else table ++ x ∷ []) xs ys

  module _ (decides : (x y : X) → Decides (alike x y) (x ≡ y)) where
    again : (n : ℕ) (table : List X) (x : X) → list_any (alike x) table ≡ true → numbered alike table (replicate n x) ≡ table
    again zero table x h = refl
    again (suc n) table x h = ap (λ b. numbered alike (if b then table else table ++ x ∷ []) (replicate n x)) h ∙ again n table x h

    -- an entry that is used some times is put once
    pub repeated : (n : ℕ) (table : List X) (x : X) → (n ≡ 0 → ⊥) → numbered alike table (x ∷ []) ≡ numbered alike table (replicate n x)
    repeated zero table x some = absurd (some refl)
    repeated (suc n) table x some = sym (again n (more alike decides table x (list_any (alike x) table)) x (now alike decides table x (list_any (alike x) table) refl))

    -- entries that a table has leave it as it is
    pub all_there : (xs table : List X) → AllByRecursion (Has alike decides table) xs → numbered alike table xs ≡ table
    all_there [] table h = refl
    all_there (x ∷ xs) table h = ap (λ b. numbered alike (if b then table else table ++ x ∷ []) xs) h.0 ∙ all_there xs table h.1

-- what stands for one element more
module _ {X Y : Type 0} (alike : Y → Y → Bool) (all : List X → List Y) (one : X → List Y) (splits : (x : X) (xs : List X) → all (x ∷ xs) ≡ one x ++ all xs) where
  pub numbered_more : (xs : List X) (i : ℕ) (d : X) (table next whole : List Y) → i < length xs → next ≡ numbered alike table (one (get_or xs i d))
      → numbered alike table (all (drop i xs)) ≡ whole → numbered alike next (all (drop (i + 1) xs)) ≡ whole
  numbered_more xs i d table next whole lt e was =
      let x = get_or xs i d in
      let rest = all (drop (i + 1) xs) in
      let step : numbered alike table (all (drop i xs)) ≡ numbered alike table (all (x ∷ drop (i + 1) xs)) =
      at_drop_more (λ ys. numbered alike table (all ys)) xs i d lt in
      ap (λ t. numbered alike t rest) e ∙ sym (numbered_after alike table (one x) rest) ∙ ap (numbered alike table) (sym (splits x (drop (i + 1) xs))) ∙ sym step ∙ was

described_again : (n : ℕ) (t : Template) → map (λ t. Stated t.description) (replicate n t) ≡ replicate n (Stated t.description)
described_again zero t = refl
described_again (suc n) t = ap (λ ds. Stated t.description ∷ ds) (described_again n t)

pub group_described : (n : ℕ) (table : List ParameterType) (t : Template) → (n ≡ 0 → ⊥) → numbered same_type table (Stated t.description ∷ []) ≡ numbered same_type table (map (λ t. Stated t.description) (replicate n t))
group_described n table t some = repeated same_type same_type_decides n table (Stated t.description) some ∙ ap (numbered same_type table) (sym (described_again n t))

pub group_templated : (n : ℕ) (table : List Template) (t : Template) → (n ≡ 0 → ⊥) → numbered same_template table (t ∷ []) ≡ numbered same_template table (replicate n t)
group_templated n table t some = repeated same_template template_decides n table t some

-- the descriptions of the variables of groups, and of blocks
pub described_apart : (ts us : List Template) → map (λ t. Stated t.description) (ts ++ us) ≡ map (λ t. Stated t.description) ts ++ map (λ t. Stated t.description) us
described_apart ts us = map-append (λ t. Stated t.description) ts us

abbrev tables : List ParameterType → List Template → List Value → NumberedTables
tables ds ts vs = record { descriptions = ds; templates = ts; values = vs }

pub same_tables : (ds ds2 : List ParameterType) (ts ts2 : List Template) (vs vs2 : List Value) → ds ≡ ds2 → ts ≡ ts2 → vs ≡ vs2 → tables ds ts vs ≡ tables ds2 ts2 vs2
same_tables ds ds2 ts ts2 vs vs2 d t v = ap (λ x. tables x ts vs) d ∙ ap (λ x. tables ds2 x vs) t ∙ ap (tables ds2 ts2) v

-- what is so where a call succeeded
pub at_ok : (X : Type 0) {T E : Type 0} (r : Result T E) → IfOk r (λ _. X) → is_ok r ≡ true → X
at_ok X (Ok v) h e = h
at_ok X (Err x) h e = absurd (false≢true e)

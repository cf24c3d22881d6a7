-- Tables of external variables in the order of their names, with one name more.
use Rattle.std.proofs.Common.{◌≡◌, Bool, true, false, cond, if◌then◌else◌, ◌||◌, Option, Some, None, is_some, option_map, List, [], ◌∷◌, ◌++◌, refl, ap, sym, ◌∙◌, true≢false}
use Rattle.std.proofs.Common.{Ordering, Less, Equal, Greater, is_eq}
use Rattle.std.specs.BTreeMap.{insert_entry, is_at}
use Rattle.std.specs.Cmp.Lexicographic.{slice_cmp, texts_ties, nat_list_eq_equiv}
use Rattle.std.specs.List.{AllByRecursion}
use Rattle.std.specs.Map.{lookup}
use Rattle.std.specs.Ordering.{nat_cmp, match_ordering, ordering_reverse}
use Rattle.std.proofs.lemmas.Cmp.{nat_list_cmp_total}
use Rattle.pli_base.specs.Name.{Name}
use Rattle.pli_base.specs.Words.{same_name}
use Rattle.pli_link.specs.Names.{Declaration, meant, with_declaration, first_declared}
use Rattle.pli_link.specs.views.NameView.{declaration_view, externals_view}
use Rattle.pli_link.specs.declared.names.KnownExternal.{KnownExternal}

abbrev pub order : Name → Name → Ordering
order = slice_cmp nat_cmp

-- what a name means in a table, as the table finds it
meant_at : {X : Type 0} (es : List (Name × X)) (n : Name) → lookup (is_at (order n)) es ≡ meant es n
meant_at [] n = refl
meant_at (e ∷ es) n =
    ap (λ b. cond b (Some e.1) (lookup (is_at (order n)) es)) (sym (texts_ties n e.0)) ∙ ap (cond (same_name n e.0) (Some e.1)) (meant_at es n)

-- each name after the one before it
abbrev pub Above : Option Name → Name → Type 0
Above None n = Unit {0}
Above (Some b) n = order b n ≡ Less

abbrev pub Rises : {X : Type 0} → (before : Option Name) → List (Name × X) → Type 0
Rises before [] = Unit {0}
Rises before (e ∷ es) = Above before e.0 × Rises (Some e.0) es

some_if : {X : Type 0} (b : Bool) (x : X) (o : Option X) → is_some (cond b (Some x) o) ≡ (b || is_some o)
some_if true x o = refl
some_if false x o = refl

or_turned : (a b c : Bool) → (a || (b || c)) ≡ (b || (a || c))
or_turned true true c = refl
or_turned true false c = refl
or_turned false b c = refl

module _ {X : Type 0} (k : Name) (v : X) where
  abbrev pub put : List (Name × X) → List (Name × X)
  put es = insert_entry order es k v

  -- what holds where an item is put in front, and stays after an item in front of both
  pub put_by : (R : List (Name × X) → List (Name × X) → Type 0) → ((es : List (Name × X)) → R es ((k, v) ∷ es))
      → ((e : Name × X) (es fs : List (Name × X)) → R es fs → R (e ∷ es) (e ∷ fs))
      → (es : List (Name × X)) → is_some (meant es k) ≡ false → R es (put es)
  put_by R here later [] none = here []
  put_by R here later (e ∷ es) none =
      by (order k e.0) (ap (λ b. is_some (cond b (Some e.1) (meant es k))) (sym (texts_ties k e.0)) ∙ none) (put_by R here later es)
    where
      by : (o : Ordering) → is_some (cond (is_eq o) (Some e.1) (meant es k)) ≡ false → (is_some (meant es k) ≡ false → R es (put es))
          → R (e ∷ es) (match_ordering o ((k, v) ∷ e ∷ es) ((e.0, v) ∷ es) (e ∷ put es))
      by Less h rest = here (e ∷ es)
      by Equal h rest = absurd (true≢false h)
      by Greater h rest = later e es (put es) (rest h)

  pub put_all : (P : Name × X → Type 0) → P (k, v) → (es : List (Name × X)) → is_some (meant es k) ≡ false → AllByRecursion P es → AllByRecursion P (put es)
  put_all P one es none = put_by (λ xs ys. AllByRecursion P xs → AllByRecursion P ys) (λ xs h. (one, h)) (λ e xs ys h g. (g.0, h g.1)) es none

  pub put_found : (n : Name) (es : List (Name × X)) → is_some (meant es k) ≡ false → is_some (meant (put es) n) ≡ (same_name n k || is_some (meant es n))
  put_found n es none =
      put_by (λ xs ys. is_some (meant ys n) ≡ (same_name n k || is_some (meant xs n))) (λ xs. some_if (same_name n k) v (meant xs n))
      (λ e xs ys h. some_if (same_name n e.0) e.1 (meant ys n) ∙ ap (λ b. same_name n e.0 || b) h ∙ or_turned (same_name n e.0) (same_name n k) (is_some (meant xs n))
      ∙ ap (λ b. same_name n k || b) (sym (some_if (same_name n e.0) e.1 (meant xs n)))) es none

  pub put_rises : (before : Option Name) (es : List (Name × X)) → Above before k → Rises before es → Rises before (put es)
  put_rises before [] above up = (above, tt)
  put_rises before (e ∷ es) above up = by (order k e.0) refl (put_rises (Some e.0) es)
    where
      by : (o : Ordering) → order k e.0 ≡ o → (order e.0 k ≡ Less → Rises (Some e.0) es → Rises (Some e.0) (put es))
          → Rises before (match_ordering o ((k, v) ∷ e ∷ es) ((e.0, v) ∷ es) (e ∷ put es))
      by Less is rest = (above, (is, up.1))
      by Equal is rest = up
      by Greater is rest = (up.0, rest (nat_list_cmp_total.antisymm e.0 k ∙ ap ordering_reverse is) up.1)

-- what holds of a table is kept where one declaration more is noted
kept_with : (R : List (Name × Declaration) → Type 0) (es : List (Name × Declaration)) (d : Name × Declaration) → (is_some (meant es d.0) ≡ false → R es → R (put d.0 d.1 es))
    → R es → R (with_declaration es d)
kept_with R es d one h = by (is_some (meant es d.0)) refl
  where
    by : (b : Bool) → is_some (meant es d.0) ≡ b → R (if b then es else put d.0 d.1 es)
    by true e = h
    by false e = one e h

-- the names of first declarations rise
pub declared_rise : (es ds : List (Name × Declaration)) → Rises None es → Rises None (first_declared es ds)
declared_rise es [] h = h
declared_rise es (d ∷ ds) h = declared_rise (with_declaration es d) ds (kept_with (Rises None) es d (λ none up. put_rises d.0 d.1 None es tt up) h)

-- what holds of all declarations holds of the first ones
pub all_declared : (P : Name × Declaration → Type 0) (es ds : List (Name × Declaration)) → AllByRecursion P es → AllByRecursion P ds → AllByRecursion P (first_declared es ds)
all_declared P es [] h more = h
all_declared P es (d ∷ ds) h more = all_declared P (with_declaration es d) ds (kept_with (AllByRecursion P) es d (λ none all. put_all d.0 d.1 P more.0 es none all) h) more.1

-- some after others
pub declared_after : (before xs ys : List (Name × Declaration)) → first_declared before (xs ++ ys) ≡ first_declared (first_declared before xs) ys
declared_after before [] ys = refl
declared_after before (x ∷ xs) ys = declared_after (with_declaration before x) xs ys

-- ---- each name that is noted is found

abbrev pub IsFoundIn : List (Name × Declaration) → Name × Declaration → Type 0
IsFoundIn es d = is_some (meant es d.0) ≡ true

or_right : (a b : Bool) → b ≡ true → (a || b) ≡ true
or_right true b h = refl
or_right false b h = h

found_still : (es : List (Name × Declaration)) (d e : Name × Declaration) → IsFoundIn es e → IsFoundIn (with_declaration es d) e
found_still es d e h =
    kept_with (λ xs. IsFoundIn xs e) es d (λ none found. put_found d.0 d.1 e.0 es none ∙ or_right (same_name e.0 d.0) (is_some (meant es e.0)) found) h

found_now : (es : List (Name × Declaration)) (d : Name × Declaration) → IsFoundIn (with_declaration es d) d
found_now es d = by (is_some (meant es d.0)) refl
  where
    by : (c : Bool) → is_some (meant es d.0) ≡ c → IsFoundIn (if c then es else put d.0 d.1 es) d
    by true k = k
    by false k = put_found d.0 d.1 d.0 es k ∙ ap (λ b. b || is_some (meant es d.0)) (nat_list_eq_equiv.refl d.0)

found_after : (es ds : List (Name × Declaration)) (e : Name × Declaration) → IsFoundIn es e → IsFoundIn (first_declared es ds) e
found_after es [] e h = h
found_after es (d ∷ ds) e h = found_after (with_declaration es d) ds e (found_still es d e h)

pub all_found : (es ds : List (Name × Declaration)) → AllByRecursion (IsFoundIn (first_declared es ds)) ds
all_found es [] = tt
all_found es (d ∷ ds) = (found_after (with_declaration es d) ds d (found_now es d), all_found (with_declaration es d) ds)

-- ---- as tables are seen

seen_put : (es : List (Name × KnownExternal)) (n : Name) (x : KnownExternal) → externals_view (put n x es) ≡ put n (declaration_view x) (externals_view es)
seen_put [] n x = refl
seen_put (e ∷ es) n x = by (order n e.0) (seen_put es n x)
  where
    by : (o : Ordering) → externals_view (put n x es) ≡ put n (declaration_view x) (externals_view es)
        → externals_view (match_ordering o ((n, x) ∷ e ∷ es) ((e.0, x) ∷ es) (e ∷ put n x es))
        ≡ match_ordering o ((n, declaration_view x) ∷ externals_view (e ∷ es)) ((e.0, declaration_view x) ∷ externals_view es) ((e.0, declaration_view e.1) ∷ put n (declaration_view x) (externals_view es))
    by Less h = refl
    by Equal h = refl
    by Greater h = ap (λ l. (e.0, declaration_view e.1) ∷ l) h

meant_seen : (es : List (Name × KnownExternal)) (n : Name) → option_map declaration_view (meant es n) ≡ meant (externals_view es) n
meant_seen [] n = refl
meant_seen (e ∷ es) n = by (same_name n e.0) (meant_seen es n)
  where
    by : (b : Bool) → option_map declaration_view (meant es n) ≡ meant (externals_view es) n
        → option_map declaration_view (cond b (Some e.1) (meant es n)) ≡ cond b (Some (declaration_view e.1)) (meant (externals_view es) n)
    by true h = refl
    by false h = h

-- what a name means in the table and in what it stands for
pub meant_external : (es : List (Name × KnownExternal)) (n : Name) → option_map declaration_view (lookup (is_at (order n)) es) ≡ meant (externals_view es) n
meant_external es n = ap (option_map declaration_view) (meant_at es n) ∙ meant_seen es n

some_seen : (o : Option KnownExternal) → is_some (option_map declaration_view o) ≡ is_some o
some_seen None = refl
some_seen (Some x) = refl

there_seen : (es : List (Name × KnownExternal)) (n : Name) → is_some (meant (externals_view es) n) ≡ is_some (lookup (is_at (order n)) es)
there_seen es n = ap is_some (sym (meant_external es n)) ∙ some_seen (lookup (is_at (order n)) es)

pub external_put : (es : List (Name × KnownExternal)) (n : Name) (x : KnownExternal) → is_some (lookup (is_at (order n)) es) ≡ false
    → externals_view (put n x es) ≡ with_declaration (externals_view es) (n, declaration_view x)
external_put es n x h =
    seen_put es n x ∙ sym (ap (λ b. if b then externals_view es else put n (declaration_view x) (externals_view es)) (there_seen es n ∙ h))

pub external_left : (es : List (Name × KnownExternal)) (n : Name) (x : KnownExternal) → is_some (lookup (is_at (order n)) es) ≡ true
    → externals_view es ≡ with_declaration (externals_view es) (n, declaration_view x)
external_left es n x h = sym (ap (λ b. if b then externals_view es else put n (declaration_view x) (externals_view es)) (there_seen es n ∙ h))

-- so what holds of each in it stays
pub all_put : (P : Name × KnownExternal → Type 0) (es : List (Name × KnownExternal)) (n : Name) (x : KnownExternal) → is_some (lookup (is_at (order n)) es) ≡ false → AllByRecursion P es
    → P (n, x) → AllByRecursion P (put n x es)
all_put P es n x none all one = put_all n x P one es (ap is_some (sym (meant_at es n)) ∙ none) all

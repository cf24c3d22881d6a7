-- Classes of templates: what is known stays known, and templates of one class are equal.
use Rattle.std.proofs.Common.{◌≡◌, ℕ, suc, ◌+◌, Bool, true, false, not, ◌||◌, cond, if◌then◌else◌, Option, Some, None, option_map, List, [], ◌∷◌, ◌++◌, refl, sym, ap, ◌∙◌, subst, arith}
use Rattle.std.specs.List.{list_any, position_or_len}
use Rattle.std.specs.Map.{lookup}
use Rattle.std.specs.Option.{option_copied, option_eq}
use Rattle.std.specs.Ordering.{on}
use Rattle.std.specs.Prelude.{nat_eq}
use Rattle.std.proofs.lemmas.Bool.Decides.{Decides-eqb}
use Rattle.std.proofs.lemmas.List.{map-append}
use Rattle.indexmap.specs.IndexSet.{insert_key}
use denote.Ref.{Bor}
use Rattle.pli_base.specs.Name.{Name}
use Rattle.pli_type_tree.specs.Templates.{Template}
use Rattle.pli_type_keys.specs.Same.{same_template}
use Rattle.pli_link.specs.answers.Classes.{place_of, IsClass, known_in, Grows, AreClassed, IsFirstClassed}
use Rattle.pli_link.specs.laws.AlikeLaws.{option_decides}
use Rattle.pli_type_keys.specs.laws.KeyLaws.{template_decides}
use Rattle.pli_type_keys.specs.views.KeyView.{templated}
use Rattle.pli_type_keys.specs.declared.key.TemplateKey.{TemplateKey}
use Rattle.pli_link.specs.declared.names.KnownExternal.{KnownExternal}

same_itself : (t : Template) → same_template t t ≡ true
same_itself t = (template_decides t t).1 refl

some_is : {A : Type 0} (x y : A) → Some x ≡ Some y → x ≡ y
some_is x y e = cc

-- a template that was put in stands at its place
class_now : (t : Template) (known : List Template)
    → place_of t (if list_any (same_template t) known then known else known ++ t ∷ []) ≡ Some (position_or_len (same_template t) known)
class_now t [] = ap (λ b. if b then Some 0 else option_map suc (place_of t [])) (same_itself t)
class_now t (k ∷ known) = by (same_template t k) refl (class_now t known)
  where
    either : (b : Bool) → place_of t (if b then known else known ++ t ∷ []) ≡ Some (position_or_len (same_template t) known) → same_template t k ≡ false
        → place_of t (if b then k ∷ known else k ∷ (known ++ t ∷ [])) ≡ Some (1 + position_or_len (same_template t) known)
    either true h is =
        ap (λ b. if b then Some 0 else option_map suc (place_of t known)) is ∙ ap (option_map suc) h ∙ ap Some (omega arith)
    either false h is =
        ap (λ b. if b then Some 0 else option_map suc (place_of t (known ++ t ∷ []))) is ∙ ap (option_map suc) h ∙ ap Some (omega arith)

    by : (b : Bool) → same_template t k ≡ b → place_of t (if list_any (same_template t) known then known else known ++ t ∷ []) ≡ Some (position_or_len (same_template t) known)
        → place_of t (if b || list_any (same_template t) known then k ∷ known else k ∷ (known ++ t ∷ [])) ≡ Some (cond (not b) (1 + position_or_len (same_template t) known) 0)
    by true is h = ap (λ b. if b then Some 0 else option_map suc (place_of t known)) is
    by false is h = either (list_any (same_template t) known) h is

any_seen : (v : TemplateKey) (ks : List TemplateKey) → list_any (on templated same_template v) ks ≡ list_any (same_template (templated v)) (known_in ks)
any_seen v [] = refl
any_seen v (k ∷ ks) = ap (λ b. same_template (templated v) (templated k) || b) (any_seen v ks)

place_seen : (v : TemplateKey) (ks : List TemplateKey) → position_or_len (on templated same_template v) ks ≡ position_or_len (same_template (templated v)) (known_in ks)
place_seen v [] = refl
place_seen v (k ∷ ks) = ap (λ n. cond (not (same_template (templated v) (templated k))) (1 + n) 0) (place_seen v ks)

known_put : (v : TemplateKey) (ks : List TemplateKey) → known_in (insert_key (on templated same_template) ks v)
    ≡ (if list_any (same_template (templated v)) (known_in ks) then known_in ks else known_in ks ++ templated v ∷ [])
known_put v ks = by (list_any (on templated same_template v) ks) ∙ ap (λ b. if b then known_in ks else known_in ks ++ templated v ∷ []) (any_seen v ks)
  where
    by : (b : Bool) → known_in (if b then ks else ks ++ v ∷ []) ≡ (if b then known_in ks else known_in ks ++ templated v ∷ [])
    by true = refl
    by false = map-append templated ks (v ∷ [])

pub class_put : (v : TemplateKey) (ks new : List TemplateKey) (number : ℕ) → new ≡ insert_key (on templated same_template) ks v
    → number ≡ position_or_len (on templated same_template v) ks → IsClass (known_in new) (Some (templated v)) (Some number)
class_put v ks new number is at =
    ap (λ l. place_of (templated v) (known_in l)) is ∙ ap (place_of (templated v)) (known_put v ks) ∙ class_now (templated v) (known_in ks)
    ∙ ap Some (sym (at ∙ place_seen v ks))

-- what was known stays where it was

pub grows_not : (ks : List TemplateKey) → Grows ks ks
grows_not ks = record { more = []; is = none ks }
  where
    none : (xs : List TemplateKey) → xs ≡ xs ++ []
    none [] = refl
    none (x ∷ xs) = ap (λ l. x ∷ l) (none xs)

pub grows_put : (v : TemplateKey) (ks new : List TemplateKey) → new ≡ insert_key (on templated same_template) ks v → Grows ks new
grows_put v ks new is = subst (Grows ks) (sym is) (by (list_any (on templated same_template v) ks))
  where
    by : (b : Bool) → Grows ks (if b then ks else ks ++ v ∷ [])
    by true = grows_not ks
    by false = record { more = v ∷ []; is = refl }

joined : (xs ys zs : List TemplateKey) → (xs ++ ys) ++ zs ≡ xs ++ (ys ++ zs)
joined [] ys zs = refl
joined (x ∷ xs) ys zs = ap (λ l. x ∷ l) (joined xs ys zs)

pub grows_on : (a b c : List TemplateKey) → Grows a b → Grows b c → Grows a c
grows_on a b c g h = record { more = g.more ++ h.more; is = h.is ∙ ap (λ l. l ++ h.more) g.is ∙ joined a g.more h.more }

place_stays : (t : Template) (known more : List Template) (n : ℕ) → place_of t known ≡ Some n → place_of t (known ++ more) ≡ Some n
place_stays t [] more n e = let bad : ⊥ = cc in absurd bad
place_stays t (k ∷ known) more n e = by (same_template t k) e (λ m. place_stays t known more m)
  where
    shifted : (o : Option ℕ) → option_map suc o ≡ Some n → ((m : ℕ) → o ≡ Some m → place_of t (known ++ more) ≡ Some m) → option_map suc (place_of t (known ++ more)) ≡ Some n
    shifted None h rest = let bad : ⊥ = cc in absurd bad
    shifted (Some m) h rest = ap (option_map suc) (rest m refl) ∙ h

    by : (b : Bool) → (if b then Some 0 else option_map suc (place_of t known)) ≡ Some n → ((m : ℕ) → place_of t known ≡ Some m → place_of t (known ++ more) ≡ Some m)
        → (if b then Some 0 else option_map suc (place_of t (known ++ more))) ≡ Some n
    by true h rest = h
    by false h rest = shifted (place_of t known) h rest

pub class_stays : (old new : List TemplateKey) → Grows old new → (t : Option Template) (class : Option ℕ) → IsClass (known_in old) t class → IsClass (known_in new) t class
class_stays old new g None None h = tt
class_stays old new g None (Some k) h = absurd h
class_stays old new g (Some t) None h = absurd h
class_stays old new g (Some t) (Some k) h = ap (place_of t) (ap known_in g.is ∙ map-append templated old g.more) ∙ place_stays t (known_in old) (known_in g.more) k h

pub classed_stay : (old new : List TemplateKey) (es : List (Name × KnownExternal)) → Grows old new → AreClassed (known_in old) es → AreClassed (known_in new) es
classed_stay old new [] g all = tt
classed_stay old new (e ∷ es) g all = (class_stays old new g (option_map templated e.1.template) e.1.class all.0, classed_stay old new es g all.1)

-- templates of one class are equal, and equal ones are of one class

same_place : (a b : Template) (known : List Template) (n : ℕ) → place_of a known ≡ Some n → place_of b known ≡ Some n → a ≡ b
same_place a b [] n e f = let bad : ⊥ = cc in absurd bad
same_place a b (k ∷ known) n e f = by (same_template a k) (same_template b k) refl refl e f (same_place a b known)
  where
    shifted : (o p : Option ℕ) → option_map suc o ≡ Some n → option_map suc p ≡ Some n → ((m : ℕ) → o ≡ Some m → p ≡ Some m → a ≡ b) → a ≡ b
    shifted None p g h rest = let bad : ⊥ = cc in absurd bad
    shifted (Some m) None g h rest = let bad : ⊥ = cc in absurd bad
    shifted (Some m) (Some l) g h rest =
        let one : m ≡ l = suc_is m l (some_is (suc m) (suc l) (g ∙ sym h)) in
        rest m refl (ap Some (sym one))
      where
        suc_is : (x y : ℕ) → suc x ≡ suc y → x ≡ y
        suc_is x y e = omega (arith, e)

    zero_not : (o : Option ℕ) → option_map suc o ≡ Some 0 → ⊥
    zero_not None h = cc
    zero_not (Some m) h = let bad : suc m ≡ 0 = some_is (suc m) 0 h in omega (arith, bad)

    by : (c d : Bool) → same_template a k ≡ c → same_template b k ≡ d → (if c then Some 0 else option_map suc (place_of a known)) ≡ Some n
        → (if d then Some 0 else option_map suc (place_of b known)) ≡ Some n → ((m : ℕ) → place_of a known ≡ Some m → place_of b known ≡ Some m → a ≡ b) → a ≡ b
    by true true x y g h rest = (template_decides a k).0 x ∙ sym ((template_decides b k).0 y)
    by true false x y g h rest = absurd (zero_not (place_of b known) (h ∙ sym g))
    by false true x y g h rest = absurd (zero_not (place_of a known) (g ∙ sym h))
    by false false x y g h rest = shifted (place_of a known) (place_of b known) g h rest

both_ways : (a b : Bool) → (a ≡ true → b ≡ true) → (b ≡ true → a ≡ true) → a ≡ b
both_ways true b f g = sym (f refl)
both_ways false true f g = g refl
both_ways false false f g = refl

class_is_one : (known : List Template) (a b : Option Template) (k m : Option ℕ) → IsClass known a k → IsClass known b m → k ≡ m → a ≡ b
class_is_one known None None k m h i e = refl
class_is_one known None (Some b) None None h i e = absurd i
class_is_one known None (Some b) None (Some m) h i e = let bad : ⊥ = cc in absurd bad
class_is_one known None (Some b) (Some k) m h i e = absurd h
class_is_one known (Some a) None None m h i e = absurd h
class_is_one known (Some a) None (Some k) None h i e = let bad : ⊥ = cc in absurd bad
class_is_one known (Some a) None (Some k) (Some m) h i e = absurd i
class_is_one known (Some a) (Some b) None m h i e = absurd h
class_is_one known (Some a) (Some b) (Some k) None h i e = absurd i
class_is_one known (Some a) (Some b) (Some k) (Some m) h i e = ap Some (same_place a b known k h (i ∙ sym e))

one_class : (known : List Template) (a : Option Template) (k m : Option ℕ) → IsClass known a k → IsClass known a m → k ≡ m
one_class known None None None h i = refl
one_class known None None (Some m) h i = absurd i
one_class known None (Some k) m h i = absurd h
one_class known (Some a) None m h i = absurd h
one_class known (Some a) (Some k) None h i = absurd i
one_class known (Some a) (Some k) (Some m) h i = sym h ∙ i

pub same_class : (known : List Template) (a b : Option Template) (k m : Option ℕ) → IsClass known a k → IsClass known b m → option_eq nat_eq k m ≡ option_eq same_template a b
same_class known a b k m h i =
    both_ways _ _
    (λ e. (option_decides same_template template_decides a b).1 (class_is_one known a b k m h i ((option_decides nat_eq Decides-eqb k m).0 e)))
    (λ e. (option_decides nat_eq Decides-eqb k m).1 (one_class known a k m h (subst (λ o. IsClass known o m) (sym ((option_decides same_template template_decides a b).0 e)) i)))

-- what is looked up in it has its class

pub classed_found : (known : List Template) (test : Name → Bool) (es : List (Name × KnownExternal)) (g : Option (Bor KnownExternal)) → AreClassed known es
    → option_copied g ≡ lookup test es → IsFirstClassed known g
classed_found known test es None all e = tt
classed_found known test [] (Some x) all e = let bad : ⊥ = cc in absurd bad
classed_found known test (y ∷ es) (Some x) all e = by (test y.0) e (classed_found known test es (Some x) all.1)
  where
    by : (b : Bool) → Some x.now ≡ cond b (Some y.1) (lookup test es) → (Some x.now ≡ lookup test es → IsClass known (option_map templated x.now.template) x.now.class)
        → IsClass known (option_map templated x.now.template) x.now.class
    by true h rest = subst (λ (z : KnownExternal). IsClass known (option_map templated z.template) z.class) (sym (some_is x.now y.1 h)) all.0
    by false h rest = rest h

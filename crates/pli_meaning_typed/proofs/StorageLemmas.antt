-- What is found in storage after it has changed.
use Rattle.std.specs.Prelude.{◌≡◌, ℕ, nat_eq, Bool, true, false, not, cond, Some, None, List, [], ◌∷◌, ◌++◌, ◌⊎◌, if◌then◌else◌, refl}
use Rattle.std.specs.List.{list_any}
use Rattle.std.proofs.Common.{sym, ap, ◌∙◌, subst, inl, inr, true≢false}
use Rattle.std.proofs.lemmas.Bool.{eqb-true}
use Rattle.pli_world.specs.Storage.{Block, Generation, generation_in, with_values, with_blocks, without}
use Rattle.pli_value.specs.Value.{Value}

some_same : {A : Type 0} {x y : A} → Some x ≡ Some y → x ≡ y
some_same e = cc

none_some : {A : Type 0} {x : A} → None ≡ Some x → ⊥
none_some e = absurd (cc)

-- the generation of a number has it
pub numbered : (gs : List Generation) (n : ℕ) (g : Generation) → generation_in gs n ≡ Some g → g.number ≡ n
numbered [] n g h = absurd (none_some h)
numbered (x ∷ xs) n g h = by (nat_eq x.number n) refl h (numbered xs n g)
  where
    by : (b : Bool) → nat_eq x.number n ≡ b → (if b then Some x else generation_in xs n) ≡ Some g
        → (generation_in xs n ≡ Some g → g.number ≡ n) → g.number ≡ n
    by true e h rest = ap (λ (g : Generation). g.number) (sym (some_same h)) ∙ eqb-true x.number n e
    by false e h rest = rest h

-- a generation more
pub appended : (gs : List Generation) (x : Generation) (n : ℕ) (g : Generation) → generation_in (gs ++ x ∷ []) n ≡ Some g
    → (generation_in gs n ≡ Some g) ⊎ ((x.number ≡ n) × (x ≡ g))
appended [] x n g h = by (nat_eq x.number n) refl h
  where
    by : (b : Bool) → nat_eq x.number n ≡ b → (if b then Some x else None) ≡ Some g
        → (None ≡ Some g) ⊎ ((x.number ≡ n) × (x ≡ g))
    by true e h = inr (eqb-true x.number n e, some_same h)
    by false e h = inl h
appended (y ∷ ys) x n g h = by (nat_eq y.number n) (appended ys x n g) h
  where
    by : (b : Bool)
        → (generation_in (ys ++ x ∷ []) n ≡ Some g → (generation_in ys n ≡ Some g) ⊎ ((x.number ≡ n) × (x ≡ g)))
        → (if b then Some y else generation_in (ys ++ x ∷ []) n) ≡ Some g
        → ((if b then Some y else generation_in ys n) ≡ Some g) ⊎ ((x.number ≡ n) × (x ≡ g))
    by true rest h = inl h
    by false rest h = rest h

-- what a generation holds changed, and its blocks
abbrev pub holding : List Value → Generation → Generation
holding vs g = record g { values = vs }

abbrev pub reblocked : (List Block → List Block) → Generation → Generation
reblocked change g = record g { blocks = change g.blocks }

-- one generation changed, whatever is changed of it
abbrev changed : List Generation → (number : ℕ) → (Generation → Generation) → List Generation
changed [] k change = []
changed (g ∷ gs) k change = if nat_eq g.number k then change g ∷ gs else g ∷ changed gs k change

-- what there was for what is found then
pub record WasThere (gs : List Generation) (k : ℕ) (change : Generation → Generation) (n : ℕ) (g : Generation) : Type 0 where
  pub old : Generation
  pub there : generation_in gs n ≡ Some old
  pub is : (old ≡ g) ⊎ ((k ≡ n) × (change old ≡ g))

was_there : (gs : List Generation) (k : ℕ) (change : Generation → Generation) → ((x : Generation) → (change x).number ≡ x.number) → (n : ℕ) (g : Generation)
    → generation_in (changed gs k change) n ≡ Some g → WasThere gs k change n g
was_there [] k change same n g h = absurd (none_some h)
was_there (x ∷ xs) k change same n g h = by (nat_eq x.number k) (nat_eq x.number n) refl refl (was_there xs k change same n g) h
  where
    by : (b c : Bool) → nat_eq x.number k ≡ b → nat_eq x.number n ≡ c
        → (generation_in (changed xs k change) n ≡ Some g → WasThere xs k change n g)
        → generation_in (if b then change x ∷ xs else x ∷ changed xs k change) n ≡ Some g → WasThere (x ∷ xs) k change n g
    by true true e d rest h =
        let now : nat_eq (change x).number n ≡ true = ap (λ m. nat_eq m n) (same x) ∙ d in record {
          old = x;
          there = ap (λ c. if c then Some x else generation_in xs n) d;
          is = inr (
            sym (eqb-true x.number k e) ∙ eqb-true x.number n d,
            some_same (sym (ap (λ c. if c then Some (change x) else generation_in xs n) now) ∙ h),
          );
        }
    by true false e d rest h =
        let now : nat_eq (change x).number n ≡ false = ap (λ m. nat_eq m n) (same x) ∙ d in record {
          old = g;
          there =
              ap (λ c. if c then Some x else generation_in xs n) d
              ∙ sym (ap (λ c. if c then Some (change x) else generation_in xs n) now) ∙ h;
          is = inl refl;
        }
    by false true e d rest h = record {
      old = x;
      there = ap (λ c. if c then Some x else generation_in xs n) d;
      is = inl (some_same (sym (ap (λ c. if c then Some x else generation_in (changed xs k change) n) d) ∙ h));
    }
    by false false e d rest h =
        let r = rest (sym (ap (λ c. if c then Some x else generation_in (changed xs k change) n) d) ∙ h) in record {
          old = r.old;
          there = ap (λ c. if c then Some x else generation_in xs n) d ∙ r.there;
          is = r.is;
        }

-- whose description was the same, where no description is changed
pub still_described : (gs : List Generation) (k : ℕ) (change : Generation → Generation) → ((x : Generation) → (change x).description ≡ x.description) → (n : ℕ) (g : Generation)
    → (r : WasThere gs k change n g) → r.old.description ≡ g.description
still_described gs k change same n g r = by r.old r.is
  where
    by : (old : Generation) → (old ≡ g) ⊎ ((k ≡ n) × (change old ≡ g)) → old.description ≡ g.description
    by old (inl e) = ap (λ (x : Generation). x.description) e
    by old (inr e) = sym (same old) ∙ ap (λ (x : Generation). x.description) e.1

values_changed : (gs : List Generation) (k : ℕ) (vs : List Value) → with_values gs k vs ≡ changed gs k (holding vs)
values_changed [] k vs = refl
values_changed (g ∷ gs) k vs = ap (λ rest. if nat_eq g.number k then holding vs g ∷ gs else g ∷ rest) (values_changed gs k vs)

pub values_replaced : (gs : List Generation) (k : ℕ) (vs : List Value) (n : ℕ) (g : Generation)
    → generation_in (with_values gs k vs) n ≡ Some g → WasThere gs k (holding vs) n g
values_replaced gs k vs n g h = was_there gs k (holding vs) (λ x. refl) n g (sym (ap (λ gs. generation_in gs n) (values_changed gs k vs)) ∙ h)

blocks_changed : (gs : List Generation) (k : ℕ) (change : List Block → List Block) → with_blocks gs k change ≡ changed gs k (reblocked change)
blocks_changed [] k change = refl
blocks_changed (g ∷ gs) k change = ap (λ rest. if nat_eq g.number k then reblocked change g ∷ gs else g ∷ rest) (blocks_changed gs k change)

pub blocks_replaced : (gs : List Generation) (k : ℕ) (change : List Block → List Block) (n : ℕ) (g : Generation)
    → generation_in (with_blocks gs k change) n ≡ Some g → WasThere gs k (reblocked change) n g
blocks_replaced gs k change n g h = was_there gs k (reblocked change) (λ x. refl) n g (sym (ap (λ gs. generation_in gs n) (blocks_changed gs k change)) ∙ h)

-- generations ended
kept_only : (numbers : List ℕ) (gs : List Generation) (n : ℕ) (g : Generation)
    → generation_in (without numbers gs) n ≡ Some g → not (list_any (nat_eq n) numbers) ≡ true
kept_only numbers [] n g h = absurd (none_some h)
kept_only numbers (x ∷ xs) n g h =
    by (not (list_any (nat_eq x.number) numbers)) (nat_eq x.number n) refl refl (kept_only numbers xs n g) h
  where
    by : (b c : Bool) → not (list_any (nat_eq x.number) numbers) ≡ b → nat_eq x.number n ≡ c
        → (generation_in (without numbers xs) n ≡ Some g → not (list_any (nat_eq n) numbers) ≡ true)
        → generation_in (cond b (x ∷ without numbers xs) (without numbers xs)) n ≡ Some g
        → not (list_any (nat_eq n) numbers) ≡ true
    by true true e d rest h = subst (λ m. not (list_any (nat_eq m) numbers) ≡ true) (eqb-true x.number n d) e
    by true false e d rest h = rest (sym (ap (λ c. if c then Some x else generation_in (without numbers xs) n) d) ∙ h)
    by false c e d rest h = rest h

pub lived_before : (numbers : List ℕ) (gs : List Generation) (n : ℕ) (g : Generation)
    → generation_in (without numbers gs) n ≡ Some g → generation_in gs n ≡ Some g
lived_before numbers [] n g h = h
lived_before numbers (x ∷ xs) n g h =
    by (not (list_any (nat_eq x.number) numbers)) (nat_eq x.number n) refl refl (lived_before numbers xs n g) h
  where
    by : (b c : Bool) → not (list_any (nat_eq x.number) numbers) ≡ b → nat_eq x.number n ≡ c
        → (generation_in (without numbers xs) n ≡ Some g → generation_in xs n ≡ Some g)
        → generation_in (cond b (x ∷ without numbers xs) (without numbers xs)) n ≡ Some g
        → (if c then Some x else generation_in xs n) ≡ Some g
    by true true e d rest h = sym (ap (λ c. if c then Some x else generation_in (without numbers xs) n) d) ∙ h
    by true false e d rest h = rest (sym (ap (λ c. if c then Some x else generation_in (without numbers xs) n) d) ∙ h)
    by false true e d rest h =
        absurd (true≢false (sym (kept_only numbers xs n g h)
        ∙ subst (λ m. not (list_any (nat_eq m) numbers) ≡ false) (eqb-true x.number n d) e))
    by false false e d rest h = rest h

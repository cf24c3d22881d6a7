-- Lists of labels, and the blocks of a tree where statements stand in them.
use Rattle.std.specs.Prelude.{◌≡◌, ℕ, zero, suc, ◌+◌, nat_eq, Bool, true, false, ◌||◌, IsTrue, Some}
use Rattle.std.specs.Prelude.{List, [], ◌∷◌, ◌++◌, length, slice_get, refl}
use Rattle.std.specs.List.{list_any}
use Rattle.std.proofs.Common.{arith, sym, ap, ◌∙◌, subst, length-append}
use Rattle.std.proofs.lemmas.List.Folds.{list_any-append}
use Rattle.pli_base.specs.Statements as tree
use Rattle.pli_base.specs.Statements.{Statement, Numbered, Body, Statements, Ended, Before, Alternative, NoElse, Else}
use Rattle.pli_parse_expression.specs.Expressions.{Deeper}
use Rattle.pli_declare.specs.declared.block_numbers.ResolvedBlockKind.TheVariants as kinds
use Rattle.pli_type_rules.specs.StatementTyping.{Enclosing, enclosing, labels_of, lasting_alone, only, with_labels}
use Rattle.pli_declare.specs.TreeBlocks as blocks
use Rattle.pli_type_laws.specs.Nesting.{NestsWithin, BodyNests, ListNests, ElseNests}
use Rattle.pli_type_laws.specs.SourceBlocks.{SourceBlock, begun_in, begun_by, begun_among, begun_after}

-- ---- labels

-- each label of one list is one of another
abbrev pub Within : List ℕ → List ℕ → Type 0
Within xs ys = (label : ℕ) → IsTrue (list_any (nat_eq label) xs) → IsTrue (list_any (nat_eq label) ys)

or_both : (a b c d : Bool) → (a ≡ true → c ≡ true) → (b ≡ true → d ≡ true) → (a || b) ≡ true → (c || d) ≡ true
or_both true b c d f g e = rw (f refl) refl
or_both false b true d f g e = refl
or_both false b false d f g e = g e

pub within_both : (xs ys vs ws : List ℕ) → Within xs vs → Within ys ws → Within (xs ++ ys) (vs ++ ws)
within_both xs ys vs ws f g label e =
    list_any-append (nat_eq label) vs ws
    ∙ or_both (list_any (nat_eq label) xs) (list_any (nat_eq label) ys) (list_any (nat_eq label) vs)
    (list_any (nat_eq label) ws) (f label) (g label) (sym (list_any-append (nat_eq label) xs ys) ∙ e)

pub within_after : (xs ys zs : List ℕ) → Within xs zs → Within xs (ys ++ zs)
within_after xs ys zs f label e =
    list_any-append (nat_eq label) ys zs ∙ or_both false (list_any (nat_eq label) xs) (list_any (nat_eq label) ys)
    (list_any (nat_eq label) zs) (λ e. absurd (cc)) (f label) e

pub within_self : (xs : List ℕ) → Within xs xs
within_self xs label e = e

-- ---- how many blocks begin

mutual
  pub begun_count : (around : List Enclosing) (x : ℕ) (s : Statement) → length (begun_in around x s) ≡ blocks.blocks_in s
  begun_count around x (Numbered number label at body) = body_count around x number body

  body_count : (around : List Enclosing) (x number : ℕ) (b : Body)
      → length (begun_by around x number b) ≡ blocks.blocks_of b
  body_count around x number (tree.Procedure heading statements end) =
      ap suc (list_count (enclosing x statements ∷ around) (suc x) statements)
  body_count around x number (tree.Begin statements end) =
      ap suc (list_count (enclosing x statements ∷ around) (suc x) statements)
  body_count around x number (tree.Do control statements end) =
      list_count (with_labels (labels_of statements) around) x statements
  body_count around x number (tree.If condition consequence alternative) =
      omega (
        arith,
        length-append (begun_in around x consequence) (begun_after around (x + blocks.blocks_in consequence) alternative),
        begun_count around x consequence,
        else_count around (x + blocks.blocks_in consequence) alternative,
      )
  body_count around x number (tree.On condition unit) =
      ap suc (begun_count (enclosing x (only unit) ∷ lasting_alone around) (suc x) unit)
  body_count around x number body = refl

  pub list_count : (around : List Enclosing) (x : ℕ) (ss : Statements)
      → length (begun_among around x ss) ≡ blocks.blocks_among ss
  list_count around x Ended = refl
  list_count around x (Before first more) =
      omega (
        arith,
        length-append (begun_in around x first) (begun_among around (x + blocks.blocks_in first) more),
        begun_count around x first,
        list_count around (x + blocks.blocks_in first) more,
      )

  else_count : (around : List Enclosing) (x : ℕ) (a : Alternative)
      → length (begun_after around x a) ≡ blocks.blocks_in_else a
  else_count around x NoElse = refl
  else_count around x (Else s) = begun_count around x s

-- ---- kinds of blocks

pub begin_no_procedure : kinds.Begin ≡ kinds.Procedure → ⊥
begin_no_procedure e = absurd (cc)

pub unit_no_procedure : kinds.OnUnit ≡ kinds.Procedure → ⊥
unit_no_procedure e = absurd (cc)

-- ---- a unit's blocks

module _ (all : List SourceBlock) where
  -- these stand among all, from a number on
  abbrev pub Sits : (number : ℕ) → List SourceBlock → Type 0
  Sits n [] = Unit {0}
  Sits n (b ∷ bs) = (slice_get all n ≡ Some b) × Sits (suc n) bs

  pub sits_parts : (n k : ℕ) (bs cs : List SourceBlock) → length bs ≡ k → Sits n (bs ++ cs) → Sits n bs × Sits (n + k) cs
  sits_parts n k [] cs e h = (tt, subst (λ m. Sits m cs) (omega (arith, e)) h)
  sits_parts n zero (b ∷ bs) cs e h = absurd (omega (arith, e))
  sits_parts n (suc k) (b ∷ bs) cs e h =
      let rest : Sits (suc n) bs × Sits (suc n + k) cs = sits_parts (suc n) k bs cs (omega (arith, e)) h.1 in
      ((h.0, rest.0), subst (λ m. Sits m cs) (omega arith) rest.1)

  pub sits_all : (n : ℕ) (bs : List SourceBlock) → ((i : ℕ) → slice_get all (n + i) ≡ slice_get bs i) → Sits n bs
  sits_all n [] f = tt
  sits_all n (b ∷ bs) f =
      let here : n ≡ n + 0 = omega arith in
      (ap (slice_get all) here ∙ f 0, sits_all (suc n) bs (λ i. ap (slice_get all) (next i) ∙ f (suc i)))
    where
      next : (i : ℕ) → suc n + i ≡ n + suc i
      next i = omega arith

  -- blocks around that stand where they say, with at least the labels of their lists, which last
  abbrev pub AreHome : List Enclosing → Type 0
  AreHome [] = Unit {0}
  AreHome (e ∷ rest) =
      ((b : SourceBlock) × (slice_get all e.number ≡ Some b) × (b.around ≡ rest) × Within b.labels e.labels
      × Within b.labels e.lasting) × AreHome rest

  -- directly in the list of a block
  abbrev pub StandsDirectly : List Enclosing → Type 0
  StandsDirectly [] = Unit {0}
  StandsDirectly (e ∷ rest) =
      (b : SourceBlock) × (slice_get all e.number ≡ Some b) × (b.around ≡ rest) × Within e.labels b.labels
      × Within e.lasting b.labels

  pub home_labels : (labels : List ℕ) (around : List Enclosing) → AreHome around → AreHome (with_labels labels around)
  home_labels labels [] h = tt
  home_labels labels (e ∷ rest) h =
      ((h.0.0, h.0.1, h.0.2, within_after h.0.0.labels labels e.labels h.0.3, h.0.4), h.1)

  pub home_lasting : (around : List Enclosing) → AreHome around → AreHome (lasting_alone around)
  home_lasting [] h = tt
  home_lasting (e ∷ rest) h = ((h.0.0, h.0.1, h.0.2, h.0.4, h.0.4), h.1)

  abbrev pub AreDirect : List SourceBlock → Type 0
  AreDirect [] = Unit {0}
  AreDirect (b ∷ bs) = (b.kind ≡ kinds.Procedure → StandsDirectly b.around) × AreDirect bs

  direct_both : (bs cs : List SourceBlock) → AreDirect bs → AreDirect cs → AreDirect (bs ++ cs)
  direct_both [] cs h k = k
  direct_both (b ∷ bs) cs h k = (h.0, direct_both bs cs h.1 k)

  inside : (levels : ℕ) (F : ℕ → Type 0) (X : Type 0) → Deeper F levels → ((m : ℕ) → F m → X) → X
  inside zero F X h g = absurd h
  inside (suc m) F X h g = g m h

  mutual
    direct_in : (d : Bool) (levels : ℕ) (around : List Enclosing) (x : ℕ) (s : Statement) → NestsWithin d levels s
        → (d ≡ true → StandsDirectly around) → Sits x (begun_in around x s) → AreDirect (begun_in around x s)
    direct_in d levels around x (Numbered number label at body) n k h = direct_by d levels around x number body n k h

    direct_by : (d : Bool) (levels : ℕ) (around : List Enclosing) (x number : ℕ) (b : Body) → BodyNests d levels b
        → (d ≡ true → StandsDirectly around) → Sits x (begun_by around x number b) → AreDirect (begun_by around x number b)
    direct_by d levels around x number (tree.Procedure heading statements end) n k h = (
      λ e. k n.0,
      inside levels (λ m. ListNests true m statements) _ n.1
          (λ m g. direct_among true m (enclosing x statements ∷ around) (suc x) statements g
          (λ e. (_, h.0, refl, within_self (labels_of statements), within_self (labels_of statements))) h.1),
    )
    direct_by d levels around x number (tree.Begin statements end) n k h = (
      λ e. absurd (begin_no_procedure e),
      inside levels (λ m. ListNests true m statements) _ n
          (λ m g. direct_among true m (enclosing x statements ∷ around) (suc x) statements g
          (λ e. (_, h.0, refl, within_self (labels_of statements), within_self (labels_of statements))) h.1),
    )
    direct_by d levels around x number (tree.Do control statements end) n k h =
        inside levels (λ m. ListNests false m statements) _ n
        (λ m g. direct_among false m (with_labels (labels_of statements) around) x statements g (λ e. absurd (cc)) h)
    direct_by d levels around x number (tree.If condition consequence alternative) n k h =
        let parts : Sits x (begun_in around x consequence)
        × Sits (x + blocks.blocks_in consequence) (begun_after around (x + blocks.blocks_in consequence) alternative) =
        sits_parts x (blocks.blocks_in consequence) _ _ (begun_count around x consequence) h in
        inside levels (λ m. NestsWithin false m consequence × ElseNests m alternative) _ n
        (λ m g. direct_both (begun_in around x consequence) _
        (direct_in false m around x consequence g.0 (λ e. absurd (cc)) parts.0)
        (direct_after m around (x + blocks.blocks_in consequence) alternative g.1 parts.1))
    direct_by d levels around x number (tree.On condition unit) n k h = (
      λ e. absurd (unit_no_procedure e),
      inside levels (λ m. NestsWithin false m unit) _ n
          (λ m g. direct_in false m (enclosing x (only unit) ∷ lasting_alone around) (suc x) unit g (λ e. absurd (cc)) h.1),
    )
    direct_by d levels around x number body n k h = tt

    pub direct_among : (d : Bool) (levels : ℕ) (around : List Enclosing) (x : ℕ) (ss : Statements) → ListNests d levels ss
        → (d ≡ true → StandsDirectly around) → Sits x (begun_among around x ss) → AreDirect (begun_among around x ss)
    direct_among d levels around x Ended n k h = tt
    direct_among d levels around x (Before first more) n k h =
        let parts : Sits x (begun_in around x first)
        × Sits (x + blocks.blocks_in first) (begun_among around (x + blocks.blocks_in first) more) =
        sits_parts x (blocks.blocks_in first) _ _ (begun_count around x first) h in
        direct_both (begun_in around x first) _ (direct_in d levels around x first n.0 k parts.0)
        (direct_among d levels around (x + blocks.blocks_in first) more n.1 k parts.1)

    direct_after : (levels : ℕ) (around : List Enclosing) (x : ℕ) (a : Alternative) → ElseNests levels a
        → Sits x (begun_after around x a) → AreDirect (begun_after around x a)
    direct_after levels around x NoElse n h = tt
    direct_after levels around x (Else s) n h = direct_in false levels around x s n (λ e. absurd (cc)) h

  pub direct_at : (bs : List SourceBlock) (number : ℕ) (b : SourceBlock) → AreDirect bs → slice_get bs number ≡ Some b
      → b.kind ≡ kinds.Procedure → StandsDirectly b.around
  direct_at [] number b h e k = absurd (cc)
  direct_at (c ∷ bs) zero b h e k = first (same e)
    where
      same : slice_get (c ∷ bs) zero ≡ Some b → c ≡ b
      same e = cc

      first : c ≡ b → StandsDirectly b.around
      first i = subst (λ (d : SourceBlock). d.kind ≡ kinds.Procedure → StandsDirectly d.around) i h.0 k
  direct_at (c ∷ bs) (suc number) b h e k = direct_at bs number b h.1 e k

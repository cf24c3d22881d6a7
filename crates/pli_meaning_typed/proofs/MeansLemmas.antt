-- What doing something means, and a lemma for each combinator: no effect is lost, and none is short of a level.
use Rattle.std.specs.Prelude.{◌≡◌, ℕ, zero, suc, ◌≤◌, ◌<◌, nat_eq, nat_lt, Bool, true, false, ◌&&◌, IsTrue, Option, Some}
use Rattle.std.specs.Prelude.{List, ◌∷◌, length, if◌then◌else◌, refl}
use Rattle.std.proofs.Common.{arith, sym, ◌∙◌, subst, true≢false}
use Rattle.std.proofs.lemmas.Bool.{eqb-true}
use Rattle.pli_run.specs.declared.ending.RunError.TheVariants.{TooManyActivations}
use Rattle.pli_world.specs.Activations.{activation_limit}
use Rattle.pli_world.specs.World.{World, Answer, Yields, Raises, Wrong, height, stepped, at_statement, left_by, cleared, error_at}
use Rattle.pli_type_tree.specs.TypedTree.{TypedUnit}
use Rattle.pli_meaning_tree.specs.Effects.{Label, Effect, Gives, Jumps, Fails, Spent, Lost, Short, Flow, Next, Returned, Doing, and_then}
use Rattle.pli_meaning_tree.specs.Effects.{after_flow, answered, as_step, as_statement, turns, on_jump, caught}
use Rattle.pli_meaning_tree.specs.Effects.{unless_full, leaving, nothing_done}
use Rattle.pli_meaning_tree.specs.Parts.{followed, chosen}
use Rattle.pli_meaning_typed.specs.SoundWorlds.{Known, Shape, IsSound, IsLater, IsTold, Answers}
use Rattle.pli_meaning_typed.proofs.ContextLaws.{shaped_length}
use Rattle.pli_meaning_typed.proofs.WorldLaws.{later_same, later_then, error_named, statement_sound, stepped_sound, cleared_sound, cleared_later, left_sound, left_later}

-- no jump leads further in than the newest activation
abbrev pub IsBelow : Known → ℕ → Type 0
IsBelow known height = (h : ℕ) (k : Label) → height < h → known h k ≡ false

-- what is caught by a list of the newest activation too
abbrev pub also : (held : Label → Bool) → (height : ℕ) → Known → Known
also held height known h k = if nat_eq h height && held k then true else known h k

abbrev pub Anything : {A : Type 0} → A → World → Type 0
Anything x w = Unit {0}

module _ (units : List TypedUnit) where
  abbrev Sound : List Shape → World → Type 0
  Sound ss w = IsSound units ss w

  -- at a level, from a world on with so many steps, an effect has a meaning: a result is as it should be, a jump leads to
  -- where it is known and took a step, an error names a statement
  abbrev pub Means : {A : Type 0} → (level steps : ℕ) → Known → List Shape → World → (A → World → Type 0) → Effect A → Type 0
  Means n l known ss u Is (Gives x w left) = (left ≤ l) × Is x w × IsSound units ss w × IsLater u w
  Means n l known ss u Is (Jumps h k w left) = (left < l) × IsTrue (known h k) × IsSound units ss w × IsLater u w
  Means n l known ss u Is (Fails e w) = IsTold units e
  Means n l known ss u Is (Spent w) = Unit {0}
  Means n l known ss u Is Lost = ⊥
  Means n l known ss u Is Short = n ≤ l

  pub means_from : {A : Type 0} (P : A → World → Type 0) (n m l : ℕ) (known : Known) (ss : List Shape) (u v : World) (o : Effect A)
      → m ≤ l → IsLater u v → Means n m known ss v P o → Means n l known ss u P o
  means_from P n m l known ss u v (Gives x w left) le later h = (omega (arith, h.0, le), h.1, h.2, later_then u v w later h.3)
  means_from P n m l known ss u v (Jumps i k w left) le later h = (omega (arith, h.0, le), h.1, h.2, later_then u v w later h.3)
  means_from P n m l known ss u v (Fails e w) le later h = h
  means_from P n m l known ss u v (Spent w) le later h = h
  means_from P n m l known ss u v Lost le later h = h
  means_from P n m l known ss u v Short le later h = omega (arith, h, le)

  -- what is so in one way is so in another
  pub means_as : {A : Type 0} (P Q : A → World → Type 0) (n l : ℕ) (known : Known) (ss : List Shape) (u : World) (o : Effect A)
      → ((x : A) (w : World) → P x w → Q x w) → Means n l known ss u P o → Means n l known ss u Q o
  means_as P Q n l known ss u (Gives x w left) f h = (h.0, f x w h.1, h.2, h.3)
  means_as P Q n l known ss u (Jumps i k w left) f h = h
  means_as P Q n l known ss u (Fails e w) f h = h
  means_as P Q n l known ss u (Spent w) f h = h
  means_as P Q n l known ss u Lost f h = h
  means_as P Q n l known ss u Short f h = h

  pub then_means : {A B : Type 0} (P : A → World → Type 0) (Q : B → World → Type 0) (n l : ℕ) (known : Known) (ss : List Shape) (u : World)
      (o : Effect A) (go : A → Doing B) → Means n l known ss u P o
      → ((x : A) (w : World) (left : ℕ) → left ≤ l → P x w → IsSound units ss w → IsLater u w → Means n left known ss w Q (go x w left))
      → Means n l known ss u Q (and_then o go)
  then_means P Q n l known ss u (Gives x w left) go h f =
      means_from Q n left l known ss u w (go x w left) h.0 h.3 (f x w left h.0 h.1 h.2 h.3)
  then_means P Q n l known ss u (Jumps i k w left) go h f = h
  then_means P Q n l known ss u (Fails e w) go h f = h
  then_means P Q n l known ss u (Spent w) go h f = h
  then_means P Q n l known ss u Lost go h f = h
  then_means P Q n l known ss u Short go h f = h

  -- an operation
  pub answer_means : {A : Type 0} (P : A → World → Type 0) (n left : ℕ) (known : Known) (ss : List Shape) (u : World) (o : Answer A)
      → Answers units (λ x w. P x w × IsSound units ss w × IsLater u w) o → Means n left known ss u P (answered o left)
  answer_means P n left known ss u (Yields x w) h = (omega arith, h.0, h.1, h.2)
  answer_means P n left known ss u (Raises e w) h = h
  answer_means P n left known ss u Wrong h = h

  pub answer_kept : (n left : ℕ) (known : Known) (ss : List Shape) (u : World) (o : Answer (Unit {0}))
      → Answers units (λ x w. IsSound units ss w × IsLater u w) o → Means n left known ss u Anything (answered o left)
  answer_kept n left known ss u (Yields x w) h = (omega arith, tt, h.0, h.1)
  answer_kept n left known ss u (Raises e w) h = h
  answer_kept n left known ss u Wrong h = h

  pub kept_answers : (ss : List Shape) (u : World) (o : Answer (Unit {0})) → Answers units (λ x w. IsSound units ss w × IsLater u w) o
      → Answers units (λ x w. Anything x w × IsSound units ss w × IsLater u w) o
  kept_answers ss u (Yields x w) h = (tt, h.0, h.1)
  kept_answers ss u (Raises e w) h = h
  kept_answers ss u Wrong h = h

  -- steps
  pub step_means : {A : Type 0} (P : A → World → Type 0) (n : ℕ) (known : Known) (ss : List Shape) (go : Doing A) (w : World) (left : ℕ)
      → IsSound units ss w
      → ((v : World) (l : ℕ) → suc l ≡ left → IsSound units ss v → Means n (suc l) known ss v P (go v l))
      → Means n left known ss w P (as_step go w left)
  step_means P n known ss go w zero sound f = tt
  step_means P n known ss go w (suc left) sound f =
      let s = stepped_sound units ss w sound in
      means_from P n (suc left) (suc left) known ss w (stepped w) (go (stepped w) left) (omega arith) s.1 (f (stepped w) left refl s.0)

  pub statement_means : {A : Type 0} (P : A → World → Type 0) (n : ℕ) (known : Known) (ss : List Shape) (number : ℕ) (go : Doing A) (w : World) (left : ℕ)
      → IsSound units ss w
      → ((v : World) (l : ℕ) → suc l ≡ left → IsSound units ss v → Means n (suc l) known ss v P (go v l))
      → Means n left known ss w P (as_statement number go w left)
  statement_means P n known ss number go w left sound f =
      step_means P n known ss (λ w left. go (at_statement number w) left) w left sound
      (λ v l e s. let t = statement_sound units ss number v s in
      means_from P n (suc l) (suc l) known ss v (at_statement number v) (go (at_statement number v) l) (omega arith) t.1 (f (at_statement number v) l e t.0))

  -- a choice
  pub chosen_means : {A : Type 0} (P : A → World → Type 0) (n l : ℕ) (known : Known) (ss : List Shape) (u : World) (b : Bool) (go other : Doing A) (w : World) (left : ℕ)
      → Means n l known ss u P (go w left) → Means n l known ss u P (other w left) → Means n l known ss u P (chosen b go other w left)
  chosen_means P n l known ss u true go other w left f g = f
  chosen_means P n l known ss u false go other w left f g = g

  -- jumps that are caught
  heights : (ss : List Shape) (w : World) → IsSound units ss w → height w ≡ length ss
  heights ss w sound = shaped_length w ss w.activations sound.stack

  pub caught_means : (P : Flow → World → Type 0) (n : ℕ) (known : Known) (ss : List Shape) (held : Label → Bool) (run : Option Label → Doing Flow)
      (Starts : Option Label → Type 0) → ((k : Label) → held k ≡ true → Starts (Some k))
      → ((from : Option Label) → Starts from → (w : World) (left : ℕ) → IsSound units ss w
      → Means n left (also held (length ss) known) ss w P (run from w left))
      → (m : ℕ) → m ≤ n → (from : Option Label) → Starts from → (w : World) (left : ℕ) → IsSound units ss w
      → Means m left known ss w P (caught m held run from w left)
  caught_means P n known ss held run Starts labels f zero le from starts w left sound = omega arith
  caught_means P n known ss held run Starts labels f (suc m) le from starts w left sound =
      by (run from w left) (f from starts w left sound)
      (λ k e v rest s. caught_means P n known ss held run Starts labels f m (omega (arith, le)) (Some k) (labels k e) v rest s)
    where
      again : (v : World) (rest : ℕ) (o : Effect Flow) → rest < left → IsLater w v → Means m rest known ss v P o → Means (suc m) left known ss w P o
      again v rest (Gives x z l) lt later h = (omega (arith, h.0, lt), h.1, h.2, later_then w v z later h.3)
      again v rest (Jumps i k z l) lt later h = (omega (arith, h.0, lt), h.1, h.2, later_then w v z later h.3)
      again v rest (Fails e z) lt later h = h
      again v rest (Spent z) lt later h = h
      again v rest Lost lt later h = h
      again v rest Short lt later h = omega (arith, h, lt)

      jump : (h : ℕ) (k : Label) (v : World) (rest : ℕ) (b : Bool) → (nat_eq h (length ss) && held k) ≡ b → rest < left
          → IsTrue (if b then true else known h k) → IsSound units ss v → IsLater w v
          → ((k : Label) → held k ≡ true → (v : World) (rest : ℕ) → IsSound units ss v → Means m rest known ss v P (caught m held run (Some k) v rest))
          → Means (suc m) left known ss w P (if b then caught m held run (Some k) (cleared v) rest else Jumps h k v rest)
      jump h k v rest true e lt known sound later f =
          again (cleared v) rest (caught m held run (Some k) (cleared v) rest) lt (later_then w v (cleared v) later (cleared_later units v))
          (f k (right (nat_eq h (length ss)) (held k) e) (cleared v) rest (cleared_sound units ss v sound))
        where
          right : (a b : Bool) → a && b ≡ true → b ≡ true
          right true b h = h
          right false b h = absurd (cc)
      jump h k v rest false e lt known sound later f = (lt, known, sound, later)

      by : (o : Effect Flow) → Means n left (also held (length ss) known) ss w P o
          → ((k : Label) → held k ≡ true → (v : World) (rest : ℕ) → IsSound units ss v → Means m rest known ss v P (caught m held run (Some k) v rest))
          → Means (suc m) left known ss w P (on_jump held o (λ k. caught m held run (Some k)))
      by (Gives x v rest) h f = h
      by (Jumps h k v rest) j f =
          subst (λ t. Means (suc m) left known ss w P (if nat_eq h t && held k then caught m held run (Some k) (cleared v) rest else Jumps h k v rest))
          (sym (heights ss v j.2))
          (jump h k v rest (nat_eq h (length ss) && held k) refl j.0 j.1 j.2 j.3 f)
      by (Fails e v) h f = h
      by (Spent v) h f = h
      by Lost h f = h
      by Short h f = omega (arith, h, le)

  -- the newest activation ends
  pub leaving_means : {A B : Type 0} (P : A → World → Type 0) (Q : B → World → Type 0) (n l : ℕ) (known : Known) (s : Shape) (ss : List Shape) (u : World)
      (o : Effect A) (go : A → Doing B) → IsBelow known (length ss) → Means n l known (s ∷ ss) u P o
      → ((x : A) (w : World) (left : ℕ) → left ≤ l → P x w → IsSound units (s ∷ ss) w → IsLater u w → Means n left known ss w Q (go x w left))
      → Means n l known ss u Q (leaving o go)
  leaving_means P Q n l known s ss u (Gives x w left) go below h f =
      means_from Q n left l known ss u w (go x w left) h.0 h.3 (f x w left h.0 h.1 h.2 h.3)
  leaving_means P Q n l known s ss u (Jumps i k w left) go below h f = by (nat_eq i (height w)) refl
    where
      by : (b : Bool) → nat_eq i (height w) ≡ b → Means n l known ss u Q (if b then Lost else Jumps i k (left_by w) left)
      by true e =
          let same : i ≡ suc (length ss) = eqb-true i (height w) e ∙ heights (s ∷ ss) w h.2 in
          absurd (true≢false (sym h.1 ∙ below i k (omega (arith, same))))
      by false e = (h.0, h.1, left_sound units s ss w h.2, later_then u w (left_by w) h.3 (left_later units w))
  leaving_means P Q n l known s ss u (Fails e w) go below h f = h
  leaving_means P Q n l known s ss u (Spent w) go below h f = h
  leaving_means P Q n l known s ss u Lost go below h f = h
  leaving_means P Q n l known s ss u Short go below h f = h

  -- unless there are too many activations
  pub full_means : {A : Type 0} (P : A → World → Type 0) (n left : ℕ) (known : Known) (s : Shape) (ss : List Shape) (go : Doing A) (w : World)
      → IsSound units (s ∷ ss) w → Means n left known (s ∷ ss) w P (go w left)
      → Means n left known (s ∷ ss) w P (unless_full go w left)
  full_means P n left known s ss go w sound h = by (nat_lt (height w) activation_limit)
    where
      by : (b : Bool) → Means n left known (s ∷ ss) w P (if b then go w left else Fails (error_at TooManyActivations w) w)
      by true = h
      by false = error_named units s ss w TooManyActivations sound

  -- statements one after the other
  pub followed_means : (P : Flow → World → Type 0) (n l : ℕ) (known : Known) (ss : List Shape) (u : World) (o : Effect Flow) (go : Doing Flow)
      → Means n l known ss u P o
      → ((w : World) (left : ℕ) → left ≤ l → IsSound units ss w → Means n left known ss w P (go w left))
      → Means n l known ss u P (followed o go)
  followed_means P n l known ss u o go h f = then_means P P n l known ss u o (after_flow go) h by
    where
      by : (x : Flow) (w : World) (left : ℕ) → left ≤ l → P x w → IsSound units ss w → IsLater u w → Means n left known ss w P (after_flow go x w left)
      by Next w left le is sound later = f w left le sound
      by (Returned outward v) w left le is sound later = (omega arith, is, sound, later_same w)

  -- at a lower level; and with a step less at a level less
  pub lower_means : {A : Type 0} (P : A → World → Type 0) (n m l : ℕ) (known : Known) (ss : List Shape) (u : World) (o : Effect A)
      → m ≤ n → Means n l known ss u P o → Means m l known ss u P o
  lower_means P n m l known ss u (Gives x w left) le h = h
  lower_means P n m l known ss u (Jumps i k w left) le h = h
  lower_means P n m l known ss u (Fails e w) le h = h
  lower_means P n m l known ss u (Spent w) le h = h
  lower_means P n m l known ss u Lost le h = h
  lower_means P n m l known ss u Short le h = omega (arith, h, le)

  pub after_step : {A : Type 0} (P : A → World → Type 0) (m l : ℕ) (known : Known) (ss : List Shape) (u v : World) (o : Effect A)
      → IsLater u v → Means m l known ss v P o → Means (suc m) (suc l) known ss u P o
  after_step P m l known ss u v (Gives x w left) later h = (omega (arith, h.0), h.1, h.2, later_then u v w later h.3)
  after_step P m l known ss u v (Jumps i k w left) later h = (omega (arith, h.0), h.1, h.2, later_then u v w later h.3)
  after_step P m l known ss u v (Fails e w) later h = h
  after_step P m l known ss u v (Spent w) later h = h
  after_step P m l known ss u v Lost later h = h
  after_step P m l known ss u v Short later h = omega (arith, h)

  -- turns of a group: the test, a list that begins with a step, and what comes between two turns
  abbrev turn_then : ℕ → (list between go : Doing Flow) → Doing Flow
  turn_then number list between go w left =
      followed (as_statement number list w left) (λ w left. followed (between w left) go)

  turn_means : (P : Flow → World → Type 0) (n m : ℕ) (known : Known) (ss : List Shape) (number : ℕ) (list between go : Doing Flow) → m ≤ n
      → ((w : World) (left : ℕ) → IsSound units ss w → Means n left known ss w P (list w left))
      → ((w : World) (left : ℕ) → IsSound units ss w → Means n left known ss w P (between w left))
      → ((w : World) (left : ℕ) → IsSound units ss w → Means m left known ss w P (go w left))
      → (w : World) (left : ℕ) → IsSound units ss w → Means (suc m) left known ss w P (turn_then number list between go w left)
  turn_means P n m known ss number list between go le g b rest w zero sound = tt
  turn_means P n m known ss number list between go le g b rest w (suc left) sound =
      let v = stepped w in
      let u = at_statement number v in
      let s = stepped_sound units ss w sound in
      let t = statement_sound units ss number v s.0 in
      after_step P m left known ss w u (followed (list u left) (λ w left. followed (between w left) go)) (later_then w v u s.1 t.1)
      (followed_means P m left known ss u (list u left) (λ w left. followed (between w left) go)
      (lower_means P n m left known ss u (list u left) le (g u left t.0))
      (λ w left le2 sound. followed_means P m left known ss w (between w left) go
      (lower_means P n m left known ss w (between w left) le (b w left sound)) (λ w left le3 sound. rest w left sound)))

  pub turns_means : (P : Flow → World → Type 0) (n : ℕ) (known : Known) (ss : List Shape) (number : ℕ) (test : Doing Bool) (list between : Doing Flow)
      → ((w : World) → P Next w)
      → ((w : World) (left : ℕ) → IsSound units ss w → Means n left known ss w Anything (test w left))
      → ((w : World) (left : ℕ) → IsSound units ss w → Means n left known ss w P (list w left))
      → ((w : World) (left : ℕ) → IsSound units ss w → Means n left known ss w P (between w left))
      → (m : ℕ) → m ≤ n → (w : World) (left : ℕ) → IsSound units ss w
      → Means m left known ss w P (turns m test (as_statement number list) between w left)
  turns_means P n known ss number test list between next f g h zero le w left sound = omega arith
  turns_means P n known ss number test list between next f g h (suc m) le w left sound =
      let go = turns m test (as_statement number list) between in
      then_means Anything P (suc m) left known ss w (test w left) _
      (lower_means Anything n (suc m) left known ss w (test w left) le (f w left sound))
      (λ b v l le2 any s later. chosen_means P (suc m) l known ss v b (turn_then number list between go) nothing_done v l
      (turn_means P n m known ss number list between go (omega (arith, le)) g h
      (λ w left s. turns_means P n known ss number test list between next f g h m (omega (arith, le)) w left s) v l s)
      (omega arith, next v, s, later_same v))

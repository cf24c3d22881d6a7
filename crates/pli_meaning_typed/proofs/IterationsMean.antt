-- What a well-typed iteration means: what it keeps is of the types of its parts.
use Rattle.std.specs.Prelude.{◌≡◌, ℕ, zero, suc, ◌+◌, min, max, Bool, true, false, pos, Option, Some, None}
use Rattle.std.specs.Prelude.{List, [], ◌∷◌, ◌++◌, slice_get, refl}
use Rattle.std.proofs.Common.{arith, sym, ap, subst, append_assoc}
use Rattle.pli_map.specs.Description.{Description}
use Rattle.pli_map.specs.ParameterTypes.{ParameterType, Stated, AnyString}
use Rattle.pli_map.specs.declared.parameter.StringForm.{StringForm}
use Rattle.pli_operation.specs.declared.operation.Operation.TheVariants.{Add, Within}
use Rattle.pli_operation.specs.Operations.{calculated}
use Rattle.pli_world.specs.World.{World, held, stored, calculation, at_statement}
use Rattle.pli_value.specs.Value.{Value, Number}
use Rattle.pli_type_tree.specs.Iterations.{kept_by, limit_number, step_number, is_iterated}
use Rattle.pli_type_tree.specs.TypedOperations.{comes_to}
use Rattle.pli_type_tree.specs.TypedTree.{TypedOperation, Operate, TypedUnit, TypedExpression, Conversion, TypedRange, Once, ToBy, ByTo, Repeated, RepeatedString, Iteration}
use Rattle.pli_type_tree.specs.ValueTypes.{ValueType, Numbers, Strings, OfBits, kind_of_form, type_held, IsOf, AreOf, Operates}
use Rattle.pli_type_tree.specs.WellTyped.{TypingContext, IsTyped, IsPlaced, IsValueFor, IsString, IsConversion, Counts, IsRange, IsOpenRange, IsRangeFor, IsPossibleCondition, IsIteration}
use Rattle.pli_meaning_tree.specs.Effects as effect
use Rattle.pli_meaning_tree.specs.Effects.{Effect, Gives, Flow, Doing, and_then, nothing_done, answered, as_statement, back_at, truth}
use Rattle.pli_meaning_tree.specs.TreeMeaning.{Calls, value_of, place_of, keeps, converted, sets, advanced, within_limit, while_holds, may_turn}
use Rattle.pli_meaning_tree.specs.TreeMeaning.{advances, turned, iterates}
use Rattle.pli_meaning_tree.specs.Parts.{resolved, kept}
use Rattle.pli_meaning_typed.specs.SoundWorlds.{Known, Shape, IsSound, IsLater}
use Rattle.pli_meaning_typed.proofs.MeansLemmas.{Means, Anything, means_from, answer_kept, statement_means, chosen_means, followed_means, turns_means}
use Rattle.pli_meaning_typed.proofs.ExpressionsMean.{OfType, AtPlace, HeldBy, TakenPlace, CallsMean, calculated_means, held_means}
use Rattle.pli_meaning_typed.proofs.WorldLaws.{later_same, good_later, stored_answers, statement_sound}
use Rattle.pli_meaning_typed.proofs.FormsMean.{conversion_scalar, FlowIs, Fits, then_here, value, place, taken_place, ends, truth_means, condition_means, conversion_means, assigns_means, string_assigned}

-- values of types, with one more, and the one of a number
one_more : (ts : List ValueType) (t : ValueType) (vs : List Value) (v : Value) → AreOf ts vs → IsOf t v → AreOf (ts ++ t ∷ []) (vs ++ v ∷ [])
one_more [] t [] v are is = (is, tt)
one_more [] t (w ∷ vs) v are is = absurd are
one_more (u ∷ ts) t [] v are is = absurd are
one_more (u ∷ ts) t (w ∷ vs) v are is = (are.0, one_more ts t vs v are.1 is)

of_number : (ts : List ValueType) (vs : List Value) → AreOf ts vs → (k : ℕ) (t : ValueType) → slice_get ts k ≡ Some t
    → (v : Value) × (slice_get vs k ≡ Some v) × IsOf t v
of_number [] vs are k t e = absurd (cc)
of_number (u ∷ ts) [] are k t e = absurd are
of_number (u ∷ ts) (v ∷ vs) are zero t e = let same : u ≡ t = cc in (v, refl, subst (λ u. IsOf u v) same are.0)
of_number (u ∷ ts) (v ∷ vs) are (suc k) t e = of_number ts vs are.1 k t e

no_more : (ts : List ValueType) → ts ++ [] ≡ ts
no_more [] = refl
no_more (t ∷ ts) = ap (λ ts. t ∷ ts) (no_more ts)

module _ (greatest : ℕ) (s : TypingContext) where
  -- expressions give values of types
  abbrev AreValued : List TypedExpression → List ValueType → Type 0
  AreValued [] [] = Unit {0}
  AreValued (e ∷ es) (t ∷ ts) = IsTyped greatest s e t × AreValued es ts
  AreValued es ts = ⊥

  -- the numbers that a limit and a step have among what is kept
  abbrev IsNumbered : List ValueType → (number : ℕ) → Type 0
  IsNumbered ts number = (r : ℕ) × (slice_get ts number ≡ Some (Numbers r))

  abbrev HasLimit : ParameterType → List ValueType → (limit : Option ℕ) → (step : ℕ) → Type 0
  HasLimit type ts None step = Unit {0}
  HasLimit type ts (Some limit) step = ((d : Description) × (type ≡ Stated d) × ((q : ℕ) × (type_held d ≡ Some (Numbers q)))) × IsNumbered ts limit × IsNumbered ts step

  -- a variable that is stated counts
  abbrev CountsAs : Conversion → ParameterType → Type 0
  CountsAs conversion type = (d : Description) × (type ≡ Stated d) × Counts greatest s conversion d

  abbrev Advances : Conversion → ParameterType → List ValueType → TypedRange → Type 0
  Advances conversion type ts Once = Unit {0}
  Advances conversion type ts (ToBy to by) = CountsAs conversion type × IsNumbered ts 2
  Advances conversion type ts (ByTo by to) = CountsAs conversion type × IsNumbered ts 1
  Advances conversion type ts (Repeated next) = (d : Description) × (type ≡ Stated d) × IsValueFor greatest s d next
  Advances conversion type ts (RepeatedString next) = (form : StringForm) × (type ≡ AnyString form) × IsString greatest s (kind_of_form form) next

  -- what is kept after the start is of types that its tests and steps take
  record IsKept (conversion : Conversion) (type : ParameterType) (first : ValueType) (range : TypedRange) : Type 0 where
    types : List ValueType
    valued : AreValued (kept_by range) types
    limit : HasLimit type (first ∷ types) (limit_number range) (step_number range)
    step : Advances conversion type (first ∷ types) range

  stated_kept : (conversion : Conversion) (d : Description) (first : ValueType) (range : TypedRange) → IsRange greatest s conversion d range
      → IsKept conversion (Stated d) first range
  stated_kept conversion d first Once h = record { types = []; valued = tt; limit = tt; step = tt }
  stated_kept conversion d first (ToBy to None) h =
      record {
        types = Numbers h.1.0 ∷ Numbers 1 ∷ [];
        valued = (h.1.1, ((pos 1, refl, omega arith), tt));
        limit = ((d, refl, h.0.0), (h.1.0, refl), (1, refl));
        step = ((d, refl, h.0), (1, refl));
      }
  stated_kept conversion d first (ToBy to (Some by)) h =
      record {
        types = Numbers h.1.0 ∷ Numbers h.2.0 ∷ [];
        valued = (h.1.1, (h.2.1, tt));
        limit = ((d, refl, h.0.0), (h.1.0, refl), (h.2.0, refl));
        step = ((d, refl, h.0), (h.2.0, refl));
      }
  stated_kept conversion d first (ByTo by None) h =
      record { types = Numbers h.1.0 ∷ []; valued = (h.1.1, tt); limit = tt; step = ((d, refl, h.0), (h.1.0, refl)) }
  stated_kept conversion d first (ByTo by (Some to)) h =
      record {
        types = Numbers h.1.0 ∷ Numbers h.2.0 ∷ [];
        valued = (h.1.1, (h.2.1, tt));
        limit = ((d, refl, h.0.0), (h.2.0, refl), (h.1.0, refl));
        step = ((d, refl, h.0), (h.1.0, refl));
      }
  stated_kept conversion d first (Repeated next) h = record { types = []; valued = tt; limit = tt; step = (d, refl, h) }
  stated_kept conversion d first (RepeatedString next) h = absurd h

  open_kept : (conversion : Conversion) (form : StringForm) (first : ValueType) (range : TypedRange) → IsOpenRange greatest s (kind_of_form form) range
      → IsKept conversion (AnyString form) first range
  open_kept conversion form first Once h = record { types = []; valued = tt; limit = tt; step = tt }
  open_kept conversion form first (RepeatedString next) h = record { types = []; valued = tt; limit = tt; step = (form, refl, h) }
  open_kept conversion form first range h = absurd h

  is_kept : (conversion : Conversion) (type : ParameterType) (first : ValueType) (range : TypedRange) → IsRangeFor greatest s conversion type range
      → IsKept conversion type first range
  is_kept conversion (Stated d) first range h = stated_kept conversion d first range h
  is_kept conversion (AnyString form) first range h = open_kept conversion form first range h
  is_kept conversion type first range h = absurd h

module _ (units : List TypedUnit) (greatest level : ℕ) (call : Calls) (unit : ℕ) (s : TypingContext) (known : Known) (x : Shape) (ss : List Shape) (block : ℕ)
    (fits : Fits greatest units unit known x ss s block) (calls : CallsMean greatest units unit s.globals s.procedures level call) where
  abbrev Sound : World → Type 0
  Sound w = IsSound units (x ∷ ss) w

  abbrev Here : {A : Type 0} → (left : ℕ) → World → (A → World → Type 0) → Effect A → Type 0
  Here left w Is o = Means units level left known (x ∷ ss) w Is o

  abbrev Flows : Flow → World → Type 0
  Flows = FlowIs s.begins s.value

  -- what something does from any sound world
  abbrev Does : {A : Type 0} → (A → World → Type 0) → Doing A → Type 0
  Does Is go = (w : World) (left : ℕ) → Sound w → Here left w Is (go w left)

  next_here : {A B : Type 0} (P : A → World → Type 0) (Q : B → World → Type 0) (left : ℕ) (u : World) (o : Effect A) (go : A → Doing B)
      → Here left u P o → ((y : A) (w : World) (l : ℕ) → P y w → Sound w → IsLater u w → Here l w Q (go y w l)) → Here left u Q (and_then o go)
  next_here P Q left u o go h f = then_here units greatest level call unit s known x ss block fits calls P Q left u o go h f

  value_here : (e : TypedExpression) (t : ValueType) → IsTyped greatest s e t → Does (OfType t) (value_of greatest call e)
  value_here e t typed w left sound = value units greatest level call unit s known x ss block fits calls e t typed w left sound

  place_here : (i : Iteration) (d : Description) → IsPlaced greatest s i.control (Stated d) → Does (AtPlace d) (place_of greatest call i.control)
  place_here i d placed w left sound = place units greatest level call unit s known x ss block fits calls i.control d placed w left sound

  operation_here : (operation : TypedOperation) (ts : List ValueType) (t : ValueType) (vs : List Value)
      → Operates greatest operation ts t → AreOf ts vs → Does (OfType t) (λ w left. resolved call.condition (Number (pos 0)) (calculation (comes_to greatest operation vs) w) left)
  operation_here operation ts t vs operates are w left sound =
      calculated_means units greatest level call unit s known x ss fits.inside fits.stand fits.outlasts calls operation ts t vs operates are w left sound

  -- a value that is kept
  kept_means : (ts : List ValueType) (vs : List Value) → AreOf ts vs → (k : ℕ) (t : ValueType) → slice_get ts k ≡ Some t
      → Does (OfType t) (kept greatest call vs k)
  kept_means ts vs are k t e w left sound =
      let found = of_number ts vs are k t e in
      subst (λ o. Here left w (OfType t) (effect.there o w left)) (sym found.1) (omega arith, found.2, sound, later_same w)

  -- the control variable gets a value
  sets_means : (i : Iteration) (type : ParameterType) → IsPlaced greatest s i.control type → (t : ValueType) → IsConversion greatest s i.conversion t type
      → (go : Doing Value) → Does (OfType t) go → Does Flows (sets greatest call i go)
  sets_means i type placed t c go f w left sound =
      next_here (TakenPlace type) Flows left w (place_of greatest call i.control w left) _
      (taken_place units greatest level call unit s known x ss block fits calls i.control type placed w left sound)
      (λ p v l at sound later. next_here (OfType t) Flows l v (go v l) _ (f v l sound)
      (λ y u l is sound later2. next_here (HeldBy at.0) Flows l u (converted greatest call i.conversion p y u l) _
      (conversion_means units greatest level call unit s known x ss block fits calls i.conversion t type at.0 c at.1 p at.2.described y is u l sound)
      (λ z r l holds sound later3. next_here Anything Flows l r (answered (stored p z r) l) _
      (answer_kept units level l known (x ∷ ss) r (stored p z r)
      (stored_answers units x ss at.0 p z r sound (good_later u r at.0 p later3 (good_later v u at.0 p later2 at.2)) holds (conversion_scalar greatest s i.conversion t type at.0 c at.1)))
      (λ _ w l any sound later. ends units greatest level call unit s known x ss block fits calls w l sound))))

  -- the variable and a step more
  abbrev sum_type : ℕ → ℕ → ValueType
  sum_type q r = Numbers (min greatest (max q r + 1))

  advanced_means : (i : Iteration) (d : Description) → IsPlaced greatest s i.control (Stated d) → (q : ℕ) → type_held d ≡ Some (Numbers q)
      → (ts : List ValueType) (vs : List Value) → AreOf ts vs → (step r : ℕ) → slice_get ts step ≡ Some (Numbers r)
      → Does (OfType (sum_type q r)) (advanced greatest call i step vs)
  advanced_means i d placed q e ts vs are step r f w left sound =
      next_here (AtPlace d) (OfType (sum_type q r)) left w (place_of greatest call i.control w left) _ (place_here i d placed w left sound)
      (λ p v l good sound later. next_here (OfType (Numbers q)) (OfType (sum_type q r)) l v (answered (held p v) l) _
      (held_means units greatest level call unit s known x ss fits.inside fits.stand fits.outlasts calls d (Numbers q) p e v l sound good)
      (λ y u l is sound later. next_here (OfType (Numbers r)) (OfType (sum_type q r)) l u (kept greatest call vs step u l) _
      (kept_means ts vs are step (Numbers r) f u l sound)
      (λ z o l is2 sound later. operation_here (Operate Add) (Numbers q ∷ Numbers r ∷ []) (sum_type q r) (y ∷ z ∷ []) (q, r, refl, refl) (is, (is2, tt)) o l sound)))

  -- the tests before a turn
  limit_means : (i : Iteration) (type : ParameterType) → IsPlaced greatest s i.control type → (ts : List ValueType) (vs : List Value) → AreOf ts vs
      → (limit : Option ℕ) (step : ℕ) → HasLimit greatest s type ts limit step → Does Anything (within_limit greatest call i limit step vs)
  limit_means i type placed ts vs are None step h w left sound = (omega arith, tt, sound, later_same w)
  limit_means i type placed ts vs are (Some limit) step h w left sound =
      let d = h.0.0 in
      let q = h.0.2.0 in
      let b = h.1.0 in
      let c = h.2.0 in
      next_here (AtPlace d) Anything left w (place_of greatest call i.control w left) _
      (place_here i d (subst (λ t. IsPlaced greatest s i.control t) h.0.1 placed) w left sound)
      (λ p v l good sound later. next_here (OfType (Numbers q)) Anything l v (answered (held p v) l) _
      (held_means units greatest level call unit s known x ss fits.inside fits.stand fits.outlasts calls d (Numbers q) p h.0.2.1 v l sound good)
      (λ y u l is sound later. next_here (OfType (Numbers b)) Anything l u (kept greatest call vs limit u l) _
      (kept_means ts vs are limit (Numbers b) h.1.1 u l sound)
      (λ z o l is2 sound later. next_here (OfType (Numbers c)) Anything l o (kept greatest call vs step o l) _
      (kept_means ts vs are step (Numbers c) h.2.1 o l sound)
      (λ a r l is3 sound later. next_here (OfType (Strings OfBits 1 1)) Anything l r (resolved call.condition (Number (pos 0)) (calculation (calculated greatest Within (y ∷ z ∷ a ∷ [])) r) l) truth
      (operation_here (Operate Within) (Numbers q ∷ Numbers b ∷ Numbers c ∷ []) (Strings OfBits 1 1) (y ∷ z ∷ a ∷ []) ((q, b, c, refl), refl) (is, (is2, (is3, tt))) r l sound)
      (λ v w l is sound later. truth_means units greatest level call unit s known x ss block fits calls 1 1 v w l is sound)))))

  while_means : (e : Option TypedExpression) → IsPossibleCondition greatest s e → Does Anything (while_holds greatest call e)
  while_means None typed w left sound = (omega arith, tt, sound, later_same w)
  while_means (Some e) typed w left sound = condition_means units greatest level call unit s known x ss block fits calls e typed w left sound

  test_means : (i : Iteration) (type : ParameterType) → IsPlaced greatest s i.control type → (ts : List ValueType) (vs : List Value) → AreOf ts vs
      → HasLimit greatest s type ts (limit_number i.range) (step_number i.range) → IsPossibleCondition greatest s i.condition
      → Does Anything (may_turn greatest call i vs)
  test_means i type placed ts vs are h typed w left sound =
      next_here Anything Anything left w (within_limit greatest call i (limit_number i.range) (step_number i.range) vs w left) _
      (limit_means i type placed ts vs are (limit_number i.range) (step_number i.range) h w left sound)
      (λ b w l any sound later. chosen_means units Anything level l known (x ∷ ss) w b (while_holds greatest call i.condition) (λ w left. Gives false w left) w l
      (while_means i.condition typed w l sound) (omega arith, tt, sound, later_same w))

  -- what comes between two turns
  stated_here : (i : Iteration) (type : ParameterType) (d : Description) → type ≡ Stated d → IsPlaced greatest s i.control type → IsPlaced greatest s i.control (Stated d)
  stated_here i type d is placed = subst (λ t. IsPlaced greatest s i.control t) is placed

  -- a step more
  counted_means : (i : Iteration) (d : Description) → IsPlaced greatest s i.control (Stated d) → Counts greatest s i.conversion d → (ts : List ValueType) (vs : List Value) → AreOf ts vs
      → (step : ℕ) → IsNumbered greatest s ts step → Does Flows (sets greatest call i (advanced greatest call i step vs))
  counted_means i d placed c ts vs are step n w left sound =
      sets_means i (Stated d) placed (sum_type c.0.0 n.0) (c.1 (min greatest (max c.0.0 n.0 + 1))) (advanced greatest call i step vs)
      (advanced_means i d placed c.0.0 c.0.1 ts vs are step n.0 n.1) w left sound

  advances_means : (i : Iteration) (type : ParameterType) → IsPlaced greatest s i.control type → (ts : List ValueType) (vs : List Value) → AreOf ts vs
      → (range : TypedRange) → Advances greatest s i.conversion type ts range → Does Flows (advances greatest call range i vs)
  advances_means i type placed ts vs are Once h w left sound = ends units greatest level call unit s known x ss block fits calls w left sound
  advances_means i type placed ts vs are (ToBy to by) h w left sound =
      counted_means i h.0.0 (stated_here i type h.0.0 h.0.1 placed) h.0.2 ts vs are 2 h.1 w left sound
  advances_means i type placed ts vs are (ByTo by to) h w left sound =
      counted_means i h.0.0 (stated_here i type h.0.0 h.0.1 placed) h.0.2 ts vs are 1 h.1 w left sound
  advances_means i type placed ts vs are (Repeated next) h w left sound =
      assigns_means units greatest level call unit s known x ss block fits calls i.control next (h.0, stated_here i type h.0 h.1 placed, h.2) w left sound
  advances_means i type placed ts vs are (RepeatedString next) h w left sound =
      string_assigned units greatest level call unit s known x ss block fits calls i.control next (h.0, subst (λ t. IsPlaced greatest s i.control t) h.1 placed, h.2) w left sound

  -- a list that runs after a step
  stepped_means : (number : ℕ) (list : Doing Flow) → Does Flows list → Does Flows (as_statement number list)
  stepped_means number list f w left sound =
      statement_means units Flows level known (x ∷ ss) number list w left sound
      (λ v l e sound. means_from units Flows level l (suc l) known (x ∷ ss) v v (list v l) (omega arith) (later_same v) (f v l sound))

  back_means : (number : ℕ) (go : Doing Flow) → Does Flows go → Does Flows (back_at number go)
  back_means number go f w left sound =
      let t = statement_sound units (x ∷ ss) number w sound in
      means_from units Flows level left left known (x ∷ ss) w (at_statement number w) (go (at_statement number w) left) (omega arith) t.1
      (f (at_statement number w) left t.0)

  turned_means : (iterated : Bool) (number : ℕ) (test : Doing Bool) (list between : Doing Flow) → Does Anything test → Does Flows list → Does Flows between
      → Does Flows (turned greatest call iterated level test (as_statement number list) between)
  turned_means true number test list between f g h w left sound =
      turns_means units Flows level known (x ∷ ss) number test list between (λ w. tt) f g h level (omega arith) w left sound
  turned_means false number test list between f g h w left sound =
      next_here Anything Flows left w (test w left) _ (f w left sound)
      (λ b w l any sound later. chosen_means units Flows level l known (x ∷ ss) w b (as_statement number list) nothing_done w l
      (stepped_means number list g w l sound) (omega arith, tt, sound, later_same w))

  -- what is kept, one value after the other
  keeps_means : (es : List TypedExpression) (ts : List ValueType) → AreValued greatest s es ts → (before : List Value) (done : List ValueType) → AreOf done before
      → (go : List Value → Doing Flow) → ((vs : List Value) → AreOf (done ++ ts) vs → Does Flows (go vs)) → Does Flows (keeps greatest call es before go)
  keeps_means [] [] typed before done are go f w left sound = f before (subst (λ ts. AreOf ts before) (sym (no_more done)) are) w left sound
  keeps_means [] (t ∷ ts) typed before done are go f w left sound = absurd typed
  keeps_means (e ∷ es) [] typed before done are go f w left sound = absurd typed
  keeps_means (e ∷ es) (t ∷ ts) typed before done are go f w left sound =
      next_here (OfType t) Flows left w (value_of greatest call e w left) _ (value_here e t typed.0 w left sound)
      (λ v w l is sound later. keeps_means es ts typed.1 (before ++ v ∷ []) (done ++ t ∷ []) (one_more done t before v are is) go
      (λ vs are. f vs (subst (λ ts. AreOf ts vs) (append_assoc done (t ∷ []) ts) are)) w l sound)

  -- an iteration, from its list
  pub iterates_means : (number : ℕ) (i : Iteration) (list : Doing Flow) → IsIteration greatest s i → Does Flows list
      → Does Flows (iterates greatest call level number i list)
  iterates_means number i list typed f w left sound =
      let type = typed.0 in
      let t = typed.2.0 in
      let k = is_kept greatest s i.conversion type t i.range typed.3 in
      let ts : List ValueType = t ∷ k.types in
      keeps_means (i.start ∷ kept_by i.range) ts (typed.2.1, k.valued) [] [] tt _
      (λ vs are w left sound. followed_means units Flows level left known (x ∷ ss) w (sets greatest call i (kept greatest call vs 0) w left) _
      (sets_means i type typed.1 t typed.2.2 (kept greatest call vs 0) (kept_means ts vs are 0 t refl) w left sound)
      (λ w l le sound. turned_means (is_iterated i.range) number (may_turn greatest call i vs) list (back_at number (advances greatest call i.range i vs))
      (test_means i type typed.1 ts vs are k.limit typed.4) f
      (back_means number (advances greatest call i.range i vs) (advances_means i type typed.1 ts vs are i.range k.step)) w l sound))
      w left sound

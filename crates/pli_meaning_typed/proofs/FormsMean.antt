-- What each form of a statement means, without those that hold statements.
use Rattle.std.specs.Prelude.{◌≡◌, ℕ, zero, suc, ◌≤◌, pos, Bool, true, false, IsTrue, Option, Some, None}
use Rattle.std.specs.Prelude.{List, [], ◌∷◌, length, slice_get, refl}
use Rattle.std.proofs.Common.{arith, sym, ap, ◌∙◌, subst, true≢false}
use Rattle.pli_base.specs.declared.statement.Condition.{Condition}
use Rattle.pli_map.specs.Description.{Description, Character, Varying, Bit, Pointer}
use Rattle.pli_map.specs.ParameterTypes.{ParameterType, Stated, AnyString, is_string_of}
use Rattle.pli_map.specs.declared.parameter.StringForm.{StringForm}
use Rattle.pli_map.specs.declared.parameter.StringForm.TheVariants as forms
use Rattle.pli_map.specs.Scalars.{is_area, scalars_of}
use Rattle.pli_map.specs.Values.{holds}
use Rattle.pli_map.specs.Variables.{Variable}
use Rattle.pli_world.specs.Areas.{emptied, assigned}
use Rattle.pli_world.specs.Conditions.{error_of, established, reverted, signalled}
use Rattle.pli_world.specs.Locating.{freed_by, pointer_made, block_made, offset_made, pointer_within}
use Rattle.pli_world.specs.Stacks.{generation_stacked, generation_unstacked}
use Rattle.pli_world.specs.Storage.{Place}
use Rattle.pli_world.specs.World.{World, Answer, stored, copied, calculation, line_ended}
use Rattle.pli_value.specs.Conversions.{bit_constant}
use Rattle.pli_value.specs.Value.{Value, Number}
use Rattle.pli_type_tree.specs.TypedTree.{Callee, TypedOperation, TypedUnit, TypedExpression, TypedReference, TypedArguments, Assign, AssignString}
use Rattle.pli_type_tree.specs.TypedTree.{Conversion, ByOperations, AsPointerIn, AsOffsetIn, ToPlace}
use Rattle.pli_type_tree.specs.TypedTree.{AssignAggregate, AssignArea, AllocatedItem, AllocatesControlled, AllocatesBased, AllocatesInArea, FreedItem, FreesControlled, FreesBased, Call, ReturnValue}
use Rattle.pli_type_tree.specs.Templates.{variable_of}
use Rattle.pli_type_tree.specs.TypedOperations.{comes_to}
use Rattle.pli_type_tree.specs.ValueTypes.{StringKind, OfCharacters, OfBits, ValueType, Strings, Pointers, Offsets, kind_of_form, IsOf, IsHeldBy}
use Rattle.pli_type_tree.specs.WellTyped.{BlockAround, TypingContext, IsTyped, IsPlaced, IsAreaReference, IsString, IsMade, AreItems, Convert, ConvertToKind, ConvertsTo, ConvertsToKind, IsConversion, IsAllocated, AreAllocated, IsFreed, AreFreed}
use Rattle.pli_type_tree.specs.WellTyped.{knows_label, IsOnUnitHere, IsTypedForm}
use Rattle.pli_meaning_tree.specs.Effects.{Effect, Gives, Jumps, Flow, Next, Returned, Doing, and_then, answered, as_step, truth}
use Rattle.pli_meaning_tree.specs.TreeMeaning.{Calls, printed_item, value_of, place_of, called_with, condition, assigns, assigns_string}
use Rattle.pli_meaning_tree.specs.TreeMeaning.{operated_by, converted, block_allocated, allocates_item, frees_item}
use Rattle.pli_meaning_tree.specs.Parts.{resolved, fitted_at, assigns_aggregate, assigns_area, empties, puts, allocates, frees, signals, establishes, does_call, returns_value, jumps_to, no_value, skips}
use Rattle.pli_meaning_typed.specs.SoundWorlds.{IsGood, Takes, Known, Shape, Stand, IsSound, IsLater, Answers}
use Rattle.pli_meaning_typed.proofs.AreaLaws.{emptied_answers, assigned_answers, offset_answers, within_answers, block_answers}
use Rattle.pli_meaning_typed.proofs.MeansLemmas.{Means, Anything, means_as, means_from, then_means, answer_means, answer_kept, kept_answers}
use Rattle.pli_meaning_typed.proofs.MeansLemmas.{step_means, followed_means, lower_means, after_step}
use Rattle.pli_meaning_typed.proofs.OnUnits.{Holds, established_answers, reverted_sound}
use Rattle.pli_meaning_typed.proofs.ExpressionsMean.{IsReturned, Gives as GivesBack, OfType, AtPlace, AreaPlace, HeldBy, TakenPlace, CallsMean, IsInside, narrow_held, one_scalar, handled_means, resolved_means, calculated_means, fitted_means, value_means, area_means, good_means, taken_means, called_means}
use Rattle.pli_meaning_typed.proofs.ContextLaws.{stand_around, at_rest, around_unit, height_there}
use Rattle.pli_meaning_typed.proofs.PointerLaws.{free_answers, pointer_answers}
use Rattle.pli_meaning_typed.proofs.RaisesLaws.{RaisesIn, block_raises, assigned_raises}
use Rattle.pli_meaning_typed.proofs.StackLaws.{allocated_answers, freed_answers}
use Rattle.pli_meaning_typed.proofs.WorldLaws.{later_same, good_later, variable_later, error_named, stored_answers, copied_answers, printed_sound, line_sound}

none_some : {A : Type 0} {x : A} → None ≡ Some x → ⊥
none_some e = absurd (cc)

-- what is converted to is a scalar
operated_scalar : (greatest : ℕ) (operations : List TypedOperation) (t : ValueType) (d : Description) → Convert greatest operations t d → scalars_of d ≡ d ∷ []
operated_scalar n [] t d c = (one_scalar d c.0 c.1).1
operated_scalar n (operation ∷ more) t d c = operated_scalar n more c.0 d c.2

pub converts_scalar : (greatest : ℕ) (s : TypingContext) (conversion : Conversion) (t : ValueType) (d : Description) → ConvertsTo greatest s conversion t d → scalars_of d ≡ d ∷ []
converts_scalar n s (ByOperations operations) t d c = operated_scalar n operations t d c
converts_scalar n s (AsPointerIn area) t d c = (one_scalar d c.2.0 c.2.1).1
converts_scalar n s (AsOffsetIn area) t d c = (one_scalar d c.2.0 c.2.1).1
converts_scalar n s (ToPlace operations) t d c = absurd c

-- a string of a kind
abbrev OfKind : StringKind → Value → World → Type 0
OfKind kind v w = (a : ℕ) × (b : ℕ) × IsOf (Strings kind a b) v

-- so is what a type of a string takes
any_scalar : (form : StringForm) (e : Description) → is_string_of form e ≡ true → scalars_of e ≡ e ∷ []
any_scalar forms.Character (Character n) h = refl
any_scalar forms.Varying (Varying n) h = refl
any_scalar forms.Bit (Bit n) h = refl
any_scalar form e h = absurd (true≢false (sym h))

pub conversion_scalar : (greatest : ℕ) (s : TypingContext) (conversion : Conversion) (t : ValueType) (type : ParameterType) (e : Description) → IsConversion greatest s conversion t type → Takes type e
    → scalars_of e ≡ e ∷ []
conversion_scalar n s conversion t (Stated d) e c taken = subst (λ e. scalars_of e ≡ e ∷ []) (sym taken) (converts_scalar n s conversion t d c)
conversion_scalar n s conversion t (AnyString form) e c taken = any_scalar form e taken.0
conversion_scalar n s conversion t type e c taken = absurd c

-- how a statement goes on
abbrev pub FlowIs : (begins : ℕ) → Option Description → Flow → World → Type 0
FlowIs begins value Next w = Unit {0}
FlowIs begins value (Returned outward v) w = (outward ≡ begins) × IsReturned value v

-- what a typing context knows is there, in a block; with the labels that last too
pub record Fits (greatest : ℕ) (units : List TypedUnit) (unit : ℕ) (known : Known) (x : Shape) (ss : List Shape) (s : TypingContext) (block : ℕ) : Type 0 where
  pub inside : IsInside units unit s.globals s.procedures x
  pub stand : Stand unit known (x ∷ ss) (suc (length ss)) s.blocks
  pub lasts : Stand unit x.lasting (x ∷ ss) (suc (length ss)) (at_rest s.blocks)
  pub outlasts : Holds greatest units known (x ∷ ss)
  pub running : x.block ≡ block
  pub first : BlockAround
  pub others : List BlockAround
  pub blocks : s.blocks ≡ first ∷ others
  pub own : first.number ≡ block

module _ (units : List TypedUnit) (greatest level : ℕ) (call : Calls) (unit : ℕ) where
  abbrev pub Here : {A : Type 0} → TypingContext → Known → Shape → List Shape → (left : ℕ) → World → (A → World → Type 0) → Effect A → Type 0
  Here s known x ss left u Is o = Means units level left known (x ∷ ss) u Is o

  abbrev pub Flows : TypingContext → Flow → World → Type 0
  Flows s = FlowIs s.begins s.value

  abbrev pub CallsIn : TypingContext → Type 0
  CallsIn s = CallsMean greatest units unit s.globals s.procedures level call

  -- straight statements, in a context
  module _ (s : TypingContext) (known : Known) (x : Shape) (ss : List Shape) (block : ℕ) (fits : Fits greatest units unit known x ss s block) (calls : CallsIn s) where
    abbrev pub Sound : World → Type 0
    Sound w = IsSound units (x ∷ ss) w

    pub then_here : {A B : Type 0} (P : A → World → Type 0) (Q : B → World → Type 0) (left : ℕ) (u : World) (o : Effect A) (go : A → Doing B)
        → Here s known x ss left u P o → ((y : A) (w : World) (l : ℕ) → P y w → Sound w → IsLater u w → Here s known x ss l w Q (go y w l))
        → Here s known x ss left u Q (and_then o go)
    then_here P Q left u o go h f = then_means units P Q level left known (x ∷ ss) u o go h (λ y w l le is sound later. f y w l is sound later)

    pub value : (e : TypedExpression) (t : ValueType) → IsTyped greatest s e t → (w : World) (left : ℕ) → Sound w
        → Here s known x ss left w (OfType t) (value_of greatest call e w left)
    value = value_means units greatest level call unit s known x ss fits.inside fits.stand fits.outlasts calls

    pub place : (r : TypedReference) (d : Description) → IsPlaced greatest s r (Stated d) → (w : World) (left : ℕ) → Sound w
        → Here s known x ss left w (AtPlace d) (place_of greatest call r w left)
    place = good_means units greatest level call unit s known x ss fits.inside fits.stand fits.outlasts calls

    pub taken_place : (r : TypedReference) (t : ParameterType) → IsPlaced greatest s r t → (w : World) (left : ℕ) → Sound w
        → Here s known x ss left w (TakenPlace t) (place_of greatest call r w left)
    taken_place = taken_means units greatest level call unit s known x ss fits.inside fits.stand fits.outlasts calls

    pub fitted : (form : StringForm) (a b : ℕ) (e : Description) (p : Place) (v : Value) (w : World) (left : ℕ) → Sound w → Takes (AnyString form) e → p.description ≡ e
        → IsOf (Strings (kind_of_form form) a b) v → Here s known x ss left w (HeldBy e) (fitted_at greatest call p v w left)
    fitted = fitted_means units greatest level call unit s known x ss fits.inside fits.stand fits.outlasts calls

    area_place : (r : TypedReference) → IsAreaReference greatest s r → (w : World) (left : ℕ) → Sound w
        → Here s known x ss left w AreaPlace (place_of greatest call r w left)
    area_place = area_means units greatest level call unit s known x ss fits.inside fits.stand fits.outlasts calls

    resolves : {A : Type 0} (P : A → World → Type 0) (result : A) (left : ℕ) (w : World) (o : Answer A) → Sound w → ((v : World) → P result v)
        → Answers units (λ y v. P y v × Sound v × IsLater w v) o → RaisesIn w o → Here s known x ss left w P (resolved call.condition result o left)
    resolves P result left w o sound is answers same =
        resolved_means units greatest level call unit s known x ss fits.inside fits.stand fits.outlasts calls P result left w o sound is answers same

    pub ends : (w : World) (left : ℕ) → Sound w → Here s known x ss left w (Flows s) (Gives Next w left)
    ends w left sound = (omega arith, tt, sound, later_same w)

    pub truth_means : (a b : ℕ) (v : Value) (w : World) (left : ℕ) → IsOf (Strings OfBits a b) v → Sound w → Here s known x ss left w Anything (truth v w left)
    truth_means a b v w left is sound =
        subst (λ v. Here s known x ss left w Anything (truth v w left)) (sym is.1) (omega arith, tt, sound, later_same w)

    pub condition_means : (e : TypedExpression) → IsString greatest s OfBits e → (w : World) (left : ℕ) → Sound w
        → Here s known x ss left w Anything (condition greatest call e w left)
    condition_means e typed w left sound =
        then_here (OfType (Strings OfBits typed.0 typed.1)) Anything left w (value_of greatest call e w left) truth (value e (Strings OfBits typed.0 typed.1) typed.2 w left sound)
        (λ v w l is sound later. truth_means typed.0 typed.1 v w l is sound)

    -- a value put at the place of a scalar that holds it
    keeps_means : (d : Description) (p : Place) (y : Value) → IsTrue (holds d y) → scalars_of d ≡ d ∷ [] → (w : World) (left : ℕ) → Sound w → IsGood w d p
        → Here s known x ss left w (Flows s) (and_then (answered (stored p y w) left) (λ _ w left. Gives Next w left))
    keeps_means d p y held one w left sound good =
        then_here Anything (Flows s) left w (answered (stored p y w) left) _
        (answer_kept units level left known (x ∷ ss) w (stored p y w) (stored_answers units x ss d p y w sound good held one)) (λ _ w l any sound later. ends w l sound)

    stores_means : (d : Description) (t : ValueType) (p : Place) (y : Value) → IsHeldBy d t → IsOf t y → (w : World) (left : ℕ) → Sound w → IsGood w d p
        → Here s known x ss left w (Flows s) (and_then (answered (stored p y w) left) (λ _ w left. Gives Next w left))
    stores_means d t p y held is w left sound good = keeps_means d p y (narrow_held d t y held is) (one_scalar d held.0 held.1).1 w left sound good

    -- a value that is converted
    operated_means : (operations : List TypedOperation) (t : ValueType) (d : Description) → Convert greatest operations t d → (v : Value) → IsOf t v → (w : World) (left : ℕ) → Sound w
        → Here s known x ss left w (HeldBy d) (operated_by greatest call operations v w left)
    operated_means [] t d c v is w left sound = (omega arith, narrow_held d t v c is, sound, later_same w)
    operated_means (operation ∷ more) t d c v is w left sound =
        then_here (OfType c.0) (HeldBy d) left w (resolved call.condition (Number (pos 0)) (calculation (comes_to greatest operation (v ∷ [])) w) left) _
        (calculated_means units greatest level call unit s known x ss fits.inside fits.stand fits.outlasts calls operation (t ∷ []) c.0 (v ∷ []) c.1 (is, tt) w left sound)
        (λ y w l is sound later. operated_means more c.0 d c.2 y is w l sound)

    -- or a string
    string_means : (operations : List TypedOperation) (t : ValueType) (kind : StringKind) → ConvertToKind greatest operations t kind → (v : Value) → IsOf t v → (w : World) (left : ℕ) → Sound w
        → Here s known x ss left w (OfKind kind) (operated_by greatest call operations v w left)
    string_means [] t kind c v is w left sound = (omega arith, (c.0, c.1, subst (λ t. IsOf t v) c.2 is), sound, later_same w)
    string_means (operation ∷ more) t kind c v is w left sound =
        then_here (OfType c.0) (OfKind kind) left w (resolved call.condition (Number (pos 0)) (calculation (comes_to greatest operation (v ∷ [])) w) left) _
        (calculated_means units greatest level call unit s known x ss fits.inside fits.stand fits.outlasts calls operation (t ∷ []) c.0 (v ∷ []) c.1 (is, tt) w left sound)
        (λ y w l is sound later. string_means more c.0 kind c.2 y is w l sound)

    pub converted_means : (conversion : Conversion) (t : ValueType) (d : Description) → ConvertsTo greatest s conversion t d → (p : Place) (v : Value) → IsOf t v → (w : World) (left : ℕ) → Sound w
        → Here s known x ss left w (HeldBy d) (converted greatest call conversion p v w left)
    converted_means (ByOperations operations) t d c place v is w left sound = operated_means operations t d c v is w left sound
    converted_means (AsPointerIn area) t d c place v is w left sound =
        then_here AreaPlace (HeldBy d) left w (place_of greatest call area w left) _ (area_place area c.0 w left sound)
        (λ p u l own sound later. means_as units (OfType Pointers) (HeldBy d) level l known (x ∷ ss) u (answered (pointer_within p v u) l) (λ y z is. narrow_held d Pointers y c.2 is)
        (answer_means units (OfType Pointers) level l known (x ∷ ss) u (pointer_within p v u)
        (within_answers units x ss own.0 p v u (subst (λ t. IsOf t v) c.1 is) sound own.1 own.2)))
    converted_means (AsOffsetIn area) t d c place v is w left sound =
        then_here AreaPlace (HeldBy d) left w (place_of greatest call area w left) _ (area_place area c.0 w left sound)
        (λ p u l own sound later. means_as units (OfType Offsets) (HeldBy d) level l known (x ∷ ss) u (answered (offset_made p v u) l) (λ y z is. narrow_held d Offsets y c.2 is)
        (answer_means units (OfType Offsets) level l known (x ∷ ss) u (offset_made p v u)
        (offset_answers units x ss own.0 p v u (subst (λ t. IsOf t v) c.1 is) sound own.1 own.2)))
    converted_means (ToPlace operations) t d c place v is w left sound = absurd c

    -- a conversion to a string of any length, which the place has
    kind_means : (conversion : Conversion) (t : ValueType) (form : StringForm) (e : Description) → ConvertsToKind greatest conversion t (kind_of_form form) → (p : Place) (v : Value) → IsOf t v
        → (w : World) (left : ℕ) → Sound w → Takes (AnyString form) e → p.description ≡ e → Here s known x ss left w (HeldBy e) (converted greatest call conversion p v w left)
    kind_means (ToPlace operations) t form e c p v is w left sound taken described =
        then_here (OfKind (kind_of_form form)) (HeldBy e) left w (operated_by greatest call operations v w left) _ (string_means operations t (kind_of_form form) c v is w left sound)
        (λ y u l of sound later. fitted form of.0 of.1 e p y u l sound taken described of.2)
    kind_means conversion t form e c p v is w left sound taken described = absurd c

    -- to what a variable of a type gets
    pub conversion_means : (conversion : Conversion) (t : ValueType) (type : ParameterType) (e : Description) → IsConversion greatest s conversion t type → Takes type e → (p : Place) → p.description ≡ e
        → (v : Value) → IsOf t v → (w : World) (left : ℕ) → Sound w → Here s known x ss left w (HeldBy e) (converted greatest call conversion p v w left)
    conversion_means conversion t (Stated d) e c taken p described v is w left sound =
        subst (λ e. Here s known x ss left w (HeldBy e) (converted greatest call conversion p v w left)) (sym taken) (converted_means conversion t d c p v is w left sound)
    conversion_means conversion t (AnyString form) e c taken p described v is w left sound = kind_means conversion t form e c p v is w left sound taken described
    conversion_means conversion t type e c taken p described v is w left sound = absurd c

    pub assigns_means : (target : TypedReference) (e : TypedExpression) → IsTypedForm greatest s (Assign target e) → (w : World) (left : ℕ) → Sound w
        → Here s known x ss left w (Flows s) (assigns greatest call target e w left)
    assigns_means target e typed w left sound =
        let d = typed.0 in
        let t = typed.2.0 in
        let held = typed.2.2 in
        then_here (AtPlace d) (Flows s) left w (place_of greatest call target w left) _ (place target d typed.1 w left sound)
        (λ p v l good sound later. then_here (OfType t) (Flows s) l v (value_of greatest call e v l) _ (value e t typed.2.1 v l sound)
        (λ y u l is sound later. stores_means d t p y held is u l sound (good_later v u d p later good)))

    -- a string is fitted to the one at its place
    pub string_assigned : (target : TypedReference) (e : TypedExpression) → IsTypedForm greatest s (AssignString target e) → (w : World) (left : ℕ) → Sound w
        → Here s known x ss left w (Flows s) (assigns_string greatest call target e w left)
    string_assigned target e typed w left sound =
        let form = typed.0 in
        let a = typed.2.0 in
        let b = typed.2.1 in
        let t = Strings (kind_of_form form) a b in
        then_here (TakenPlace (AnyString form)) (Flows s) left w (place_of greatest call target w left) _ (taken_place target (AnyString form) typed.1 w left sound)
        (λ p v l at sound later. then_here (OfType t) (Flows s) l v (value_of greatest call e v l) _ (value e t typed.2.2 v l sound)
        (λ y u l is sound later. then_here (HeldBy at.0) (Flows s) l u (fitted_at greatest call p y u l) _ (fitted form a b at.0 p y u l sound at.1 at.2.described is)
        (λ z r l held sound later2. keeps_means at.0 p z held (any_scalar form at.0 at.1.0) r l sound (good_later u r at.0 p later2 (good_later v u at.0 p later at.2)))))

    pub aggregate_means : (target source : TypedReference) → IsTypedForm greatest s (AssignAggregate target source) → (w : World) (left : ℕ) → Sound w
        → Here s known x ss left w (Flows s) (assigns_aggregate greatest call target source w left)
    aggregate_means target source typed w left sound =
        let d = typed.0 in
        then_here (AtPlace d) (Flows s) left w (place_of greatest call target w left) _ (place target d typed.1 w left sound)
        (λ p v l good sound later. then_here (AtPlace d) (Flows s) l v (place_of greatest call source v l) _ (place source d typed.2 v l sound)
        (λ q u l from sound later. then_here Anything (Flows s) l u (answered (copied q p u) l) _
        (answer_kept units level l known (x ∷ ss) u (copied q p u) (copied_answers units x ss d q p u sound typed.3 from (good_later v u d p later good)))
        (λ _ w l any sound later. ends w l sound)))

    pub area_assigned : (target source : TypedReference) → IsTypedForm greatest s (AssignArea target source) → (w : World) (left : ℕ) → Sound w
        → Here s known x ss left w (Flows s) (assigns_area greatest call target source w left)
    area_assigned target source typed w left sound =
        then_here AreaPlace (Flows s) left w (place_of greatest call target w left) _ (area_place target typed.0 w left sound)
        (λ p v l own sound later. then_here AreaPlace (Flows s) l v (place_of greatest call source v l) _ (area_place source typed.1 v l sound)
        (λ q u l from sound later. then_here Anything (Flows s) l u (resolved call.condition tt (assigned q p u) l) _
        (resolves Anything tt l u (assigned q p u) sound (λ v. tt)
        (kept_answers units (x ∷ ss) u (assigned q p u) (assigned_answers units x ss from.0 own.0 q p u sound from.1 from.2 (variable_later v u own.0 p later own.1) own.2))
        (assigned_raises q p u))
        (λ _ w l any sound later. ends w l sound)))

    pub area_emptied : (target : TypedReference) → IsAreaReference greatest s target → (w : World) (left : ℕ) → Sound w
        → Here s known x ss left w (Flows s) (empties greatest call target w left)
    area_emptied target typed w left sound =
        then_here AreaPlace (Flows s) left w (place_of greatest call target w left) _ (area_place target typed w left sound)
        (λ p u l own sound later. then_here Anything (Flows s) l u (answered (emptied p u) l) _
        (answer_kept units level l known (x ∷ ss) u (emptied p u) (emptied_answers units x ss own.0 p u sound own.1 own.2)) (λ _ w l any sound later. ends w l sound))

    item_means : (k : StringKind) (a b : ℕ) (v : Value) (w : World) (left : ℕ) → IsOf (Strings k a b) v → Sound w
        → Here s known x ss left w (Flows s) (printed_item v w left)
    item_means OfCharacters a b v w left is sound =
        let p = printed_sound units (x ∷ ss) is.0 w sound in
        subst (λ v. Here s known x ss left w (Flows s) (printed_item v w left)) (sym is.1) (omega arith, tt, p.0, p.1)
    item_means OfBits a b v w left is sound =
        let p = printed_sound units (x ∷ ss) (bit_constant is.0) w sound in
        subst (λ v. Here s known x ss left w (Flows s) (printed_item v w left)) (sym is.1) (omega arith, tt, p.0, p.1)

    pub puts_means : (items : List TypedExpression) → AreItems greatest s items → (w : World) (left : ℕ) → Sound w
        → Here s known x ss left w (Flows s) (puts greatest call items w left)
    puts_means [] typed w left sound = ends w left sound
    puts_means (e ∷ es) typed w left sound =
        let k = typed.0.0 in
        let a = typed.0.1.0 in
        let b = typed.0.1.1 in
        followed_means units (Flows s) level left known (x ∷ ss) w (and_then (value_of greatest call e w left) (λ v w left. printed_item v w left)) (puts greatest call es)
        (then_here (OfType (Strings k a b)) (Flows s) left w (value_of greatest call e w left) _ (value e (Strings k a b) typed.0.1.2 w left sound)
        (λ v w l is sound later. item_means k a b v w l is sound))
        (λ w l le sound. puts_means es typed.1 w l sound)

    pub skips_means : (skip : Bool) (items : List TypedExpression) → AreItems greatest s items → (w : World) (left : ℕ) → Sound w
        → Here s known x ss left w (Flows s) (skips greatest call skip (puts greatest call items) w left)
    skips_means false items typed w left sound = puts_means items typed w left sound
    skips_means true items typed w left sound =
        let l = line_sound units (x ∷ ss) w sound in
        means_from units (Flows s) level left left known (x ∷ ss) w (line_ended w) (puts greatest call items (line_ended w) left) (omega arith) l.1
        (puts_means items typed (line_ended w) left l.0)

    -- a block of an area, as often as it has no room, each time a step later
    block_means : (area : TypedReference) (v : Variable) → IsAreaReference greatest s area → IsMade v → is_area v.description ≡ false → (m : ℕ) → m ≤ level
        → (w : World) (left : ℕ) → Sound w → Means units m left known (x ∷ ss) w (OfType Pointers) (block_allocated greatest call m area v w left)
    block_means area v typed made none zero le w left sound = omega arith
    block_means area v typed made none (suc m) le w left sound =
        then_means units AreaPlace (OfType Pointers) (suc m) left known (x ∷ ss) w (place_of greatest call area w left) _
        (lower_means units AreaPlace level (suc m) left known (x ∷ ss) w (place_of greatest call area w left) le (area_place area typed w left sound))
        (λ p u l fewer own sound later. handled_means units greatest level call unit s known x ss fits.inside fits.stand fits.outlasts calls (OfType Pointers) (suc m) l le
        (as_step (block_allocated greatest call m area v)) u (block_made p v u) sound (block_answers units x ss own.0 p v u made sound own.1 own.2 none) (block_raises p v u)
        (λ a k sound. step_means units (OfType Pointers) (suc m) known (x ∷ ss) (block_allocated greatest call m area v) a k sound
        (λ b j e sound. after_step units (OfType Pointers) m j known (x ∷ ss) b b (block_allocated greatest call m area v b j) (later_same b)
        (block_means area v typed made none m (omega (arith, le)) b j sound))))

    allocated_means : (item : AllocatedItem) → IsAllocated greatest s item → (w : World) (left : ℕ) → Sound w
        → Here s known x ss left w (Flows s) (allocates_item greatest call level item w left)
    allocated_means (AllocatesControlled number) typed w left sound =
        then_here Anything (Flows s) left w (answered (generation_stacked number w) left) _
        (answer_kept units level left known (x ∷ ss) w (generation_stacked number w)
        (allocated_answers units x ss unit s.globals number fits.inside.own fits.inside.top typed w sound))
        (λ _ w l any sound later. ends w l sound)
    allocated_means (AllocatesBased template temporary target) typed w left sound =
        let v = variable_of template in
        then_here (OfType Pointers) (Flows s) left w (answered (pointer_made v w) left) _
        (answer_means units (OfType Pointers) level left known (x ∷ ss) w (pointer_made v w) (pointer_answers units x ss v w typed.0 sound))
        (λ y u l is sound later. then_here (AtPlace Pointer) (Flows s) l u (place_of greatest call target u l) _ (place target Pointer typed.1 u l sound)
        (λ p z l good sound later. stores_means Pointer Pointers p y (Pointers, refl, tt) is z l sound good))
    allocated_means (AllocatesInArea area template temporary target conversion) typed w left sound =
        let v = variable_of template in
        let d = typed.2.0 in
        then_here (OfType Pointers) (Flows s) left w (block_allocated greatest call level area v w left) _
        (block_means area v typed.0 typed.1.0 typed.1.1 level (omega arith) w left sound)
        (λ y z l is sound later. then_here (AtPlace d) (Flows s) l z (place_of greatest call target z l) _ (place target d typed.2.1 z l sound)
        (λ p a l good sound later. then_here (HeldBy d) (Flows s) l a (converted greatest call conversion p y a l) _ (converted_means conversion Pointers d typed.2.2 p y is a l sound)
        (λ q b l held sound later. keeps_means d p q held (converts_scalar greatest s conversion Pointers d typed.2.2) b l sound (good_later a b d p later good))))

    pub allocates_mean : (items : List AllocatedItem) → AreAllocated greatest s items → (w : World) (left : ℕ) → Sound w
        → Here s known x ss left w (Flows s) (allocates greatest call level items w left)
    allocates_mean [] typed w left sound = ends w left sound
    allocates_mean (item ∷ items) typed w left sound =
        followed_means units (Flows s) level left known (x ∷ ss) w (allocates_item greatest call level item w left) (allocates greatest call level items)
        (allocated_means item typed.0 w left sound) (λ w l le sound. allocates_mean items typed.1 w l sound)

    freed_means : (item : FreedItem) → IsFreed greatest s item → (w : World) (left : ℕ) → Sound w
        → Here s known x ss left w (Flows s) (frees_item greatest call item w left)
    freed_means (FreesControlled number) typed w left sound =
        then_here Anything (Flows s) left w (answered (generation_unstacked number w) left) _
        (answer_kept units level left known (x ∷ ss) w (generation_unstacked number w)
        (freed_answers units x ss unit s.globals number fits.inside.own fits.inside.top typed w sound))
        (λ _ w l any sound later. ends w l sound)
    freed_means (FreesBased locator d) typed w left sound =
        then_here (OfType Pointers) (Flows s) left w (value_of greatest call locator w left) _ (value locator Pointers typed w left sound)
        (λ v u l is sound later. then_here Anything (Flows s) l u (answered (freed_by d v u) l) _
        (answer_kept units level l known (x ∷ ss) u (freed_by d v u) (free_answers units x ss d v u is sound))
        (λ _ w l any sound later. ends w l sound))

    pub frees_mean : (items : List FreedItem) → AreFreed greatest s items → (w : World) (left : ℕ) → Sound w
        → Here s known x ss left w (Flows s) (frees greatest call items w left)
    frees_mean [] typed w left sound = ends w left sound
    frees_mean (item ∷ items) typed w left sound =
        followed_means units (Flows s) level left known (x ∷ ss) w (frees_item greatest call item w left) (frees greatest call items)
        (freed_means item typed.0 w left sound) (λ w l le sound. frees_mean items typed.1 w l sound)

    no_value_means : (o : Option Description) (v : Option Value) (w : World) (left : ℕ) → o ≡ None → IsReturned o v → Sound w
        → Here s known x ss left w (Flows s) (no_value v w left)
    no_value_means o None w left e is sound = ends w left sound
    no_value_means None (Some v) w left e is sound = absurd is
    no_value_means (Some d) (Some v) w left e is sound = absurd (none_some (sym e))

    pub call_means : (callee : Callee) (arguments : TypedArguments) → IsTypedForm greatest s (Call callee arguments) → (w : World) (left : ℕ) → Sound w
        → Here s known x ss left w (Flows s) (does_call greatest call callee arguments w left)
    call_means callee arguments typed w left sound =
        then_here (GivesBack None) (Flows s) left w (called_with greatest call callee arguments [] w left) no_value
        (called_means units greatest level call unit s known x ss fits.inside fits.stand fits.outlasts calls arguments typed.0 callee typed.0 None [] [] typed.2 refl typed.1 w left sound tt)
        (λ v w l is sound later. no_value_means None v w l refl is sound)

    pub jump_means : (outward label : ℕ) → knows_label (slice_get s.blocks outward) label → (w : World) (left : ℕ) → Sound w
        → Means units level (suc left) known (x ∷ ss) w (Flows s) (jumps_to outward (record { unit = unit; number = label }) w left)
    jump_means outward label typed w left sound = by (slice_get s.blocks outward) refl typed
      where
        by : (o : Option BlockAround) → slice_get s.blocks outward ≡ o → knows_label o label
            → Means units level (suc left) known (x ∷ ss) w (Flows s) (jumps_to outward (record { unit = unit; number = label }) w left)
        by None e k = absurd k
        by (Some b) e k =
            let h = height_there unit units known (x ∷ ss) s.blocks w outward b sound fits.stand e in
            subst (λ a. Means units level (suc left) known (x ∷ ss) w (Flows s) (and_then (answered a left) (λ h w left. Jumps h (record { unit = unit; number = label }) w left))) (sym h.1)
            (omega arith, h.2 label k, sound, later_same w)

    -- ON, REVERT and SIGNAL
    pub on_means : (c : Condition) (on_unit : ℕ) → IsOnUnitHere s on_unit → (w : World) (left : ℕ) → Sound w
        → Here s known x ss left w (Flows s) (establishes unit block c on_unit w left)
    on_means c on_unit here w left sound =
        then_here Anything (Flows s) left w (answered (established unit (Some block) c on_unit w) left) _
        (answer_kept units level left known (x ∷ ss) w (established unit (Some block) c on_unit w)
        (established_answers units x ss w sound c unit block on_unit fits.inside.top fits.running (record {
          procedure = here.0;
          found = ap (λ f. f on_unit) fits.inside.knows ∙ here.1;
          parameters = here.5;
          value = here.6;
          stand = subst (λ n. Stand n x.lasting (x ∷ ss) (suc (length ss)) here.0.around) (sym fits.inside.top)
              (stand_around unit x.lasting (x ∷ ss) (suc (length ss)) (at_rest s.blocks) here.0.around (around_unit s.blocks here.0.around here.4) fits.lasts);
        })))
        (λ _ w l any sound later. ends w l sound)

    pub revert_means : (c : Condition) (w : World) (left : ℕ) → Sound w → Here s known x ss left w (Flows s) (Gives Next (reverted c w) left)
    revert_means c w left sound = let r = reverted_sound units x ss w sound c in (omega arith, tt, r.0, r.1)

    pub signal_means : (c : Condition) (w : World) (left : ℕ) → Sound w → Here s known x ss left w (Flows s) (signals greatest call c w left)
    signal_means c w left sound =
        then_here Anything (Flows s) left w (resolved call.condition tt (signalled c w) left) _
        (resolves Anything tt left w (signalled c w) sound (λ v. tt) (error_named units x ss w (error_of c) sound) refl) (λ _ w l any sound later. ends w l sound)

    pub return_means : (outward : ℕ) → outward ≡ s.begins → s.value ≡ None → (w : World) (left : ℕ) → Sound w
        → Here s known x ss left w (Flows s) (Gives (Returned outward None) w left)
    return_means outward e none w left sound = (omega arith, (e, subst (λ o. IsReturned o None) (sym none) tt), sound, later_same w)

    pub value_returned : (outward : ℕ) (e : TypedExpression) → IsTypedForm greatest s (ReturnValue outward e) → (w : World) (left : ℕ) → Sound w
        → Here s known x ss left w (Flows s) (returns_value greatest call outward e w left)
    value_returned outward e typed w left sound =
        let d = typed.1.0 in
        let t = typed.1.2.0 in
        then_here (OfType t) (Flows s) left w (value_of greatest call e w left) _ (value e t typed.1.2.1 w left sound)
        (λ v w l is sound later. (
          omega arith,
          (typed.0, subst (λ o. IsReturned o (Some v)) (sym typed.1.1) (narrow_held d t v typed.1.2.2 is)),
          sound,
          later_same w,
        ))

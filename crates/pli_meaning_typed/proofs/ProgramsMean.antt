-- What calls and runs of well-typed programs mean.
use Rattle.std.specs.Prelude.{◌≡◌, ◌≢◌, ℕ, zero, suc, ◌<◌, nat_eq, true, false, not, ◌&&◌, Option, Some, None}
use Rattle.std.specs.Prelude.{List, [], ◌∷◌, length, slice_get, if◌then◌else◌, refl}
use Rattle.std.proofs.Common.{arith, sym, ap, ◌∙◌, subst, true≢false}
use Rattle.std.proofs.lemmas.Bool.{eq-eqb}
use Rattle.pli_base.specs.Name.{Name}
use Rattle.pli_base.specs.declared.statement.Condition.{Condition}
use Rattle.pli_run.specs.declared.ending.Ending.{Ending}
use Rattle.pli_run.specs.declared.ending.Ending.TheVariants as message
use Rattle.pli_world.specs.Ends.{Ended, OutOfSteps, told}
use Rattle.pli_run.specs.declared.ending.RunError.TheVariants.{NoReturnedValue}
use Rattle.pli_map.specs.Description.{Description}
use Rattle.pli_map.specs.ParameterTypes.{ParameterType}
use Rattle.pli_program.specs.Program.{is_external}
use Rattle.pli_machine_step.specs.Runs.{Outcome, outcome_of}
use Rattle.pli_world.specs.Activations.{nearest_of}
use Rattle.pli_world.specs.Conditions.{Handler, error_of, handler}
use Rattle.pli_world.specs.Storage.{Place}
use Rattle.pli_world.specs.World.{World, at_statement, stepped}
use Rattle.pli_value.specs.Value.{Value}
use Rattle.pli_type_tree.specs.Globals.{signature_of}
use Rattle.pli_type_tree.specs.TypedTree.{Callee, OfBlock, OfEntry, Global, OwnVariable, ExternalVariable, EntryPoint, TypedProcedure, TypedUnit}
use Rattle.pli_type_tree.specs.WellTyped.{BlockAround, KnownProcedure, IsReached, IsCallee}
use Rattle.pli_meaning_tree.specs.Effects.{Effect, Gives, Jumps, Fails, Spent, Lost, Short, Flow, Next, Returned, and_then, answered, unless_full, procedure_end}
use Rattle.pli_meaning_tree.specs.TreeMeaning.{Calls, labels_in, static_link, head_in, activation_of, does_list}
use Rattle.pli_meaning_tree.specs.ProgramMeaning.{procedure_run, procedure_in, entry_unit, called_in, calls}
use Rattle.pli_meaning_tree.specs.ProgramMeaning.{raised_in, unless_fault, ran}
use Rattle.pli_meaning_tree.specs.Parts.{activates_in, activates, activates_outer, activates_unit, activates_entry, runs_block, runs_on_unit, main_run, unit_run, unit_names}
use Rattle.pli_meaning_typed.specs.SoundWorlds.{AreGood, Known, Shape, HoldsValues, AreStacksGood, AreShaped, Stand, HaveOnUnits, AreStatics, IsSound}
use Rattle.pli_meaning_typed.specs.TypedPrograms.{context_in, HasEnd, IsTypedProcedure, IsOuter, IsTypedUnit, AreTypedUnits, IsLinked, HasMain, EveryRunIsMeant}
use Rattle.pli_meaning_typed.proofs.ExpressionsMean.{IsReturned, Gives as GivesBack, CallsMean}
use Rattle.pli_meaning_typed.proofs.MeansLemmas.{also, Means, after_step, full_means}
use Rattle.pli_meaning_typed.proofs.OnUnits.{IsOfTyped, Holds, Handles, handler_stands}
use Rattle.pli_meaning_typed.proofs.ContextLaws.{IsUnit, near, stand_around, shaped_length}
use Rattle.pli_meaning_typed.proofs.FormsMean.{FlowIs}
use Rattle.pli_meaning_typed.proofs.StatementsMean.{in_own_block, activation_means, list_means}
use Rattle.pli_meaning_typed.proofs.StaticsMade.{global_among, statics_there}
use Rattle.pli_meaning_typed.proofs.WorldLaws.{shape_of, goods_later, error_named, stepped_sound, statement_sound, left_sound, left_later}

none_some : {A : Type 0} {x : A} → None ≡ Some x → ⊥
none_some e = absurd (cc)

some_same : {A : Type 0} {x y : A} → Some x ≡ Some y → x ≡ y
some_same e = cc

good_length : (w : World) (ds : List ParameterType) (ps : List Place) → AreGood w ds ps → length ds ≡ length ps
good_length w [] [] h = refl
good_length w [] (p ∷ ps) h = absurd h
good_length w (d ∷ ds) [] h = absurd h
good_length w (d ∷ ds) (p ∷ ps) h = ap (λ n. suc n) (good_length w ds ps h.1)

-- what is no ON-unit may be called with as many arguments as it has parameters
may_run : (f : TypedProcedure) (p : KnownProcedure) (places : List Place) → p.is_on_unit ≡ false → f.is_on_unit ≡ p.is_on_unit → f.parameters ≡ length places
    → not f.is_on_unit && nat_eq f.parameters (length places) ≡ true
may_run f p places called same long =
    ap (λ b. not b && nat_eq f.parameters (length places)) (same ∙ called) ∙ eq-eqb f.parameters (length places) long

module _ (units : List TypedUnit) (greatest unit : ℕ) (u : TypedUnit) (own : IsUnit units unit u.globals) (procedures : ℕ → Option KnownProcedure) (of_typed : IsOfTyped greatest units unit procedures) where
  -- the end of a procedure
  procedure_ends : (level : ℕ) (known : Known) (y : Shape) (ss : List Shape) (p : KnownProcedure) (function_end : Option ℕ) → HasEnd function_end p.value
      → (x : Flow) (v : World) (l : ℕ) → FlowIs 0 p.value x v → IsSound units (y ∷ ss) v
      → Means units level l known ss v (GivesBack p.value) (procedure_end function_end x v l)
  procedure_ends level known y ss p None has Next v l is sound =
      (omega arith, no_value p.value has, left_sound units y ss v sound, left_later units v)
    where
      no_value : (o : Option Description) → HasEnd None o → IsReturned o None
      no_value None h = tt
      no_value (Some d) h = absurd h
  procedure_ends level known y ss p (Some s) has Next v l is sound =
      error_named units y ss (at_statement s v) NoReturnedValue (statement_sound units (y ∷ ss) s v sound).0
  procedure_ends level known y ss p None has (Returned zero o) v l is sound =
      (omega arith, is.1, left_sound units y ss v sound, left_later units v)
  procedure_ends level known y ss p (Some s) has (Returned zero o) v l is sound =
      (omega arith, is.1, left_sound units y ss v sound, left_later units v)
  procedure_ends level known y ss p None has (Returned (suc outward) o) v l is sound = absurd (cc)
  procedure_ends level known y ss p (Some s) has (Returned (suc outward) o) v l is sound = absurd (cc)

  -- a procedure's run, after its step
  run_means : (level : ℕ) (call : Calls) (f : TypedProcedure) (p : KnownProcedure) (known : Known) (ss : List Shape) (link : ℕ) (places : List Place)
      → IsTypedProcedure greatest u.globals procedures p f → CallsMean greatest units unit u.globals procedures level call
      → Stand unit known ss link p.around → Holds greatest units known ss → (w : World) (left : ℕ) → IsSound units ss w → AreGood w p.parameters places
      → Means units level left known ss w (GivesBack p.value)
      (activation_of (head_in unit f.head) link places (does_list greatest call unit level f.head.number f.statements) (procedure_end f.function_end) w left)
  run_means level call f p known ss link places typed means stand outlasts w left sound good =
      let s = context_in u.globals procedures p f in
      activation_means units (FlowIs 0 p.value) (GivesBack p.value) level known ss (head_in unit f.head) link places p.parameters
      procedures lasting (does_list greatest call unit level f.head.number f.statements) (procedure_end f.function_end) w left outlasts.below sound (own.unit, own.there) good typed.made
      (λ v l sound. list_means units greatest level call unit f.statements s known (inner link) ss f.head.number typed.statements
      (in_own_block greatest units unit known f.head p.parameters f.statements link ss s p.around refl own of_typed stand outlasts) means v l sound)
      (λ x v l is sound. procedure_ends level known (inner link) ss p f.function_end typed.end x v l is sound)
    where
      lasting : Known
      lasting = also (labels_in unit f.statements) (suc (length ss)) known

      inner : ℕ → Shape
      inner link = shape_of (head_in unit f.head) link p.parameters procedures (also (labels_in unit f.statements) (suc (length ss)) known)

  -- with its step, at the level above
  procedure_means : (level : ℕ) (call : Calls) (f : TypedProcedure) (p : KnownProcedure) (known : Known) (ss : List Shape) (link : ℕ) (places : List Place)
      → IsTypedProcedure greatest u.globals procedures p f → CallsMean greatest units unit u.globals procedures level call
      → Stand unit known ss link p.around → Holds greatest units known ss → (w : World) (left : ℕ) → IsSound units ss w → AreGood w p.parameters places
      → Means units (suc level) left known ss w (GivesBack p.value) (procedure_run greatest call level unit f link places w left)
  procedure_means level call f p known ss link places typed means stand outlasts w zero sound good = tt
  procedure_means level call f p known ss link places typed means stand outlasts w (suc left) sound good =
      let s = stepped_sound units ss w sound in
      after_step units (GivesBack p.value) level left known ss w (stepped w)
      (activation_of (head_in unit f.head) link places (does_list greatest call unit level f.head.number f.statements) (procedure_end f.function_end) (stepped w) left) s.1
      (run_means level call f p known ss link places typed means stand outlasts (stepped w) left s.0 (goods_later w (stepped w) p.parameters places s.1 good))

  -- the static link of a procedure that is reached
  record Linked (known : Known) (ss : List Shape) (parent : Option ℕ) (around : List BlockAround) (w : World) : Type 0 where
    link : ℕ
    found : static_link unit parent w ≡ Some link
    stand : Stand unit known ss link around

  nothing_around : (known : Known) (ss : List Shape) (h : ℕ) (around : List BlockAround) → around ≡ [] → Stand unit known ss h around
  nothing_around known [] h [] e = tt
  nothing_around known (s ∷ ss) h [] e = tt
  nothing_around known ss h (b ∷ bs) e = absurd (cc)

  linked : (known : Known) (ss : List Shape) (blocks around : List BlockAround) (parent : Option ℕ) (w : World) → IsSound units ss w
      → Stand unit known ss (length ss) blocks → IsReached parent blocks around → Linked known ss parent around w
  linked known ss blocks around None w sound stand reached =
      record { link = 0; found = refl; stand = nothing_around known ss 0 around reached }
  linked known ss blocks around (Some parent) w sound stand reached =
      let n = near unit known w ss w.activations (length ss) parent blocks reached.0 sound.stack stand reached.1 in record {
        link = n.link;
        found = ap (λ h. nearest_of unit parent w.activations h) (shaped_length w ss w.activations sound.stack) ∙ n.walked;
        stand = stand_around unit known ss n.link reached.0 around reached.2 n.stand;
      }

  -- a call of a procedure
  activates_means : (level : ℕ) (call : Calls) (f : TypedProcedure) (p : KnownProcedure) (known : Known) (x : Shape) (ss : List Shape) (blocks : List BlockAround)
      (places : List Place) → IsTypedProcedure greatest u.globals procedures p f → p.is_on_unit ≡ false → CallsMean greatest units unit u.globals procedures level call
      → Stand unit known (x ∷ ss) (suc (length ss)) blocks → IsReached p.parent blocks p.around → Holds greatest units known (x ∷ ss)
      → (w : World) (left : ℕ) → IsSound units (x ∷ ss) w → AreGood w p.parameters places
      → Means units (suc level) left known (x ∷ ss) w (GivesBack p.value)
      (activates_in greatest call level unit f (static_link unit f.parent w) places w left)
  activates_means level call f p known x ss blocks places typed called means stand reached outlasts w left sound good =
      let l = linked known (x ∷ ss) blocks p.around p.parent w sound stand reached in
      subst (λ o. Means units (suc level) left known (x ∷ ss) w (GivesBack p.value) (activates_in greatest call level unit f o places w left)) (sym (ap (λ o. static_link unit o w) typed.parent ∙ l.found))
      (subst (λ b. Means units (suc level) left known (x ∷ ss) w (GivesBack p.value) (if b then unless_full (procedure_run greatest call level unit f l.link places) w left else Lost))
      (sym (may_run f p places called typed.kind (typed.parameters ∙ good_length w p.parameters places good)))
      (full_means units (GivesBack p.value) (suc level) left known x ss (procedure_run greatest call level unit f l.link places) w sound
      (procedure_means level call f p known (x ∷ ss) l.link places typed means l.stand outlasts w left sound good)))

unit_typed : (n : ℕ) (us : List TypedUnit) (i : ℕ) (u : TypedUnit) → AreTypedUnits n us → slice_get us i ≡ Some u → IsTypedUnit n u
unit_typed n [] i u typed e = absurd (none_some e)
unit_typed n (v ∷ us) zero u typed e = subst (λ u. IsTypedUnit n u) (some_same e) typed.0
unit_typed n (v ∷ us) (suc i) u typed e = unit_typed n us i u typed.1 e

module _ (units : List TypedUnit) (greatest : ℕ) (all_typed : AreTypedUnits greatest units) (linked_units : IsLinked units) where
  -- what is called by each unit means something
  abbrev AllMean : (level : ℕ) → Type 0
  AllMean level =
      (i : ℕ) (u : TypedUnit) → slice_get units i ≡ Some u → (typed : IsTypedUnit greatest u)
      → CallsMean greatest units i u.globals typed.procedures level (calls greatest units level i u)

  module _ (level : ℕ) (means : AllMean level) (known : Known) (x : Shape) (ss : List Shape) (outlasts : Holds greatest units known (x ∷ ss))
      (places : List Place) (w : World) (left : ℕ) (sound : IsSound units (x ∷ ss) w) where
    abbrev Mean : Option Description → Effect (Option Value) → Type 0
    Mean value o = Means units (suc level) left known (x ∷ ss) w (GivesBack value) o

    -- of a procedure of the unit
    inside_means : (i : ℕ) (u : TypedUnit) → slice_get units i ≡ Some u → (typed : IsTypedUnit greatest u) (blocks : List BlockAround) (block : ℕ) (p : KnownProcedure)
        → typed.procedures block ≡ Some p → p.is_on_unit ≡ false → IsReached p.parent blocks p.around → Stand i known (x ∷ ss) (suc (length ss)) blocks → AreGood w p.parameters places
        → Mean p.value (activates greatest (calls greatest units level i u) level i (procedure_in u.procedures block) places w left)
    inside_means i u there typed blocks block p found called reached stand good =
        let f = typed.typed block p found in
        let own : IsUnit units i u.globals = record { unit = u; there = there; has = refl } in
        let of_typed : IsOfTyped greatest units i typed.procedures = record { unit = u; there = there; typed = typed; has = refl } in
        subst (λ o. Mean p.value (activates greatest (calls greatest units level i u) level i o places w left)) (sym f.1)
        (activates_means units greatest i u own typed.procedures of_typed level (calls greatest units level i u) f.0 p known x ss blocks places f.2 called (means i u there typed) stand reached outlasts w left sound good)

    -- of the external procedure of a unit
    outer_means : (i : ℕ) (u : TypedUnit) → slice_get units i ≡ Some u → AreGood w u.signature.parameters places
        → Mean u.signature.result (activates_outer greatest (calls greatest units level i u) level i (procedure_in u.procedures 0) places w left)
    outer_means i u there good =
        subst (λ o. Mean p.value (activates_outer greatest call level i o places w left)) (sym f.1)
        (subst (λ b. Mean p.value (if b then activates_in greatest call level i f.0 (Some 0) places w left else Lost)) (sym (ap is_external f.2.parent))
        (subst (λ b. Mean p.value (if b then unless_full (procedure_run greatest call level i f.0 0 places) w left else Lost))
        (sym (may_run f.0 p places refl f.2.kind (f.2.parameters ∙ good_length w p.parameters places good)))
        (full_means units (GivesBack p.value) (suc level) left known x ss (procedure_run greatest call level i f.0 0 places) w sound
        (procedure_means units greatest i u own typed.procedures of_typed level call f.0 p known (x ∷ ss) 0 places f.2 (means i u there typed) tt outlasts w left sound good))))
      where
        typed : IsTypedUnit greatest u
        typed = unit_typed greatest units i u all_typed there

        call : Calls
        call = calls greatest units level i u

        p : KnownProcedure
        p = record { is_on_unit = false; parent = None; around = []; parameters = u.signature.parameters; value = u.signature.result }

        f : (f : TypedProcedure) × (procedure_in u.procedures 0 ≡ Some f) × IsTypedProcedure greatest u.globals typed.procedures p f
        f = typed.typed 0 p typed.outer

        own : IsUnit units i u.globals
        own = record { unit = u; there = there; has = refl }

        of_typed : IsOfTyped greatest units i typed.procedures
        of_typed = record { unit = u; there = there; typed = typed; has = refl }

    -- of an entry
    entry_means : (i : ℕ) (u : TypedUnit) → slice_get units i ≡ Some u → (number : ℕ) (parameters : List ParameterType) (value : Option Description)
        → signature_of (slice_get u.globals number) ≡ Some (record { parameters = parameters; result = value }) → AreGood w parameters places
        → Mean value (activates_entry greatest units (calls greatest units level) level (entry_unit units (slice_get u.globals number)) places w left)
    entry_means i u there number parameters value e good = by (slice_get u.globals number) refl e
      where
        by : (o : Option Global) → slice_get u.globals number ≡ o → signature_of o ≡ Some (record { parameters = parameters; result = value })
            → Mean value (activates_entry greatest units (calls greatest units level) level (entry_unit units o) places w left)
        by None h e = absurd (none_some e)
        by (Some (OwnVariable kind t)) h e = absurd (none_some e)
        by (Some (ExternalVariable name kind t)) h e = absurd (none_some e)
        by (Some (EntryPoint name s)) h e =
            let k = global_among units i u number (EntryPoint name s) there h in
            let v = linked_units.entries k.0 name s k.1 in
            let t = v.2.0 in
            let same : t.signature ≡ record { parameters = parameters; result = value } = v.2.2 ∙ some_same e in
            subst (λ o. Mean value (activates_entry greatest units (calls greatest units level) level o places w left)) (sym v.1)
            (subst (λ o. Mean value (activates_unit greatest (calls greatest units level) level v.0 o places w left)) (sym v.2.1)
            (subst (λ d. Mean d (activates_outer greatest (calls greatest units level v.0 t) level v.0 (procedure_in t.procedures 0) places w left)) (ap (λ s. s.result) same)
            (outer_means v.0 t v.2.1 (subst (λ ds. AreGood w ds places) (sym (ap (λ s. s.parameters) same)) good))))

  -- a condition: the unit that takes it runs, and without one the run ends
  module _ (level : ℕ) (means : AllMean level) (known : Known) (x : Shape) (ss : List Shape) (outlasts : Holds greatest units known (x ∷ ss))
      (w : World) (left : ℕ) (sound : IsSound units (x ∷ ss) w) where
    abbrev Unvalued : Effect (Option Value) → Type 0
    Unvalued o = Means units (suc level) left known (x ∷ ss) w (GivesBack None) o

    taken_means : (h : Handler) → Handles greatest units known (x ∷ ss) h → Unvalued (runs_on_unit greatest (calls greatest units level) level h (slice_get units h.unit) w left)
    taken_means h r =
        let u = r.typed.unit in
        let call = calls greatest units level h.unit u in
        let typed = r.typed.typed in
        let p = r.procedure in
        let f = typed.typed h.block p (ap (λ procedures. procedures h.block) r.typed.has ∙ r.found) in
        let own : IsUnit units h.unit u.globals = record { unit = u; there = r.typed.there; has = refl } in
        let of_typed : IsOfTyped greatest units h.unit typed.procedures = record { unit = u; there = r.typed.there; typed = typed; has = refl } in
        subst (λ o. Unvalued (runs_on_unit greatest (calls greatest units level) level h o w left)) (sym r.typed.there)
        (subst (λ o. Unvalued (runs_block greatest call level h o w left)) (sym f.1)
        (full_means units (GivesBack None) (suc level) left known x ss (procedure_run greatest call level h.unit f.0 h.link []) w sound
        (subst (λ d. Means units (suc level) left known (x ∷ ss) w (GivesBack d) (procedure_run greatest call level h.unit f.0 h.link [] w left)) r.value
        (procedure_means units greatest h.unit u own typed.procedures of_typed level call f.0 p known (x ∷ ss) h.link [] f.2 (means h.unit u r.typed.there typed) r.stand outlasts w left sound
        (subst (λ ds. AreGood w ds []) (sym r.parameters) tt)))))

    raised_mean : (c : Condition) → Unvalued (raised_in greatest units (calls greatest units level) level c (handler c w.activations) w left)
    raised_mean c = by (handler c w.activations) refl
      where
        by : (o : Option Handler) → handler c w.activations ≡ o → Unvalued (raised_in greatest units (calls greatest units level) level c o w left)
        by None e = error_named units x ss w (error_of c) sound
        by (Some h) e =
            taken_means h (handler_stands greatest units known w c (x ∷ ss) w.activations h sound.stack sound.on_units outlasts.lasts outlasts.typed e)

  pub calls_mean : (level : ℕ) → AllMean level
  calls_mean zero i u there typed = record {
    procedure = λ callee parameters value known x ss blocks found stand outlasts places w left sound good. omega arith;
    condition = λ c known x ss outlasts w left sound. omega arith;
  }
  calls_mean (suc level) i u there typed =
      record {
        procedure = λ callee parameters value known x ss blocks found stand outlasts places w left sound good.
            by (calls_mean level) callee parameters value known x ss blocks found stand outlasts places w left sound good;
        condition = λ c known x ss outlasts w left sound. raised_mean level (calls_mean level) known x ss outlasts w left sound c;
      }
    where
      by : AllMean level → (callee : Callee) (parameters : List ParameterType) (value : Option Description) (known : Known) (x : Shape) (ss : List Shape) (blocks : List BlockAround)
          → IsCallee u.globals typed.procedures blocks callee parameters value → Stand i known (x ∷ ss) (suc (length ss)) blocks → Holds greatest units known (x ∷ ss)
          → (places : List Place) (w : World) (left : ℕ) → IsSound units (x ∷ ss) w → AreGood w parameters places
          → Means units (suc level) left known (x ∷ ss) w (GivesBack value) (called_in greatest units (calls greatest units level) level i u callee places w left)
      by means (OfBlock block) parameters value known x ss blocks found stand outlasts places w left sound good =
          let p = found.0 in
          subst (λ d. Means units (suc level) left known (x ∷ ss) w (GivesBack d) (activates greatest (calls greatest units level i u) level i (procedure_in u.procedures block) places w left)) found.5
          (inside_means level means known x ss outlasts places w left sound i u there typed blocks block p found.1 found.2 found.3 stand (subst (λ ds. AreGood w ds places) (sym found.4) good))
      by means (OfEntry number) parameters value known x ss blocks found stand outlasts places w left sound good =
          entry_means level means known x ss outlasts places w left sound i u there number parameters value found good

-- a run: what has a meaning ends so
ended : (e : Ending) (o : Outcome) → e ≢ message.MachineFault → unless_fault e o ≡ Some o
ended (message.Error e unit s) o h = refl
ended message.Ended o h = refl
ended message.OutOfSteps o h = refl
ended message.MachineFault o h = absurd (h refl)

module _ (units : List TypedUnit) where
  abbrev names : List Name
  names = unit_names units

  ran_so : (m n : ℕ) (u : World) (o : Effect (Option Value)) → n < m
      → Means units m n (λ h k. false) [] u (GivesBack None) o → (x : Outcome) × (ran names o ≡ Some x)
  ran_so m n u (Gives None w left) lt h = (outcome_of names Ended w, refl)
  ran_so m n u (Gives (Some v) w left) lt h = absurd h.1
  ran_so m n u (Jumps i k w left) lt h = absurd (true≢false (sym h.1))
  ran_so m n u (Fails e w) lt h = (outcome_of names e w, ended (told names e) (outcome_of names e w) h)
  ran_so m n u (Spent w) lt h = (outcome_of names OutOfSteps w, refl)
  ran_so m n u Lost lt h = absurd h
  ran_so m n u Short lt h = absurd (omega (arith, lt, h))

  main_means : (greatest : ℕ) (all_typed : AreTypedUnits greatest units) → IsLinked units → (i : ℕ) (u : TypedUnit) → slice_get units i ≡ Some u
      → u.signature ≡ record { parameters = []; result = None } → (n : ℕ) (w : World) → IsSound units [] w
      → (x : Outcome) × (ran names (main_run greatest (calls greatest units (suc n) i u) (suc n) i (procedure_in u.procedures 0) w n) ≡ Some x)
  main_means greatest all_typed linked_units i u there nothing_given n w sound =
      subst (λ o. (x : Outcome) × (ran names (main_run greatest call (suc n) i o w n) ≡ Some x)) (sym f.1)
      (subst (λ b. (x : Outcome) × (ran names (if b then procedure_run greatest call (suc n) i f.0 0 [] w n else Lost) ≡ Some x)) (sym tested)
      (ran_so (suc (suc n)) n w (procedure_run greatest call (suc n) i f.0 0 [] w n) (omega arith)
      (procedure_means units greatest i u own typed.procedures of_typed (suc n) call f.0 p (λ h k. false) [] 0 [] f.2 (calls_mean units greatest all_typed linked_units (suc n) i u there typed)
      tt (record { below = λ h k lt. refl; lasts = tt; typed = tt }) w n sound tt)))
    where
      typed : IsTypedUnit greatest u
      typed = unit_typed greatest units i u all_typed there

      call : Calls
      call = calls greatest units (suc n) i u

      p : KnownProcedure
      p = record { is_on_unit = false; parent = None; around = []; parameters = []; value = None }

      f : (f : TypedProcedure) × (procedure_in u.procedures 0 ≡ Some f) × IsTypedProcedure greatest u.globals typed.procedures p f
      f = typed.typed 0 p (subst (λ s. IsOuter (typed.procedures 0) s) nothing_given typed.outer)

      own : IsUnit units i u.globals
      own = record { unit = u; there = there; has = refl }

      of_typed : IsOfTyped greatest units i typed.procedures
      of_typed = record { unit = u; there = there; typed = typed; has = refl }

      tested : is_external f.0.parent && (not f.0.is_on_unit && nat_eq f.0.parameters 0) ≡ true
      tested = ap (λ o. is_external o && (not f.0.is_on_unit && nat_eq f.0.parameters 0)) f.2.parent ∙ may_run f.0 p [] refl f.2.kind f.2.parameters

pub always_meant : EveryRunIsMeant
always_meant p typed steps =
    let made = statics_there p.greatest p.units typed.units typed.linked typed.count typed.bytes in
    subst (λ a. (x : Outcome) × (ran (unit_names p.units) (and_then (answered a steps) (λ _ w left. unit_run p.greatest (calls p.greatest p.units (suc steps)) (suc steps) p.main (slice_get p.units p.main) w left)) ≡ Some x))
    (sym made.1)
    (by made.0 made.2 made.3 made.4 made.5 (slice_get p.units p.main) refl typed.main)
  where
    by : (w : World) → HoldsValues w → AreStacksGood w → w.activations ≡ [] → ((i : ℕ) (u : TypedUnit) → slice_get p.units i ≡ Some u → AreStatics i u.globals w)
        → (o : Option TypedUnit) → slice_get p.units p.main ≡ o → HasMain o
        → (x : Outcome) × (ran (unit_names p.units) (unit_run p.greatest (calls p.greatest p.units (suc steps)) (suc steps) p.main o w steps) ≡ Some x)
    by w values stacks stack statics None e main = absurd main
    by w values stacks stack statics (Some u) e main =
        main_means p.units p.greatest typed.units typed.linked p.main u e main steps w (record {
          values = values;
          stacks = stacks;
          stack = subst (λ all. AreShaped w [] all) (sym stack) tt;
          of_units = tt;
          on_units = subst (λ all. HaveOnUnits [] all) (sym stack) tt;
          made = statics;
        })

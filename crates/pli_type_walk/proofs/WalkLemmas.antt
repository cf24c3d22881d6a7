-- What the walk does at parts of statements, put together.
use Rattle.std.proofs.Common.{◌≡◌, ◌++◌, ℕ, List, [], Option, Some, None, option_map, Result, Ok, Err, IfOk, OnOk, refl, ap, sym, ◌∙◌, subst, append-nil, append_assoc}
use Rattle.pli_base.specs.declared.token.Fault.{Fault}
use Rattle.pli_type_rules.specs.Names.{Naming, NamedUnit}
use Rattle.pli_type_rules.specs.NamedUnits.{named_unit}
use Rattle.pli_base.specs.views.StatementView.{unit_view}
use Rattle.pli_declare.specs.ResolvedUnits.{resolved_unit_of}
use Rattle.pli_type_rules.specs.StatementTyping.{Surroundings, WithProcedures, alone, of_own, together, made, naming_at}
use Rattle.pli_type_rules.specs.Temporaries.{Next}
use Rattle.pli_type_rules.specs.TypingSteps.{if_form}
use Rattle.pli_base.specs.answers.FailureAnswers.{Gives}
use Rattle.pli_base.specs.declared.failure.Failure.{Failure}
use Rattle.pli_base.specs.declared.failure.Failure.TheVariants as errors
use Rattle.pli_type_names.specs.UnitNaming.{Names, based_in, naming_in}
use Rattle.pli_type_tree.specs.TypedTree.{TypedExpression, TypedStatement, TypedProcedure, OtherWise, If}
use Rattle.pli_type_parts.specs.Around.{surroundings_of}
use Rattle.pli_type_parts.specs.Parts.{unit_named, given, told, Adds, both, if_of, part_in, faults_in, IsKnown}
use Rattle.pli_type_walk.specs.Walking.{IsPlaced, IsBack, Walks, unit_at, around, based_names, next_at, finished}
use Rattle.pli_type_walk.specs.declared.walk.TypingWalk.{TypingWalk}

abbrev Typed : Type 0 → Type 0
Typed A = Result (WithProcedures A) (List Fault)

-- faults of its own

noted_part : {X Y : Type 0} (view : X → Y) (answer : Result X (Failure Fault)) (typed : Result Y Fault)
    → Gives view answer typed → IsKnown answer → option_map view (part_in answer) ≡ given (of_own typed)
noted_part view (Ok x) typed g k = ap (λ r. given (of_own r)) (sym g)
noted_part view (Err (errors.Fault f)) typed g k = ap (λ r. given (of_own r)) (sym g)
noted_part view (Err errors.OutOfMemory) typed g k = absurd k

noted_faults : {X Y : Type 0} (view : X → Y) (answer : Result X (Failure Fault)) (typed : Result Y Fault)
    → Gives view answer typed → IsKnown answer → faults_in answer ≡ told (of_own typed)
noted_faults view (Ok x) typed g k = ap (λ r. told (of_own r)) (sym g)
noted_faults view (Err (errors.Fault f)) typed g k = ap (λ r. told (of_own r)) (sym g)
noted_faults view (Err errors.OutOfMemory) typed g k = absurd k

own_adds : {Y : Type 0} (typed : Result Y Fault) (xs ys : List TypedProcedure) → ys ≡ xs → Adds (of_own typed) xs ys
own_adds (Ok y) xs ys e = e ∙ sym (append-nil xs)
own_adds (Err f) xs ys e = tt

-- names are looked at from the blocks round the place
pub named_at : (w : TypingWalk) → IsPlaced w → naming_in w.naming ≡ naming_at (unit_at w) (around w)
unfolding unit_named naming_in
named_at w p = ap (named_unit 63 (resolved_unit_of (unit_view w.naming.unit))).naming p.blocks

-- what BASED variables are made from, as names know it
pub based_named : (n : Names) (block : ℕ) → ((unit_named n.unit).naming []).based block ≡ (naming_in n).based block
unfolding unit_named naming_in
based_named n block = refl

-- which names are those of BASED variables
pub names_named : (n : Names) → based_in n ≡ (unit_named n.unit).is_based
unfolding unit_named based_in
names_named n = refl

pub same_based : (old mid : TypingWalk) → mid.naming ≡ old.naming → based_names mid ≡ based_names old
same_based old mid same = ap (λ (n : Names). (unit_named n.unit).is_based) same

pub own_walked : {X Y E : Type 0} (old new : TypingWalk) (view : X → Y) (typed : Naming → Result Y Fault)
    (answer : Result X (Failure Fault)) (result : Result (Option X) E) (after : Next) → IsPlaced old
    → Gives view answer (typed (naming_in old.naming))
    → IfOk result (λ part. part ≡ part_in answer)
    → OnOk result (new.faults.items ≡ old.faults.items ++ faults_in answer) → OnOk result (IsKnown answer)
    → IsBack old new → finished new ≡ finished old → next_at new ≡ after
    → IfOk result (λ part. Walks Y old new after (of_own (typed (naming_at (unit_at old) (around old)))) (option_map view part))
own_walked old new view typed answer (Err e) after placed gives is faults known back procedures next = tt
own_walked old new view typed answer (Ok part) after placed gives is faults known back procedures next =
    let there : Gives view answer (typed (naming_at (unit_at old) (around old))) =
    subst (λ n. Gives view answer (typed n)) (named_at old placed) gives in
    record {
      back = back;
      next = next;
      part = ap (option_map view) is ∙ noted_part view answer (typed (naming_at (unit_at old) (around old))) there known;
      faults = faults ∙ ap (λ fs. old.faults.items ++ fs) (noted_faults view answer (typed (naming_at (unit_at old) (around old))) there known);
      procedures = own_adds (typed (naming_at (unit_at old) (around old))) (finished old) (finished new) procedures;
    }

-- one part after another

pub back_then : (old mid new : TypingWalk) → IsBack old mid → IsBack mid new → IsBack old new
back_then old mid new b c = record {
  naming = c.naming ∙ b.naming;
  around = c.around ∙ b.around;
  globals = c.globals ∙ b.globals;
  placed = c.placed;
}

pub given_both : {A B C : Type 0} (make : A → B → C) (r : Typed A) (s : Typed B)
    → given (together make r s) ≡ both make (given r) (given s)
given_both make (Ok x) (Ok y) = refl
given_both make (Ok x) (Err gs) = refl
given_both make (Err fs) (Ok y) = refl
given_both make (Err fs) (Err gs) = refl

told_both : {A B C : Type 0} (make : A → B → C) (r : Typed A) (s : Typed B)
    → told (together make r s) ≡ told r ++ told s
told_both make (Ok x) (Ok y) = refl
told_both make (Ok x) (Err gs) = refl
told_both make (Err fs) (Ok y) = sym (append-nil fs)
told_both make (Err fs) (Err gs) = refl

adds_both : {A B C : Type 0} (make : A → B → C) (r : Typed A) (s : Typed B) (xs ys zs : List TypedProcedure)
    → Adds r xs ys → Adds s ys zs → Adds (together make r s) xs zs
adds_both make (Ok x) (Ok y) xs ys zs e f =
    f ∙ ap (λ ps. ps ++ y.procedures) e ∙ append_assoc xs x.procedures y.procedures
adds_both make (Ok x) (Err gs) xs ys zs e f = tt
adds_both make (Err fs) (Ok y) xs ys zs e f = tt
adds_both make (Err fs) (Err gs) xs ys zs e f = tt

pub then_walked : {A B C : Type 0} (make : A → B → C) (old mid new : TypingWalk) (next last : Next) (r : Typed A) (s t : Typed B)
    (x : Option A) (y : Option B) → Walks A old mid next r x → Walks B mid new last s y → s ≡ t
    → Walks C old new last (together make r t) (both make x y)
then_walked make old mid new next last r s t x y first second e = record {
  back = back_then old mid new first.back second.back;
  next = second.next;
  part = ap (λ a. both make a y) first.part ∙ ap (λ b. both make (given r) b) (second.part ∙ ap given e)
      ∙ sym (given_both make r t);
  faults = second.faults ∙ ap (λ fs. fs ++ told s) first.faults ∙ append_assoc old.faults.items (told r) (told s)
      ∙ ap (λ u. old.faults.items ++ (told r ++ told u)) e
      ∙ ap (λ fs. old.faults.items ++ fs) (sym (told_both make r t));
  procedures = adds_both make r t (finished old) (finished mid) (finished new) first.procedures
      (subst (λ u. Adds u (finished mid) (finished new)) e second.procedures);
}

-- what is typed, what stands after it, and the part, as they are written otherwise
pub as_typed : {A : Type 0} (old new : TypingWalk) (after last : Next) (r s : Typed A) (x y : Option A)
    → after ≡ last → r ≡ s → y ≡ x → Walks A old new after r x → Walks A old new last s y
as_typed old new after last r s x y a e p w = record {
  back = w.back;
  next = w.next ∙ a;
  part = p ∙ w.part ∙ ap given e;
  faults = w.faults ∙ ap (λ u. old.faults.items ++ told u) e;
  procedures = subst (λ u. Adds u (finished old) (finished new)) e w.procedures;
}

-- nothing is done
pub nothing_walked : {A : Type 0} (w : TypingWalk) (after : Next) (x : A) → IsPlaced w → next_at w ≡ after
    → Walks A w w after (Ok (alone x)) (Some x)
nothing_walked w after x placed e = record {
  back = record { naming = refl; around = refl; globals = refl; placed = placed };
  next = e;
  part = refl;
  faults = sym (append-nil w.faults.items);
  procedures = sym (append-nil (finished w));
}

-- a part as it becomes another

given_made : {A B : Type 0} (make : A → B) (r : Typed A) → given (made make r) ≡ option_map make (given r)
given_made make (Ok x) = refl
given_made make (Err fs) = refl

told_made : {A B : Type 0} (make : A → B) (r : Typed A) → told (made make r) ≡ told r
told_made make (Ok x) = refl
told_made make (Err fs) = refl

adds_made : {A B : Type 0} (make : A → B) (r : Typed A) (xs ys : List TypedProcedure) → Adds r xs ys → Adds (made make r) xs ys
adds_made make (Ok x) xs ys e = e
adds_made make (Err fs) xs ys e = tt

pub made_walked : {A B : Type 0} (make : A → B) (old new : TypingWalk) (after : Next) (r : Typed A) (x : Option A)
    → Walks A old new after r x → Walks B old new after (made make r) (option_map make x)
made_walked make old new after r x w = record {
  back = w.back;
  next = w.next;
  part = ap (option_map make) w.part ∙ sym (given_made make r);
  faults = w.faults ∙ ap (λ fs. old.faults.items ++ fs) (sym (told_made make r));
  procedures = adds_made make r (finished old) (finished new) w.procedures;
}

-- what stands in the surroundings here stands in equal ones
pub moved : {A : Type 0} (typed : NamedUnit → Surroundings → Next → A) (old mid : TypingWalk) (next : Next)
    → IsBack old mid → next_at mid ≡ next
    → typed (unit_at mid) (around mid) (next_at mid) ≡ typed (unit_at old) (around old) next
moved typed old mid next b e =
    ap (λ n. typed (unit_named n.unit) (around mid) (next_at mid)) b.naming
    ∙ ap (λ a. typed (unit_at old) (surroundings_of a) (next_at mid)) b.around
    ∙ ap (λ n. typed (unit_at old) (around old) n) e

-- an IF

both_if : (x : Option TypedExpression) (s : Option TypedStatement) (o : Option OtherWise)
    → if_of x s o ≡ both (λ (x : TypedExpression) (both : TypedStatement × OtherWise). If x both.0 both.1) x (both (λ (s : TypedStatement) (o : OtherWise). (s, o)) s o)
both_if (Some x) (Some s) (Some o) = refl
both_if (Some x) (Some s) None = refl
both_if (Some x) None (Some o) = refl
both_if (Some x) None None = refl
both_if None (Some s) (Some o) = refl
both_if None (Some s) None = refl
both_if None None (Some o) = refl
both_if None None None = refl

pub if_walked : (old mid there new : TypingWalk) (next after last : Next) (t : Result TypedExpression Fault)
    (c c' : Typed TypedStatement) (a a' : Typed OtherWise)
    (x : Option TypedExpression) (s : Option TypedStatement) (o : Option OtherWise)
    → Walks TypedExpression old mid next (of_own t) x → Walks TypedStatement mid there after c s
    → Walks OtherWise there new last a o → c ≡ c' → a ≡ a'
    → Walks _ old new last (if_form t c' a') (if_of x s o)
if_walked old mid there new next after last t c c' a a' x s o first second third e f =
    as_typed old new last last _ _ _ _ refl refl (both_if x s o)
    (then_walked (λ (x : TypedExpression) (both : TypedStatement × OtherWise). If x both.0 both.1) old mid new next last (of_own t)
    (together (λ (s : TypedStatement) (o : OtherWise). (s, o)) c a') _ x _ first
    (then_walked (λ (s : TypedStatement) (o : OtherWise). (s, o)) mid there new after last c a a' s o second third f)
    (ap (λ c. together (λ (s : TypedStatement) (o : OtherWise). (s, o)) c a') e))

-- What emitting code comes to: its tables, its instructions and what is noted of them.
use Rattle.std.proofs.Common.{◌≡◌, ℕ, suc, ◌+◌, ◌<◌, ◌≤◌, ◌&&◌, ◌||◌, not, min, nat_le, Bool, true, false, List, [], ◌∷◌, ◌++◌, map, length, slice_set, drop, get_or, refl, sym, ap, ◌∙◌, arith, add-one}
use Rattle.std.specs.List.{flat_map, list_all, AllByRecursion}
use Rattle.std.proofs.lemmas.Bool.Decides.{nat_tests}
use Rattle.std.proofs.lemmas.List.{append_assoc, append-nil, length-append, at_drop_more}
use Rattle.pli_map.specs.Description.{Description}
use Rattle.pli_map.specs.ParameterTypes.{Stated, same_type}
use Rattle.pli_map.specs.laws.ParameterLaws.{same_type_decides}
use Rattle.pli_program.specs.Program as programs
use Rattle.pli_program.specs.declared.instruction.Instruction.TheVariants as op
use Rattle.pli_type_tree.specs.Templates.{Template}
use Rattle.pli_type_keys.specs.Same.{same_template, same_value}
use Rattle.pli_type_keys.specs.laws.KeyLaws.{value_decides, template_decides}
use Rattle.pli_code.specs.CodedInstruction.{Instruction}
use Rattle.pli_gen_emit.specs.Encoding.{NumberedTables, numbered, number_in, descriptions_named, templates_named, values_named, instruction_code}
use Rattle.pli_gen_emit.specs.answers.Emitting.{Emission, tables_with, narrowed, emitted, with_instruction, extended}
use Rattle.pli_gen_emit.specs.answers.Instructions.{instruction_fits, retargeted}
use Rattle.pli_gen_emit.specs.declared.emitter.LabelJump.{LabelJump}
use Rattle.pli_gen_emit.proofs.EmitLemmas.{one_longer}
use Rattle.pli_gen_emit.proofs.JumpLemmas.{set_between}
use Rattle.pli_gen_emit.proofs.KeyLemmas.{numbered_after, same_tables}
use Rattle.pli_gen_emit.proofs.TableNumbers.{first_number, number_within}
use Rattle.pli_gen.specs.answers.Pieces.{Fits, gotos_landed}
use Rattle.pli_gen.proofs.FieldLemmas.{both_of}

-- whether a number was too wide
or_none : (a : Bool) → a ≡ (a || false)
or_none true = refl
or_none false = refl

either : (a b c : Bool) → ((a || not b) || not c) ≡ (a || not (b && c))
either true b c = refl
either false true c = refl
either false false c = refl

pub wide_is : (e : Emission) (is : List programs.Instruction) → (extended e is).is_wide ≡ (e.is_wide || not (list_all instruction_fits is))
unfolding with_instruction
wide_is e [] = or_none e.is_wide
wide_is e (i ∷ is) = wide_is (with_instruction e i) is ∙ either e.is_wide (instruction_fits i) (list_all instruction_fits is)

-- the tables
abbrev pub tables_after : NumberedTables → List programs.Instruction → NumberedTables
tables_after t is = record {
  descriptions = numbered same_type t.descriptions (flat_map descriptions_named is);
  templates = numbered same_template t.templates (flat_map templates_named is);
  values = numbered same_value t.values (flat_map values_named is);
}

after_one : (t : NumberedTables) (i : programs.Instruction) (is : List programs.Instruction) → tables_after (tables_with t i) is ≡ tables_after t (i ∷ is)
after_one t i is =
    same_tables _ _ _ _ _ _
    (sym (numbered_after same_type t.descriptions (descriptions_named i) (flat_map descriptions_named is)))
    (sym (numbered_after same_template t.templates (templates_named i) (flat_map templates_named is)))
    (sym (numbered_after same_value t.values (values_named i) (flat_map values_named is)))

pub tables_are : (e : Emission) (is : List programs.Instruction) → (extended e is).tables ≡ tables_after e.tables is
unfolding with_instruction
tables_are e [] = refl
tables_are e (i ∷ is) = tables_are (with_instruction e i) is ∙ after_one e.tables i is

-- a number that was given stays, whatever is numbered after it
kept : (t : NumberedTables) (i : programs.Instruction) (is : List programs.Instruction) → emitted t i ≡ emitted (tables_after t (i ∷ is)) i
kept t (op.Field offset d) is =
    ap (λ k. op.Field offset (min k 65535)) (sym (first_number same_type same_type_decides t.descriptions (Stated d) (flat_map descriptions_named is)))
kept t (op.Fit d) is = ap (λ k. op.Fit (min k 65535)) (sym (first_number same_type same_type_decides t.descriptions (Stated d) (flat_map descriptions_named is)))
kept t (op.MakeDummy u) is =
    ap (λ k. op.MakeDummy (min k 65535)) (sym (first_number same_template template_decides t.templates u (flat_map templates_named is)))
kept t (op.Constant v) is =
    ap (λ k. op.Constant (min k 65535)) (sym (first_number same_value value_decides t.values v (flat_map values_named is)))
kept t (op.Based d) is = ap (λ k. op.Based (min k 65535)) (sym (first_number same_type same_type_decides t.descriptions (Stated d) (flat_map descriptions_named is)))
kept t (op.FreeBased d) is = ap (λ k. op.FreeBased (min k 65535)) (sym (first_number same_type same_type_decides t.descriptions (Stated d) (flat_map descriptions_named is)))
kept t (op.AllocateBased u) is =
    ap (λ k. op.AllocateBased (min k 65535)) (sym (first_number same_template template_decides t.templates u (flat_map templates_named is)))
kept t (op.AllocateInArea u target) is =
    ap (λ k. op.AllocateInArea (min k 65535) (min target 65535))
    (sym (first_number same_template template_decides t.templates u (flat_map templates_named is)))
kept t (op.Operate operation) is = refl
kept t i is = refl

pub code_is : (e : Emission) (is : List programs.Instruction) → (extended e is).code ≡ e.code ++ map (emitted (tables_after e.tables is)) is
unfolding with_instruction
code_is e [] = sym (append-nil e.code)
code_is e (i ∷ is) =
    code_is (with_instruction e i) is
    ∙ append_assoc e.code (emitted e.tables i ∷ []) (map (emitted (tables_after (tables_with e.tables i) is)) is)
    ∙ ap (λ t. e.code ++ emitted e.tables i ∷ map (emitted t) is) (after_one e.tables i is)
    ∙ ap (λ x. e.code ++ x ∷ map (emitted (tables_after e.tables (i ∷ is))) is) (kept e.tables i is)

-- GOTOs without targets
abbrev pub gotos_in : List programs.Instruction → (at : ℕ) → List LabelJump
gotos_in [] p = []
gotos_in (op.Goto outward label ∷ is) p = record { place = p; outward = min outward 255; label = label } ∷ gotos_in is (suc p)
gotos_in (i ∷ is) p = gotos_in is (suc p)

gotos_one : (e : Emission) (i : programs.Instruction) (is : List programs.Instruction)
    → (with_instruction e i).gotos ++ gotos_in is (suc (length e.code)) ≡ e.gotos ++ gotos_in (i ∷ is) (length e.code)
unfolding with_instruction
gotos_one e (op.Goto outward label) is =
    append_assoc e.gotos (record { place = length e.code; outward = min outward 255; label = label } ∷ []) (gotos_in is (suc (length e.code)))
gotos_one e (op.Operate operation) is = refl
gotos_one e i is = refl

pub gotos_are : (e : Emission) (is : List programs.Instruction) → (extended e is).gotos ≡ e.gotos ++ gotos_in is (length e.code)
gotos_are e [] = sym (append-nil e.gotos)
gotos_are e (i ∷ is) =
    gotos_are (with_instruction e i) is ∙ ap (λ n. (with_instruction e i).gotos ++ gotos_in is n) (one_longer e i) ∙ gotos_one e i is

-- places at which the same statements begin
pub landed_alike : (place other : ℕ → ℕ) → ((n : ℕ) → place n ≡ other n) → (code : List Instruction) (js : List LabelJump) → gotos_landed place code js ≡ gotos_landed other code js
landed_alike place other e code [] = refl
landed_alike place other e code (j ∷ js) =
    landed_alike place other e (slice_set code j.place (op.Goto j.outward (min (place j.label) 65535))) js
    ∙ ap (λ n. gotos_landed other (slice_set code j.place (op.Goto j.outward (min n 65535))) js) (e j.label)

-- one GOTO more
pub more_landed : (place : ℕ → ℕ) (js : List LabelJump) (i : ℕ) (d : LabelJump) (code new whole : List Instruction) → i < length js
    → (let j = get_or js i d in new ≡ slice_set code j.place (op.Goto j.outward (min (place j.label) 65535)))
    → gotos_landed place code (drop i js) ≡ whole → gotos_landed place new (drop (i + 1) js) ≡ whole
more_landed place js i d code new whole lt is all =
    ap (λ xs. gotos_landed place xs (drop (i + 1) js)) is ∙ sym (at_drop_more (gotos_landed place code) js i d lt) ∙ all

-- they lead to their labels
module _ (t : NumberedTables) (place : ℕ → ℕ) where
  abbrev pub targeted : programs.Instruction → Instruction
  targeted i = narrowed (instruction_code t (retargeted place i))

  abbrev AreLanded : List programs.Instruction → Type 0
  AreLanded is = (front : List Instruction) → gotos_landed place (front ++ map (emitted t) is) (gotos_in is (length front)) ≡ front ++ map targeted is

  -- an instruction that stays
  landed_next : (front : List Instruction) (x : Instruction) (is : List programs.Instruction) → AreLanded is
      → gotos_landed place (front ++ x ∷ map (emitted t) is) (gotos_in is (suc (length front))) ≡ front ++ x ∷ map targeted is
  landed_next front x is further =
      ap (λ code. gotos_landed place code (gotos_in is (suc (length front)))) (sym (append_assoc front (x ∷ []) (map (emitted t) is)))
      ∙ ap (λ n. gotos_landed place ((front ++ x ∷ []) ++ map (emitted t) is) (gotos_in is n)) (sym (length-append front (x ∷ []) ∙ add-one (length front)))
      ∙ further (front ++ x ∷ [])
      ∙ append_assoc front (x ∷ []) (map targeted is)

  landed_one : (front : List Instruction) (i : programs.Instruction) (is : List programs.Instruction) → AreLanded is
      → gotos_landed place (front ++ emitted t i ∷ map (emitted t) is) (gotos_in (i ∷ is) (length front)) ≡ front ++ targeted i ∷ map targeted is
  landed_one front (op.Goto outward label) is further =
      ap (λ code. gotos_landed place code (gotos_in is (suc (length front))))
      (set_between front (map (emitted t) is) (op.Goto (min outward 255) 0) (op.Goto (min outward 255) (min (place label) 65535)))
      ∙ landed_next front (op.Goto (min outward 255) (min (place label) 65535)) is further
  landed_one front (op.Operate operation) is further = landed_next front (op.Operate operation) is further
  landed_one front i is further = landed_next front (emitted t i) is further

  pub all_landed : (is : List programs.Instruction) → AreLanded is
  all_landed [] front = refl
  all_landed (i ∷ is) front = landed_one front i is (all_landed is)

  -- numbers within their fields are not cut
  module _ (few_descriptions : length t.descriptions ≤ 65535) (few_templates : length t.templates ≤ 65535) (few_values : length t.values ≤ 65535)
      (near : (n : ℕ) → place n ≤ 65535) where
    cut : (n : ℕ) → n ≤ 65535 → min n 65535 ≡ n
    cut n h = omega (arith, h)

    cut_byte : (n : ℕ) → nat_le n 255 ≡ true → min n 255 ≡ n
    cut_byte n h = grind (arith, nat_tests)

    cut_short : (n : ℕ) → nat_le n 65535 ≡ true → min n 65535 ≡ n
    cut_short n h = grind (arith, nat_tests)

    description_cut : (d : Description) → min (number_in same_type t.descriptions (Stated d)) 65535 ≡ number_in same_type t.descriptions (Stated d)
    description_cut d = let h = number_within same_type t.descriptions (Stated d) in cut _ (omega (arith, h, few_descriptions))

    template_cut : (u : Template) → min (number_in same_template t.templates u) 65535 ≡ number_in same_template t.templates u
    template_cut u = let h = number_within same_template t.templates u in cut _ (omega (arith, h, few_templates))

    whole : (i : programs.Instruction) → Fits 65535 i → instruction_fits i ≡ true → targeted i ≡ instruction_code t (retargeted place i)
    whole (op.Jump target) h f = ap op.Jump (cut target h)
    whole (op.JumpUnless target) h f = ap op.JumpUnless (cut target h)
    whole (op.Goto outward label) h f = ap (λ n. op.Goto n (min (place label) 65535)) (cut_byte outward f) ∙ ap (op.Goto outward) (cut (place label) (near label))
    whole (op.Call block arguments) h f =
        let b = both_of (nat_le block 65535) (nat_le arguments 255) f in
        ap (λ n. op.Call n (min arguments 255)) (cut_short block b.0) ∙ ap (op.Call block) (cut_byte arguments b.1)
    whole (op.CallExternal global arguments) h f =
        let b = both_of (nat_le global 65535) (nat_le arguments 255) f in
        ap (λ n. op.CallExternal n (min arguments 255)) (cut_short global b.0) ∙ ap (op.CallExternal global) (cut_byte arguments b.1)
    whole (op.Begin block) h f = ap op.Begin (cut_short block f)
    whole (op.Return outward) h f = ap op.Return (cut_byte outward f)
    whole (op.ReturnValue outward) h f = ap op.ReturnValue (cut_byte outward f)
    whole (op.Local outward slot) h f =
        let b = both_of (nat_le outward 255) (nat_le slot 65535) f in
        ap (λ n. op.Local n (min slot 65535)) (cut_byte outward b.0) ∙ ap (op.Local outward) (cut_short slot b.1)
    whole (op.Global number) h f = ap op.Global (cut_short number f)
    whole (op.Field offset d) h f = ap (op.Field offset) (description_cut d)
    whole (op.Based d) h f = ap op.Based (description_cut d)
    whole (op.Fit d) h f = ap op.Fit (description_cut d)
    whole (op.FreeBased d) h f = ap op.FreeBased (description_cut d)
    whole (op.AllocateBased u) h f = ap op.AllocateBased (template_cut u)
    whole (op.AllocateInArea u target) h f =
        ap (λ n. op.AllocateInArea n (min target 65535)) (template_cut u) ∙ ap (op.AllocateInArea (number_in same_template t.templates u)) (cut target h)
    whole (op.MakeDummy u) h f = ap op.MakeDummy (template_cut u)
    whole (op.Constant v) h f = let k = number_within same_value t.values v in ap op.Constant (cut _ (omega (arith, k, few_values)))
    whole (op.AllocateControlled global) h f = ap op.AllocateControlled (cut_short global f)
    whole (op.FreeControlled global) h f = ap op.FreeControlled (cut_short global f)
    whole (op.CountGenerations global) h f = ap op.CountGenerations (cut_short global f)
    whole (op.On c block) h f = ap (op.On c) (cut_short block f)
    whole (op.SubscriptIn dimension) h f = ap op.SubscriptIn (cut_byte dimension f)
    whole (op.SetTemporary number) h f = ap op.SetTemporary (cut_short number f)
    whole (op.TakeTemporary number) h f = ap op.TakeTemporary (cut_short number f)
    whole (op.Operate operation) h f = refl
    whole i h f = refl

    pub all_whole : (is : List programs.Instruction) → AllByRecursion (Fits 65535) is → list_all instruction_fits is ≡ true
        → map targeted is ≡ map (instruction_code t) (map (retargeted place) is)
    all_whole [] h f = refl
    all_whole (i ∷ is) h f =
        let b = both_of (instruction_fits i) (list_all instruction_fits is) f in
        ap (λ x. x ∷ map targeted is) (whole i h.0 b.0) ∙ ap (λ xs. instruction_code t (retargeted place i) ∷ xs) (all_whole is h.1 b.1)

-- The code of a unit, by items, is the code that is emitted.
use Rattle.std.proofs.Common.{◌≡◌, ◌+◌, ◌-◌, ◌++◌, ◌∷◌, [], ℕ, suc, nat_eq, Bool, true, false, Option, Some, None, List, map, refl, sym, ap, subst, ◌∙◌, arith}
use Rattle.std.specs.Prelude.{option_map, if◌then◌else◌}
use Rattle.std.specs.List.{flat_map}
use Rattle.std.proofs.lemmas.List.{append_assoc, append-nil, map-append}
use Rattle.std.proofs.lemmas.List.Concat.{flat_map-append}
use Rattle.pli_map.specs.Description.{Description}
use Rattle.pli_map.specs.ParameterTypes.{ParameterType, Stated, same_type}
use Rattle.pli_value.specs.Value.{Value}
use Rattle.pli_operation.specs.declared.operation.Operation.TheVariants.{Add, Within}
use Rattle.pli_run.specs.declared.ending.RunError.TheVariants.{NoReturnedValue}
use Rattle.pli_program.specs.Program as programs
use Rattle.pli_program.specs.Templates.{dummy}
use Rattle.pli_program.specs.declared.instruction.Instruction.TheVariants as op
use Rattle.pli_type_tree.specs.Iterations.{kept_by, limit_number, step_number, is_iterated}
use Rattle.pli_type_tree.specs.Templates.{Template}
use Rattle.pli_type_keys.specs.Same.{same_value, same_template}
use Rattle.pli_type_tree.specs.TypedTree as tree
use Rattle.pli_type_tree.specs.TypedTree.{TypedExpression, TypedReference, Root, Operands, Subscripts, TypedArguments, TypedOperation, Callee, Conversion, AllocatedItem, FreedItem, Iteration, TypedRange, TypedStatement, Form, OtherWise, TypedStatements, TypedUnit, Global}
use Rattle.pli_code.specs.CodedInstruction.{Instruction}
use Rattle.pli_gen_emit.specs.BlockTrees.{BlockTree, argument_count, blocks_of}
use Rattle.pli_gen_emit.specs.Items.{Entry, NoEntry, OfDescription, OfTemplate, OfValue, Target, NoTarget, Ahead, Back, Labelled, Item, Label, Make, plain, leading, size, label_place, place_of}
use Rattle.pli_gen_emit.specs.Tables.{NumberedTables, numbered, signature_descriptions, global_descriptions, global_templates, block_templates, template_number, coded_block}
use Rattle.pli_gen_emit.specs.Translation as items
use Rattle.pli_gen_emit.specs.Coding.{description_in, template_in, value_in, tables_of, entry_number, instructions_from, blocks_from, unit_of}
use Rattle.pli_gen_emit.specs.Coding as by_items
use Rattle.pli_gen_emit.specs.TreeTranslation as emitted
use Rattle.pli_gen_emit.specs.TreeTranslation.{place_after, statement_place, with_target}
use Rattle.pli_gen_emit.specs.Encoding as encoded
use Rattle.pli_gen_emit.specs.Encoding.{descriptions_named, templates_named, values_named, instruction_code, tables_for, coded_blocks, coded_unit}
use Rattle.pli_gen_emit.specs.CodingLaws.{CodesAlike}

-- SKIP
abbrev skip_items : Bool → List Item
skip_items skip = if skip then plain op.Skip ∷ [] else []

-- what is printed
abbrev printed_items : List TypedExpression → List Item
printed_items es = flat_map (λ e. items.value_code e ++ plain op.Put ∷ []) es

-- a test, and the part where it holds
abbrev one_way : (test part : List Item) → List Item
one_way test part = test ++ leading (Ahead (size part)) op.JumpUnless ∷ part

-- and the other one
abbrev two_ways : (test part other : List Item) → List Item
two_ways test part other = test ++ leading (Ahead (suc (size part))) op.JumpUnless ∷ part ++ leading (Ahead (size other)) op.Jump ∷ other

abbrev Places : Type 0
Places = List (ℕ × ℕ)

-- labels stand where statements do
abbrev Agree : List Item → Places → Type 0
Agree all places = (s : ℕ) → label_place s 0 all ≡ statement_place places s

-- items are this code from a place on, with statements at these places
record Codes (p : ℕ) (xs : List Item) (is : List programs.Instruction) (ps : Places) : Type 0 where
  long : place_after is p ≡ p + size xs
  descriptions : flat_map description_in xs ≡ flat_map descriptions_named is
  templates : flat_map template_in xs ≡ flat_map templates_named is
  values : flat_map value_in xs ≡ flat_map values_named is
  labels : (s : ℕ) (ys : List Item) (qs : Places) → label_place s (place_after is p) ys ≡ statement_place qs s → label_place s p (xs ++ ys) ≡ statement_place (ps ++ qs) s
  made : (tables : NumberedTables) (all : List Item) (places : Places) → Agree all places
      → instructions_from tables all p xs ≡ map (instruction_code tables) (map (with_target places) is)

-- an item is this instruction at a place
record Makes (p : ℕ) (x : Entry) (t : Target) (with : ℕ → ℕ → Instruction) (i : programs.Instruction) : Type 0 where
  description : description_in (Make x t with) ≡ descriptions_named i
  template : template_in (Make x t with) ≡ templates_named i
  value : value_in (Make x t with) ≡ values_named i
  makes : (tables : NumberedTables) (all : List Item) (places : Places) → Agree all places
      → with (entry_number tables x) (place_of all p t) ≡ instruction_code tables (with_target places i)

-- ---- code of its parts

place_after-append : (is js : List programs.Instruction) (p : ℕ) → place_after (is ++ js) p ≡ place_after js (place_after is p)
place_after-append [] js p = refl
place_after-append (i ∷ is) js p = place_after-append is js (suc p)

size-append : (xs ys : List Item) → size (xs ++ ys) ≡ size xs + size ys
size-append [] ys = omega arith
size-append (Label s ∷ xs) ys = size-append xs ys
size-append (Make x t with ∷ xs) ys = let e = size-append xs ys in omega (arith, e)

module _ (tables : NumberedTables) (all : List Item) where
  from-append : (p : ℕ) (xs ys : List Item) → instructions_from tables all p (xs ++ ys) ≡ instructions_from tables all p xs ++ instructions_from tables all (p + size xs) ys
  from-append p [] ys = let e : p ≡ p + 0 = omega arith in ap (λ q. instructions_from tables all q ys) e
  from-append p (Label s ∷ xs) ys = from-append p xs ys
  from-append p (Make x t with ∷ xs) ys =
      let e : suc p + size xs ≡ p + suc (size xs) = omega arith in
      let first = with (entry_number tables x) (place_of all p t) in
      ap (λ js. first ∷ js) (from-append (suc p) xs ys ∙ ap (λ q. instructions_from tables all (suc p) xs ++ instructions_from tables all q ys) e)

no_code : {p : ℕ} → Codes p [] [] []
no_code {p} = record {
  long = omega arith;
  descriptions = refl;
  templates = refl;
  values = refl;
  labels = λ s ys qs h. h;
  made = λ tables all places agree. refl;
}

-- an instruction, and more
made_more : (p : ℕ) (x : Entry) (t : Target) (with : ℕ → ℕ → Instruction) (i : programs.Instruction) (xs : List Item) (is : List programs.Instruction) (ps : Places) → Makes p x t with i → Codes (suc p) xs is ps
    → Codes p (Make x t with ∷ xs) (i ∷ is) ps
made_more p x t with i xs is ps h r = record {
  long = let l = r.long in omega (arith, l);
  descriptions = ap (λ ds. ds ++ flat_map description_in xs) h.description ∙ ap (λ ds. descriptions_named i ++ ds) r.descriptions;
  templates = ap (λ ts. ts ++ flat_map template_in xs) h.template ∙ ap (λ ts. templates_named i ++ ts) r.templates;
  values = ap (λ vs. vs ++ flat_map value_in xs) h.value ∙ ap (λ vs. values_named i ++ vs) r.values;
  labels = r.labels;
  made = λ tables all places agree.
      ap (λ j. j ∷ instructions_from tables all (suc p) xs) (h.makes tables all places agree)
      ∙ ap (λ js. instruction_code tables (with_target places i) ∷ js) (r.made tables all places agree);
}

-- the label of a statement, and more
labelled_more : (p n : ℕ) (xs : List Item) (is : List programs.Instruction) (ps : Places) → Codes p xs is ps → Codes p (Label n ∷ xs) is ((n, p) ∷ ps)
labelled_more p n xs is ps r = record {
  long = r.long;
  descriptions = r.descriptions;
  templates = r.templates;
  values = r.values;
  labels = λ s ys qs h. ap (λ q. if nat_eq n s then p else q) (r.labels s ys qs h);
  made = r.made;
}

-- one part after another
made_both : (p : ℕ) (xs ys : List Item) (is js : List programs.Instruction) (ps qs : Places) → Codes p xs is ps → Codes (place_after is p) ys js qs → Codes p (xs ++ ys) (is ++ js) (ps ++ qs)
made_both p xs ys is js ps qs f g = record {
  long =
      let a = place_after-append is js p in
      let b = size-append xs ys in
      let l = f.long in
      let r = g.long in
      omega (arith, a, b, l, r);
  descriptions =
      flat_map-append description_in xs ys ∙ ap (λ d. d ++ flat_map description_in ys) f.descriptions ∙ ap (λ d. flat_map descriptions_named is ++ d) g.descriptions
      ∙ sym (flat_map-append descriptions_named is js);
  templates =
      flat_map-append template_in xs ys ∙ ap (λ d. d ++ flat_map template_in ys) f.templates ∙ ap (λ d. flat_map templates_named is ++ d) g.templates
      ∙ sym (flat_map-append templates_named is js);
  values =
      flat_map-append value_in xs ys ∙ ap (λ d. d ++ flat_map value_in ys) f.values ∙ ap (λ d. flat_map values_named is ++ d) g.values ∙ sym (flat_map-append values_named is js);
  labels = λ s zs rs h.
      ap (label_place s p) (append_assoc xs ys zs)
      ∙ f.labels s (ys ++ zs) (qs ++ rs) (g.labels s zs rs (ap (λ q. label_place s q zs) (sym (place_after-append is js p)) ∙ h))
      ∙ ap (λ k. statement_place k s) (sym (append_assoc ps qs rs));
  made = λ tables all places agree.
      let code : List programs.Instruction → List Instruction = λ ks. map (instruction_code tables) (map (with_target places) ks) in
      from-append tables all p xs ys ∙ ap (λ a. a ++ instructions_from tables all (p + size xs) ys) (f.made tables all places agree)
      ∙ ap (λ q. code is ++ instructions_from tables all q ys) (sym f.long) ∙ ap (λ b. code is ++ b) (g.made tables all places agree)
      ∙ sym (map-append (instruction_code tables) (map (with_target places) is) (map (with_target places) js))
      ∙ ap (map (instruction_code tables)) (sym (map-append (with_target places) is js));
}

-- the same, with what can be inferred
more : {p : ℕ} {x : Entry} {t : Target} {with : ℕ → ℕ → Instruction} {i : programs.Instruction} {xs : List Item} {is : List programs.Instruction} {ps : Places} → Makes p x t with i → Codes (suc p) xs is ps
    → Codes p (Make x t with ∷ xs) (i ∷ is) ps
more h r = made_more _ _ _ _ _ _ _ _ h r

infixr 40 ◌⊳◌
◌⊳◌ : {p : ℕ} {xs ys : List Item} {is js : List programs.Instruction} {ps qs : Places} → Codes p xs is ps → Codes (place_after is p) ys js qs → Codes p (xs ++ ys) (is ++ js) (ps ++ qs)
f ⊳ g = made_both _ _ _ _ _ _ _ f g

-- three parts, of which the first two are taken together
regrouped : {p : ℕ} {ps : Places} (xs ys zs : List Item) (is js ks : List programs.Instruction) → Codes p (xs ++ (ys ++ zs)) (is ++ (js ++ ks)) ps → Codes p ((xs ++ ys) ++ zs) ((is ++ js) ++ ks) ps
regrouped {p} {ps} xs ys zs is js ks h =
    subst (λ ls. Codes p ls ((is ++ js) ++ ks) ps) (sym (append_assoc xs ys zs)) (subst (λ ls. Codes p (xs ++ (ys ++ zs)) ls ps) (sym (append_assoc is js ks)) h)

ended : {p : ℕ} {xs : List Item} {is : List programs.Instruction} {ps : Places} → Codes p xs is (ps ++ []) → Codes p xs is ps
ended {p} {xs} {is} {ps} h = subst (Codes p xs is) (append-nil ps) h

-- ---- single instructions

-- what names no entry, and leads nowhere
abbrev is_plain : programs.Instruction → Bool
is_plain (op.Jump target) = false
is_plain (op.JumpUnless target) = false
is_plain (op.Goto outward target) = false
is_plain (op.Field offset d) = false
is_plain (op.Based d) = false
is_plain (op.Constant v) = false
is_plain (op.MakeDummy t) = false
is_plain (op.Fit d) = false
is_plain (op.AllocateBased t) = false
is_plain (op.AllocateInArea t target) = false
is_plain (op.FreeBased d) = false
is_plain other = true

abbrev no_tables : NumberedTables
no_tables = record { descriptions = []; templates = []; values = [] }

plain_makes : (p : ℕ) (i : programs.Instruction) → is_plain i ≡ true → Makes p NoEntry NoTarget (λ entry target. instruction_code no_tables i) i
plain_makes p (op.Jump target) h = absurd cc
plain_makes p (op.JumpUnless target) h = absurd cc
plain_makes p (op.Goto outward target) h = absurd cc
plain_makes p (op.Field offset d) h = absurd cc
plain_makes p (op.Based d) h = absurd cc
plain_makes p (op.Constant v) h = absurd cc
plain_makes p (op.MakeDummy t) h = absurd cc
plain_makes p (op.Fit d) h = absurd cc
plain_makes p (op.AllocateBased t) h = absurd cc
plain_makes p (op.AllocateInArea t target) h = absurd cc
plain_makes p (op.FreeBased d) h = absurd cc
plain_makes p other h = record { description = refl; template = refl; value = refl; makes = λ tables all places agree. refl }

step : {p : ℕ} {xs : List Item} {is : List programs.Instruction} {ps : Places} (i : programs.Instruction) → is_plain i ≡ true → Codes (suc p) xs is ps → Codes p (plain (instruction_code no_tables i) ∷ xs) (i ∷ is) ps
step {p} {xs} {is} {ps} i h r = made_more p NoEntry NoTarget (λ entry target. instruction_code no_tables i) i xs is ps (plain_makes p i h) r

jump_unless : (p k target : ℕ) → suc (p + k) ≡ target → Makes p NoEntry (Ahead k) (λ entry target. op.JumpUnless target) (op.JumpUnless target)
jump_unless p k target e = record { description = refl; template = refl; value = refl; makes = λ tables all places agree. ap op.JumpUnless e }

jump_ahead : (p k target : ℕ) → suc (p + k) ≡ target → Makes p NoEntry (Ahead k) (λ entry target. op.Jump target) (op.Jump target)
jump_ahead p k target e = record { description = refl; template = refl; value = refl; makes = λ tables all places agree. ap op.Jump e }

jump_back : (p k target : ℕ) → p - k ≡ target → Makes p NoEntry (Back k) (λ entry target. op.Jump target) (op.Jump target)
jump_back p k target e = record { description = refl; template = refl; value = refl; makes = λ tables all places agree. ap op.Jump e }

constant_makes : (p : ℕ) (v : Value) → Makes p (OfValue v) NoTarget (λ entry target. op.Constant entry) (op.Constant v)
constant_makes p v = record { description = refl; template = refl; value = refl; makes = λ tables all places agree. refl }

based_makes : (p : ℕ) (d : Description) → Makes p (OfDescription d) NoTarget (λ entry target. op.Based entry) (op.Based d)
based_makes p d = record { description = refl; template = refl; value = refl; makes = λ tables all places agree. refl }

field_makes : (p offset : ℕ) (d : Description) → Makes p (OfDescription d) NoTarget (λ entry target. op.Field offset entry) (op.Field offset d)
field_makes p offset d = record { description = refl; template = refl; value = refl; makes = λ tables all places agree. refl }

fit_makes : (p : ℕ) (d : Description) → Makes p (OfDescription d) NoTarget (λ entry target. op.Fit entry) (op.Fit d)
fit_makes p d = record { description = refl; template = refl; value = refl; makes = λ tables all places agree. refl }

dummy_makes : (p : ℕ) (d : Description) → Makes p (OfTemplate (dummy d)) NoTarget (λ entry target. op.MakeDummy entry) (op.MakeDummy (dummy d))
dummy_makes p d = record { description = refl; template = refl; value = refl; makes = λ tables all places agree. refl }

based_allocated : (p : ℕ) (t : Template) → Makes p (OfTemplate t) NoTarget (λ entry target. op.AllocateBased entry) (op.AllocateBased t)
based_allocated p t = record { description = refl; template = refl; value = refl; makes = λ tables all places agree. refl }

based_freed : (p : ℕ) (d : Description) → Makes p (OfDescription d) NoTarget (λ entry target. op.FreeBased entry) (op.FreeBased d)
based_freed p d = record { description = refl; template = refl; value = refl; makes = λ tables all places agree. refl }

goto_makes : (p outward label : ℕ) → Makes p NoEntry (Labelled label) (λ entry target. op.Goto outward target) (op.Goto outward label)
goto_makes p outward label = record { description = refl; template = refl; value = refl; makes = λ tables all places agree. ap (op.Goto outward) (agree label) }

-- ---- expressions

call_makes : (p : ℕ) (c : Callee) (n : ℕ) → Codes p (items.call_item c n ∷ []) (emitted.call_instruction c n ∷ []) []
call_makes p (tree.OfBlock block) n = step (op.Call block n) refl no_code
call_makes p (tree.OfEntry number) n = step (op.CallExternal number n) refl no_code

operation_makes : {p : ℕ} {xs : List Item} {is : List programs.Instruction} {ps : Places} (o : TypedOperation) → Codes (suc p) xs is ps → Codes p (items.operation_code o ∷ xs) (emitted.operation_code o ∷ is) ps
operation_makes (tree.Fit d) r = more (fit_makes _ d) r
operation_makes (tree.Operate operation) r = step (op.Operate operation) refl r

mutual
  value_codes : (e : TypedExpression) (p : ℕ) → Codes p (items.value_code e) (emitted.value_code e) []
  value_codes (tree.Literal v) p = more (constant_makes p v) no_code
  value_codes (tree.Held variable) p = place_codes variable p ⊳ step op.Load refl no_code
  value_codes (tree.Calculated operation operands) p = operands_codes operands p ⊳ operation_makes operation no_code
  value_codes (tree.Called callee arguments) p = arguments_codes arguments p ⊳ call_makes _ callee (argument_count arguments)
  value_codes (tree.Generations number) p = step (op.CountGenerations number) refl no_code
  value_codes (tree.Address variable) p = place_codes variable p ⊳ step op.AddressOf refl no_code
  value_codes (tree.AsPointer area offset) p = (value_codes offset p ⊳ place_codes area _) ⊳ step op.ToPointer refl no_code
  value_codes (tree.AsOffset area pointer) p = (value_codes pointer p ⊳ place_codes area _) ⊳ step op.ToOffset refl no_code
  value_codes (tree.Bounded which dimension variable) p = place_codes variable p ⊳ step (op.BoundOf which dimension) refl no_code

  root_codes : (r : Root) (p : ℕ) → Codes p (items.root_code r) (emitted.root_code r) []
  root_codes (tree.InSlot outward slot) p = step (op.Local outward slot) refl no_code
  root_codes (tree.OfProgram number) p = step (op.Global number) refl no_code
  root_codes (tree.NewestOf number) p = step (op.Global number) refl no_code
  root_codes (tree.Located locator d) p = value_codes locator p ⊳ more (based_makes _ d) no_code

  place_codes : (r : TypedReference) (p : ℕ) → Codes p (items.place_code r) (emitted.place_code r) []
  place_codes (tree.Whole root) p = root_codes root p
  place_codes (tree.Part root offset d subscripts) p =
      root_codes root p ⊳ more (field_makes _ offset d) (subscripts_codes subscripts _)
  place_codes (tree.ElementOf root subscripts) p = root_codes root p ⊳ dimensions_codes 1 subscripts _

  operands_codes : (os : Operands) (p : ℕ) → Codes p (items.operands_code os) (emitted.operands_code os) []
  operands_codes tree.NoOperand p = no_code
  operands_codes (tree.OperandThen first others) p = value_codes first p ⊳ operands_codes others _

  subscripts_codes : (ss : Subscripts) (p : ℕ) → Codes p (items.subscripts_code ss) (emitted.subscripts_code ss) []
  subscripts_codes tree.NoSubscript p = no_code
  subscripts_codes (tree.SubscriptThen stride value others) p =
      value_codes value p ⊳ step (op.Subscript stride.low stride.high stride.multiplier) refl (subscripts_codes others _)

  dimensions_codes : (k : ℕ) (os : Operands) (p : ℕ) → Codes p (items.dimensions_code k os) (emitted.dimensions_code k os) []
  dimensions_codes k tree.NoOperand p = no_code
  dimensions_codes k (tree.OperandThen value others) p = value_codes value p ⊳ step (op.SubscriptIn k) refl (dimensions_codes (suc k) others _)

  arguments_codes : (given : TypedArguments) (p : ℕ) → Codes p (items.arguments_code given) (emitted.arguments_code given) []
  arguments_codes tree.NoArgument p = no_code
  arguments_codes (tree.ByPlace variable others) p = place_codes variable p ⊳ arguments_codes others _
  arguments_codes (tree.ByDummy d value others) p =
      value_codes value p ⊳ more (dummy_makes _ d) (arguments_codes others _)
  arguments_codes (tree.ByString form value others) p = value_codes value p ⊳ step (op.MakeStringDummy form) refl (arguments_codes others _)

call_codes : (c : Callee) (given : TypedArguments) (p : ℕ) → Codes p (items.value_code (tree.Called c given)) (emitted.call_code c given) []
call_codes c given p = arguments_codes given p ⊳ call_makes _ c (argument_count given)

skip_codes : (skip : Bool) (p : ℕ) → Codes p (skip_items skip) (emitted.skip_code skip) []
skip_codes true p = step op.Skip refl no_code
skip_codes false p = no_code

printed_codes : (es : List TypedExpression) (p : ℕ) → Codes p (printed_items es) (emitted.items_code es) []
printed_codes [] p = no_code
printed_codes (e ∷ es) p =
    subst (λ is. Codes p (printed_items (e ∷ es)) is []) (append_assoc (emitted.value_code e) (op.Put ∷ []) (emitted.items_code es))
    ((value_codes e p ⊳ step op.Put refl no_code) ⊳ printed_codes es _)

operations_codes : (os : List TypedOperation) (p : ℕ) → Codes p (map items.operation_code os) (emitted.operations_code os) []
operations_codes [] p = no_code
operations_codes (o ∷ os) p = operation_makes o (operations_codes os (suc p))

conversion_codes : (c : Conversion) (p : ℕ) → Codes p (items.conversion_code c) (emitted.conversion_code c) []
conversion_codes (tree.ByOperations operations) p = operations_codes operations p
conversion_codes (tree.AsPointerIn area) p = place_codes area p ⊳ step op.ToPointer refl no_code
conversion_codes (tree.AsOffsetIn area) p = place_codes area p ⊳ step op.ToOffset refl no_code
conversion_codes (tree.ToPlace operations) p = operations_codes operations p ⊳ step op.FitToPlace refl no_code

-- ---- items of ALLOCATE and FREE

area_makes : (p k start : ℕ) (t : Template) → p - k ≡ start → Makes p (OfTemplate t) (Back k) op.AllocateInArea (op.AllocateInArea t start)
area_makes p k start t e = record { description = refl; template = refl; value = refl; makes = λ tables all places agree. ap (op.AllocateInArea (template_number tables t)) e }

allocation_codes : (a : AllocatedItem) (p : ℕ) → Codes p (items.allocation_code a) (emitted.allocation_code a p) []
allocation_codes (tree.AllocatesControlled number) p = step (op.AllocateControlled number) refl no_code
allocation_codes (tree.AllocatesBased template temporary target) p =
    more (based_allocated p template)
    (step (op.SetTemporary temporary) refl (place_codes target _ ⊳ step (op.TakeTemporary temporary) refl (step op.Store refl no_code)))
allocation_codes (tree.AllocatesInArea area template temporary target conversion) p =
    let there = place_codes area p in
    let l = there.long in
    there
    ⊳ more (area_makes (place_after (emitted.place_code area) p) (size (items.place_code area)) p template (omega (arith, l)))
    (step (op.SetTemporary temporary) refl
    (place_codes target _ ⊳ step (op.TakeTemporary temporary) refl (conversion_codes conversion _ ⊳ step op.Store refl no_code)))

allocations_codes : (given : List AllocatedItem) (p : ℕ) → Codes p (flat_map items.allocation_code given) (emitted.allocations_code given p) []
allocations_codes [] p = no_code
allocations_codes (a ∷ given) p = allocation_codes a p ⊳ allocations_codes given _

freeing_codes : (f : FreedItem) (p : ℕ) → Codes p (items.freeing_code f) (emitted.freeing_code f) []
freeing_codes (tree.FreesControlled number) p = step (op.FreeControlled number) refl no_code
freeing_codes (tree.FreesBased locator d) p = value_codes locator p ⊳ more (based_freed _ d) no_code

freeings_codes : (fs : List FreedItem) (p : ℕ) → Codes p (flat_map items.freeing_code fs) (emitted.freeings_code fs) []
freeings_codes [] p = no_code
freeings_codes (f ∷ fs) p = freeing_codes f p ⊳ freeings_codes fs _

-- ---- control

module _ (p : ℕ) (t : List Item) (t' : List programs.Instruction) (tested : Codes p t t' []) where
  abbrev first_place : ℕ
  first_place = suc (place_after t' p)

  one_way_codes : (part : List Item) (f : ℕ → List programs.Instruction) (ps : Places) → Codes first_place part (f first_place) ps → Codes p (one_way t part) (emitted.one_way t' f p) ps
  one_way_codes part f ps h =
      let l = h.long in
      tested ⊳ more (jump_unless (place_after t' p) (size part) (place_after (f first_place) first_place) (omega (arith, l))) h

  two_ways_codes : (part other : List Item) (f g : ℕ → List programs.Instruction) (ps qs : Places) → Codes first_place part (f first_place) ps
      → (let r = suc (place_after (f first_place) first_place) in Codes r other (g r) qs) → Codes p (two_ways t part other) (emitted.two_ways t' f g p) (ps ++ qs)
  two_ways_codes part other f g ps qs h k =
      let l = h.long in
      let m = k.long in
      let r = suc (place_after (f first_place) first_place) in
      regrouped t (leading (Ahead (suc (size part))) op.JumpUnless ∷ part) (leading (Ahead (size other)) op.Jump ∷ other) t' (op.JumpUnless r ∷ f first_place)
      (op.Jump (place_after (g r) r) ∷ g r)
      (tested
      ⊳ more (jump_unless (place_after t' p) (suc (size part)) r (omega (arith, l)))
      (h ⊳ more (jump_ahead (place_after (f first_place) first_place) (size other) (place_after (g r) r) (omega (arith, m))) k))

turns_codes : (n p : ℕ) (t list : List Item) (t' : List programs.Instruction) (f : ℕ → List programs.Instruction) (ps : Places) → Codes (suc p) t t' []
    → (let q = suc (suc (place_after t' (suc p))) in Codes q list (f q) ps) → Codes p (items.turns_code n t list) (emitted.turns_code n t' f p) ps
turns_codes n p t list t' f ps tested h =
    let q = suc (suc (place_after t' (suc p))) in
    let l = h.long in
    let leave = op.JumpUnless (suc (place_after (f q) q)) in
    let turn =
    step (op.Line n) refl
    (tested ⊳ more (jump_unless (place_after t' (suc p)) (suc (suc (size list))) (suc (place_after (f q) q)) (omega (arith, l))) (step (op.Step n) refl h)) in
    let m = turn.long in
    let passed = size (plain (op.Line n) ∷ t ++ leading (Ahead (suc (suc (size list)))) op.JumpUnless ∷ plain (op.Step n) ∷ list) in
    let back = jump_back (place_after (op.Line n ∷ t' ++ leave ∷ op.Step n ∷ f q) p) passed p (omega (arith, m)) in
    ended (turn ⊳ more back no_code)

-- ---- iterations

keeps_codes : (k : ℕ) (es : List TypedExpression) (p : ℕ) → Codes p (items.keeps_code k es) (emitted.keeps_code k es) []
keeps_codes k [] p = no_code
keeps_codes k (e ∷ es) p = value_codes e p ⊳ step (op.SetTemporary k) refl (keeps_codes (suc k) es _)

module _ (i : Iteration) where
  sets_codes : (p : ℕ) (v : List Item) (v' : List programs.Instruction) → ((q : ℕ) → Codes q v v' []) → Codes p (items.sets_code i v) (emitted.sets_code i v') []
  sets_codes p v v' h = place_codes i.control p ⊳ h _ ⊳ conversion_codes i.conversion _ ⊳ step op.Store refl no_code

  start_codes : (p : ℕ) → Codes p (items.start_code i) (emitted.start_code i) []
  start_codes p =
      keeps_codes i.temporary (i.start ∷ kept_by i.range) p
      ⊳ sets_codes _ (plain (op.TakeTemporary i.temporary) ∷ []) (op.TakeTemporary i.temporary ∷ []) (λ q. step (op.TakeTemporary i.temporary) refl no_code)

  counted_codes : (k p : ℕ) → Codes p (items.counted_code i k) (emitted.counted_code i k) []
  counted_codes k p =
      sets_codes p _ _ (λ q. place_codes i.control q ⊳ step op.Load refl (step (op.TakeTemporary (i.temporary + k)) refl (step (op.Operate Add) refl no_code)))

  advances_codes : (r : TypedRange) (p : ℕ) → Codes p (items.advances_code r i) (emitted.advances_code r i) []
  advances_codes tree.Once p = no_code
  advances_codes (tree.ToBy to by) p = counted_codes 2 p
  advances_codes (tree.ByTo by to) p = counted_codes 1 p
  advances_codes (tree.Repeated next) p = place_codes i.control p ⊳ value_codes next _ ⊳ step op.Store refl no_code
  advances_codes (tree.RepeatedString next) p = place_codes i.control p ⊳ value_codes next _ ⊳ step op.FitToPlace refl (step op.Store refl no_code)

-- a test that stands, in both
abbrev TestsAre : Option (List Item) → Option (List programs.Instruction) → Type 0
TestsAre None None = Unit {0}
TestsAre None (Some t') = ⊥
TestsAre (Some t) None = ⊥
TestsAre (Some t) (Some t') = (q : ℕ) → Codes q t t' []

guarded_codes : (o : Option (List Item)) (o' : Option (List programs.Instruction)) (p passed target : ℕ) → TestsAre o o' → place_after (emitted.guarded o' target) p + passed ≡ target
    → Codes p (items.guarded o passed) (emitted.guarded o' target) []
guarded_codes None None p passed target h e = no_code
guarded_codes None (Some t') p passed target h e = absurd h
guarded_codes (Some t) None p passed target h e = absurd h
guarded_codes (Some t) (Some t') p passed target h e =
    let a = place_after-append t' (op.JumpUnless target ∷ []) p in
    h p ⊳ more (jump_unless (place_after t' p) passed target (omega (arith, a, e))) no_code

-- a jump is as long wherever it leads
guarded_long : (o' : Option (List programs.Instruction)) (a b p : ℕ) → place_after (emitted.guarded o' a) p ≡ place_after (emitted.guarded o' b) p
guarded_long None a b p = refl
guarded_long (Some t') a b p = place_after-append t' (op.JumpUnless a ∷ []) p ∙ sym (place_after-append t' (op.JumpUnless b ∷ []) p)

limits_are : (i : Iteration) (limit : Option ℕ) (k : ℕ) → TestsAre (items.test_against i limit k) (emitted.test_against i limit k)
limits_are i None k = tt
limits_are i (Some limit) k =
    λ q. place_codes i.control q
    ⊳ step op.Load refl (step (op.TakeTemporary (i.temporary + limit)) refl (step (op.TakeTemporary (i.temporary + k)) refl (step (op.Operate Within) refl no_code)))

conditions_are : (c : Option TypedExpression) → TestsAre (option_map items.value_code c) (emitted.while_test c)
conditions_are None = tt
conditions_are (Some e) = λ q. value_codes e q

tests_long : (i : Iteration) (a b p : ℕ) → place_after (emitted.tests_code i a) p ≡ place_after (emitted.tests_code i b) p
tests_long i a b p =
    let limit = emitted.limit_test i in
    let condition = emitted.while_test i.condition in
    place_after-append (emitted.guarded limit a) (emitted.guarded condition a) p ∙ ap (place_after (emitted.guarded condition a)) (guarded_long limit a b p)
    ∙ guarded_long condition a b (place_after (emitted.guarded limit b) p) ∙ sym (place_after-append (emitted.guarded limit b) (emitted.guarded condition b) p)

tests_codes : (i : Iteration) (p passed target : ℕ) → place_after (emitted.tests_code i target) p + passed ≡ target → Codes p (items.tests_code i passed) (emitted.tests_code i target) []
tests_codes i p passed target e =
    let limit = emitted.limit_test i in
    let condition = emitted.while_test i.condition in
    let q = place_after (emitted.guarded limit target) p in
    let a = place_after-append (emitted.guarded limit target) (emitted.guarded condition target) p in
    let second = guarded_codes (option_map items.value_code i.condition) condition q passed target (conditions_are i.condition) (omega (arith, a, e)) in
    let l = second.long in
    guarded_codes (items.test_against i (limit_number i.range) (step_number i.range)) limit p (size (items.guarded (option_map items.value_code i.condition) passed) + passed) target
    (limits_are i (limit_number i.range) (step_number i.range)) (omega (arith, a, e, l))
    ⊳ second

-- what comes between two turns, from a place after so many instructions of the turn
module _ (n : ℕ) (between : List Item) (between' : List programs.Instruction) (h : (q : ℕ) → Codes q between between' []) where
  back_codes : (iterated : Bool) (p passed turn : ℕ) → p ≡ turn + passed → Codes p (items.back_code iterated n between passed) (emitted.back_code iterated n between' turn) []
  back_codes false p passed turn e = no_code
  back_codes true p passed turn e =
      let l = (h (suc p)).long in
      step (op.Line n) refl (h (suc p) ⊳ more (jump_back (place_after between' (suc p)) (suc (passed + size between)) turn (omega (arith, l, e))) no_code)

  back_end : (iterated : Bool) (p turn : ℕ) → place_after (emitted.back_code iterated n between' turn) p ≡ p + size (items.back_code iterated n between 0)
  back_end false p turn = omega arith
  back_end true p turn =
      let l = (h (suc p)).long in
      let a = place_after-append between' (op.Jump turn ∷ []) (suc p) in
      let b = size-append between (Make NoEntry (Back (suc (0 + size between))) (λ entry target. op.Jump target) ∷ []) in
      omega (arith, l, a, b)

iterate_codes : (n p : ℕ) (i : Iteration) (list : List Item) (f : ℕ → List programs.Instruction) (ps : Places) → (let q = emitted.list_place i p in Codes q list (f q) ps)
    → Codes p (items.iterate_code n i list) (emitted.iterate_code n i f p) ps
iterate_codes n p i list f ps h =
    let iterated = is_iterated i.range in
    let between = items.advances_code i.range i in
    let between' = emitted.advances_code i.range i in
    let advances : (q : ℕ) → Codes q between between' [] = advances_codes i i.range in
    let turn_at = emitted.turn_place i p in
    let q = emitted.list_place i p in
    let back' = emitted.back_code iterated n between' turn_at in
    let target = place_after back' (place_after (f q) q) in
    let passed = suc (size list + size (items.back_code iterated n between 0)) in
    let same = tests_long i 0 target turn_at in
    let l = h.long in
    let end = back_end n between between' advances iterated (place_after (f q) q) turn_at in
    let tests = tests_codes i turn_at passed target (omega (arith, same, l, end)) in
    let listed : Codes (suc (place_after (emitted.tests_code i target) turn_at)) list (f q) ps = subst (λ k. Codes (suc k) list (f q) ps) same h in
    let turn = tests ⊳ step (op.Step n) refl listed in
    let back = back_codes n between between' advances iterated _ _ turn_at turn.long in
    let turned = items.tests_code i passed ++ plain (op.Step n) ∷ list in
    let turned' = emitted.tests_code i target ++ op.Step n ∷ f q in
    let start' = emitted.start_code i in
    ended
    (subst (λ is. Codes p (items.iterate_code n i list) is (ps ++ []))
    (append_assoc start' turned' back' ∙ ap (λ is. start' ++ is) (append_assoc (emitted.tests_code i target) (op.Step n ∷ f q) back')
    ∙ sym (append_assoc start' (emitted.tests_code i target) ((op.Step n ∷ f q) ++ back')))
    (regrouped (items.start_code i) turned (items.back_code iterated n between (size turned)) start' turned' back' (start_codes i p ⊳ turn ⊳ back)))

-- ---- statements

mutual
  statement_codes : (s : TypedStatement) (p : ℕ) → Codes p (items.statement_code s) (emitted.statement_code s p) (emitted.places_in s p)
  statement_codes (tree.Statement n form) p = labelled_more _ _ _ _ _ (step (op.Step n) refl (form_codes n form (suc p)))

  form_codes : (n : ℕ) (form : Form) (p : ℕ) → Codes p (items.form_code n form) (emitted.form_code n form p) (emitted.places_in_form form p)
  form_codes n tree.Null p = no_code
  form_codes n (tree.Assign target value) p = (place_codes target p ⊳ value_codes value _) ⊳ step op.Store refl no_code
  form_codes n (tree.AssignString target value) p = (place_codes target p ⊳ value_codes value _) ⊳ step op.FitToPlace refl (step op.Store refl no_code)
  form_codes n (tree.AssignAggregate target source) p = (place_codes target p ⊳ place_codes source _) ⊳ step op.Copy refl no_code
  form_codes n (tree.AssignArea target source) p = (place_codes target p ⊳ place_codes source _) ⊳ step op.AssignArea refl no_code
  form_codes n (tree.EmptyArea target) p = place_codes target p ⊳ step op.EmptyArea refl no_code
  form_codes n (tree.Put skip printed) p = skip_codes skip p ⊳ printed_codes printed _
  form_codes n (tree.If condition consequence alternative) p =
      if_codes alternative condition (items.statement_code consequence) (emitted.statement_code consequence) (emitted.places_in consequence) (statement_codes consequence) p
  form_codes n (tree.Begin head statements) p = step (op.Begin head.number) refl no_code
  form_codes n (tree.Group statements) p = list_codes statements p
  form_codes n (tree.While condition statements) p =
      turns_codes n p (items.value_code condition) (items.list_code statements) (emitted.value_code condition) (emitted.list_code statements) _ (value_codes condition (suc p)) (list_codes statements _)
  form_codes n (tree.Iterate iteration statements) p = iterate_codes n p iteration (items.list_code statements) (emitted.list_code statements) _ (list_codes statements _)
  form_codes n (tree.Call callee arguments) p = call_codes callee arguments p
  form_codes n (tree.Goto outward label) p =
      more (goto_makes p outward label) no_code
  form_codes n (tree.Return outward) p = step (op.Return outward) refl no_code
  form_codes n (tree.ReturnValue outward value) p = value_codes value p ⊳ step (op.ReturnValue outward) refl no_code
  form_codes n tree.Stop p = step op.Stop refl no_code
  form_codes n (tree.On condition block) p = step (op.On condition block) refl no_code
  form_codes n (tree.Revert condition) p = step (op.Revert condition) refl no_code
  form_codes n (tree.Signal condition) p = step (op.Signal condition) refl no_code
  form_codes n (tree.Allocate allocated) p = allocations_codes allocated p
  form_codes n (tree.Free freed) p = freeings_codes freed p

  if_codes : (alternative : OtherWise) (condition : TypedExpression) (part : List Item) (part' : ℕ → List programs.Instruction) (places : ℕ → Places)
      → ((q : ℕ) → Codes q part (part' q) (places q)) → (p : ℕ)
      → (let q = suc (place_after (emitted.value_code condition) p) in
      Codes p (items.if_code (items.value_code condition) part alternative) (emitted.if_code (emitted.value_code condition) part' alternative p)
      (places q ++ emitted.places_in_else alternative (suc (place_after (part' q) q))))
  if_codes tree.NoElse condition part part' places h p =
      let test' = emitted.value_code condition in
      let q = suc (place_after test' p) in
      subst (Codes p (one_way (items.value_code condition) part) (emitted.one_way test' part' p)) (sym (append-nil (places q)))
      (one_way_codes p (items.value_code condition) test' (value_codes condition p) part part' (places q) (h q))
  if_codes (tree.Else statement) condition part part' places h p =
      let test' = emitted.value_code condition in
      let q = suc (place_after test' p) in
      let r = suc (place_after (part' q) q) in
      two_ways_codes p (items.value_code condition) test' (value_codes condition p) part (items.statement_code statement) part' (emitted.statement_code statement) (places q)
      (emitted.places_in statement r) (h q) (statement_codes statement r)

  list_codes : (ss : TypedStatements) (p : ℕ) → Codes p (items.list_code ss) (emitted.list_code ss p) (emitted.places_among ss p)
  list_codes tree.NoStatement p = no_code
  list_codes (tree.StatementThen first others) p = statement_codes first p ⊳ list_codes others _

-- ---- blocks

end_codes : (e : Option ℕ) (p : ℕ) → Codes p (items.end_code e) (emitted.end_code e) []
end_codes None p = step (op.Return 0) refl no_code
end_codes (Some n) p = step (op.Line n) refl (step (op.Raise NoReturnedValue) refl no_code)

block_codes : (b : BlockTree) (p : ℕ) → Codes p (items.block_code b) (emitted.block_code b p) (emitted.places_among b.statements p)
block_codes b p = ended (list_codes b.statements p ⊳ end_codes b.function_end _)

blocks_codes : (bs : List BlockTree) (p : ℕ) → Codes p (flat_map items.block_code bs) (emitted.blocks_code bs p) (emitted.places_of bs p)
blocks_codes [] p = no_code
blocks_codes (b ∷ bs) p = block_codes b p ⊳ blocks_codes bs _

blocks_made : (tables : NumberedTables) (bs : List BlockTree) (p : ℕ) → blocks_from tables bs p ≡ coded_blocks tables bs p
blocks_made tables [] p = refl
blocks_made tables (b ∷ bs) p =
    ap (λ xs. coded_block tables b p ∷ xs)
    (ap (blocks_from tables bs) (sym (block_codes b p).long) ∙ blocks_made tables bs (place_after (emitted.block_code b p) p))

-- ---- units

-- a GOTO names nothing, wherever it leads
descriptions_stay : (places : Places) (i : programs.Instruction) → descriptions_named (with_target places i) ≡ descriptions_named i
descriptions_stay places (op.Goto outward label) = refl
descriptions_stay places other = refl

templates_stay : (places : Places) (i : programs.Instruction) → templates_named (with_target places i) ≡ templates_named i
templates_stay places (op.Goto outward label) = refl
templates_stay places other = refl

values_stay : (places : Places) (i : programs.Instruction) → values_named (with_target places i) ≡ values_named i
values_stay places (op.Goto outward label) = refl
values_stay places other = refl

all_stay : {X : Type 0} (names : programs.Instruction → List X) (places : Places) → ((i : programs.Instruction) → names (with_target places i) ≡ names i) → (is : List programs.Instruction)
    → flat_map names (map (with_target places) is) ≡ flat_map names is
all_stay names places h [] = refl
all_stay names places h (i ∷ is) = ap (λ x. x ++ flat_map names (map (with_target places) is)) (h i) ∙ ap (λ xs. names i ++ xs) (all_stay names places h is)

module _ (u : TypedUnit) where
  codes : Codes 0 (flat_map items.block_code (blocks_of u)) (emitted.blocks_code (blocks_of u) 0) (emitted.places_of (blocks_of u) 0)
  codes = blocks_codes (blocks_of u) 0

  agree : Agree (flat_map items.block_code (blocks_of u)) (emitted.places_of (blocks_of u) 0)
  agree s =
      ap (label_place s 0) (sym (append-nil (flat_map items.block_code (blocks_of u)))) ∙ codes.labels s [] [] refl
      ∙ ap (λ k. statement_place k s) (append-nil (emitted.places_of (blocks_of u) 0))

  -- tables of these lists of names
  abbrev tables_with : List ParameterType → List Template → List Value → NumberedTables
  tables_with ds ts vs = record {
    descriptions =
        numbered same_type []
        (signature_descriptions u.signature ++ flat_map global_descriptions u.globals ++ map (λ (t : Template). Stated t.description) (block_templates (blocks_of u)) ++ ds);
    templates = numbered same_template [] (flat_map global_templates u.globals ++ block_templates (blocks_of u) ++ ts);
    values = numbered same_value [] vs;
  }

  tables_same : tables_of u (blocks_of u) (flat_map items.block_code (blocks_of u)) ≡ tables_for u (blocks_of u) (emitted.instructions_of (blocks_of u))
  tables_same =
      let xs = flat_map items.block_code (blocks_of u) in
      let is = emitted.blocks_code (blocks_of u) 0 in
      let places = emitted.places_of (blocks_of u) 0 in
      let ds = codes.descriptions ∙ sym (all_stay descriptions_named places (descriptions_stay places) is) in
      let ts = codes.templates ∙ sym (all_stay templates_named places (templates_stay places) is) in
      let vs = codes.values ∙ sym (all_stay values_named places (values_stay places) is) in
      ap (λ d. tables_with d (flat_map template_in xs) (flat_map value_in xs)) ds
      ∙ ap (λ t. tables_with (flat_map descriptions_named (map (with_target places) is)) t (flat_map value_in xs)) ts
      ∙ ap (tables_with (flat_map descriptions_named (map (with_target places) is)) (flat_map templates_named (map (with_target places) is))) vs

  unit_same : (tables : NumberedTables) → unit_of tables u (blocks_of u) (flat_map items.block_code (blocks_of u)) ≡ coded_unit tables u (blocks_of u) (emitted.instructions_of (blocks_of u))
  unit_same tables =
      let xs = flat_map items.block_code (blocks_of u) in
      let c = coded_unit tables u (blocks_of u) (emitted.instructions_of (blocks_of u)) in
      ap (λ b. record c { blocks = b; instructions = instructions_from tables xs 0 xs }) (blocks_made tables (blocks_of u) 0)
      ∙ ap (λ i. record c { instructions = i }) (codes.made tables xs (emitted.places_of (blocks_of u) 0) agree)

  pub code_same : by_items.code_of u ≡ encoded.code_of u
  code_same =
      ap (λ t. unit_of t u (blocks_of u) (flat_map items.block_code (blocks_of u))) tables_same
      ∙ unit_same (tables_for u (blocks_of u) (emitted.instructions_of (blocks_of u)))

pub codes_alike : CodesAlike
codes_alike u = code_same u

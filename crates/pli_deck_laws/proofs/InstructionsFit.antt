-- Instructions whose numbers are within limits fit the fields of a deck, and name what is there.
use Rattle.std.proofs.Common.{◌≡◌, ℕ, ◌<◌, ◌≤◌, true, Some, length, slice_get, refl, arith}
use Rattle.std.specs.List.{AllByRecursion}
use Rattle.pli_base.specs.declared.statement.Condition.{Condition}
use Rattle.pli_base.specs.declared.statement.Condition.TheVariants.{FixedOverflow}
use Rattle.pli_run.specs.declared.ending.RunError.{RunError}
use Rattle.pli_run.specs.declared.ending.RunError.TheVariants as errors
use Rattle.pli_map.specs.Description.{Description}
use Rattle.pli_map.specs.ParameterTypes.{Stated}
use Rattle.pli_map.specs.declared.dimension.WhichBound.{WhichBound}
use Rattle.pli_map.specs.declared.dimension.WhichBound.TheVariants as bounds
use Rattle.pli_map.specs.declared.parameter.StringForm.{StringForm}
use Rattle.pli_map.specs.declared.parameter.StringForm.TheVariants as forms
use Rattle.pli_program.specs.Program as programs
use Rattle.pli_program.specs.declared.instruction.Instruction.TheVariants as op
use Rattle.pli_operation.specs.declared.operation.Operation.{Operation}
use Rattle.pli_operation.specs.declared.operation.Operation.TheVariants as calculate
use Rattle.pli_operation.specs.declared.operation.Relation.{Relation}
use Rattle.pli_operation.specs.declared.operation.Relation.TheVariants.{Equal}
use Rattle.pli_type_tree.specs.Templates.{Template}
use Rattle.pli_type_tree.specs.TypedTree.{Operate}
use Rattle.pli_value.specs.Value.{Value}
use Rattle.pli_code.specs.CodedInstruction.{Instruction}
use Rattle.pli_type_keys.specs.Same.{same_value}
use Rattle.pli_gen_emit.specs.Encoding.{NumberedTables, number_in, descriptions_named, templates_named, values_named, description_number, template_number, instruction_code}
use Rattle.pli_code.specs.Fields.{u1, u2, u4, ◌⊗◌}
use Rattle.pli_code.specs.Instructions.{bound, condition, dimension_number, error, relation, string_form, which_bound, instruction}
use Rattle.pli_deck_write.specs.DeckFaults.{Naming, OfParameter, OfDescription, OfTemplate, OfValue, OfGlobal, OfBlock, OfInstruction, named_by_instruction, targets_of}
use Rattle.pli_deck_laws.specs.Limits.{link_limit, parameter_limit, IsOperation}
use Rattle.pli_deck_laws.proofs.AllowedLemmas.{Allowed}
use Rattle.pli_deck_laws.proofs.UnitCode.{leads}
use Rattle.pli_deck_laws.proofs.FieldsFit.{fits_byte, fits_short, fits_word, fits_pair, fits_bound, fits_precision, fits_dimension}
use Rattle.pli_deck_laws.proofs.TablesFit.{StandsDescription, description_within}

error_fits : (e : RunError) → error.fits e ≡ true
error_fits errors.SubscriptRange = refl
error_fits e = refl

condition_fits : (c : Condition) → condition.fits c ≡ true
condition_fits FixedOverflow = refl
condition_fits c = refl

relation_fits : (r : Relation) → relation.fits r ≡ true
relation_fits Equal = refl
relation_fits r = refl

which_fits : (which : WhichBound) → which_bound.fits which ≡ true
which_fits bounds.Low = refl
which_fits bounds.High = refl

form_fits : (form : StringForm) → string_form.fits form ≡ true
form_fits forms.Character = refl
form_fits forms.Varying = refl
form_fits forms.Bit = refl

module _ (tables : NumberedTables) (globals blocks last : ℕ) where
  -- what is named is there
  abbrev pub Named : Naming → Type 0
  Named (OfParameter n) = n < length tables.descriptions
  Named (OfDescription n) = (d : Description) × (slice_get tables.descriptions n ≡ Some (Stated d))
  Named (OfTemplate n) = n < length tables.templates
  Named (OfValue n) = n < length tables.values
  Named (OfGlobal n) = n < globals
  Named (OfBlock n) = n < blocks
  Named (OfInstruction n) = n ≤ last

  -- what tables have
  abbrev pub HasTemplate : Template → Type 0
  HasTemplate t = template_number tables t < length tables.templates

  abbrev pub HasValue : Value → Type 0
  HasValue v = number_in same_value tables.values v < length tables.values

  pub record GoodInstruction (i : Instruction) : Type 0 where
    pub fits : instruction.fits i ≡ true
    pub jumps : AllByRecursion (λ n. n ≤ last) (targets_of i)
    pub names : AllByRecursion Named (named_by_instruction i)

  -- lengths are within limits
  module _ (few_descriptions : length tables.descriptions ≤ 65535) (few_templates : length tables.templates ≤ 65535) (few_values : length tables.values ≤ 65535)
      (few_globals : globals ≤ 65535) (few_blocks : blocks ≤ 65535) (few_instructions : last ≤ 65535) where
    description_fits : (d : Description) → StandsDescription tables (Stated d) → u2.fits (description_number tables (Stated d)) ≡ true
    description_fits d h = let below = description_within tables (Stated d) h in fits_short (description_number tables (Stated d)) (omega (arith, below, few_descriptions))

    operation_good : (o : Operation) → IsOperation (Operate o) → GoodInstruction (op.Operate o)
    unfolding instruction
    operation_good (calculate.ToCharacters width) h = record { fits = fits_byte width h; jumps = tt; names = tt }
    operation_good (calculate.Divide p) h = record { fits = fits_precision p h; jumps = tt; names = tt }
    operation_good (calculate.Compare r) h = record { fits = relation_fits r; jumps = tt; names = tt }
    operation_good o h = record { fits = refl; jumps = tt; names = tt }

    link : (n : ℕ) → n ≤ link_limit → u1.fits n ≡ true
    link n h = fits_byte n (omega (arith, h))

    few_arguments : (n : ℕ) → n ≤ parameter_limit → u1.fits n ≡ true
    few_arguments n h = fits_byte n (omega (arith, h))

    block_fits : (n : ℕ) → n < blocks → u2.fits n ≡ true
    block_fits n h = fits_short n (omega (arith, h, few_blocks))

    global_fits : (n : ℕ) → n < globals → u2.fits n ≡ true
    global_fits n h = fits_short n (omega (arith, h, few_globals))

    short_target : (n : ℕ) → n ≤ last → u2.fits n ≡ true
    short_target n h = fits_short n (omega (arith, h, few_instructions))

    pub instruction_good : (i : programs.Instruction) → Allowed globals blocks last i → leads i ≤ last → AllByRecursion (StandsDescription tables) (descriptions_named i)
        → AllByRecursion HasTemplate (templates_named i) → AllByRecursion HasValue (values_named i) → GoodInstruction (instruction_code tables i)
    unfolding instruction
    instruction_good (op.Step s) h to ds ts vs = record { fits = fits_word s h; jumps = tt; names = tt }
    instruction_good (op.Line s) h to ds ts vs = record { fits = fits_word s h; jumps = tt; names = tt }
    instruction_good (op.Jump n) h to ds ts vs = record { fits = short_target n h; jumps = (h, tt); names = tt }
    instruction_good (op.JumpUnless n) h to ds ts vs = record { fits = short_target n h; jumps = (h, tt); names = tt }
    instruction_good (op.Goto outward n) h to ds ts vs =
        record { fits = fits_pair u1 u2 outward n (link outward h) (short_target n to); jumps = (to, tt); names = tt }
    instruction_good (op.Call block arguments) h to ds ts vs =
        record { fits = fits_pair u2 u1 block arguments (block_fits block h.0) (few_arguments arguments h.1); jumps = tt; names = (h.0, tt) }
    instruction_good (op.CallExternal global arguments) h to ds ts vs =
        record { fits = fits_pair u2 u1 global arguments (global_fits global h.0) (few_arguments arguments h.1); jumps = tt; names = (h.0, tt) }
    instruction_good (op.Begin block) h to ds ts vs = record { fits = block_fits block h; jumps = tt; names = (h, tt) }
    instruction_good (op.Return outward) h to ds ts vs = record { fits = link outward h; jumps = tt; names = tt }
    instruction_good (op.ReturnValue outward) h to ds ts vs = record { fits = link outward h; jumps = tt; names = tt }
    instruction_good (op.Raise e) h to ds ts vs = record { fits = error_fits e; jumps = tt; names = tt }
    instruction_good op.Stop h to ds ts vs = record { fits = refl; jumps = tt; names = tt }
    instruction_good (op.Local outward slot) h to ds ts vs =
        record { fits = fits_pair u1 u2 outward slot (link outward h.0) (fits_short slot h.1); jumps = tt; names = tt }
    instruction_good (op.Global number) h to ds ts vs = record { fits = global_fits number h; jumps = tt; names = (h, tt) }
    instruction_good (op.Field offset d) h to ds ts vs =
        record {
          fits = fits_pair u4 u2 offset (description_number tables (Stated d)) (fits_word offset h.0) (description_fits d ds.0);
          jumps = tt;
          names = ((d, ds.0), tt);
        }
    instruction_good (op.Subscript low high multiplier) h to ds ts vs =
        record {
          fits = fits_pair bound (bound ⊗ u4) low (high, multiplier) (fits_bound low h.0) (fits_pair bound u4 high multiplier (fits_bound high h.1) (fits_word multiplier h.2));
          jumps = tt;
          names = tt;
        }
    instruction_good (op.Based d) h to ds ts vs = record { fits = description_fits d ds.0; jumps = tt; names = ((d, ds.0), tt) }
    instruction_good (op.Constant v) h to ds ts vs =
        let has = vs.0 in
        record { fits = fits_short (number_in same_value tables.values v) (omega (arith, has, few_values)); jumps = tt; names = (has, tt) }
    instruction_good op.Load h to ds ts vs = record { fits = refl; jumps = tt; names = tt }
    instruction_good op.Store h to ds ts vs = record { fits = refl; jumps = tt; names = tt }
    instruction_good op.Copy h to ds ts vs = record { fits = refl; jumps = tt; names = tt }
    instruction_good (op.MakeDummy t) h to ds ts vs =
        let has = ts.0 in
        record { fits = fits_short (template_number tables t) (omega (arith, has, few_templates)); jumps = tt; names = (has, tt) }
    instruction_good (op.Fit d) h to ds ts vs = record { fits = description_fits d ds.0; jumps = tt; names = ((d, ds.0), tt) }
    instruction_good (op.Operate operation) h to ds ts vs = operation_good operation h
    instruction_good (op.AllocateControlled number) h to ds ts vs = record { fits = global_fits number h; jumps = tt; names = (h, tt) }
    instruction_good (op.FreeControlled number) h to ds ts vs = record { fits = global_fits number h; jumps = tt; names = (h, tt) }
    instruction_good (op.CountGenerations number) h to ds ts vs = record { fits = global_fits number h; jumps = tt; names = (h, tt) }
    instruction_good op.AddressOf h to ds ts vs = record { fits = refl; jumps = tt; names = tt }
    instruction_good op.ToPointer h to ds ts vs = record { fits = refl; jumps = tt; names = tt }
    instruction_good op.ToOffset h to ds ts vs = record { fits = refl; jumps = tt; names = tt }
    instruction_good op.AssignArea h to ds ts vs = record { fits = refl; jumps = tt; names = tt }
    instruction_good op.EmptyArea h to ds ts vs = record { fits = refl; jumps = tt; names = tt }
    instruction_good (op.AllocateInArea t target) h to ds ts vs =
        let has = ts.0 in
        record {
          fits = fits_pair u2 u2 (template_number tables t) target (fits_short (template_number tables t) (omega (arith, has, few_templates))) (short_target target h.1);
          jumps = (h.1, tt);
          names = (has, tt);
        }
    instruction_good (op.AllocateBased t) h to ds ts vs =
        let has = ts.0 in
        record { fits = fits_short (template_number tables t) (omega (arith, has, few_templates)); jumps = tt; names = (has, tt) }
    instruction_good (op.FreeBased d) h to ds ts vs = record { fits = description_fits d ds.0; jumps = tt; names = ((d, ds.0), tt) }
    instruction_good (op.On c block) h to ds ts vs =
        record { fits = fits_pair condition u2 c block (condition_fits c) (block_fits block h); jumps = tt; names = (h, tt) }
    instruction_good (op.Revert c) h to ds ts vs = record { fits = condition_fits c; jumps = tt; names = tt }
    instruction_good (op.Signal c) h to ds ts vs = record { fits = condition_fits c; jumps = tt; names = tt }
    instruction_good op.Put h to ds ts vs = record { fits = refl; jumps = tt; names = tt }
    instruction_good op.Skip h to ds ts vs = record { fits = refl; jumps = tt; names = tt }
    instruction_good (op.SetTemporary number) h to ds ts vs = record { fits = fits_short number h; jumps = tt; names = tt }
    instruction_good (op.TakeTemporary number) h to ds ts vs = record { fits = fits_short number h; jumps = tt; names = tt }
    instruction_good (op.SubscriptIn k) h to ds ts vs = record { fits = fits_dimension k h; jumps = tt; names = tt }
    instruction_good (op.BoundOf which k) h to ds ts vs =
        record { fits = fits_pair which_bound dimension_number which k (which_fits which) (fits_dimension k h); jumps = tt; names = tt }
    instruction_good (op.MakeStringDummy form) h to ds ts vs = record { fits = form_fits form; jumps = tt; names = tt }
    instruction_good op.FitToPlace h to ds ts vs = record { fits = refl; jumps = tt; names = tt }

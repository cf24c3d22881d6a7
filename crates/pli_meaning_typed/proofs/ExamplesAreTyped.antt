-- The worked examples are well-typed.
use Rattle.std.specs.Prelude.{◌≡◌, ℕ, zero, suc, nat_eq, Bool, true, false, pos, Option, Some, None, List, [], ◌∷◌, slice_get, codes, if◌then◌else◌, refl}
use Rattle.std.proofs.Common.{arith, sym, ap, ◌∙◌, subst, inl, true≢false}
use Rattle.std.proofs.lemmas.Bool.{eqb-true, leb-true}
use Rattle.pli_base.specs.Name.{Name}
use Rattle.pli_map.specs.Description.{Pointer, Offset, Area, Array}
use Rattle.pli_map.specs.declared.parameter.StringForm.TheVariants.{Character}
use Rattle.pli_map.specs.ParameterTypes.{Stated, AnyString, AnyArray}
use Rattle.pli_type_tree.specs.Templates.{Template}
use Rattle.pli_program.specs.declared.kind.VariableKind.{VariableKind}
use Rattle.pli_program.specs.declared.kind.VariableKind.TheVariants.{Static}
use Rattle.pli_type_tree.specs.TypedTree.{Fit, TypedProcedure, TypedUnit, Held, AsPointer, Signature, Global, ExternalVariable, EntryPoint}
use Rattle.pli_type_tree.specs.ValueTypes.{OfCharacters, OfBits, Numbers, Pointers, Offsets}
use Rattle.pli_type_tree.specs.WellTyped.{KnownProcedure, TypingContext, IsTyped, IsAreaReference, IsPlaced, IsString, IsValueFor, Convert, in_group, IsOnUnitHere, AreTypedStatements}
use Rattle.pli_meaning_tree.specs.ProgramMeaning.{procedure_in, unit_named}
use Rattle.pli_meaning_typed.specs.TypedPrograms.{context_in, IsTypedProcedure, IsTypedUnit}
use Rattle.pli_meaning_typed.specs.examples.TypedExamples.{number, counter, one_more, few, counting, returning, caller, successor, of_caller, of_successor, signatures, ExampleIsWellTyped, GroupsAreWellTyped, plain, StackIsWellTyped, pointing, pointer, pointed, PointersAreWellTyped, declared_area, declared_offset, area_used, offset_used, block_used, AreasAreWellTyped, of_jumping, with_unit, handling, ConditionsAreWellTyped, shared, numeric, asker, answerer, asking_unit, answering_unit, UnitsAreWellTyped, short, three, of_stars, StarsAreWellTyped}

abbrev in_caller : TypingContext
in_caller = context_in [] signatures of_caller caller

abbrev in_successor : TypingContext
in_successor = context_in [] signatures of_successor successor

counter_in_caller : IsTyped 31 in_caller (Held counter) (Numbers 31)
counter_in_caller = (Stated number, refl, refl)

counter_in_successor : IsTyped 31 in_successor (Held counter) (Numbers 31)
counter_in_successor = (Stated number, refl, refl)

successor_typed : AreTypedStatements 31 in_successor returning
successor_typed = (
  (
    refl,
    (
      number,
      refl,
      (
        Numbers 31,
        (
          Numbers 31 ∷ [],
          (
            Numbers 31,
            [],
            refl,
            (
              Numbers 31 ∷ Numbers 1 ∷ [],
              (Numbers 31, Numbers 1 ∷ [], refl, counter_in_successor, (Numbers 1, [], refl, (pos 1, refl, omega arith), refl)),
              (31, 1, refl, refl),
            ),
            refl,
          ),
          (Numbers 31, refl, tt, refl),
        ),
        (Numbers 31, refl, omega arith),
      ),
    ),
  ),
  tt,
)

few_in_caller : IsString 31 in_caller OfBits few
few_in_caller = (
  1,
  1,
  (
    Numbers 31 ∷ Numbers 4 ∷ [],
    (Numbers 31, Numbers 4 ∷ [], refl, counter_in_caller, (Numbers 4, [], refl, (pos 9, refl, omega arith), refl)),
    (inl (31, 4, refl, tt), refl),
  ),
)

caller_typed : AreTypedStatements 31 in_caller counting
caller_typed = (
  (
    number,
    refl,
    (
      Numbers 31,
      (
        Stated number ∷ [],
        number,
        (of_successor, refl, refl, (of_successor.around, refl, (refl, (refl, refl), λ l h. h, λ l h. h, tt)), refl, refl),
        (Stated number, Stated number, [], refl, refl, refl, tt, λ is. absurd (true≢false (sym is)), refl),
        refl,
      ),
      (Numbers 31, refl, omega arith),
    ),
  ),
  (
    ((OfCharacters, (14, 14, (Numbers 31 ∷ [], (Numbers 31, [], refl, counter_in_caller, refl), (31, refl, ((omega arith, 13, refl, omega arith), refl))))), tt),
    (
      (
        few_in_caller,
        refl,
        tt,
      ),
      tt,
    ),
  ),
)

caller_is : IsTypedProcedure 31 [] signatures of_caller caller
caller_is = record { kind = refl; parent = refl; parameters = refl; end = tt; made = ((leb-true 4 1000000 refl, (refl, tt)), tt); statements = caller_typed }

successor_is : IsTypedProcedure 31 [] signatures of_successor successor
successor_is = record { kind = refl; parent = refl; parameters = refl; end = tt; made = tt; statements = successor_typed }

none_some : {A : Type 0} {y : A} → None ≡ Some y → ⊥
none_some e = absurd (cc)

some_same : {A : Type 0} {y z : A} → Some y ≡ Some z → y ≡ z
some_same e = cc

each : (n : ℕ) (s : KnownProcedure) → signatures n ≡ Some s
    → (g : TypedProcedure) × (procedure_in (caller ∷ successor ∷ []) n ≡ Some g) × IsTypedProcedure 31 [] signatures s g
each n s e = by (nat_eq n 0) (nat_eq n 1) refl refl e
  where
    by : (b c : Bool) → nat_eq n 0 ≡ b → nat_eq n 1 ≡ c → (if b then Some of_caller else if c then Some of_successor else None) ≡ Some s
        → (g : TypedProcedure) × (procedure_in (caller ∷ successor ∷ []) n ≡ Some g) × IsTypedProcedure 31 [] signatures s g
    by true c h k e =
        (caller, ap (procedure_in (caller ∷ successor ∷ [])) (eqb-true n 0 h), subst (λ s. IsTypedProcedure 31 [] signatures s caller) (some_same e) caller_is)
    by false true h k e =
        (successor, ap (procedure_in (caller ∷ successor ∷ [])) (eqb-true n 1 k), subst (λ s. IsTypedProcedure 31 [] signatures s successor) (some_same e) successor_is)
    by false false h k e = absurd (none_some e)

abbrev unit : TypedUnit
unit = record { name = 80 ∷ []; procedure = 80 ∷ []; is_main = true; signature = record { parameters = []; result = None }; globals = []; procedures = caller ∷ successor ∷ [] }

unit_is : IsTypedUnit 31 unit
unit_is = record { procedures = signatures; outer = refl; made = tt; typed = each }

pub example_is : ExampleIsWellTyped
unfolding unit_is
example_is = record {
  units = (unit_is, tt);
  bytes = omega arith;
  count = omega arith;
  linked = record { entries = λ i name s e. absurd (none_some e); variables = λ i j name kind like t o e f. absurd (none_some e) };
  main = refl;
}

-- any number is converted to the control variable
counts : (p : ℕ) → Convert 31 (Fit number ∷ []) (Numbers p) number
counts p = (Numbers 31, (Numbers p, refl, tt, refl), (Numbers 31, refl, omega arith))

one_more_in_caller : IsValueFor 31 in_caller number one_more
one_more_in_caller = (
  Numbers 31,
  (
    Numbers 31 ∷ [],
    (
      Numbers 31,
      [],
      refl,
      (
        Numbers 31 ∷ Numbers 1 ∷ [],
        (Numbers 31, Numbers 1 ∷ [], refl, counter_in_caller, (Numbers 1, [], refl, (pos 1, refl, omega arith), refl)),
        (31, 1, refl, refl),
      ),
      refl,
    ),
    (Numbers 31, refl, tt, refl),
  ),
  (Numbers 31, refl, omega arith),
)

pub groups_are : GroupsAreWellTyped
groups_are = (
  (
    (
      Stated number,
      refl,
      (Numbers 1, (pos 1, refl, omega arith), counts 1),
      (((31, refl), counts), (2, (pos 2, refl, omega arith)), (4, (pos 9, refl, omega arith))),
      few_in_caller,
    ),
    tt,
  ),
  ((Stated number, refl, (Numbers 1, (pos 1, refl, omega arith), counts 1), one_more_in_caller, few_in_caller), tt),
)

-- a CONTROLLED variable
pub stack_is : StackIsWellTyped
stack_is = ((refl, tt), ((number, (number, refl, refl), (Numbers 15, (refl, refl), (Numbers 31, refl, omega arith))), ((refl, tt), tt)))

-- a BASED variable, where a POINTER leads
pointer_held : IsTyped 31 (context_in (pointing ∷ []) signatures of_caller caller) (Held pointer) Pointers
pointer_held = (Stated Pointer, (Pointer, refl, refl), refl)

pointed_placed : IsPlaced 31 (context_in (pointing ∷ []) signatures of_caller caller) pointed (Stated number)
pointed_placed = (refl, pointer_held)

pub pointers_are : PointersAreWellTyped
pointers_are = (
  (((leb-true 4 1000000 refl, (refl, tt)), (Pointer, refl, refl)), tt),
  (
    (number, pointed_placed, (Numbers 31, (Stated number, pointed_placed, refl), (Numbers 31, refl, omega arith))),
    (
      (Pointer, (Pointer, refl, refl), (Pointers, ((tt, (number, pointed_placed)), refl), (Pointers, refl, tt))),
      ((pointer_held, tt), tt),
    ),
  ),
)

-- one in an area, where an OFFSET leads
abbrev with_area : TypingContext
with_area = context_in (declared_area ∷ declared_offset ∷ []) signatures of_caller caller

area_known : IsAreaReference 31 with_area area_used
area_known = (tt, (Area 64, (Area 64, refl, refl), refl))

block_pointed : IsTyped 31 with_area (AsPointer area_used (Held offset_used)) Pointers
block_pointed = ((Stated Offset, (Offset, refl, refl), refl), area_known, refl)

block_placed : IsPlaced 31 with_area block_used (Stated number)
block_placed = (refl, block_pointed)

pub areas_are : AreasAreWellTyped
areas_are = (
  (
    (area_known, ((leb-true 4 1000000 refl, (refl, tt)), refl), (Offset, (Offset, refl, refl), (area_known, refl, (Offsets, refl, tt)))),
    tt,
  ),
  (
    (number, block_placed, (Numbers 31, (Stated number, block_placed, refl), (Numbers 31, refl, omega arith))),
    ((area_known, area_known), (area_known, tt)),
  ),
)

-- a procedure whose parameters have asterisks, and a call of it
pub stars_are : StarsAreWellTyped
stars_are = (
  (
    (Character, refl, (1, 1, (49 ∷ [], refl, omega arith, omega arith))),
    (
      (
        short,
        ((AnyArray 1 (Stated short), refl, refl), omega arith, ((1, (pos 1, refl, omega arith)), tt)),
        (
          Numbers 15,
          (
            Numbers 16 ∷ [],
            (Numbers 16, [], refl, ((1, Stated short, refl, omega arith, omega arith), refl), refl),
            (Numbers 16, refl, tt, refl),
          ),
          (Numbers 15, refl, omega arith),
        ),
      ),
      tt,
    ),
  ),
  (
    AnyString Character ∷ AnyArray 1 (Stated short) ∷ [],
    (of_stars, refl, refl, (of_stars.around, refl, (refl, (refl, refl), λ l h. h, λ l h. h, tt)), refl, refl),
    (
      AnyArray 1 (Stated short) ∷ [],
      refl,
      (2, 2, (65 ∷ 66 ∷ [], refl, omega arith, omega arith), omega arith),
      (
        AnyArray 1 (Stated short),
        Stated (Array three short),
        [],
        refl,
        refl,
        refl,
        ((omega arith, omega arith, tt), tt),
        λ is. absurd (true≢false (sym is)),
        refl,
      ),
    ),
  ),
)

-- an ON-unit, which knows the labels of its block's own list, in that and in a group
unit_there : IsOnUnitHere (context_in [] with_unit of_caller caller) 1
unit_there = (of_jumping, refl, refl, refl, (refl, (refl, refl), λ l h. h, λ l h. h, tt), refl, refl)

unit_in_group : IsOnUnitHere (in_group handling (context_in [] with_unit of_caller caller)) 1
unit_in_group = (of_jumping, refl, refl, refl, (refl, (refl, refl), λ l h. h, λ l h. h, tt), refl, refl)

pub conditions_are : ConditionsAreWellTyped
conditions_are = (
  (unit_there, (tt, (tt, tt))),
  (unit_in_group, (tt, (tt, tt))),
  record { kind = refl; parent = refl; parameters = refl; end = tt; made = tt; statements = (refl, tt) },
)

-- a program of two units
abbrev known_asker : KnownProcedure
known_asker = record { is_on_unit = false; parent = None; around = []; parameters = []; value = None }

abbrev known_answerer : KnownProcedure
known_answerer = record { is_on_unit = false; parent = None; around = []; parameters = Stated number ∷ []; value = Some number }

abbrev alone : KnownProcedure → ℕ → Option KnownProcedure
alone p n = if nat_eq n 0 then Some p else None

lone : (p : KnownProcedure) (f : TypedProcedure) (globals : List Global) → nat_eq f.head.number 0 ≡ true → f.head.number ≡ 0 → IsTypedProcedure 31 globals (alone p) p f
    → (n : ℕ) (q : KnownProcedure) → alone p n ≡ Some q → (g : TypedProcedure) × (procedure_in (f ∷ []) n ≡ Some g) × IsTypedProcedure 31 globals (alone p) q g
lone p f globals first zero_too is n q e = by (nat_eq n 0) refl e
  where
    by : (b : Bool) → nat_eq n 0 ≡ b → (if b then Some p else None) ≡ Some q
        → (g : TypedProcedure) × (procedure_in (f ∷ []) n ≡ Some g) × IsTypedProcedure 31 globals (alone p) q g
    by true h e =
        (f, ap (procedure_in (f ∷ [])) (eqb-true n 0 h) ∙ ap (λ b. if b then Some f else None) first, subst (λ q. IsTypedProcedure 31 globals (alone p) q f) (some_same e) is)
    by false h e = absurd (none_some e)

asking_typed : IsTypedUnit 31 asking_unit
asking_typed = record {
  procedures = alone known_asker;
  outer = refl;
  made = ((leb-true 4 1000000 refl, (refl, tt)), tt);
  typed = λ n q e. lone known_asker asker asking_unit.globals refl refl (record {
    kind = refl;
    parent = refl;
    parameters = refl;
    end = tt;
    made = tt;
    statements = (
      (
        number,
        (number, refl, refl),
        (
          Numbers 31,
          (Stated number ∷ [], number, refl, (Stated number, Stated number, [], refl, (number, refl, refl), refl, tt, λ is. absurd (true≢false (sym is)), refl), refl),
          (Numbers 31, refl, omega arith),
        ),
      ),
      tt,
    );
  }) n q e;
}

answering_typed : IsTypedUnit 31 answering_unit
answering_typed = record {
  procedures = alone known_answerer;
  outer = refl;
  made = ((leb-true 4 1000000 refl, (refl, tt)), tt);
  typed = λ n q e. lone known_answerer answerer answering_unit.globals refl refl (record {
    kind = refl;
    parent = refl;
    parameters = refl;
    end = tt;
    made = tt;
    statements = ((refl, (number, refl, (Numbers 31, (Stated number, (number, refl, refl), refl), (Numbers 31, refl, omega arith)))), tt);
  }) n q e;
}

-- the globals of both
abbrev globals : List Global
globals = shared ∷ EntryPoint (codes "N") numeric ∷ shared ∷ []

entry_is : (i : ℕ) (name : Name) (s : Signature) → slice_get globals i ≡ Some (EntryPoint name s) → (codes "N" ≡ name) × (numeric ≡ s)
entry_is zero name s e = absurd (cc)
entry_is (suc zero) name s e = (cc, cc)
entry_is (suc (suc zero)) name s e = absurd (cc)
entry_is (suc (suc (suc i))) name s e = absurd (none_some e)

variable_is : (i : ℕ) (name : Name) (kind : VariableKind) (t : Template) → slice_get globals i ≡ Some (ExternalVariable name kind t) → (Static ≡ kind) × (plain ≡ t)
variable_is zero name kind t e = (cc, cc)
variable_is (suc zero) name kind t e = absurd (cc)
variable_is (suc (suc zero)) name kind t e = (cc, cc)
variable_is (suc (suc (suc i))) name kind t e = absurd (none_some e)

pub units_are : UnitsAreWellTyped
units_are = record {
  units = (asking_typed, (answering_typed, tt));
  linked =
      record {
        entries = λ i name s e. let n = entry_is i name s e in
            (1, ap (unit_named (asking_unit ∷ answering_unit ∷ [])) (sym n.0), (answering_unit, refl, n.1));
        variables = λ i j name kind like t other e f. let one = variable_is i name kind t e in
            let two = variable_is j name like other f in
            (sym one.0 ∙ two.0, sym one.1 ∙ two.1);
      };
  bytes = omega arith;
  count = omega arith;
  main = refl;
}

-- Where no table has an entry twice, what is looked up has the numbers by which it was.
use Rattle.std.specs.Prelude.{◌≡◌, ℕ, suc, Bool, true, false, Option, Some, None, option_map, List, [], ◌∷◌, slice_get, refl, if◌then◌else◌}
use Rattle.std.specs.Bool.{Decides}
use Rattle.std.proofs.Common.{ap, ◌∙◌, sym, unwrap_or}
use Rattle.std.proofs.lemmas.Option.{slice_get-map, option_and_then_some}
use Rattle.pli_map.specs.Description.{Description}
use Rattle.pli_map.specs.ParameterTypes.{ParameterType, Stated, same_type, stated}
use Rattle.pli_map.specs.laws.ParameterLaws.{same_type_decides}
use Rattle.pli_program.specs.Program as programs
use Rattle.pli_program.specs.declared.instruction.Instruction.TheVariants as op
use Rattle.pli_type_keys.specs.Same.{same_template}
use Rattle.pli_type_tree.specs.Templates.{Template}
use Rattle.pli_type_tree.specs.TypedTree.{TypedUnit}
use Rattle.pli_code.specs.Decks.{Code}
use Rattle.pli_code.specs.CodedInstruction.{Instruction}
use Rattle.pli_gen_emit.specs.BlockTrees.{BlockTree}
use Rattle.pli_gen_emit.specs.Tables.{NumberedTables, number_in, stated_number, template_number, template_code}
use Rattle.pli_code.specs.CodeTables.{looked_up, stated_at, template_at, described, with_description}
use Rattle.pli_gen_emit.specs.Encoding.{instruction_code, coded_unit}
use Rattle.pli_gen.specs.laws.Laws.{AreOnce, NumbersAreFound}

some_is : {X : Type 0} (x y : X) → Some x ≡ Some y → x ≡ y
some_is x y h = ap (λ o. unwrap_or o x) h

-- what a function made was made of something
made_of : {X Y P : Type 0} (f : X → Y) (o : Option X) (y : Y) → option_map f o ≡ Some y → ((x : X) → o ≡ Some x → f x ≡ y → P) → P
made_of f None y h answers = cc
made_of f (Some x) y h answers = answers x refl (some_is (f x) y h)

-- what stands at the number of an entry is that entry
stands_alike : {X : Type 0} (alike : X → X → Bool) (decides : (x y : X) → Decides (alike x y) (x ≡ y)) (xs : List X) (x y : X)
    → slice_get xs (number_in alike xs x) ≡ Some y → x ≡ y
stands_alike alike decides [] x y h = cc
stands_alike alike decides (z ∷ zs) x y h = at_first (alike x z) (λ e. (decides x z).0 e) (stands_alike alike decides zs x y) h
  where
    at_first : (b : Bool) → (b ≡ true → x ≡ z) → (slice_get zs (number_in alike zs x) ≡ Some y → x ≡ y)
        → slice_get (z ∷ zs) (if b then 0 else suc (number_in alike zs x)) ≡ Some y → x ≡ y
    at_first true is further h = is refl ∙ some_is z y h
    at_first false is further h = further h

stated_is : (t : ParameterType) (d : Description) → stated t ≡ Some d → t ≡ Stated d
stated_is (Stated e) d h = ap Stated (some_is e d h)
stated_is other d h = cc

module _ (tables : NumberedTables) (u : TypedUnit) (bs : List BlockTree) (code : List programs.Instruction)
    (descriptions : AreOnce same_type tables.descriptions) (templates : AreOnce same_template tables.templates) where
  abbrev c : Code
  c = coded_unit tables u bs code

  description_found : (n : ℕ) (d : Description) → stated_at c n ≡ Some d → stated_number tables d ≡ n
  description_found n d h =
      option_and_then_some stated (slice_get tables.descriptions n) d h (λ t there is. descriptions n (Stated d) (there ∙ ap Some (stated_is t d is)))

  -- the description that a template's number stands for is the template's
  same_description : (d e : Description) → stated_at c (stated_number tables d) ≡ Some e → d ≡ e
  same_description d e h =
      option_and_then_some stated (slice_get tables.descriptions (stated_number tables d)) e h
      (λ t there is. some_is d e (ap stated (stands_alike same_type same_type_decides tables.descriptions (Stated d) t there) ∙ is))

  described_alike : (t s : Template) (o : Option Description) → o ≡ stated_at c (stated_number tables t.description) → described c t.initial o ≡ Some s → t ≡ s
  described_alike t s None e h = cc
  described_alike t s (Some d) e h =
      ap (λ d. record { description = d; initial = t.initial }) (same_description t.description d (sym e))
      ∙ some_is (record { description = d; initial = t.initial }) s h

  template_alike : (o : Option Template) (t : Template) → with_description c (option_map (template_code tables) o) ≡ Some t → o ≡ Some t
  template_alike None t h = cc
  template_alike (Some s) t h = ap Some (described_alike s t (stated_at c (stated_number tables s.description)) refl h)

  template_found : (n : ℕ) (t : Template) → template_at c n ≡ Some t → template_number tables t ≡ n
  template_found n t h =
      templates n t (template_alike (slice_get tables.templates n) t (ap (with_description c) (sym (slice_get-map (template_code tables) tables.templates n)) ∙ h))

pub numbers_are_found : NumbersAreFound
numbers_are_found tables u bs code descriptions templates values i j h = by i h
  where
    found : (n : ℕ) (d : Description) → stated_at (coded_unit tables u bs code) n ≡ Some d → stated_number tables d ≡ n
    found n d e = description_found tables u bs code descriptions templates n d e

    made : (n : ℕ) (t : Template) → template_at (coded_unit tables u bs code) n ≡ Some t → template_number tables t ≡ n
    made n t e = template_found tables u bs code descriptions templates n t e

    by : (i : Instruction) → looked_up (coded_unit tables u bs code) i ≡ Some j → instruction_code tables j ≡ i
    by (op.Field offset n) h =
        made_of (op.Field offset) _ j h (λ d there is. ap (instruction_code tables) (sym is) ∙ ap (op.Field offset) (found n d there))
    by (op.Based n) h = made_of op.Based _ j h (λ d there is. ap (instruction_code tables) (sym is) ∙ ap op.Based (found n d there))
    by (op.Fit n) h = made_of op.Fit _ j h (λ d there is. ap (instruction_code tables) (sym is) ∙ ap op.Fit (found n d there))
    by (op.FreeBased n) h = made_of op.FreeBased _ j h (λ d there is. ap (instruction_code tables) (sym is) ∙ ap op.FreeBased (found n d there))
    by (op.Constant n) h = made_of op.Constant _ j h (λ v there is. ap (instruction_code tables) (sym is) ∙ ap op.Constant (values n v there))
    by (op.MakeDummy n) h = made_of op.MakeDummy _ j h (λ t there is. ap (instruction_code tables) (sym is) ∙ ap op.MakeDummy (made n t there))
    by (op.AllocateBased n) h =
        made_of op.AllocateBased _ j h (λ t there is. ap (instruction_code tables) (sym is) ∙ ap op.AllocateBased (made n t there))
    by (op.AllocateInArea n target) h =
        made_of (λ t. op.AllocateInArea t target) _ j h
        (λ t there is. ap (instruction_code tables) (sym is) ∙ ap (λ n. op.AllocateInArea n target) (made n t there))
    by (op.Step s) h = ap (instruction_code tables) (sym (some_is (op.Step s) j h))
    by plain h = ap (λ o. unwrap_or (option_map (instruction_code tables) o) plain) (sym h)

-- Where a variable begins is known wherever the blocks around have the slots that its unit gives them.
use Rattle.std.specs.Prelude.{◌≡◌, ℕ, suc, ◌≤◌, nat_eq, Bool, true, false, Option, Some, None, option_map}
use Rattle.std.specs.Prelude.{List, [], ◌∷◌, length, slice_get, if◌then◌else◌, refl}
use Rattle.std.proofs.Common.{sym, ◌∙◌, ap, subst}
use Rattle.std.proofs.lemmas.Bool.{eqb-true}
use Rattle.std.proofs.lemmas.Option.{same_Some, none-some}
use Rattle.pli_map.specs.ParameterTypes.{ParameterType}
use Rattle.pli_program.specs.declared.kind.VariableKind.TheVariants.{Static, Controlled}
use Rattle.pli_declare.specs.ResolvedUnits.{ResolvedUnit}
use Rattle.pli_type_rules.specs.NamedUnits.{outward_to, named_unit}
use Rattle.pli_type_rules.specs.Names.{NamedUnit}
use Rattle.pli_type_tree.specs.Globals.{described_as}
use Rattle.pli_type_tree.specs.TypedTree.{Root, InSlot, OfProgram, NewestOf, Located}
use Rattle.pli_type_tree.specs.WellTyped.{BlockAround, TypingContext, slot_of, parameters_in, BeginsWhole, IsRooted}
use Rattle.pli_type_laws.specs.NameFacts.{HaveSlots}
use Rattle.pli_type_laws.specs.SourceBlocks.{slots_in}
use Rattle.pli_type_laws.proofs.RootsStand.{Standing}

-- a block around has the parameters and the slots of its number
abbrev IsAround : NamedUnit → List BlockAround → (block outward : ℕ) → Type 0
IsAround u bs block outward =
    (b : BlockAround) × (slice_get bs outward ≡ Some b) × (b.parameters ≡ length (u.parameters block)) × (b.slots ≡ slots_in u block)

block_there : (u : NamedUnit) (numbers : List ℕ) (bs : List BlockAround) (block outward : ℕ) → HaveSlots u numbers bs
    → outward_to numbers block ≡ Some outward → IsAround u bs block outward
block_there u [] bs block outward h at = absurd (none-some outward at)
block_there u (n ∷ ns) [] block outward h at = absurd h
block_there u (n ∷ ns) (b ∷ bs) block outward h at =
    by (nat_eq n block) refl at (λ k is. block_there u ns bs block k h.2 is)
  where
    next : (o : Option ℕ) → outward_to ns block ≡ o → option_map suc o ≡ Some outward
        → ((k : ℕ) → outward_to ns block ≡ Some k → IsAround u bs block k) → IsAround u (b ∷ bs) block outward
    next None is e rest = absurd (none-some outward e)
    next (Some k) is e rest = subst (IsAround u (b ∷ bs) block) (same_Some (suc k) outward e) (rest k is)

    by : (c : Bool) → nat_eq n block ≡ c → (if c then Some 0 else option_map suc (outward_to ns block)) ≡ Some outward
        → ((k : ℕ) → outward_to ns block ≡ Some k → IsAround u bs block k) → IsAround u (b ∷ bs) block outward
    by true same e rest =
        let is : n ≡ block = eqb-true n block same in
        subst (IsAround u (b ∷ bs) block) (same_Some 0 outward e)
        (b, refl, h.1.0 ∙ ap (λ k. length (u.parameters k)) is, h.1.1 ∙ ap (slots_in u) is)
    by false same e rest = next (outward_to ns block) refl e rest

module _ (r : ResolvedUnit) where
  abbrev U : NamedUnit
  U = named_unit 63 r

  pub in_context : (blocks : List ℕ) (n : ℕ) (s : TypingContext) (is_parameter : Bool) (root : Root) (type : ParameterType)
      → s.globals ≡ U.globals → HaveSlots U blocks s.blocks → Standing 63 r blocks is_parameter root type
      → IsRooted n s root type × (is_parameter ≡ false → BeginsWhole s root)
  in_context blocks n s is_parameter (InSlot outward slot) type globals slots h =
      let b = block_there U blocks s.blocks h.0 outward slots h.1 in (
        ap (λ o. slot_of o slot) b.1 ∙ ap (λ ds. slice_get ds slot) b.3 ∙ h.2,
        λ own. subst (λ o. parameters_in o ≤ slot) (sym b.1) (subst (λ k. k ≤ slot) (sym b.2) (h.3 own)),
      )
  in_context blocks n s is_parameter (OfProgram number) type globals slots h =
      ((h.0, h.1, ap (λ gs. described_as Static (slice_get gs number)) globals ∙ h.2), λ own. tt)
  in_context blocks n s is_parameter (NewestOf number) type globals slots h =
      ((h.0, h.1, ap (λ gs. described_as Controlled (slice_get gs number)) globals ∙ h.2), λ own. tt)
  in_context blocks n s is_parameter (Located locator whole) type globals slots h = absurd h

-- What a build from scratch makes is spelled by its bytes.
use Rattle.std.specs.Prelude.{◌≡◌, ℕ, ◌≤◌, ◌<◌, false, Result, Ok, Err, List, [], ◌∷◌, length, map, position, refl}
use Rattle.std.specs.List.{AllByRecursion}
use Rattle.std.specs.Map.{keys_of}
use Rattle.std.proofs.Common.{ap, sym, subst, ◌∙◌, arith}
use Rattle.std.proofs.lemmas.Bool.{ltb-false}
use Rattle.std.proofs.lemmas.List.{length-append}
use Rattle.pli_base.specs.Name.{Name}
use Rattle.pli_deck_laws.specs.WellFormed.{IsWellFormed}
use Rattle.pli_deck_laws.specs.UnitTypes.{IsTypedUnit}
use Rattle.pli_deck_laws.proofs.DecksSay.{units_are_said}
use Rattle.pli_deck_laws.proofs.FieldsFit.{fits_name}
use Rattle.pli_link.specs.Link.{link_faults}
use Rattle.pli_link.specs.LinkedModule.{link_of}
use Rattle.pli_link.specs.Links.{linked_unit, module_of}
use Rattle.pli_link.specs.Names.{externals, procedures}
use Rattle.pli_link.specs.Units.{Compiled, AreWritten}
use Rattle.pli_link.specs.declared.linking.LinkFault.{LinkFault}
use Rattle.pli_deck_write.specs.DeckBytes.{deck_written}
use Rattle.pli_deck_write.specs.DeckFields.{any_version}
use Rattle.pli_deck_write.specs.Spelling.{deck_bytes}
use Rattle.pli_deck_write.proofs.BytesAlike.{deck_same}
use Rattle.pli_link.proofs.LinkAlike.{links_alike}
use Rattle.pli_link_laws.specs.LinkedModules.{IsSaidAlone}
use Rattle.pli_link_laws.proofs.LinkedFrom.{of_faultless}
use Rattle.pli_link_laws.proofs.ModulesSay.{linked_modules_are_spelled}
use Rattle.pli_meaning.specs.MemberParts.{all_text, all_units, units_in, units_of}
use Rattle.pli_meaning.specs.Scratch.{Diagnostic, scratch, built, linked, Made, is_long, compiled_of}
use Rattle.pli_meaning.proofs.UnitsOfTrees.{coded_tree, AreOfMembers, all_coded}
use Rattle.pli_members.specs.Members.{Member}
use Rattle.pli_members.specs.declared.kind.MemberKind.{MemberKind}
use Rattle.pli_members.specs.declared.kind.MemberKind.TheVariants.{Source, Include}
use Rattle.pli_type_tree.specs.TypedTree.{TypedUnit}
use Rattle.pli_code.specs.CodeTables.{Deck}
use Rattle.pli_code.specs.Modules.{Module}
use Rattle.pli_build_laws.specs.BuiltModules.{BuiltModulesAreSpelled}
use Rattle.pli_build_laws.proofs.FormedMembers.{tree_formed, named_formed}

-- a module was made: there is no diagnostic, and the units are linked to it
record IsMadeOf (text : List ℕ) (cs : List Compiled) (m : Module) : Type 0 where
  none : text ≡ []
  of : link_of cs ≡ Ok m

linked_made : (r : Result Module (List LinkFault)) (m : Module) → linked r ≡ Made m → r ≡ Ok m
linked_made (Ok x) m h = let same : x ≡ m = cc in ap (λ (y : Module). Ok y) same
linked_made (Err fs) m h = let bad : ⊥ = cc in absurd bad

made_of : (text : List ℕ) (cs : List Compiled) (m : Module) → built text cs ≡ Made m → IsMadeOf text cs m
made_of [] cs m h = record { none = refl; of = linked_made (link_of cs) m h }
made_of (b ∷ text) cs m h = let bad : ⊥ = cc in absurd bad

-- a deck that is not too long has few bytes
few_bytes : (d : Deck) → is_long d ≡ false → length (deck_bytes d) < 4294967296
few_bytes d short =
    let few = ltb-false 4294967295 (length (deck_written d)) short in
    let same = ap length (deck_same any_version d) in
    omega (arith, few, same)

module _ (entries : List (Name × Member)) where
  -- each unit has a spelling for itself, whatever it is linked to
  module _ (names : List Name) (numbers : List (Name × ℕ)) where
    all_said : (us : List TypedUnit) → AreOfMembers entries us → AllByRecursion IsTypedUnit (map (linked_unit names numbers) (map coded_tree us))
        → AllByRecursion IsSaidAlone (map (linked_unit names numbers) (map coded_tree us))
    all_said [] h typed = tt
    all_said (u ∷ us) h typed =
        let formed = subst IsWellFormed (sym h.0.is) (named_formed u.name h.0.tree (tree_formed entries u.name h.0.tree h.0.spelled)) in (
          record {
            named = fits_name u.name typed.0.name;
            is_deck = units_are_said u (coded_tree u).deck h.0.numbered formed h.0.fits refl refl typed.0.deck;
            short = few_bytes (coded_tree u).deck h.0.short;
          },
          all_said us h.1 typed.1,
        )

  one_at_most : (r : Result Compiled (List Diagnostic)) → length (units_of r) ≤ 1
  one_at_most (Ok c) = omega arith
  one_at_most (Err ds) = omega arith

  in_member : (name : Name) (kind : MemberKind) → length (units_in entries name kind) ≤ 1
  in_member name Source = one_at_most (compiled_of entries name)
  in_member name Include = omega arith

  units_few : (some : List (Name × Member)) → length (all_units entries some) ≤ length some
  units_few [] = omega arith
  units_few (x ∷ xs) =
      let one = in_member x.0 x.1.kind in
      let others = units_few xs in
      let all = length-append (units_in entries x.0 x.1.kind) (all_units entries xs) in
      omega (arith, one, others, all)

trees_written : (us : List TypedUnit) → AreWritten (map coded_tree us)
trees_written [] = tt
trees_written (u ∷ us) = (refl, trees_written us)

-- units without diagnostics have decks of the written version
pub units_are_written : (entries : List (Name × Member)) → all_text entries entries ≡ [] → AreWritten (all_units entries entries)
units_are_written entries none =
    let trees = all_coded entries entries none in
    subst AreWritten (sym trees.coded) (trees_written trees.trees)

pub built_modules_are_spelled : BuiltModulesAreSpelled
unfolding scratch
built_modules_are_spelled entries m few is typed =
    let cs = all_units entries entries in
    let made = made_of (all_text entries entries) cs m is in
    let trees = all_coded entries entries made.none in
    let coded = map coded_tree trees.trees in
    let o = of_faultless (link_faults cs) (position (λ (c : Compiled). c.deck.is_main) cs) cs m (sym (links_alike cs) ∙ made.of) in
    let same : module_of coded o.main ≡ m = ap (λ xs. module_of xs o.main) (sym trees.coded) ∙ o.is in
    let said = subst (λ (n : Module). AllByRecursion IsTypedUnit n.units → AllByRecursion IsSaidAlone n.units) same
    (all_said entries (keys_of (externals coded)) (procedures coded) trees.trees trees.good) in
    let fewer = units_few entries entries in
    linked_modules_are_spelled cs m (units_are_written entries made.none) made.of (omega (arith, fewer, few)) (said typed)

-- The trees of members are well formed.
use Rattle.std.specs.Prelude.{◌≡◌, ◌≤◌, Result, Ok, Err, List, [], ◌∷◌, length, refl}
use Rattle.std.proofs.Common.{ap, sym, ◌∙◌}
use Rattle.pli_base.specs.Name.{Name}
use Rattle.pli_base.specs.Statements.{ExternalProcedure}
use Rattle.pli_base.specs.Words.{Tokens}
use Rattle.pli_base.specs.declared.token.Fault.{Fault}
use Rattle.pli_base.specs.declared.token.Origin.{Origin}
use Rattle.pli_declarations.specs.Units as declarations
use Rattle.pli_declarations.proofs.UnitsAlike.{faults_alike}
use Rattle.pli_declare.specs.Resolution.{resolution_faults}
use Rattle.pli_deck_laws.specs.WellFormed.{IsWellFormed}
use Rattle.pli_grammar.proofs.UnitsAlike.{unit_same}
use Rattle.pli_include.specs.Expanded.{look_in, outcome_of}
use Rattle.pli_include.specs.Expansion.{Outcome, token_limit}
use Rattle.pli_include.proofs.StepsKeep.{texts_have_origins}
use Rattle.pli_meaning.specs.Programs.{of_member}
use Rattle.pli_meaning.specs.Scratch.{typed_unless, program_of, parsed_from, parsed_of}
use Rattle.pli_meaning.specs.MemberParts.{program_from, all_located}
use Rattle.pli_members.specs.Members.{Member}
use Rattle.pli_parse_statement.specs.StatementReading.{unit_of}
use Rattle.pli_type_tree.specs.TypedTree.{TypedUnit}
use Rattle.pli_type_bounds.proofs.UnitsFit.{typed_units_are_well_formed}
use Rattle.pli_meaning.proofs.DeclaredUnits.{declared_units}

-- what was read of so many tokens
module _ (texts : Tokens) (few : length texts ≤ 200000) (t : TypedUnit) where
  unless_formed : (u : ExternalProcedure) → unit_of texts ≡ Ok u → (faults : List Fault) → resolution_faults u ≡ faults → typed_unless faults u ≡ Ok t → IsWellFormed t
  unless_formed u read [] none typed = typed_units_are_well_formed texts u t few read none (sym (declared_units u none) ∙ typed)
  unless_formed u read (f ∷ fs) some typed = let bad : ⊥ = cc in absurd bad

  program_formed : program_of texts ≡ Ok t → IsWellFormed t
  program_formed h = by (unit_of texts) refl (sym (ap program_from (unit_same texts)) ∙ h)
    where
      by : (r : Result ExternalProcedure Fault) → unit_of texts ≡ r → program_from r ≡ Ok t → IsWellFormed t
      by (Ok u) read h = unless_formed u read (declarations.resolution_faults u) (sym (faults_alike u)) h
      by (Err f) read h = let bad : ⊥ = cc in absurd bad

located_ok : (name : Name) (origins : List Origin) (r : Result TypedUnit (List Fault)) (t : TypedUnit) → all_located name origins r ≡ Ok t → r ≡ Ok t
located_ok name origins (Ok x) t h = let same : x ≡ t = cc in ap (λ (y : TypedUnit). Ok y) same
located_ok name origins (Err fs) t h = let bad : ⊥ = cc in absurd bad

pub tree_formed : (entries : List (Name × Member)) (name : Name) (t : TypedUnit) → parsed_of entries name ≡ Ok t → IsWellFormed t
unfolding parsed_of
tree_formed entries name t h = by (outcome_of entries name) refl h
  where
    by : (o : Outcome) → outcome_of entries name ≡ o → parsed_from name o ≡ Ok t → IsWellFormed t
    by (Ok p) expanded h = program_formed p.texts (texts_have_origins token_limit (look_in entries) name p expanded).1 t (located_ok name p.origins (program_of p.texts) t h)
    by (Err stop) expanded h = let bad : ⊥ = cc in absurd bad

-- whatever the member is called
pub named_formed : (name : Name) (t : TypedUnit) → IsWellFormed t → IsWellFormed (of_member name t)
named_formed name t h = record { signature = h.signature; globals = h.globals; some = h.some; procedures = h.procedures }

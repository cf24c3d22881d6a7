-- What the linker finds in the tables of a unit's code: what its tree has.
use Rattle.std.specs.Prelude.{◌≡◌, ℕ, ◌+◌, Option, Some, None, option_map, List, [], ◌∷◌, ◌++◌, map, refl}
use Rattle.std.specs.List.{flat_map, AllByRecursion}
use Rattle.std.specs.Option.{option_and_then}
use Rattle.std.proofs.Common.{ap, ◌∙◌}
use Rattle.std.proofs.lemmas.Option.{slice_get-map}
use Rattle.pli_base.specs.Name.{Name}
use Rattle.pli_map.specs.Description.{Description}
use Rattle.pli_map.specs.ParameterTypes.{ParameterType, Stated, stated, same_type}
use Rattle.pli_map.specs.laws.ParameterLaws.{same_type_decides}
use Rattle.pli_meaning_typed.specs.TypedPrograms.{made_of_kind}
use Rattle.pli_program.specs.declared.kind.VariableKind.{VariableKind}
use Rattle.pli_program.specs.declared.kind.VariableKind.TheVariants.{Static, Controlled}
use Rattle.pli_type_tree.specs.Templates.{Template}
use Rattle.pli_type_tree.specs.TypedTree.{Signature, Global, OwnVariable, ExternalVariable, EntryPoint, TypedUnit}
use Rattle.pli_code.specs.CodeTables.{CodedGlobal, template_at, there, with_description, described}
use Rattle.pli_gen_emit.specs.TreeTranslation.{blocks_of, instructions_of}
use Rattle.pli_gen_emit.specs.Encoding.{NumberedTables, tables_for, description_number, stated_number, template_number, template_code, signature_code, global_code, code_of}
use Rattle.pli_gen_emit.specs.Encoding.{signature_descriptions, global_descriptions, global_templates, block_templates, descriptions_named, templates_named}
use Rattle.pli_gen.specs.laws.ListLaws.{all_front, all_back}
use Rattle.pli_type_keys.specs.Same.{same_template}
use Rattle.pli_type_keys.specs.laws.KeyLaws.{template_decides}
use Rattle.pli_gen_emit.proofs.TableNumbers.{Has, number_stands, has_all}
use Rattle.pli_gen.proofs.UnitLemmas.{globals_described}
use Rattle.pli_link.specs.Alike.{FoundSignature, description_at, signature_at}
use Rattle.pli_link.specs.ModuleSize.{made_of, own_of}
use Rattle.pli_link.specs.Names.{Declaration, shared_from}

-- a signature that was found whole
abbrev pub found : Signature → FoundSignature
found s = record { parameters = map Some s.parameters; result = option_map (λ d. Some (Stated d)) s.result }

-- the variables that units share are declared so
abbrev pub AreDeclared : List Global → List (Name × Declaration) → Type 0
AreDeclared [] [] = Unit {0}
AreDeclared [] (d ∷ ds) = ⊥
AreDeclared (OwnVariable kind t ∷ gs) ds = AreDeclared gs ds
AreDeclared (ExternalVariable name kind t ∷ gs) [] = ⊥
AreDeclared (ExternalVariable name kind t ∷ gs) (d ∷ ds) = (d.0 ≡ name) × (d.1.kind ≡ kind) × (d.1.template ≡ Some t) × AreDeclared gs ds
AreDeclared (EntryPoint name signature ∷ gs) ds = AreDeclared gs ds

-- the STATIC variables that a unit has for itself
abbrev pub own_one : Global → List Template
own_one (OwnVariable kind t) = made_of_kind kind t
own_one (ExternalVariable name kind t) = []
own_one (EntryPoint name signature) = []

abbrev pub owned : List Global → List Template
owned gs = flat_map own_one gs

-- the linker counts what is made
pub made_same : (kind : VariableKind) (t : Template) → made_of kind (Some t) ≡ made_of_kind kind t
made_same Static t = refl
made_same Controlled t = refl

-- the tables of a unit
abbrev pub tables : TypedUnit → NumberedTables
tables u = tables_for u (blocks_of u) (instructions_of (blocks_of u))

abbrev pub coded_global : TypedUnit → Global → CodedGlobal
coded_global u g = global_code (tables u) g

module _ (u : TypedUnit) where
  abbrev IsDescribed : ParameterType → Type 0
  IsDescribed t = description_at (code_of u) (description_number (tables u) t) ≡ Some t

  abbrev IsThere : Template → Type 0
  IsThere t = template_at (code_of u) (template_number (tables u) t) ≡ Some t

  abbrev HasDescription : ParameterType → Type 0
  HasDescription t = Has same_type same_type_decides (tables u).descriptions t

  abbrev HasTemplate : Template → Type 0
  HasTemplate t = Has same_template template_decides (tables u).templates t

  description_there : (t : ParameterType) → HasDescription t → IsDescribed t
  description_there t h = number_stands same_type same_type_decides (tables u).descriptions t h

  template_there : (t : Template) → HasTemplate t → HasDescription (Stated t.description) → IsThere t
  template_there t h d =
      ap (with_description (code_of u)) (slice_get-map (template_code (tables u)) (tables u).templates (template_number (tables u) t) ∙ ap (option_map (template_code (tables u))) (number_stands same_template template_decides (tables u).templates t h))
      ∙ ap (λ o. described (code_of u) t.initial (option_and_then stated o)) (description_there (Stated t.description) d)

  all_described : (ds : List ParameterType) → AllByRecursion HasDescription ds → AllByRecursion IsDescribed ds
  all_described [] h = tt
  all_described (d ∷ ds) h = (description_there d h.0, all_described ds h.1)

  all_there : (ts : List Template) → AllByRecursion HasTemplate ts → AllByRecursion HasDescription (map (λ t. Stated t.description) ts) → AllByRecursion IsThere ts
  all_there [] h d = tt
  all_there (t ∷ ts) h d = (template_there t h.0 d.0, all_there ts h.1 d.1)

  front_described : AllByRecursion HasDescription (signature_descriptions u.signature ++ flat_map global_descriptions u.globals)
  front_described =
      let bs = blocks_of u in
      let code = instructions_of bs in
      let inside = map (λ t. Stated t.description) (block_templates bs) in
      let named = flat_map descriptions_named code in
      let front = signature_descriptions u.signature ++ flat_map global_descriptions u.globals in
      all_front HasDescription front inside (all_front HasDescription (front ++ inside) named (has_all same_type same_type_decides (front ++ inside ++ named) []))

  signature_described : AllByRecursion IsDescribed (signature_descriptions u.signature)
  signature_described = all_described _ (all_front HasDescription (signature_descriptions u.signature) (flat_map global_descriptions u.globals) front_described)

  globals_have : AllByRecursion HasDescription (flat_map global_descriptions u.globals)
  globals_have = all_back HasDescription (signature_descriptions u.signature) (flat_map global_descriptions u.globals) front_described

  templates_there : AllByRecursion IsThere (flat_map global_templates u.globals)
  templates_there =
      let bs = blocks_of u in
      let code = instructions_of bs in
      let outside = flat_map global_templates u.globals in
      let inside = block_templates bs in
      let named = flat_map templates_named code in
      all_there outside
      (all_front HasTemplate outside inside (all_front HasTemplate (outside ++ inside) named (has_all same_template template_decides (outside ++ inside ++ named) [])))
      (globals_described (tables u).descriptions u.globals globals_have)

  -- signatures are found whole

  parameters_found : (ds : List ParameterType) → AllByRecursion IsDescribed ds → map (description_at (code_of u)) (map (description_number (tables u)) ds) ≡ map Some ds
  parameters_found [] h = refl
  parameters_found (d ∷ ds) h =
      ap (λ o. o ∷ map (description_at (code_of u)) (map (description_number (tables u)) ds)) h.0 ∙ ap (λ os. Some d ∷ os) (parameters_found ds h.1)

  result_found : (d : Option Description) → AllByRecursion IsDescribed (map Stated (there d))
      → option_map (description_at (code_of u)) (option_map (stated_number (tables u)) d) ≡ option_map (λ d. Some (Stated d)) d
  result_found None h = refl
  result_found (Some d) h = ap Some h.0

  abbrev with_parts : List (Option ParameterType) → Option (Option ParameterType) → FoundSignature
  with_parts ps r = record { parameters = ps; result = r }

  signature_found : (s : Signature) → AllByRecursion IsDescribed (signature_descriptions s) → signature_at (code_of u) (signature_code (tables u) s) ≡ found s
  signature_found s h =
      ap (λ ps. with_parts ps (option_map (description_at (code_of u)) (option_map (stated_number (tables u)) s.result))) (parameters_found s.parameters (all_front IsDescribed s.parameters (map Stated (there s.result)) h))
      ∙ ap (with_parts (map Some s.parameters)) (result_found s.result (all_back IsDescribed s.parameters (map Stated (there s.result)) h))

  pub own_signature_found : signature_at (code_of u) (code_of u).signature ≡ found u.signature
  own_signature_found = signature_found u.signature signature_described

  -- what is found of a global
  abbrev pub IsFound : Global → Type 0
  IsFound (OwnVariable kind t) = IsThere t
  IsFound (ExternalVariable name kind t) = IsThere t
  IsFound (EntryPoint name s) = signature_at (code_of u) (signature_code (tables u) s) ≡ found s

  globals_found : (gs : List Global) → AllByRecursion HasDescription (flat_map global_descriptions gs) → AllByRecursion IsThere (flat_map global_templates gs) → AllByRecursion IsFound gs
  globals_found [] ds ts = tt
  globals_found (OwnVariable kind t ∷ gs) ds ts = (ts.0, globals_found gs ds.1 ts.1)
  globals_found (ExternalVariable name kind t ∷ gs) ds ts = (ts.0, globals_found gs ds.1 ts.1)
  globals_found (EntryPoint name s ∷ gs) ds ts = (
    signature_found s (all_described _ (all_front HasDescription (signature_descriptions s) (flat_map global_descriptions gs) ds)),
    globals_found gs (all_back HasDescription (signature_descriptions s) (flat_map global_descriptions gs) ds) ts,
  )

  pub all_found : AllByRecursion IsFound u.globals
  all_found = globals_found u.globals globals_have templates_there

  shared_found : (unit global : ℕ) (gs : List Global) → AllByRecursion IsFound gs → AreDeclared gs (shared_from (code_of u) unit global (map (coded_global u) gs))
  shared_found unit global [] h = tt
  shared_found unit global (OwnVariable kind t ∷ gs) h = shared_found unit (global + 1) gs h.1
  shared_found unit global (ExternalVariable name kind t ∷ gs) h = (refl, refl, h.0, shared_found unit (global + 1) gs h.1)
  shared_found unit global (EntryPoint name s ∷ gs) h = shared_found unit (global + 1) gs h.1

  own_found : (gs : List Global) → AllByRecursion IsFound gs → own_of (code_of u) (map (coded_global u) gs) ≡ owned gs
  own_found [] h = refl
  own_found (OwnVariable kind t ∷ gs) h =
      ap (λ o. made_of kind o ++ own_of (code_of u) (map (coded_global u) gs)) h.0
      ∙ ap (λ ts. ts ++ own_of (code_of u) (map (coded_global u) gs)) (made_same kind t) ∙ ap (λ xs. made_of_kind kind t ++ xs) (own_found gs h.1)
  own_found (ExternalVariable name kind t ∷ gs) h = own_found gs h.1
  own_found (EntryPoint name s ∷ gs) h = own_found gs h.1

  pub unit_shares : (unit : ℕ) → AreDeclared u.globals (shared_from (code_of u) unit 0 (code_of u).globals)
  unit_shares unit = shared_found unit 0 u.globals all_found

  pub unit_owns : own_of (code_of u) (code_of u).globals ≡ owned u.globals
  unit_owns = own_found u.globals all_found

-- Linking, as the linker does it by its tables.
use Rattle.std.specs.Prelude.{◌≡◌, ℕ, nat_eq, nat_lt, Bool, true, false, cond, not, ◌&&◌, ◌||◌, Option, Some, None, unwrap_or, is_none, Ok, List, [], ◌∷◌, ◌++◌, length, drop, map, position, if◌then◌else◌, refl}
use Rattle.std.specs.List.{flat_map, fold, list_any, sum_by}
use Rattle.std.specs.Map.{keys_of, values_of}
use Rattle.std.specs.Option.{option_eq}
use Rattle.std.proofs.Common.{sym, ap, ◌∙◌}
use Rattle.pli_base.specs.Name.{Name}
use Rattle.pli_program.specs.declared.kind.VariableKind.{VariableKind}
use Rattle.pli_program.specs.declared.kind.VariableKind.TheVariants.{Static, Controlled}
use Rattle.pli_type_keys.specs.Same.{same_template}
use Rattle.pli_type_tree.specs.Templates.{Template}
use Rattle.pli_code.specs.CodeTables.{Code, CodedGlobal, OwnVariable, ExternalVariable, EntryPoint, there}
use Rattle.pli_code.specs.ModuleParts.{kind_number}
use Rattle.pli_link.specs.Alike.{same_kind, signature_at}
use Rattle.pli_link.specs.Link as old
use Rattle.pli_link.specs.Link.{mains, later, none_among, defined_again}
use Rattle.pli_link.specs.Links as old_links
use Rattle.pli_link.specs.LinkFaults.{same_signature, is_like_first, unresolved, mismatched, found_in, own_in, variables_made, is_too_large, told_if, told_of, link_faults}
use Rattle.pli_link.specs.LinkedModule.{link_in, linked_unit, module_of, module_or, link_of}
use Rattle.pli_link.specs.Mismatches as faulty
use Rattle.pli_link.specs.ModuleSize as sizes
use Rattle.pli_link.specs.ModuleSize.{made_of}
use Rattle.pli_link.specs.Names as old_names
use Rattle.pli_link.specs.Names.{Declaration, with_name, meant, procedures}
use Rattle.pli_link.specs.Shared.{unit_named, externals}
use Rattle.pli_link.specs.Units.{Compiled, procedure_of}
use Rattle.pli_link.specs.declared.global_fault.GlobalFault.{GlobalFault}
use Rattle.pli_link.specs.declared.global_fault.GlobalFault.TheVariants as globals
use Rattle.pli_link.specs.declared.linking.LinkFault.{LinkFault}
use Rattle.pli_link.specs.declared.linking.LinkFault.TheVariants.{NoMainProcedure, TwoMainProcedures, Unresolved, DefinedTwice, Mismatch, ModuleTooLarge}
use Rattle.pli_link.proofs.SharedAlike.{procedure_alike, unit_alike, none_alike, template_alike, externals_alike, number_alike}

-- ---- faults of globals

kinds_alike : (k l : VariableKind) → nat_eq (kind_number k) (kind_number l) ≡ same_kind k l
kinds_alike Static Static = refl
kinds_alike Static Controlled = refl
kinds_alike Controlled Static = refl
kinds_alike Controlled Controlled = refl

like_alike : (kind : VariableKind) (t : Option Template) (first : Option Declaration) → is_like_first kind t first ≡ faulty.is_like_first kind t first
like_alike kind t None = refl
like_alike kind t (Some f) = ap (λ b. b && option_eq same_template f.template t) (kinds_alike f.kind kind)

turned : (name : Name) (b : Bool) → (if b then [] else name ∷ []) ≡ (if not b then name ∷ [] else [])
turned name true = refl
turned name false = refl

of_variable : (name : Name) (kind : VariableKind) (t : Option Template) (p : Option Compiled) (first : Option Declaration)
    → (if is_none p && faulty.is_like_first kind t first then [] else name ∷ []) ≡ (if faulty.is_unlike kind t p first then name ∷ [] else [])
of_variable name kind t (Some c) first = refl
of_variable name kind t None first = turned name (faulty.is_like_first kind t first)

appended_none : {A : Type 0} (xs : List A) → xs ++ [] ≡ xs
appended_none [] = refl
appended_none (x ∷ xs) = ap (λ ys. x ∷ ys) (appended_none xs)

of_entry : (name : Name) (code : Code) (s : _) (p : Option Compiled)
    → flat_map (λ (c : Compiled). if same_signature c.deck.code c.deck.code.signature code s then [] else name ∷ []) (there p)
    ≡ (if faulty.is_unlike_procedure (signature_at code s) p then name ∷ [] else [])
of_entry name code s None = refl
of_entry name code s (Some c) =
    appended_none (if same_signature c.deck.code c.deck.code.signature code s then [] else name ∷ [])
    ∙ turned name (same_signature c.deck.code c.deck.code.signature code s)

unresolved_alike : (cs : List Compiled) (code : Code) (g : CodedGlobal) → unresolved cs code g ≡ faulty.faulty_in cs globals.Unresolved code g
unresolved_alike cs code (OwnVariable kind t) = refl
unresolved_alike cs code (ExternalVariable name kind t) = refl
unresolved_alike cs code (EntryPoint name s) = ap (λ b. if b then name ∷ [] else []) (none_alike cs name)

mismatched_alike : (cs : List Compiled) (code : Code) (g : CodedGlobal) → mismatched cs code g ≡ faulty.faulty_in cs globals.Mismatch code g
mismatched_alike cs code (OwnVariable kind t) = refl
mismatched_alike cs code (ExternalVariable name kind t) =
    (λ i. if is_none (unit_alike cs name i) && like_alike kind (template_alike code t i) (meant (externals_alike cs i) name) i then [] else name ∷ [])
    ∙ of_variable name kind _ (old_names.unit_named cs name) (old_names.first_declaration cs name)
mismatched_alike cs code (EntryPoint name s) =
    (λ i. flat_map (λ (c : Compiled). if same_signature c.deck.code c.deck.code.signature code s then [] else name ∷ []) (there (unit_alike cs name i)))
    ∙ of_entry name code s (old_names.unit_named cs name)

each_once : (before ns : List Name) → fold with_name before ns ≡ faulty.each_once before ns
each_once before [] = refl
each_once before (n ∷ ns) = each_once (with_name before n) ns

found_alike : (cs some : List Compiled) (f : GlobalFault) (names_of : Code → CodedGlobal → List Name)
    → ((code : Code) (g : CodedGlobal) → names_of code g ≡ faulty.faulty_in cs f code g) → found_in names_of some ≡ faulty.faulty_linked cs f some
found_alike cs some f names_of alike =
    λ i. flat_map (λ (c : Compiled). map (λ n. record { name = n; unit = c.unit }) (each_once [] (flat_map (λ (g : CodedGlobal). alike c.deck.code g i) c.deck.code.globals) i)) some

-- ---- how large

own_alike : (code : Code) (g : CodedGlobal) → own_in code g ≡ sizes.own_in code g
own_alike code (OwnVariable kind t) = λ i. made_of kind (template_alike code t i)
own_alike code (ExternalVariable name kind t) = refl
own_alike code (EntryPoint name s) = refl

made_alike : (cs : List Compiled) → variables_made cs ≡ sizes.variables_made cs
made_alike cs = λ i.
    flat_map (λ (c : Compiled). flat_map (λ (g : CodedGlobal). own_alike c.deck.code g i) c.deck.code.globals) cs
    ++ flat_map (λ (d : Declaration). made_of d.kind d.template) (values_of (externals_alike cs i))

large_alike : (cs : List Compiled) → is_too_large cs ≡ sizes.is_too_large cs
large_alike cs = λ i.
    sizes.are_too_large (map (λ (t : Template). t.description) (made_alike cs i)) || nat_lt 65535 (length (externals_alike cs i))
    || nat_lt 1000000 (sum_by (λ (c : Compiled). length c.deck.code.instructions) cs) || nat_lt 65535 (length cs)

-- ---- all faults

no_main : (cs : List Compiled) → told_if (not (list_any (λ (c : Compiled). c.deck.is_main) cs)) NoMainProcedure ≡ none_among (mains cs)
no_main [] = refl
no_main (c ∷ cs) = by c.deck.is_main (no_main cs)
  where
    by : (b : Bool) → told_if (not (list_any (λ (d : Compiled). d.deck.is_main) cs)) NoMainProcedure ≡ none_among (mains cs)
        → told_if (not (b || list_any (λ (d : Compiled). d.deck.is_main) cs)) NoMainProcedure ≡ none_among (cond b (c ∷ mains cs) (mains cs))
    by true h = refl
    by false h = h

after_first : {A : Type 0} (xs : List A) → drop 1 xs ≡ later xs
after_first [] = refl
after_first (x ∷ xs) = refl

faults_alike : (cs : List Compiled) → link_faults cs ≡ old.link_faults cs
faults_alike cs = λ i.
    no_main cs i ++ told_of TwoMainProcedures (map procedure_of (after_first (mains cs) i))
    ++ told_of Unresolved (found_alike cs cs globals.Unresolved (unresolved cs) (unresolved_alike cs) i) ++ told_of DefinedTwice (defined_again [] cs)
    ++ told_of Mismatch (found_alike cs cs globals.Mismatch (mismatched cs) (mismatched_alike cs) i) ++ told_if (large_alike cs i) ModuleTooLarge

-- ---- the module

link_alike : (cs : List Compiled) (g : CodedGlobal) → link_in cs g ≡ old_links.link_in (keys_of (old_names.externals cs)) (procedures cs) g
link_alike cs (OwnVariable kind t) = refl
link_alike cs (ExternalVariable name kind t) = λ i. unwrap_or (number_alike 0 (keys_of (externals_alike cs i)) name i) 0 ∷ []
link_alike cs (EntryPoint name s) = λ i. unwrap_or (sym (procedure_alike cs name) i) 0 ∷ []

unit_of : (cs : List Compiled) (c : Compiled) → linked_unit cs c ≡ old_links.linked_unit (keys_of (old_names.externals cs)) (procedures cs) c
unit_of cs c = λ i. record { name = c.unit; deck = c.deck; links = flat_map (λ (g : CodedGlobal). link_alike cs g i) c.deck.code.globals }

module_alike : (cs : List Compiled) (main : ℕ) → module_of cs main ≡ old_links.module_of cs main
module_alike cs main = λ i. record (old_links.module_of cs main) { externals = map old_links.external_of (externals_alike cs i); units = map (λ (c : Compiled). unit_of cs c i) cs }

or_alike : (faults : List LinkFault) (main : Option ℕ) (cs : List Compiled) → module_or faults main cs ≡ old.module_or faults main cs
or_alike [] (Some main) cs = ap Ok (module_alike cs main)
or_alike [] None cs = refl
or_alike (f ∷ fs) main cs = refl

-- linking gives what the linker gives
pub links_alike : (cs : List Compiled) → link_of cs ≡ old.link_of cs
links_alike cs =
    ap (λ fs. module_or fs (position (λ (c : Compiled). c.deck.is_main) cs) cs) (faults_alike cs)
    ∙ or_alike (old.link_faults cs) (position (λ (c : Compiled). c.deck.is_main) cs) cs

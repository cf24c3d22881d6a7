-- Where members have no diagnostics, each source member has a tree, which is typed and numbered well and takes nothing
-- where it is MAIN, and its unit is the code of that tree.
use Rattle.std.specs.Prelude.{◌≡◌, Bool, true, false, Some, Result, Ok, Err, List, [], ◌∷◌, ◌++◌, map, refl, if◌then◌else◌}
use Rattle.std.specs.List.{flat_map}
use Rattle.std.proofs.Common.{◌∙◌, ap, sym, subst}
use Rattle.pli_base.specs.Name.{Name}
use Rattle.pli_base.specs.declared.token.Fault.{Fault}
use Rattle.pli_base.specs.declared.token.Origin.{Origin}
use Rattle.pli_include.specs.Expanded.{outcome_of}
use Rattle.pli_include.specs.Expansion.{Outcome}
use Rattle.pli_members.specs.Members.{Member}
use Rattle.pli_members.specs.declared.kind.MemberKind.{MemberKind}
use Rattle.pli_members.specs.declared.kind.MemberKind.TheVariants.{Source, Include}
use Rattle.pli_link.specs.Units.{Compiled, as_unit}
use Rattle.pli_link.proofs.Faultless.{front_empty, back_empty}
use Rattle.pli_gen_emit.specs.Encoding.{code_of}
use Rattle.pli_gen_emit.specs.Coding as by_items
use Rattle.pli_gen_emit.proofs.ItemsMake.{code_same}
use Rattle.pli_gen.specs.Limits.{is_too_long}
use Rattle.pli_meaning.specs.CodeLimits as limits
use Rattle.pli_meaning.proofs.LimitsAlike.{limits_alike}
use Rattle.pli_gen.specs.WellNumbered.{IsWellNumbered}
use Rattle.pli_gen_stands.specs.Laws.{AreWellNumbered}
use Rattle.pli_meaning_typed.specs.TypedPrograms.{AreTypedUnits, IsTypedUnit}
use Rattle.pli_declare.specs.ResolvedUnits.{ResolvedUnit, resolved_unit_of}
use Rattle.pli_type_rules.specs.NamedUnits.{named_unit, checked_unit}
use Rattle.pli_type_rules.specs.laws.Laws.{IsFault, IsToldOfTypes}
use Rattle.pli_type_laws.proofs.FaultCodes.{faults_are_of_types}
use Rattle.pli_type_laws.specs.TypedUnits.{MainTakesNothing}
use Rattle.pli_type_laws.proofs.CheckedUnits.{checked_is_typed}
use Rattle.pli_meaning.proofs.DeclaredUnits.{declared_units}
use Rattle.pli_type_tree.specs.TypedTree.{TypedUnit}
use Rattle.pli_code.specs.Decks.{Code, Deck}
use Rattle.pli_code.specs.Versions.{written}
use Rattle.pli_parse_statement.specs.StatementReading.{unit_of}
use Rattle.pli_grammar.proofs.UnitsAlike.{unit_same}
use Rattle.pli_base.specs.Statements.{ExternalProcedure}
use Rattle.pli_base.specs.Words.{Tokens}
use Rattle.pli_declarations.specs.Units as declarations
use Rattle.pli_declarations.proofs.UnitsAlike.{faults_alike}
use Rattle.pli_declare.specs.Resolution.{resolution_faults}
use Rattle.pli_meaning.specs.Programs.{of_member}
use Rattle.pli_meaning.specs.MemberParts.{all_text, all_units, text_in, units_in, source_in, with_tree, program_from, coded_from, all_located, deck_located, units_of}
use Rattle.pli_meaning.specs.Scratch.{Diagnostic, typed_unless, program_of, located, parsed_from, parsed_of, too_long, compiled_tree, is_long, short_deck, compiled_texts, compiled_from, compiled_of, diagnostics_in, diagnostic_line, sources, trees_of}

-- a list with an element is not empty
filled : {A : Type 0} (xs ys : List A) (y : A) → xs ++ y ∷ ys ≡ [] → ⊥
filled [] ys y e = cc
filled (x ∷ xs) ys y e = cc

-- where there are diagnostics there is a text
text_filled : (name : Name) (d : Diagnostic) (ds : List Diagnostic) → flat_map (diagnostic_line name) (d ∷ ds) ≡ [] → ⊥
text_filled name d ds e = filled _ [] 10 (front_empty (diagnostic_line name d) _ e)

-- a tree is typed and numbered well, and takes nothing where it is MAIN
abbrev IsGood : TypedUnit → Type 0
IsGood u = IsTypedUnit 63 u × IsWellNumbered u × MainTakesNothing u

-- what the passes give: such a tree, or a fault at least
abbrev IsRead : Result TypedUnit (List Fault) → Type 0
IsRead (Ok u) = IsGood u
IsRead (Err []) = ⊥
IsRead (Err (fault ∷ faults)) = Unit {0}

told_read : (r : Result TypedUnit (List Fault)) → IsToldOfTypes r → ((u : TypedUnit) → r ≡ Ok u → IsGood u) → IsRead r
told_read (Ok u) told good = good u refl
told_read (Err []) told good = told.0
told_read (Err (fault ∷ faults)) told good = tt

checked_told : (r : ResolvedUnit) → IsToldOfTypes (checked_unit r)
unfolding checked_unit
checked_told r = faults_are_of_types (named_unit 63 r)

typed_read : (texts : Tokens) (unit : ExternalProcedure) → unit_of texts ≡ Ok unit → (faults : List Fault) → resolution_faults unit ≡ faults → IsRead (typed_unless faults unit)
typed_read texts unit read [] none =
    subst IsRead (sym (declared_units unit none))
    (told_read (checked_unit (resolved_unit_of unit)) (checked_told (resolved_unit_of unit)) (checked_is_typed texts unit read))
typed_read texts unit read (fault ∷ faults) some = tt

program_read : (texts : Tokens) → IsRead (program_of texts)
program_read texts = subst (λ (r : Result ExternalProcedure Fault). IsRead (program_from r)) (sym (unit_same texts)) (by (unit_of texts) refl)
  where
    by : (r : Result ExternalProcedure Fault) → unit_of texts ≡ r → IsRead (program_from r)
    by (Ok unit) read = typed_read texts unit read (declarations.resolution_faults unit) (sym (faults_alike unit))
    by (Err fault) read = tt

-- so what is compiled is a deck, or has a fault at least
abbrev pub IsToldOfCompiling : Result Deck (List Fault) → Type 0
IsToldOfCompiling (Ok c) = Unit {0}
IsToldOfCompiling (Err faults) = IsFault faults

deck_told : (d : Deck) (b : Bool) → IsToldOfCompiling (if b then Err (too_long ∷ []) else Ok d)
deck_told d true = tt
deck_told d false = tt

long_told : (u : TypedUnit) (b : Bool) → IsToldOfCompiling (if b then Err (too_long ∷ []) else short_deck (compiled_tree u))
long_told u true = tt
long_told u false = deck_told (compiled_tree u) (is_long (compiled_tree u))

coded_told : (r : Result TypedUnit (List Fault)) → IsRead r → IsToldOfCompiling (coded_from r)
coded_told (Ok u) h = long_told u (limits.is_too_long (by_items.code_of u))
coded_told (Err []) h = h
coded_told (Err (fault ∷ faults)) h = tt

pub compiled_told : (texts : Tokens) → IsToldOfCompiling (compiled_texts texts)
compiled_told texts = coded_told (program_of texts) (program_read texts)

-- the deck of a tree, by the code that is emitted
abbrev pub emitted_tree : TypedUnit → Deck
emitted_tree u = record { version = written; name = u.procedure; is_main = u.is_main; code = code_of u }

-- which is the deck that it is compiled to
tree_emitted : (u : TypedUnit) → compiled_tree u ≡ emitted_tree u
tree_emitted u = ap (λ (c : Code). record { version = written; name = u.procedure; is_main = u.is_main; code = c }) (code_same u)

-- the unit of a tree, with the name of a member
abbrev unit_code : Name → TypedUnit → Compiled
unit_code name u = as_unit name (emitted_tree u)

-- a unit that has a deck
abbrev with_deck : Name → Deck → Result Compiled (List Diagnostic)
with_deck name d = Ok (as_unit name d)

-- a unit without diagnostics: its tree is typed and numbered well, and this is its deck, which is not too long, and
-- neither is its code
record IsClean (name : Name) (r : Result TypedUnit (List Diagnostic)) (c : Result Compiled (List Diagnostic)) : Type 0 where
  tree : TypedUnit
  spelled : r ≡ Ok tree
  good : IsGood tree
  fits : is_too_long (code_of tree) ≡ false
  short : is_long (emitted_tree tree) ≡ false
  code : c ≡ Ok (unit_code name tree)

short_clean : (name : Name) (origins : List Origin) (u : TypedUnit) (b : Bool) → is_too_long (by_items.code_of u) ≡ false → is_long (compiled_tree u) ≡ b → IsGood u
    → diagnostics_in name (deck_located name origins (if b then Err (too_long ∷ []) else Ok (compiled_tree u))) ≡ []
    → IsClean name (Ok u) (deck_located name origins (if b then Err (too_long ∷ []) else Ok (compiled_tree u)))
short_clean name origins u true fits long good e = absurd (text_filled name (located name origins too_long) [] e)
short_clean name origins u false fits short good e = record {
  tree = u;
  spelled = refl;
  good = good;
  fits = ap is_too_long (sym (code_same u)) ∙ fits;
  short = ap is_long (sym (tree_emitted u)) ∙ short;
  code = ap (with_deck name) (tree_emitted u);
}

chosen_clean : (name : Name) (origins : List Origin) (u : TypedUnit) (b : Bool) → is_too_long (by_items.code_of u) ≡ b → IsGood u
    → diagnostics_in name (deck_located name origins (if b then Err (too_long ∷ []) else short_deck (compiled_tree u))) ≡ []
    → IsClean name (Ok u) (deck_located name origins (if b then Err (too_long ∷ []) else short_deck (compiled_tree u)))
chosen_clean name origins u true is good e = absurd (text_filled name (located name origins too_long) [] e)
chosen_clean name origins u false is good e = short_clean name origins u (is_long (compiled_tree u)) is refl good e

read_clean : (name : Name) (origins : List Origin) (r : Result TypedUnit (List Fault)) → IsRead r
    → diagnostics_in name (deck_located name origins (coded_from r)) ≡ [] → IsClean name (all_located name origins r) (deck_located name origins (coded_from r))
read_clean name origins (Ok u) h e = chosen_clean name origins u (limits.is_too_long (by_items.code_of u)) (sym (limits_alike (by_items.code_of u))) h e
read_clean name origins (Err []) h e = absurd h
read_clean name origins (Err (fault ∷ faults)) h e = absurd (text_filled name (located name origins fault) (map (located name origins) faults) e)

compiled_clean : (name : Name) (o : Outcome) → diagnostics_in name (compiled_from name o) ≡ [] → IsClean name (parsed_from name o) (compiled_from name o)
compiled_clean name (Err stop) e = absurd (text_filled name (record { origin = stop.fault.origin; code = stop.fault.code }) [] e)
compiled_clean name (Ok p) e = read_clean name p.origins (program_of p.texts) (program_read p.texts) e

-- a unit without diagnostics
unit_clean : (entries : List (Name × Member)) (name : Name) → diagnostics_in name (compiled_of entries name) ≡ []
    → IsClean name (parsed_of entries name) (compiled_of entries name)
unfolding compiled_of parsed_of
unit_clean entries name e = compiled_clean name (outcome_of entries name) e

-- the unit of a tree that has the name of a member
abbrev pub coded_tree : TypedUnit → Compiled
coded_tree u = unit_code u.name u

-- a tree of a member: it is typed and numbered well, takes nothing where it is MAIN, and neither its code nor its deck
-- is too long
pub record IsOfMember (entries : List (Name × Member)) (u : TypedUnit) : Type 0 where
  pub tree : TypedUnit
  pub spelled : parsed_of entries u.name ≡ Ok tree
  pub is : u ≡ of_member u.name tree
  pub typed : IsTypedUnit 63 u
  pub numbered : IsWellNumbered u
  pub main : MainTakesNothing u
  pub fits : is_too_long (code_of u) ≡ false
  pub short : is_long (emitted_tree u) ≡ false

abbrev pub AreOfMembers : List (Name × Member) → List TypedUnit → Type 0
AreOfMembers entries [] = Unit {0}
AreOfMembers entries (u ∷ us) = IsOfMember entries u × AreOfMembers entries us

named_typed : (name : Name) (u : TypedUnit) → IsTypedUnit 63 u → IsTypedUnit 63 (of_member name u)
named_typed name u h = record { procedures = h.procedures; outer = h.outer; made = h.made; typed = h.typed }

named_numbered : (name : Name) (u : TypedUnit) → IsWellNumbered u → IsWellNumbered (of_member name u)
named_numbered name u h =
    record {
      blocks = h.blocks;
      statements = h.statements;
      loops = h.loops;
      temporaries = h.temporaries;
      units = h.units;
    }

-- the trees of members, of which the units are the code
pub record AreCoded (entries some : List (Name × Member)) (cs : List Compiled) : Type 0 where
  pub trees : List TypedUnit
  pub spelled : trees_of entries (sources some) ≡ Some trees
  pub coded : cs ≡ map coded_tree trees
  pub good : AreOfMembers entries trees

module _ (entries : List (Name × Member)) where
  coded_in : (name : Name) (kind : MemberKind) (some : List (Name × Member)) (cs : List Compiled) (member : Member) → member.kind ≡ kind
      → text_in entries name kind ≡ [] → AreCoded entries some cs → AreCoded entries ((name, member) ∷ some) (units_in entries name kind ++ cs)
  coded_in name Source some cs member kind h more =
      let clean = unit_clean entries name h in
      record {
        trees = of_member name clean.tree ∷ more.trees;
        spelled =
            ap (λ k. trees_of entries (source_in name k ++ sources some)) kind
            ∙ ap (λ r. with_tree name r (trees_of entries (sources some))) clean.spelled
            ∙ ap (with_tree name (Ok clean.tree)) more.spelled;
        coded = ap (λ r. units_of r ++ cs) clean.code ∙ ap (λ ds. unit_code name clean.tree ∷ ds) more.coded;
        good = (
          record {
            tree = clean.tree;
            spelled = clean.spelled;
            is = refl;
            typed = named_typed name clean.tree clean.good.0;
            numbered = named_numbered name clean.tree clean.good.1;
            main = clean.good.2;
            fits = clean.fits;
            short = clean.short;
          },
          more.good,
        );
      }
  coded_in name Include some cs member kind h more =
      record {
        trees = more.trees;
        spelled = ap (λ k. trees_of entries (source_in name k ++ sources some)) kind ∙ more.spelled;
        coded = more.coded;
        good = more.good;
      }

  -- where there is no diagnostic, each unit is the code of a member's tree
  pub all_coded : (some : List (Name × Member)) → all_text entries some ≡ [] → AreCoded entries some (all_units entries some)
  all_coded [] h = record { trees = []; spelled = refl; coded = refl; good = tt }
  all_coded (x ∷ xs) h =
      coded_in x.0 x.1.kind xs (all_units entries xs) x.1 refl (front_empty _ _ h) (all_coded xs (back_empty (text_in entries x.0 x.1.kind) _ h))

-- so all are typed and numbered well
pub all_typed : (entries : List (Name × Member)) (us : List TypedUnit) → AreOfMembers entries us → AreTypedUnits 63 us
all_typed entries [] all = tt
all_typed entries (u ∷ us) all = (all.0.typed, all_typed entries us all.1)

pub all_numbered : (entries : List (Name × Member)) (us : List TypedUnit) → AreOfMembers entries us → AreWellNumbered us
all_numbered entries [] all = tt
all_numbered entries (u ∷ us) all = (all.0.numbered, all_numbered entries us all.1)

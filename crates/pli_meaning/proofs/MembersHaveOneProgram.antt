-- Members that have a module have one program, which is well typed, and the module is that of the program.
use Rattle.std.specs.Prelude.{◌≡◌, ℕ, ◌+◌, ◌<◌, zero, suc, nat_lt, Bool, true, false, not, cond, Option, Some, None, List, [], ◌∷◌, map, length, position, slice_get, refl, if◌then◌else◌}
use Rattle.std.specs.List.{position_or_len}
use Rattle.std.proofs.Common.{sym, ◌∙◌, ap, subst, arith}
use Rattle.std.proofs.lemmas.List.{length-map}
use Rattle.pli_base.specs.Name.{Name}
use Rattle.pli_members.specs.Members.{Member}
use Rattle.pli_link.specs.Link.{mains, later, none_among, link_faults, module_or}
use Rattle.pli_link.specs.Links.{module_of}
use Rattle.pli_link.proofs.LinkAlike.{links_alike}
use Rattle.pli_link.specs.Units.{Compiled}
use Rattle.pli_link.specs.declared.linking.LinkFault.{LinkFault}
use Rattle.pli_link.proofs.Faultless.{faultless, small}
use Rattle.pli_code.specs.Modules.{Module}
use Rattle.pli_gen_stands.specs.Laws.{AreWellNumbered}
use Rattle.pli_gen_stands.specs.Linked.{IsModuleOf}
use Rattle.pli_meaning_typed.specs.TypedPrograms.{HasMain, WellTyped}
use Rattle.pli_type_tree.specs.TypedTree.{TypedUnit}
use Rattle.pli_meaning.specs.Programs.{program_of_units, main_numbers}
use Rattle.pli_meaning.specs.MemberParts.{all_text, all_units}
use Rattle.pli_meaning.specs.Scratch.{Made, built, linked, scratch, sources, trees_of}
use Rattle.pli_meaning.proofs.GlobalsFit.{all_fit, linked_where_fit, module_where_fit}
use Rattle.pli_meaning.proofs.UnitsOfTrees.{coded_tree, IsOfMember, AreOfMembers, all_coded, all_typed, all_numbered}
use Rattle.pli_meaning.proofs.VariablesMade.{few_bytes, few_variables}

-- the one main unit

no_mains : (us : List TypedUnit) (number : ℕ) → mains (map coded_tree us) ≡ [] → main_numbers number us ≡ []
no_mains [] number e = refl
no_mains (u ∷ us) number e = by u.is_main e (no_mains us (number + 1))
  where
    by : (b : Bool) → (if b then coded_tree u ∷ mains (map coded_tree us) else mains (map coded_tree us)) ≡ [] → (mains (map coded_tree us) ≡ [] → main_numbers (number + 1) us ≡ [])
        → (if b then number ∷ main_numbers (number + 1) us else main_numbers (number + 1) us) ≡ []
    by true h rest = let bad : ⊥ = cc in absurd bad
    by false h rest = rest h

-- where the first main unit stands, from a number on
record StandsFirst (us : List TypedUnit) (number : ℕ) : Type 0 where
  place : ℕ
  unit : TypedUnit
  main : unit.is_main ≡ true
  first : position_or_len (λ c. c.deck.is_main) (map coded_tree us) ≡ place
  within : place < length us
  there : slice_get us place ≡ Some unit
  only : main_numbers number us ≡ (number + place) ∷ []

stands_first : (us : List TypedUnit) (number : ℕ) (c : Compiled) → mains (map coded_tree us) ≡ c ∷ [] → StandsFirst us number
stands_first [] number c e = let bad : ⊥ = cc in absurd bad
stands_first (u ∷ us) number c e = by u.is_main refl e (stands_first us (number + 1) c)
  where
    tail_is : (x : Compiled) (xs : List Compiled) → x ∷ xs ≡ c ∷ [] → xs ≡ []
    tail_is x xs e = cc

    by : (b : Bool) → u.is_main ≡ b → (if b then coded_tree u ∷ mains (map coded_tree us) else mains (map coded_tree us)) ≡ c ∷ []
        → (mains (map coded_tree us) ≡ c ∷ [] → StandsFirst us (number + 1)) → StandsFirst (u ∷ us) number
    by true is h rest = record {
      place = 0;
      unit = u;
      main = is;
      first = ap (λ b. cond (not b) (1 + position_or_len (λ c. c.deck.is_main) (map coded_tree us)) 0) is;
      within = omega arith;
      there = refl;
      only =
          ap (λ b. if b then number ∷ main_numbers (number + 1) us else main_numbers (number + 1) us) is
          ∙ ap (λ ns. number ∷ ns) (no_mains us (number + 1) (tail_is _ _ h))
          ∙ ap (λ n. n ∷ []) (omega arith);
    }
    by false is h rest =
        let r = rest h in
        record {
          place = suc r.place;
          unit = r.unit;
          main = r.main;
          first = ap (λ b. cond (not b) (1 + position_or_len (λ c. c.deck.is_main) (map coded_tree us)) 0) is ∙ ap (λ n. 1 + n) r.first ∙ omega arith;
          within = omega (arith, r.within);
          there = r.there;
          only =
              ap (λ b. if b then number ∷ main_numbers (number + 1) us else main_numbers (number + 1) us) is
              ∙ r.only ∙ ap (λ n. n ∷ []) (omega arith);
        }

-- a module that was linked: no fault was told, and this is its main unit
record IsLinkedOf (cs : List Compiled) (m : Module) : Type 0 where
  clean : link_faults cs ≡ []
  main : ℕ
  first : position (λ c. c.deck.is_main) cs ≡ Some main
  module_is : m ≡ module_of cs main

made_is : (a b : Module) → Made a ≡ Made b → a ≡ b
made_is a b e = cc

linked_of : (faults : List LinkFault) (main : Option ℕ) (cs : List Compiled) (m : Module) → link_faults cs ≡ faults → position (λ c. c.deck.is_main) cs ≡ main
    → linked (module_or faults main cs) ≡ Made m → IsLinkedOf cs m
linked_of [] None cs m clean first e = let bad : ⊥ = cc in absurd bad
linked_of [] (Some main) cs m clean first e = record { clean = clean; main = main; first = first; module_is = sym (made_is _ m e) }
linked_of (fault ∷ faults) main cs m clean first e = let bad : ⊥ = cc in absurd bad

-- members with a module: their trees, the main one among these, the program of them, and the module of it
pub record HasProgram (entries : List (Name × Member)) (m : Module) : Type 0 where
  pub units : List TypedUnit
  pub main : ℕ
  pub spelled : trees_of entries (sources entries) ≡ Some units
  pub only : main_numbers 0 units ≡ main ∷ []
  pub typed : WellTyped (program_of_units units main)
  pub numbered : AreWellNumbered units
  pub module_is : IsModuleOf (program_of_units units main) m

record IsOne (cs : List Compiled) : Type 0 where
  compiled : Compiled
  only : cs ≡ compiled ∷ []

one_main : (cs : List Compiled) → none_among cs ≡ [] → later cs ≡ [] → IsOne cs
one_main [] some one = let bad : ⊥ = cc in absurd bad
one_main (c ∷ cs) some one = record { compiled = c; only = ap (λ ds. c ∷ ds) one }

place_is : (place n main : ℕ) → place < n → cond (nat_lt place n) (Some place) None ≡ Some main → place ≡ main
place_is place n main within e = by (nat_lt place n) refl e
  where
    by : (b : Bool) → nat_lt place n ≡ b → cond b (Some place) None ≡ Some main → place ≡ main
    by true is h = cc
    by false is h = let bad : ⊥ = cc in absurd bad

of_member_at : (entries : List (Name × Member)) (us : List TypedUnit) (i : ℕ) (u : TypedUnit) → AreOfMembers entries us → slice_get us i ≡ Some u → IsOfMember entries u
of_member_at entries [] i u all e = let bad : ⊥ = cc in absurd bad
of_member_at entries (v ∷ us) zero u all e = let same : v ≡ u = cc in subst (IsOfMember entries) same all.0
of_member_at entries (v ∷ us) (suc i) u all e = of_member_at entries us i u all.1 e

program_of_trees : (entries : List (Name × Member)) (us : List TypedUnit) (m : Module) → trees_of entries (sources entries) ≡ Some us → AreOfMembers entries us
    → IsLinkedOf (map coded_tree us) m → HasProgram entries m
program_of_trees entries us m spelled all made =
    let cs = map coded_tree us in
    let clean = faultless cs made.clean in
    let few = small cs clean.small in
    let one = one_main (mains cs) clean.main clean.one in
    let stands = stands_first us 0 one.compiled one.only in
    let main : stands.place ≡ made.main =
    place_is stands.place (length cs) made.main (omega (arith, stands.within, length-map us coded_tree))
    (sym (ap (λ k. cond (nat_lt k (length cs)) (Some k) None) stands.first) ∙ made.first) in
    let fit = all_fit us clean.resolved clean.alike in
    let there : slice_get us made.main ≡ Some stands.unit = ap (slice_get us) (sym main) ∙ stands.there in
    record {
      units = us;
      main = made.main;
      spelled = spelled;
      only = stands.only ∙ ap (λ n. n ∷ []) (omega (arith, main));
      typed =
          record {
            units = all_typed entries us all;
            linked = linked_where_fit us fit;
            bytes = few_bytes us few;
            count = few_variables entries us all few;
            main = subst HasMain (sym there) ((of_member_at entries us stands.place stands.unit all stands.there).main stands.main);
          };
      numbered = all_numbered entries us all;
      module_is = subst (IsModuleOf (program_of_units us made.main)) (sym made.module_is) (module_where_fit us made.clean fit made.main);
    }

program_built : (entries : List (Name × Member)) (text : List ℕ) (m : Module) → all_text entries entries ≡ text → built text (all_units entries entries) ≡ Made m → HasProgram entries m
program_built entries [] m clear e =
    let coded = all_coded entries entries clear in
    let made = linked_of (link_faults (all_units entries entries)) (position (λ c. c.deck.is_main) (all_units entries entries)) (all_units entries entries) m refl refl (sym (ap linked (links_alike (all_units entries entries))) ∙ e) in
    program_of_trees entries coded.trees m coded.spelled coded.good (subst (λ cs. IsLinkedOf cs m) coded.coded made)
program_built entries (b ∷ text) m clear e = let bad : ⊥ = cc in absurd bad

pub program_made : (entries : List (Name × Member)) (m : Module) → scratch entries ≡ Made m → HasProgram entries m
unfolding scratch
program_made entries m e = program_built entries (all_text entries entries) m refl e

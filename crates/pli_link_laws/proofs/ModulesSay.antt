-- Linked modules are ones that bytes can say.
use Rattle.std.proofs.Common.{◌≡◌, ℕ, ◌+◌, ◌<◌, ◌≤◌, nat_lt, Bool, true, false, cond, Some, None, List, [], ◌∷◌, length, filter, map, slice_get, position, refl, ap, sym, subst, arith, ltb-true, ◌∙◌}
use Rattle.std.specs.List.{position_or_len, AllByRecursion}
use Rattle.std.specs.Map.{keys_of}
use Rattle.std.proofs.lemmas.List.{length-map}
use Rattle.pli_base.specs.Name.{Name}
use Rattle.pli_code.specs.Modules.{Member, Module}
use Rattle.pli_link.specs.Link.{link_faults}
use Rattle.pli_link.specs.Names.{Declaration, all_shared, externals, procedures}
use Rattle.pli_link.specs.Units.{Compiled, AreWritten}
use Rattle.pli_code.specs.Versions.{written}
use Rattle.pli_link.proofs.Faultless.{IsFaultless, faultless, small}
use Rattle.pli_link.proofs.MeantFirst.{procedures_within}
use Rattle.pli_deck_write.specs.ModuleFields.{is_external}
use Rattle.pli_deck_write.specs.ModuleSpelling.{module_bytes, SpellsModule}
use Rattle.pli_link.specs.Links.{external_of, linked_unit, module_of}
use Rattle.pli_link_laws.specs.LinkedModules.{IsSaidAlone, LinkedModulesAreSpelled}
use Rattle.pli_link.proofs.Tables.{declared_rise, all_declared, all_found}
use Rattle.pli_link_laws.proofs.LinkedFrom.{of_faultless}
use Rattle.pli_link.proofs.LinkAlike.{links_alike}
use Rattle.pli_link_laws.proofs.ModuleFits.{Leads, HasParts, module_stands}
use Rattle.pli_link_laws.proofs.ModuleLimits.{counted, within_limits}
use Rattle.pli_link_laws.proofs.ResolvedEntries.{units_resolved}
use Rattle.pli_link_laws.proofs.UnitDeclarations.{IsDeclared, units_declared}
use Rattle.pli_link_laws.proofs.UnitLinks.{LeadsOf, links_good, links_counted, links_fit, units_lead}

-- ---- which unit is the main one

within : (k n i : ℕ) → cond (nat_lt k n) (Some k) None ≡ Some i → i < n
within k n i e = by (nat_lt k n) refl e
  where
    by : (b : Bool) → nat_lt k n ≡ b → cond b (Some k) None ≡ Some i → i < n
    by true is h = let same : k ≡ i = cc in let lt = ltb-true k n is in omega (arith, lt, same)
    by false is h = let bad : ⊥ = cc in absurd bad

main_within : (cs : List Compiled) (i : ℕ) → position (λ (c : Compiled). c.deck.is_main) cs ≡ Some i → i < length cs
main_within cs i e = within (position_or_len (λ (c : Compiled). c.deck.is_main) cs) (length cs) i e

few_found : (bound bound_is : ℕ) (es : List (Name × ℕ)) → bound ≡ bound_is → AllByRecursion (λ p. p.1 < bound) es → AllByRecursion (λ p. p.1 < bound_is) es
few_found bound bound_is es e h = subst (λ b. AllByRecursion (λ p. p.1 < b) es) e h

units_written : (names : List Name) (numbers : List (Name × ℕ)) (cs : List Compiled) → AreWritten cs → AllByRecursion (λ (u : Member). u.deck.version ≡ written) (map (linked_unit names numbers) cs)
units_written names numbers [] h = tt
units_written names numbers (c ∷ cs) h = (h.0, units_written names numbers cs h.1)

-- ---- a module of units without faults

module _ (cs : List Compiled) (main : ℕ) (are_written : AreWritten cs) (few : length cs ≤ 999) (here : position (λ (c : Compiled). c.deck.is_main) cs ≡ Some main) (good : IsFaultless cs) where
  abbrev m : Module
  m = module_of cs main

  abbrev ds : List (Name × Declaration)
  ds = externals cs

  units : length m.units ≡ length cs
  units = length-map cs (linked_unit (keys_of ds) (procedures cs))

  few_externals : length ds ≤ 65535
  few_externals = (small cs good.small).externals

  few_units : length m.units ≤ 999
  few_units = omega (arith, units, few)

  numbers : AllByRecursion (λ p. p.1 < length m.units) (procedures cs)
  numbers = few_found (length cs) (length m.units) (procedures cs) (sym units) (procedures_within cs)

  module _ (said : AllByRecursion IsSaidAlone m.units) where
    declared : AllByRecursion (IsDeclared m.units) ds
    declared =
        all_declared (IsDeclared m.units) [] (all_shared 0 cs) tt
        (units_declared (keys_of ds) (procedures cs) m.units cs 0 (λ k. let e : k ≡ 0 + k = omega arith in ap (slice_get m.units) e) (omega (arith, few)) said)

    leads_each : (some : List Member) → AllByRecursion (LeadsOf m ds cs refl few_externals few_units numbers) some → AllByRecursion (Leads m) some
    leads_each [] h = tt
    leads_each (u ∷ some) h =
        let gs = filter is_external u.deck.code.globals in (
          record {
            good = links_good m ds cs refl few_externals few_units numbers gs u.links h.0;
            counted = links_counted m ds cs refl few_externals few_units numbers gs u.links h.0;
            short = links_fit m ds cs refl few_externals few_units numbers gs u.links h.0;
          },
          leads_each some h.1,
        )

    parts : HasParts m ds
    parts = record {
      externals = refl;
      few = omega (arith, length-map ds external_of, few_externals);
      rising = declared_rise [] (all_shared 0 cs) tt;
      declared = declared;
      main = omega (arith, units, main_within cs main here);
      units = few_units;
      said = said;
      leads = leads_each m.units (units_lead m ds cs refl few_externals few_units numbers cs 0 (all_found [] (all_shared 0 cs)) (units_resolved cs cs good.resolved good.alike));
      versions = units_written (keys_of ds) (procedures cs) cs are_written;
      limits = within_limits (keys_of ds) (procedures cs) cs m refl refl (counted cs good.small) declared;
    }

    stands : SpellsModule (module_bytes m) m
    stands = module_stands m ds parts

-- ---- what linking gives

pub linked_modules_are_spelled : LinkedModulesAreSpelled
linked_modules_are_spelled cs m are_written linked few said =
    let o = of_faultless (link_faults cs) (position (λ (c : Compiled). c.deck.is_main) cs) cs m (sym (links_alike cs) ∙ linked) in
    subst (λ (n : Module). AllByRecursion IsSaidAlone n.units → SpellsModule (module_bytes n) n) o.is (λ h. stands cs o.main are_written few o.here (faultless cs o.none) h) said

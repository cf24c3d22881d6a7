-- Which module linking gives: that of the units, where no fault is told and one has the main procedure.
use Rattle.std.proofs.Common.{◌≡◌, ℕ, Option, Some, None, Ok, List, [], ◌∷◌, map, position, refl, ap, sym, ◌∙◌}
use Rattle.std.specs.Map.{keys_of}
use Rattle.pli_base.specs.Name.{Name}
use Rattle.pli_code.specs.Modules.{Member, Module}
use Rattle.pli_link.specs.Link.{link_faults, module_or}
use Rattle.pli_link.specs.Links.{linked_unit, module_of}
use Rattle.pli_link.specs.Names.{externals, procedures}
use Rattle.pli_link.specs.Units.{Compiled}
use Rattle.pli_link.specs.declared.linking.LinkFault.{LinkFault}
use Rattle.pli_link.proofs.LinkAlike.{links_alike}
use Rattle.pli_link_laws.specs.LinkedModules.{LinkingKeepsDecks}

pub record IsOf (faults : List LinkFault) (found : Option ℕ) (cs : List Compiled) (m : Module) : Type 0 where
  pub none : faults ≡ []
  pub main : ℕ
  pub here : found ≡ Some main
  pub is : module_of cs main ≡ m

pub of_faultless : (faults : List LinkFault) (found : Option ℕ) (cs : List Compiled) (m : Module) → module_or faults found cs ≡ Ok m → IsOf faults found cs m
of_faultless [] None cs m e = let bad : ⊥ = cc in absurd bad
of_faultless [] (Some i) cs m e = record { none = refl; main = i; here = refl; is = cc }
of_faultless (f ∷ faults) found cs m e = let bad : ⊥ = cc in absurd bad

-- each deck is that of its unit
decks_kept : (names : List Name) (numbers : List (Name × ℕ)) (cs : List Compiled) → map (λ (u : Member). u.deck) (map (linked_unit names numbers) cs) ≡ map (λ (c : Compiled). c.deck) cs
decks_kept names numbers [] = refl
decks_kept names numbers (c ∷ cs) = ap (λ ds. c.deck ∷ ds) (decks_kept names numbers cs)

pub linking_keeps_decks : LinkingKeepsDecks
linking_keeps_decks cs m linked =
    let o = of_faultless (link_faults cs) (position (λ (c : Compiled). c.deck.is_main) cs) cs m (sym (links_alike cs) ∙ linked) in
    ap (λ (n : Module). map (λ (u : Member). u.deck) n.units) (sym o.is) ∙ decks_kept (keys_of (externals cs)) (procedures cs) cs

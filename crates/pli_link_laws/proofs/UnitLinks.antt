-- What the external globals of a unit lead to: externals of their kind, and units.
use Rattle.std.proofs.Common.{◌≡◌, ℕ, suc, ◌+◌, ◌<◌, ◌≤◌, nat_eq, Bool, true, false, not, cond, Option, Some, None, is_none, is_some, unwrap_or, List, [], ◌∷◌, length, map, filter, slice_get, refl, ap, sym, ◌∙◌, arith, true≢false, lt-ltb}
use Rattle.std.specs.List.{list_all, position_or_len, AllByRecursion}
use Rattle.std.specs.Map.{keys_of, lookup}
use Rattle.pli_base.specs.Name.{Name}
use Rattle.pli_base.specs.Words.{same_name}
use Rattle.pli_code.specs.CodeTables.{Code, CodedGlobal, OwnVariable, ExternalVariable, EntryPoint}
use Rattle.pli_code.specs.views.CodeView.{kind_number}
use Rattle.pli_link.specs.Alike.{same_kind}
use Rattle.pli_program.specs.declared.kind.VariableKind.{VariableKind}
use Rattle.pli_program.specs.declared.kind.VariableKind.TheVariants.{Static, Controlled}
use Rattle.pli_link.specs.Names.{Declaration, shared_from, all_shared, meant, procedures}
use Rattle.pli_link.specs.Units.{Compiled}
use Rattle.pli_code.specs.Fields.{u2}
use Rattle.pli_code.specs.Modules.{Member, Module}
use Rattle.pli_deck_write.specs.ModuleFields.{is_external}
use Rattle.pli_deck_write.specs.ModuleSpelling.{is_of_kind, is_good_link, are_good_links}
use Rattle.pli_link.specs.Links.{short, external_of, number_in, links_of, linked_unit}
use Rattle.pli_link_laws.proofs.Sums.{both_hold, all_front, all_back}
use Rattle.pli_link.proofs.ExternalNumbers.{number_found}
use Rattle.pli_link.proofs.Tables.{IsFoundIn}
use Rattle.pli_link_laws.proofs.ResolvedEntries.{is_first_kind, IsResolved, AreResolved}

-- an external is of the kind of its first declaration
kinds_same : (first kind : VariableKind) → same_kind first kind ≡ true → nat_eq (kind_number kind) (kind_number first) ≡ true
kinds_same Static Static h = refl
kinds_same Static Controlled h = absurd (true≢false (sym h))
kinds_same Controlled Static h = absurd (true≢false (sym h))
kinds_same Controlled Controlled h = refl

kind_found : (ds : List (Name × Declaration)) (n : Name) (kind : VariableKind) → is_first_kind kind (meant ds n) ≡ true
    → is_of_kind (kind_number kind) (slice_get (map external_of ds) (position_or_len (same_name n) (keys_of ds))) ≡ true
kind_found [] n kind h = absurd (true≢false (sym h))
kind_found (d ∷ ds) n kind h = by (same_name n d.0) h (kind_found ds n kind)
  where
    by : (b : Bool) → is_first_kind kind (cond b (Some d.1) (meant ds n)) ≡ true
        → (is_first_kind kind (meant ds n) ≡ true → is_of_kind (kind_number kind) (slice_get (map external_of ds) (position_or_len (same_name n) (keys_of ds))) ≡ true)
        → is_of_kind (kind_number kind) (slice_get (external_of d ∷ map external_of ds) (cond (not b) (1 + position_or_len (same_name n) (keys_of ds)) 0)) ≡ true
    by true is rest = kinds_same d.1.kind kind is
    by false is rest =
        let place = position_or_len (same_name n) (keys_of ds) in
        let next : 1 + place ≡ suc place = omega arith in
        ap (λ k. is_of_kind (kind_number kind) (slice_get (external_of d ∷ map external_of ds) k)) next ∙ rest is

-- a number that is looked up is one of those in the table
number_within : (bound : ℕ) (test : Name → Bool) (es : List (Name × ℕ)) (n : ℕ) → AllByRecursion (λ p. p.1 < bound) es → lookup test es ≡ Some n → n < bound
number_within bound test [] n all e = let bad : ⊥ = cc in absurd bad
number_within bound test (x ∷ es) n all e = by (test x.0) e (number_within bound test es n all.1)
  where
    by : (b : Bool) → cond b (Some x.1) (lookup test es) ≡ Some n → (lookup test es ≡ Some n → n < bound) → n < bound
    by true h rest = let same : x.1 ≡ n = cc in omega (arith, all.0, same)
    by false h rest = rest h

-- what external globals lead to, of a module with these declarations and so many units
module _ (m : Module) (ds : List (Name × Declaration)) (cs : List Compiled) (declared : m.externals ≡ map external_of ds) (few : length ds ≤ 65535) (units : length m.units ≤ 999)
    (all : AllByRecursion (λ p. p.1 < length m.units) (procedures cs)) where
  abbrev pub Lead : List CodedGlobal → List ℕ → Type 0
  Lead [] [] = Unit {0}
  Lead [] (l ∷ ls) = ⊥
  Lead (g ∷ gs) [] = ⊥
  Lead (g ∷ gs) (l ∷ ls) = (is_good_link m g l ≡ true) × (l ≤ 65535) × Lead gs ls

  external_leads : (n : Name) (kind : VariableKind) → is_some (meant ds n) ≡ true → is_first_kind kind (meant ds n) ≡ true
      → (is_of_kind (kind_number kind) (slice_get m.externals (number_in (keys_of ds) n)) ≡ true) × (number_in (keys_of ds) n ≤ 65535)
  external_leads n kind some first =
      let number = number_found ds 0 n some in
      let link = number_in (keys_of ds) n in
      let within = number.within in
      let kept : short (0 + number.place) ≡ number.place = omega (arith, within, few) in
      let is : link ≡ number.place = ap (λ o. unwrap_or o 0) number.found ∙ kept in (
        ap (λ es. is_of_kind (kind_number kind) (slice_get es link)) declared
            ∙ ap (λ l. is_of_kind (kind_number kind) (slice_get (map external_of ds) l)) (is ∙ number.is) ∙ kind_found ds n kind first,
        omega (arith, is, within, few),
      )

  links_lead : (c : Code) (gs : List CodedGlobal) (i j : ℕ) → AllByRecursion (IsFoundIn ds) (shared_from c i j gs) → AllByRecursion (IsResolved cs ds) gs
      → Lead (filter is_external gs) (links_of (keys_of ds) (procedures cs) gs)
  links_lead c [] i j found resolved = tt
  links_lead c (OwnVariable Static t ∷ gs) i j found resolved = links_lead c gs i (j + 1) found resolved.1
  links_lead c (OwnVariable Controlled t ∷ gs) i j found resolved = links_lead c gs i (j + 1) found resolved.1
  links_lead c (ExternalVariable n Static t ∷ gs) i j found resolved =
      let leads = external_leads n Static found.0 resolved.0 in (leads.0, leads.1, links_lead c gs i (j + 1) found.1 resolved.1)
  links_lead c (ExternalVariable n Controlled t ∷ gs) i j found resolved =
      let leads = external_leads n Controlled found.0 resolved.0 in (leads.0, leads.1, links_lead c gs i (j + 1) found.1 resolved.1)
  links_lead c (EntryPoint n s ∷ gs) i j found resolved = by (meant (procedures cs) n) refl resolved.0 (links_lead c gs i (j + 1) found resolved.1)
    where
      by : (o : Option ℕ) → meant (procedures cs) n ≡ o → is_none o ≡ false
          → Lead (filter is_external gs) (links_of (keys_of ds) (procedures cs) gs)
          → Lead (EntryPoint n s ∷ filter is_external gs) (unwrap_or o 0 ∷ links_of (keys_of ds) (procedures cs) gs)
      by None e none rest = absurd (true≢false none)
      by (Some l) e none rest =
          let within = number_within (length m.units) (same_name n) (procedures cs) l all e in
          (lt-ltb l (length m.units) within, omega (arith, within, units), rest)

  -- the links of one unit are as many as its external globals, good ones, and numbers of two bytes
  pub links_good : (gs : List CodedGlobal) (ls : List ℕ) → Lead gs ls → are_good_links m gs ls ≡ true
  links_good [] [] h = refl
  links_good [] (l ∷ ls) h = absurd h
  links_good (g ∷ gs) [] h = absurd h
  links_good (g ∷ gs) (l ∷ ls) h = both_hold (is_good_link m g l) (are_good_links m gs ls) h.0 (links_good gs ls h.2)

  pub links_counted : (gs : List CodedGlobal) (ls : List ℕ) → Lead gs ls → length ls ≡ length gs
  links_counted [] [] h = refl
  links_counted [] (l ∷ ls) h = absurd h
  links_counted (g ∷ gs) [] h = absurd h
  links_counted (g ∷ gs) (l ∷ ls) h = omega (arith, links_counted gs ls h.2)

  pub links_fit : (gs : List CodedGlobal) (ls : List ℕ) → Lead gs ls → list_all u2.fits ls ≡ true
  links_fit [] [] h = refl
  links_fit [] (l ∷ ls) h = absurd h
  links_fit (g ∷ gs) [] h = absurd h
  links_fit (g ∷ gs) (l ∷ ls) h = let small : l < 65536 = omega (arith, h.1) in both_hold (u2.fits l) (list_all u2.fits ls) (lt-ltb l 65536 small) (links_fit gs ls h.2)

  -- of all units
  abbrev pub LeadsOf : Member → Type 0
  LeadsOf u = Lead (filter is_external u.deck.code.globals) u.links

  pub units_lead : (some : List Compiled) (i : ℕ) → AllByRecursion (IsFoundIn ds) (all_shared i some) → AllByRecursion (AreResolved cs ds) some
      → AllByRecursion LeadsOf (map (linked_unit (keys_of ds) (procedures cs)) some)
  units_lead [] i found resolved = tt
  units_lead (c ∷ some) i found resolved =
      let here = shared_from c.deck.code i 0 c.deck.code.globals in
      let rest = all_shared (i + 1) some in (
        links_lead c.deck.code c.deck.code.globals i 0 (all_front (IsFoundIn ds) here rest found) resolved.0,
        units_lead some (i + 1) (all_back (IsFoundIn ds) here rest found) resolved.1,
      )

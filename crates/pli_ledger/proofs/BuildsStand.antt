-- What a build leaves where it ends, or where it was refused: in the first pass, in the second, or after both.
use Rattle.std.proofs.Common.{◌≡◌, ℕ, zero, ◌⊎◌, inl, inr, Bool, true, false, ◌&&◌, not, List, [], ◌∷◌, ◌++◌, length, map, take, drop, Option, None, Some, nat_eq, refl, sym, ap, subst, ◌∙◌, arith}
use Rattle.std.specs.Prelude.{All}
use Rattle.std.specs.List.{AllByRecursion, IsDistinct, count_by}
use Rattle.std.specs.Option.{option_eq}
use Rattle.std.specs.Ordering.{eq_by_cmp}
use Rattle.std.proofs.lemmas.Bool.{eq-eqb}
use Rattle.std.proofs.lemmas.List.{drop_all, length-map, take_all}
use Rattle.std.proofs.lemmas.List.Elements.{All-from_recursion}
use Rattle.pli_base.specs.Name.{Name}
use Rattle.pli_base.specs.Words.{Tokens}
use Rattle.pli_include.specs.Expanded.{Expanded, answered, expansion_of, outcome_of}
use Rattle.pli_include.specs.Expanded.{holds}
use Rattle.pli_include.specs.declared.expansion.ExpansionFault.{ExpansionFault}
use Rattle.pli_include.specs.laws.Laws.{looked_in}
use Rattle.pli_members.specs.Members.{Store, name_order, version_of}
use Rattle.pli_members.specs.answers.Kept.{IsKept}
use Rattle.pli_meaning.specs.Scratch.{sources}
use Rattle.pli_ledger.specs.Fits.{Fits}
use Rattle.pli_ledger.specs.Kept.{Kept, Ledger, Units, kept_of}
use Rattle.pli_ledger.specs.Refused.{IsBetween, IsRefused, Rises, compiled_count, expanded_count}
use Rattle.pli_ledger.specs.Work.{after, compiled_by, due_by, is_due, is_stale, kept_after, stale_by}
use Rattle.pli_ledger.specs.WorkParts.{compiled_after, due_count, stale_count, stale_kept}
use Rattle.pli_ledger.specs.answers.Aligning.{aligned}
use Rattle.pli_ledger.specs.answers.Compiling.{IsRecalled, recompiled, refreshed, unit_is_due, unit_is_stale}
use Rattle.pli_ledger.specs.answers.Passing.{PassedUpTo}
use Rattle.pli_ledger.proofs.FitsThroughBuilds.{builds_keep_fits}
use Rattle.pli_ledger.proofs.HeldIsFresh.{trace_of, what_holds_is_fresh}
use Rattle.pli_ledger.proofs.KeptMoved.{whole}
use Rattle.pli_ledger.proofs.NamesInOrder.{all_each, all_joined, all_weaker, sources_apart}
use Rattle.pli_ledger.proofs.StagesMixed.{counted_front, counted_same, counted_staged, kept_at_back, kept_at_front, mixed, mixed_all, mixed_relates, pass_mixes, staged}
use Rattle.pli_ledger.proofs.TextsSame.{texts_themselves}

-- a version is answered as it is
version_itself : (v : Option ℕ) → option_eq nat_eq v v ≡ true
version_itself None = refl
version_itself (Some n) = eq-eqb n n refl

trace_itself : (s : Store) (names : List Name) → holds s (map (answered s) names) ≡ true
trace_itself s [] = refl
trace_itself s (n ∷ names) = let first = version_itself (version_of s n) in let others = trace_itself s names in λ i. first i && others i

-- a fresh expansion is not due
fresh_is_not_due : (s : Store) (name : Name) → due_by s (Some (expansion_of s name)) ≡ false
fresh_is_not_due s name = ap not (ap (holds s) (trace_of s name) ∙ trace_itself s (looked_in (outcome_of s.entries name)))

-- what was compiled is not stale
compiled_is_not_stale : (e : Expanded) (before : Option Tokens) → stale_kept (Some e) (compiled_after (Some e) before) ≡ false
compiled_is_not_stale e before = of_fault e.fault
  where
    of_fault : (fault : Option ExpansionFault) → stale_by fault e.texts (compiled_by fault e.texts before) ≡ false
    of_fault (Some fault) = refl
    of_fault None = ap not (texts_themselves e.texts)

and_not : (b : Bool) → b && not b ≡ false
and_not true = refl
and_not false = refl

and_true : (b : Bool) → b && true ≡ b
and_true true = refl
and_true false = refl

no_rise : (n : ℕ) (rise : ℕ) → rise ≡ 0 → Rises n rise n
no_rise n rise none = λ fits. omega arith

module _ (before : Units) (s : Store) where
  -- what is kept of a name before the build, with the members' expansion, and after it
  abbrev at_first : Name → Kept
  at_first name = kept_of before name

  abbrev at_second : Name → Kept
  at_second name = record { expansion = Some (expansion_of s name); compiled = (kept_of before name).compiled }

  abbrev at_last : Name → Kept
  at_last name = kept_after (expansion_of s name) (kept_of before name)

  -- the first n expanded
  abbrev pub in_first : ℕ → Units
  in_first n = mixed at_second at_first n (sources s.entries)

  -- the first n compiled
  abbrev pub in_second : ℕ → Units
  in_second n = mixed at_last at_second n (sources s.entries)

  first_pass : (n : ℕ) → map (refreshed s) (take n (aligned before (sources s.entries))) ++ drop n (aligned before (sources s.entries)) ≡ in_first n
  first_pass n = pass_mixes (refreshed s) at_first at_second (λ name. refl) n (sources s.entries)

  second_pass : (n : ℕ) → map recompiled (take n (staged at_second (sources s.entries))) ++ drop n (staged at_second (sources s.entries)) ≡ in_second n
  second_pass n = pass_mixes recompiled at_second at_last (λ name. refl) n (sources s.entries)

  -- each thing is as before or as after the build
  first_between : (n : ℕ) → IsBetween before s (in_first n)
  first_between n = record {
    expansion = λ name. mixed_relates (λ a b. (a.expansion ≡ (kept_of before name).expansion) ⊎ (a.expansion ≡ b.expansion)) at_second at_first at_last name (inr refl) (inl refl) (inr refl) n (sources s.entries);
    compiled = λ name. mixed_relates (λ a b. (a.compiled ≡ (kept_of before name).compiled) ⊎ (a.compiled ≡ b.compiled)) at_second at_first at_last name (inl refl) (inl refl) (inr refl) n (sources s.entries);
  }

  second_between : (n : ℕ) → IsBetween before s (in_second n)
  second_between n = record {
    expansion = λ name. mixed_relates (λ a b. (a.expansion ≡ (kept_of before name).expansion) ⊎ (a.expansion ≡ b.expansion)) at_last at_second at_last name (inr refl) (inr refl) (inr refl) n (sources s.entries);
    compiled = λ name. mixed_relates (λ a b. (a.compiled ≡ (kept_of before name).compiled) ⊎ (a.compiled ≡ b.compiled)) at_last at_second at_last name (inr refl) (inl refl) (inr refl) n (sources s.entries);
  }

  -- a unit is settled that needed something and no longer does
  no_longer_due : (new : Units) (name : Name) (k : Kept) → kept_of new name ≡ k → k.expansion ≡ Some (expansion_of s name) → is_due before s name && not (is_due new s name) ≡ is_due before s name
  no_longer_due new name k is fresh =
      ap (λ (t : Bool). is_due before s name && not t) (ap (λ (x : Kept). due_by s x.expansion) is ∙ ap (due_by s) fresh ∙ fresh_is_not_due s name) ∙ and_true (is_due before s name)

  still_due : (new : Units) (name : Name) (k : Kept) → kept_of new name ≡ k → k.expansion ≡ (kept_of before name).expansion → is_due before s name && not (is_due new s name) ≡ false
  still_due new name k is same =
      ap (λ (t : Bool). is_due before s name && not t) (ap (λ (x : Kept). due_by s x.expansion) is ∙ ap (due_by s) same) ∙ and_not (is_due before s name)

  no_longer_stale : (new : Units) (name : Name) → kept_of new name ≡ at_last name → is_stale before s name && not (is_stale new s name) ≡ is_stale before s name
  no_longer_stale new name is =
      ap (λ (t : Bool). is_stale before s name && not t) (ap (λ (x : Kept). stale_kept (Some (expansion_of s name)) x.compiled) is ∙ compiled_is_not_stale (expansion_of s name) (kept_of before name).compiled) ∙ and_true (is_stale before s name)

  still_stale : (new : Units) (name : Name) (k : Kept) → kept_of new name ≡ k → k.compiled ≡ (kept_of before name).compiled → is_stale before s name && not (is_stale new s name) ≡ false
  still_stale new name k is same =
      ap (λ (t : Bool). is_stale before s name && not t) (ap (λ (x : Kept). stale_kept (Some (expansion_of s name)) x.compiled) is ∙ ap (stale_kept (Some (expansion_of s name))) same) ∙ and_not (is_stale before s name)

  -- what is kept lies between, and the two counts have risen by what was settled
  pub record IsSettled (new : Units) (a c b d : ℕ) : Type 0 where
    pub between : IsBetween before s new
    pub expansions : Rises a (expanded_count before new s) b
    pub compilations : Rises c (compiled_count before new s) d

  module _ (kept : IsKept s) where
    abbrev names : List Name
    names = sources s.entries

    apart : IsDistinct (eq_by_cmp name_order) names
    apart = sources_apart s.entries kept.ordered

    -- in the first pass the first n are expanded, and none is compiled
    first_expanded : (n : ℕ) → expanded_count before (in_first n) s ≡ count_by (is_due before s) (take n names)
    first_expanded n =
        let new = in_first n in
        counted_front (is_due before s) (λ name. is_due before s name && not (is_due new s name)) n names
        (all_weaker (λ name. kept_of new name ≡ at_second name) (λ name. is_due before s name && not (is_due new s name) ≡ is_due before s name) (λ name is. no_longer_due new name (at_second name) is refl) (take n names) (kept_at_front at_second at_first n names apart))
        (all_weaker (λ name. kept_of new name ≡ at_first name) (λ name. is_due before s name && not (is_due new s name) ≡ false) (λ name is. still_due new name (at_first name) is refl) (drop n names) (kept_at_back at_second at_first n names apart))

    first_compiled : (n : ℕ) → compiled_count before (in_first n) s ≡ 0
    first_compiled n =
        let new = in_first n in
        let none = λ (name : Name). is_stale before s name && not (is_stale new s name) in
        counted_front (is_stale before s) none zero names tt
        (all_joined (λ name. none name ≡ false) n names
        (all_weaker (λ name. kept_of new name ≡ at_second name) (λ name. none name ≡ false) (λ name is. still_stale new name (at_second name) is refl) (take n names) (kept_at_front at_second at_first n names apart))
        (all_weaker (λ name. kept_of new name ≡ at_first name) (λ name. none name ≡ false) (λ name is. still_stale new name (at_first name) is refl) (drop n names) (kept_at_back at_second at_first n names apart)))

    -- in the second pass all are expanded, and the first n are compiled
    second_expanded : (n : ℕ) → expanded_count before (in_second n) s ≡ due_count before s
    second_expanded n =
        let new = in_second n in
        let settled = λ (name : Name). is_due before s name && not (is_due new s name) in
        counted_same (is_due before s) settled names
        (all_joined (λ name. settled name ≡ is_due before s name) n names
        (all_weaker (λ name. kept_of new name ≡ at_last name) (λ name. settled name ≡ is_due before s name) (λ name is. no_longer_due new name (at_last name) is refl) (take n names) (kept_at_front at_last at_second n names apart))
        (all_weaker (λ name. kept_of new name ≡ at_second name) (λ name. settled name ≡ is_due before s name) (λ name is. no_longer_due new name (at_second name) is refl) (drop n names) (kept_at_back at_last at_second n names apart)))

    second_compiled : (n : ℕ) → compiled_count before (in_second n) s ≡ count_by (is_stale before s) (take n names)
    second_compiled n =
        let new = in_second n in
        counted_front (is_stale before s) (λ name. is_stale before s name && not (is_stale new s name)) n names
        (all_weaker (λ name. kept_of new name ≡ at_last name) (λ name. is_stale before s name && not (is_stale new s name) ≡ is_stale before s name) (λ name is. no_longer_stale new name is) (take n names) (kept_at_front at_last at_second n names apart))
        (all_weaker (λ name. kept_of new name ≡ at_second name) (λ name. is_stale before s name && not (is_stale new s name) ≡ false) (λ name is. still_stale new name (at_second name) is refl) (drop n names) (kept_at_back at_last at_second n names apart))

    -- the first n of the first pass
    module _ (al units : Units) (aligned_is : al ≡ aligned before names) (a b : ℕ) where
      length_is : length al ≡ length names
      length_is = ap length aligned_is ∙ length-map names (λ (name : Name). let u : Name × Kept = (name, kept_of before name) in u)

      first_at : (n : ℕ) → PassedUpTo (refreshed s) (unit_is_due s) n al units a b → units ≡ in_first n
      first_at n passed = passed.units ∙ ap (λ (us : Units). map (refreshed s) (take n us) ++ drop n us) aligned_is ∙ first_pass n

      first_count : (n : ℕ) → count_by (unit_is_due s) (take n al) ≡ count_by (is_due before s) (take n names)
      first_count n = ap (λ (us : Units). count_by (unit_is_due s) (take n us)) aligned_is ∙ counted_staged (unit_is_due s) at_first n names

      -- all of it
      first_done : PassedUpTo (refreshed s) (unit_is_due s) (length al) al units a b → units ≡ staged at_second names
      first_done passed = first_at (length al) passed ∙ mixed_all at_second at_first (length al) names (drop_all (length al) names (omega (arith, length_is)))

      pub due_counted : count_by (unit_is_due s) al ≡ due_count before s
      due_counted =
          sym (ap (count_by (unit_is_due s)) (take_all (length al) al (omega arith))) ∙ first_count (length al) ∙ ap (count_by (is_due before s)) (take_all (length al) names (omega (arith, length_is)))

      pub due_risen : PassedUpTo (refreshed s) (unit_is_due s) (length al) al units a b → Rises a (due_count before s) b
      due_risen passed = subst (λ (k : ℕ). Rises a k b) (ap (count_by (unit_is_due s)) (take_all (length al) al (omega arith)) ∙ due_counted) passed.count

      -- and the first n of the second
      module _ (passed : PassedUpTo (refreshed s) (unit_is_due s) (length al) al units a b) (new : Units) (c d : ℕ) where
        second_at : (n : ℕ) → PassedUpTo recompiled unit_is_stale n units new c d → new ≡ in_second n
        second_at n p = p.units ∙ ap (λ (us : Units). map recompiled (take n us) ++ drop n us) (first_done passed) ∙ second_pass n

        second_count : (n : ℕ) → count_by unit_is_stale (take n units) ≡ count_by (is_stale before s) (take n names)
        second_count n = ap (λ (us : Units). count_by unit_is_stale (take n us)) (first_done passed) ∙ counted_staged unit_is_stale at_second n names

        length_units : length units ≡ length names
        length_units = ap length (first_done passed) ∙ length-map names (λ (name : Name). let u : Name × Kept = (name, at_second name) in u)

        pub second_done : PassedUpTo recompiled unit_is_stale (length units) units new c d → new ≡ after before s
        second_done p = second_at (length units) p ∙ mixed_all at_last at_second (length units) names (drop_all (length units) names (omega (arith, length_units)))

        pub stale_counted : count_by unit_is_stale units ≡ stale_count before s
        stale_counted =
            sym (ap (count_by unit_is_stale) (take_all (length units) units (omega arith))) ∙ second_count (length units) ∙ ap (count_by (is_stale before s)) (take_all (length units) names (omega (arith, length_units)))

        pub stale_risen : PassedUpTo recompiled unit_is_stale (length units) units new c d → Rises c (stale_count before s) d
        stale_risen p = subst (λ (k : ℕ). Rises c k d) (ap (count_by unit_is_stale) (take_all (length units) units (omega arith)) ∙ stale_counted) p.count

        pub second_settled : (n : ℕ) → PassedUpTo recompiled unit_is_stale n units new c d → IsSettled new a c b d
        second_settled n p =
            let is = second_at n p in record {
              between = subst (IsBetween before s) (sym is) (second_between n);
              expansions = subst (λ (k : ℕ). Rises a k b) (sym (ap (λ (us : Units). expanded_count before us s) is ∙ second_expanded n)) (due_risen passed);
              compilations = subst (λ (k : ℕ). Rises c k d) (second_count n ∙ sym (ap (λ (us : Units). compiled_count before us s) is ∙ second_compiled n)) p.count;
            }

      pub first_settled : (n c : ℕ) → PassedUpTo (refreshed s) (unit_is_due s) n al units a b → IsSettled units a c b c
      first_settled n c passed =
          let is = first_at n passed in record {
            between = subst (IsBetween before s) (sym is) (first_between n);
            expansions = subst (λ (k : ℕ). Rises a k b) (first_count n ∙ sym (ap (λ (us : Units). expanded_count before us s) is ∙ first_expanded n)) passed.count;
            compilations = no_rise c (compiled_count before units s) (ap (λ (us : Units). compiled_count before us s) is ∙ first_compiled n);
          }

-- a build that was refused at once has settled nothing
pub none_settled : (before new : Units) (s : Store) (a c : ℕ) → new ≡ before → IsSettled before s new a c a c
none_settled before new s a c same = record {
  between = record { expansion = λ name. inl (ap (λ (us : Units). (kept_of us name).expansion) same); compiled = λ name. inl (ap (λ (us : Units). (kept_of us name).compiled) same) };
  expansions = no_rise a (expanded_count before new s) (ap (λ (us : Units). expanded_count before us s) same ∙ none (λ name. is_due before s name) (sources s.entries));
  compilations = no_rise c (compiled_count before new s) (ap (λ (us : Units). compiled_count before us s) same ∙ none (λ name. is_stale before s name) (sources s.entries));
}
  where
    none : (p : Name → Bool) (names : List Name) → count_by (λ name. p name && not (p name)) names ≡ 0
    none p names = counted_front p (λ name. p name && not (p name)) zero names tt (all_each (λ name. p name && not (p name) ≡ false) (λ name. and_not (p name)) names)

-- what is kept of the units and holds is the members'
pub recalled_all : (before : Units) (s : Store) (al : Units) → Fits before s → al ≡ aligned before (sources s.entries) → All (IsRecalled s) al
recalled_all before s al fits is = subst (All (IsRecalled s)) (sym is) (All-from_recursion (IsRecalled s) (aligned before (sources s.entries)) (each (sources s.entries)))
  where
    each : (names : List Name) → AllByRecursion (IsRecalled s) (aligned before names)
    each [] = tt
    each (x ∷ xs) = ((λ e h held. what_holds_is_fresh before s x e fits h held), each xs)

-- what a refused build leaves in the vector whose slice was lent
module _ (s : Store) (l : Ledger) (kept : IsKept s) (fits : Fits l.units s) (n : ℕ) (old new : Units) (same : length new ≡ length old) (len : length old ≡ n) (a c b d : ℕ) (settled : IsSettled l.units s new a c b d) where
  abbrev lent : Units
  lent = take n (new ++ drop (length new) old)

  lent_is : lent ≡ new
  lent_is = whole n old new same len

  pub refused : (expanded compiled : ℕ) → expanded ≡ l.expanded → compiled ≡ l.compiled → IsRefused s l (record { units = lent; expanded = expanded; compiled = compiled })
  refused expanded compiled e k = record { units = subst (IsBetween l.units s) (sym lent_is) settled.between; expanded = e; compiled = k }

  pub expansions_refused : Rises a (expanded_count l.units lent s) b
  expansions_refused = subst (λ (us : Units). Rises a (expanded_count l.units us s) b) (sym lent_is) settled.expansions

  pub compilations_refused : Rises c (compiled_count l.units lent s) d
  compilations_refused = subst (λ (us : Units). Rises c (compiled_count l.units us s) d) (sym lent_is) settled.compilations

  pub fits_refused : Fits lent s
  fits_refused = subst (λ (us : Units). Fits us s) (sym lent_is) (builds_keep_fits l.units new s kept fits settled.between)

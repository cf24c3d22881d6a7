-- The laws, of members.
use Rattle.std.specs.Prelude.{◌≡◌, ℕ, ◌+◌, Bool, true, false, cond, Some, List, [], ◌∷◌, map, refl, if◌then◌else◌}
use Rattle.std.specs.List.{filter, enumerate_from}
use Rattle.std.proofs.Common.{sym, ◌∙◌, ap}
use Rattle.pli_base.specs.Name.{Name}
use Rattle.pli_members.specs.Members.{Member}
use Rattle.pli_machine_step.specs.Runs.{Outcome}
use Rattle.pli_meaning_tree.specs.ProgramMeaning.{whole_run}
use Rattle.pli_type_tree.specs.TypedTree.{TypedUnit}
use Rattle.pli_meaning.specs.Members.{MembersSimulate, OneMeaning, MembersGrow}
use Rattle.pli_meaning.specs.Programs.{program_of_units, main_numbers}
use Rattle.pli_meaning.specs.Scratch.{sources, trees_of, Means}
use Rattle.pli_meaning.proofs.MembersHaveOneProgram.{program_made}
use Rattle.pli_meaning.proofs.ProgramsGrow.{growth}
use Rattle.pli_meaning.proofs.ProgramsSimulate.{some_is, simulation}

-- the numbers of main units, one after the other
mains_listed : (number : ℕ) (us : List TypedUnit) → map (λ u. u.0) (filter (λ (u : ℕ × TypedUnit). u.1.is_main) (enumerate_from number us)) ≡ main_numbers number us
mains_listed number [] = refl
mains_listed number (u ∷ us) = by u.is_main (mains_listed (number + 1) us)
  where
    by : (b : Bool) → map (λ v. v.0) (filter (λ (v : ℕ × TypedUnit). v.1.is_main) (enumerate_from (number + 1) us)) ≡ main_numbers (number + 1) us
        → map (λ v. v.0) (cond b ((number, u) ∷ filter (λ (v : ℕ × TypedUnit). v.1.is_main) (enumerate_from (number + 1) us)) (filter (λ (v : ℕ × TypedUnit). v.1.is_main) (enumerate_from (number + 1) us)))
        ≡ (if b then number ∷ main_numbers (number + 1) us else main_numbers (number + 1) us)
    by true h = ap (λ ns. number ∷ ns) h
    by false h = h

pub members_simulate : MembersSimulate
members_simulate entries m e n =
    let p = program_made entries m e in
    let s = simulation (program_of_units p.units p.main) m p.typed p.numbered p.module_is n in
    record {
      outcome = s.outcome;
      means = record { units = p.units; main = p.main; spelled = p.spelled; only = mains_listed 0 p.units ∙ p.only; run = s.means };
      runs = s.runs;
      no_fault = s.no_fault;
    }

number_is : (a b : ℕ) → a ∷ [] ≡ b ∷ [] → a ≡ b
number_is a b e = cc

-- what they mean is of these trees and this main unit
means_of : (entries : List (Name × Member)) (n : ℕ) (o : Outcome) (us : List TypedUnit) (main : ℕ) → trees_of entries (sources entries) ≡ Some us → main_numbers 0 us ≡ main ∷ []
    → Means entries n o → whole_run (program_of_units us main) n ≡ Some o
means_of entries n o us main spelled only m =
    let same : m.units ≡ us = some_is m.units us (sym m.spelled ∙ spelled) in
    let one : m.main ≡ main = number_is _ _ (sym m.only ∙ mains_listed 0 m.units ∙ ap (main_numbers 0) same ∙ only) in
    sym (ap (λ k. whole_run (program_of_units m.units k) n) one ∙ ap (λ vs. whole_run (program_of_units vs main) n) same) ∙ m.run

pub one_meaning : OneMeaning
one_meaning entries n o p a b = some_is o p (sym (means_of entries n o b.units b.main b.spelled (sym (mains_listed 0 b.units) ∙ b.only) a) ∙ b.run)

pub members_grow : MembersGrow
members_grow entries m e n o p a b =
    let made = program_made entries m e in
    growth (program_of_units made.units made.main) m made.typed made.numbered made.module_is n o p
    (means_of entries n o made.units made.main made.spelled made.only a)
    (means_of entries (n + 1) p made.units made.main made.spelled made.only b)

-- Commands that are obeyed are cases of the session.
use Rattle.std.specs.Prelude.{◌≡◌, ◌≢◌, is_some, ℕ, Bool, true, false, nat_eq, if◌then◌else◌, Option, Some, None, Result, Ok, Err, List, [], ◌∷◌, ◌++◌, ◌⊎◌, refl, OnOk, OnErr}
use Rattle.std.specs.Result.{result_err}
use Rattle.std.proofs.Common.{sym, ap, ◌∙◌, subst, inl, inr, append_assoc, arith}
use Rattle.std.proofs.lemmas.Bool.Decides.{nat_tests}
use Rattle.std.specs.Io.KnownBytes.{Appends}
use Rattle.pli_base.specs.Name.{Name}
use Rattle.pli_base.specs.Devices.{AppendsPrefix}
use Rattle.pli_base.specs.laws.DeviceLaws.{AppendsPrefix-more}
use Rattle.pli_members.specs.Members.{Store, lines_of}
use Rattle.pli_members.specs.Refusals.{refusal_in}
use Rattle.pli_members.specs.declared.refusal.EditError.{EditError}
use Rattle.pli_members.specs.declared.refusal.EditError.TheVariants.{Refused, OutOfMemory}
use Rattle.pli_members.specs.declared.refusal.Refusal.{Refusal}
use Rattle.pli_members.specs.declared.refusal.Refusal.TheVariants.{NoSuchMember}
use Rattle.pli_code.specs.Modules.{Module, program_of}
use Rattle.pli_ledger.specs.answers.Built.{IsStanding, IsOfMembers}
use Rattle.pli_ledger.specs.Kept.{Ledger}
use Rattle.pli_ledger.specs.Refused.{IsRefused}
use Rattle.pli_ledger.specs.Work.{ledger_after}
use Rattle.pli_ledger.specs.declared.stored.StoredModule.{StoredModule}
use Rattle.pli_deck_write.specs.ModuleSpelling.{SpellsModule}
use Rattle.pli_code.specs.declared.fault.DeckFault.{DeckFault}
use Rattle.pli_run.specs.declared.ending.Ending.{Ending}
use Rattle.pli_run.specs.declared.ending.Ran.{Ran}
use Rattle.pli_meaning.specs.Scratch.{Built, Made, scratch}
use Rattle.pli_meaning.proofs.MembersDoAsMeant.{members_simulate}
use Rattle.pli_meaning.specs.Members.{HasMeaning}
use Rattle.pli_commands.specs.answers.Answering.{Writes}
use Rattle.pli_machine.specs.answers.Runs.{RanTo, StoppedWithin}
use Rattle.pli_bench.specs.answers.Obeying.{Does, as_edit, edit_answer, end_answer, gone, standing_after}
use Rattle.pli_commands.specs.CommandLines.{command_of}
use Rattle.pli_commands.specs.Commands.{Command}
use Rattle.pli_commands.specs.Exchanges.{exchange, span}
use Rattle.pli_commands.specs.Runs.{AnsweredOne}
use Rattle.pli_commands.proofs.LinesAnswered.{next_after}
use Rattle.pli_commands.specs.declared.serving.AfterCommand.{AfterCommand}
use Rattle.pli_commands.specs.declared.serving.WriteFailed.{WriteFailed}
use Rattle.pli_machine_step.proofs.OutcomesAreOne.{one_outcome}
use Rattle.pli_bench.specs.Session.{State, Lists, EditsInMemory, Edits, Builds, is_made, Runs, run_answer, build_answer, Breaks, Obeys, Step, quits, is_quit}
use Rattle.pli_commands.specs.AnswerLines.{numbered_lines, ending_line, refused, okay, no_memory, not_built}
use Rattle.pli_commands.proofs.PartAfterPart.{writes_then}

abbrev pub state : Store → Ledger → Bool → ℕ → State
state store ledger stands steps = record { store = store; ledger = ledger; stands = stands; steps = steps }

-- an edit of the store, and what it leaves standing, are cases of the session, whatever came of the edit
module _ {M : Type 0} (refusal_of : Store → Option Refusal) (target_of : Store → Store) (s : State) (store : Store) (ledger : Ledger) (standing : Option M) (steps : ℕ) (is : state store ledger (is_some standing) steps ≡ s) (new : Store) (after : Option M) where
  left_alone : after ≡ standing → new ≡ store → state new ledger (is_some after) steps ≡ state store ledger (is_some standing) steps
  left_alone a h = ap (λ m. state m ledger (is_some after) steps) h ∙ ap (λ m. state store ledger (is_some m) steps) a

  left_edited : after ≡ None → new ≡ target_of store → state new ledger (is_some after) steps ≡ state (target_of store) ledger false steps
  left_edited a h = ap (λ m. state m ledger (is_some after) steps) h ∙ ap (λ (m : Option M). state (target_of store) ledger (is_some m) steps) a

  -- one that may want memory
  pub edits_in_memory : {A : Type 0} (edit : Result A EditError) → after ≡ standing_after edit standing → refusal_in edit ≡ refusal_of store
      → OnOk edit (new ≡ target_of store) → OnErr edit (new ≡ store)
      → EditsInMemory (refusal_of s.store) (target_of s.store) (exchange s (edit_answer edit) (state new ledger (is_some after) steps))
  edits_in_memory {A} edit a r ok err =
      subst (λ t. EditsInMemory (refusal_of t.store) (target_of t.store) (exchange t (edit_answer edit) (state new ledger (is_some after) steps))) is
      (subst (λ f. EditsInMemory f (target_of store) (exchange (state store ledger (is_some standing) steps) (edit_answer edit) (state new ledger (is_some after) steps))) r (by edit a ok err))
    where
      by : (edit : Result A EditError) → after ≡ standing_after edit standing → OnOk edit (new ≡ target_of store) → OnErr edit (new ≡ store)
          → EditsInMemory (refusal_in edit) (target_of store) (exchange (state store ledger (is_some standing) steps) (edit_answer edit) (state new ledger (is_some after) steps))
      by (Ok x) a ok err = inl (refl, left_edited a ok)
      by (Err (Refused q)) a ok err = (refl, left_alone a err)
      by (Err OutOfMemory) a ok err = inr (refl, left_alone a err)

  -- one that wants none
  pub edits : {A : Type 0} (edit : Result A Refusal) (given : Result A EditError) → given ≡ as_edit edit → after ≡ standing_after given standing → result_err edit ≡ refusal_of store
      → OnOk edit (new ≡ target_of store) → OnErr edit (new ≡ store)
      → Edits (refusal_of s.store) (target_of s.store) (exchange s (edit_answer given) (state new ledger (is_some after) steps))
  edits {A} edit given g a r ok err =
      subst (λ t. Edits (refusal_of t.store) (target_of t.store) (exchange t (edit_answer given) (state new ledger (is_some after) steps))) is
      (subst (λ f. Edits f (target_of store) (exchange (state store ledger (is_some standing) steps) (edit_answer given) (state new ledger (is_some after) steps))) r
      (subst (λ e. Edits (result_err edit) (target_of store) (exchange (state store ledger (is_some standing) steps) (edit_answer e) (state new ledger (is_some after) steps))) (sym g)
      (by edit (a ∙ ap (λ e. standing_after e standing) g) ok err)))
    where
      by : (edit : Result A Refusal) → after ≡ standing_after (as_edit edit) standing → OnOk edit (new ≡ target_of store) → OnErr edit (new ≡ store)
          → Edits (result_err edit) (target_of store) (exchange (state store ledger (is_some standing) steps) (edit_answer (as_edit edit)) (state new ledger (is_some after) steps))
      by (Ok x) a ok err = (refl, left_edited a ok)
      by (Err q) a ok err = (refl, left_alone a err)

module _ (s : State) (store : Store) (ledger new : Ledger) (stands : Bool) (steps : ℕ) (is : state store ledger stands steps ≡ s) where
  -- a build answers what a build from scratch gives
  pub builds : (b : Built) → b ≡ scratch store.entries → new ≡ ledger_after ledger store → Builds (exchange s (build_answer b) (state store new (is_made b) steps))
  builds b e after =
      subst (λ t. Builds (exchange t (build_answer b) (state store new (is_made b) steps))) is
      (inl (ap build_answer e, ap (λ l. state store l (is_made b) steps) after ∙ ap (λ x. state store (ledger_after ledger store) (is_made x) steps) e))

  -- or memory was refused
  pub builds_not : IsRefused store ledger new → Builds (exchange s no_memory (state store new false steps))
  builds_not kept = subst (λ t. Builds (exchange t no_memory (state store new false steps))) is (inr (refl, (new, kept, refl)))

module _ (s : State) (store : Store) (ledger : Ledger) (stands : Bool) (steps : ℕ) (is : state store ledger stands steps ≡ s) (name : Name) where
  -- there is no member to list
  pub lists_none : lines_of store name ≡ None → Lists (lines_of s.store name) (exchange s (refused NoSuchMember) s)
  lists_none e = subst (λ o. Lists o (exchange s (refused NoSuchMember) s)) (sym e ∙ ap (λ t. lines_of t.store name) is) (refl, refl)

  -- the lines of one are listed
  pub lists : (lines : List (List ℕ)) → lines_of store name ≡ Some lines → Lists (lines_of s.store name) (exchange s (numbered_lines 1 lines ++ okay) s)
  lists lines e = subst (λ o. Lists o (exchange s (numbered_lines 1 lines ++ okay) s)) (sym e ∙ ap (λ t. lines_of t.store name) is) (refl, refl)

-- no module stands
pub runs_not : (s : State) (n : ℕ) → s.stands ≡ false → Runs s.stands n (exchange s not_built s)
runs_not s n e = subst (λ b. Runs b n (exchange s not_built s)) (sym e) (refl, refl)

module _ (s : State) (n : ℕ) (m : Module) (stands : s.stands ≡ true) (built : scratch s.store.entries ≡ Made m) where
  means_at : HasMeaning s.store.entries m n
  means_at = members_simulate s.store.entries m built n

  runs_with : (answer : List ℕ) → (answer ≡ run_answer means_at.outcome) ⊎ Breaks means_at.outcome.output answer → Runs s.stands n (exchange s answer s)
  runs_with answer h = subst (λ b. Runs b n (exchange s answer s)) (sym stands) (means_at.outcome, means_at.means, h, refl)

  -- a run that came to its end
  pub run_done : {A E : Type 0} (a b c : Option (List ℕ)) (ran : Ran) (r : Result A E) → RanTo m n ran a b → Writes b c (end_answer ran.column ran.ending) r
      → (x : List ℕ) × Runs s.stands n (exchange s x s) × Writes a c x r
  run_done a b c ran r h w =
      let same : h.outcome ≡ means_at.outcome = one_outcome (program_of m) n h.outcome means_at.outcome h.runs means_at.runs in
      let text : h.outcome.output ++ end_answer ran.column ran.ending ≡ run_answer means_at.outcome =
      ap (λ k. h.outcome.output ++ end_answer k ran.ending) h.column ∙ ap (λ k. h.outcome.output ++ end_answer h.outcome.column k) h.ending
      ∙ sym (append_assoc h.outcome.output _ _) ∙ ap run_answer same in
      (h.outcome.output ++ end_answer ran.column ran.ending, runs_with _ (inl text), writes_then a b c _ _ r h.put w)

  -- a run for which memory was refused
  pub run_broken : {A E : Type 0} (a b c : Option (List ℕ)) (r : Result A E) → StoppedWithin m n a b → Writes b c (10 ∷ no_memory) r
      → (x : List ℕ) × Runs s.stands n (exchange s x s) × Writes a c x r
  run_broken a b c r h w =
      let p = h means_at.outcome means_at.runs in
      (p.written ++ 10 ∷ no_memory, runs_with _ (inr (record { written = p.written; left = p.left; whole = p.whole; says = refl })), writes_then a b c _ _ r p.appended w)

  -- one that was not begun since memory was refused
  pub run_unbegun : {A E : Type 0} (a c : Option (List ℕ)) (r : Result A E) → Writes a c (10 ∷ no_memory) r → (x : List ℕ) × Runs s.stands n (exchange s x s) × Writes a c x r
  run_unbegun a c r w = (10 ∷ no_memory, runs_with _ (inr (record { written = []; left = means_at.outcome.output; whole = refl; says = refl })), w)

  -- a run whose writer failed
  pub run_unwritten : (a b : Option (List ℕ)) → StoppedWithin m n a b → (x : List ℕ) × Runs s.stands n (exchange s x s) × AppendsPrefix a b x
  run_unwritten a b h =
      let p = AppendsPrefix-more a b means_at.outcome.output (end_answer means_at.outcome.column means_at.outcome.ending) (h means_at.outcome means_at.runs) in
      (means_at.outcome.output ++ end_answer means_at.outcome.column means_at.outcome.ending, runs_with _ (inl (sym (append_assoc means_at.outcome.output _ _))), p)

-- a command that does not quit
pub answered_one : {A E : Type 0} (s t : State) (line : List ℕ) (command : Option Command) (a b : Option (List ℕ)) (given : Result A E) (r : Result AfterCommand WriteFailed)
    → command_of line ≡ command → is_quit command ≡ false → r ≡ gone given → Does (Obeys command) s t a b given → AnsweredOne Step quits line (span s t) (span a b) r
answered_one s t line command a b (Ok x) r e q g d =
    subst (AnsweredOne Step quits line (span s t) (span a b)) (sym g) (d.0, subst (λ k. Obeys k (exchange s d.0 t)) (sym e) d.1, d.2, ap next_after (sym (ap is_quit e ∙ q)))
answered_one s t line command a b (Err x) r e q g d =
    subst (AnsweredOne Step quits line (span s t) (span a b)) (sym g) (d.0, subst (λ k. Obeys k (exchange s d.0 t)) (sym e) d.1, d.2)

not_one : (column : ℕ) → column ≢ 1 → nat_eq column 1 ≡ false
not_one column h = grind (arith, nat_tests)

-- after a full or a begun line there is a line end
later_end : (column : ℕ) (e : Ending) → column ≢ 1 → 10 ∷ [] ++ ending_line e ≡ end_answer column e
later_end column e h = ap (λ b. (if b then [] else 10 ∷ []) ++ ending_line e) (sym (not_one column h))

pub end_first : {A E : Type 0} (a b : Option (List ℕ)) (column : ℕ) (e : Ending) (r : Result A E) → column ≡ 1 → Writes a b (ending_line e) r → Writes a b (end_answer column e) r
end_first a b column e r h w = subst (λ k. Writes a b (end_answer k e) r) (sym h) w

pub end_later : {A E : Type 0} (a b c : Option (List ℕ)) (column : ℕ) (e : Ending) (r : Result A E) → column ≢ 1 → Appends a b (10 ∷ []) → Writes b c (ending_line e) r
    → Writes a c (end_answer column e) r
end_later a b c column e r h p w = subst (λ t. Writes a c t r) (later_end column e h) (writes_then a b c _ _ r p w)

pub end_broken : (a b : Option (List ℕ)) (column : ℕ) (e : Ending) → column ≢ 1 → AppendsPrefix a b (10 ∷ []) → AppendsPrefix a b (end_answer column e)
end_broken a b column e h p = subst (AppendsPrefix a b) (later_end column e h) (AppendsPrefix-more a b (10 ∷ []) (ending_line e) p)

-- a module that stands is that of the members
pub record Stands (s : State) (bytes : List ℕ) : Type 0 where
  pub stands : s.stands ≡ true
  pub of : IsOfMembers s.store.entries bytes

pub standing_built : (s : State) (store : Store) (ledger : Ledger) (standing : Option StoredModule) (steps : ℕ) (m : StoredModule) → state store ledger (is_some standing) steps ≡ s
    → standing ≡ Some m → IsStanding store.entries standing → Stands s m.bytes.items
standing_built s store ledger standing steps m is some h = record {
  stands = ap (λ t. t.stands) (sym is) ∙ ap is_some some;
  of = subst (λ t. IsOfMembers t.store.entries m.bytes.items) is (subst (IsStanding store.entries) some h);
}

abbrev read_as : Module → Result Module DeckFault
read_as m = Ok m

-- so is what is loaded of its bytes
pub loaded_built : (s : State) (bytes slice : List ℕ) (m : Module) → Stands s bytes → slice ≡ bytes → ((n : Module) → SpellsModule slice n → read_as n ≡ read_as m) → scratch s.store.entries ≡ Made m
loaded_built s bytes slice m at same loads =
    let loaded = loads at.of.made (subst (λ bs. SpellsModule bs at.of.made) (sym same) at.of.spelled) in
    let one : at.of.made ≡ m = cc in
    at.of.is ∙ ap Made one

module _ (s : State) (n k : ℕ) (same : n ≡ k) (m : Module) (stands : s.stands ≡ true) (built : scratch s.store.entries ≡ Made m) where
  pub run_done_at : {A E : Type 0} (a b c : Option (List ℕ)) (ran : Ran) (r : Result A E) → RanTo m n ran a b → Writes b c (end_answer ran.column ran.ending) r
      → (x : List ℕ) × Runs s.stands k (exchange s x s) × Writes a c x r
  run_done_at a b c ran r h w = subst (λ k. (x : List ℕ) × Runs s.stands k (exchange s x s) × Writes a c x r) same (run_done s n m stands built a b c ran r h w)

  pub run_broken_at : {A E : Type 0} (a b c : Option (List ℕ)) (r : Result A E) → StoppedWithin m n a b → Writes b c (10 ∷ no_memory) r
      → (x : List ℕ) × Runs s.stands k (exchange s x s) × Writes a c x r
  run_broken_at a b c r h w = subst (λ k. (x : List ℕ) × Runs s.stands k (exchange s x s) × Writes a c x r) same (run_broken s n m stands built a b c r h w)

  pub run_unbegun_at : {A E : Type 0} (a c : Option (List ℕ)) (r : Result A E) → Writes a c (10 ∷ no_memory) r → (x : List ℕ) × Runs s.stands k (exchange s x s) × Writes a c x r
  run_unbegun_at a c r w = subst (λ k. (x : List ℕ) × Runs s.stands k (exchange s x s) × Writes a c x r) same (run_unbegun s n m stands built a c r w)

  pub run_unwritten_at : (a b : Option (List ℕ)) → StoppedWithin m n a b → (x : List ℕ) × Runs s.stands k (exchange s x s) × AppendsPrefix a b x
  run_unwritten_at a b h = subst (λ k. (x : List ℕ) × Runs s.stands k (exchange s x s) × AppendsPrefix a b x) same (run_unwritten s n m stands built a b h)

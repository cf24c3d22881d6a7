-- Laws of answered lines: some after others, and a line that was cut.
use Rattle.std.proofs.Common.{◌≡◌, ℕ, zero, suc, ◌<◌, ◌≤◌, ◌⊎◌, inl, inr, Bool, true, false, List, [], ◌∷◌, ◌++◌, length, take, Option, Some, None, Result, Ok, Err, refl, sym, ap, subst, ◌∙◌, append_assoc, append-nil, arith, unwrap_or, take_all, length-take, length-append}
use Rattle.std.specs.Prelude.{All, if◌then◌else◌}
use Rattle.std.proofs.lemmas.List.Elements.{All-nil, All-cons, All-append}
use Rattle.std.proofs.lemmas.Bool.{cases_lt}
use Rattle.std.specs.Io.KnownBytes.{Appends, Consumes, IsAtEnd}
use Rattle.pli_base.specs.Devices.{AppendsPrefix}
use Rattle.pli_base.specs.laws.DeviceLaws.{Appends-none, Appends-then, Consumes-then}
use Rattle.pli_commands.specs.Commands.{line_limit}
use Rattle.pli_commands.specs.answers.Kept.{kept_limit}
use Rattle.pli_commands.specs.Lines.{is_line_feed, without_return, complete_from, pending_from, complete_lines, pending_line, last_line, input_lines}
use Rattle.pli_commands.specs.Exchanges.{Exchange, exchange, span}
use Rattle.pli_commands.specs.Runs.{Answers, nothing, quitting, going, Broken, Answered, QuitsWithin, Stops, IsInput}
use Rattle.pli_commands.specs.answers.Going.{Going}
use Rattle.pli_commands.specs.declared.serving.AfterCommand.{AfterCommand}
use Rattle.pli_commands.specs.declared.serving.AfterCommand.TheVariants.{Go, Quit, End}
use Rattle.pli_commands.specs.declared.serving.WriteFailed.{WriteFailed}
use Rattle.pli_commands.proofs.LinesOfBytes.{length-without_return, complete_from-append, pending_from-append, complete_from-line_feed, pending_from-line_feed, complete_from-other, pending_from-other, input_lines-append}

-- the front of a front and one element more
pub take-take_push : (n : ℕ) (text : List ℕ) (c : ℕ) → take n (take n text ++ c ∷ []) ≡ take n (text ++ c ∷ [])
take-take_push zero text c = refl
take-take_push (suc n) [] c = refl
take-take_push (suc n) (b ∷ text) c = ap (λ l. b ∷ l) (take-take_push n text c)

-- one line, or two that are both too long for a command
abbrev pub Alike : List ℕ → List ℕ → Type 0
Alike line other = (line ≡ other) ⊎ ((line_limit < length line) × (line_limit < length other))

-- what is kept of a line is the line, or both are long
kept_cases : (kept line : List ℕ) → kept ≡ take kept_limit line → (kept ≡ line) ⊎ ((kept_limit ≤ length kept) × (kept_limit ≤ length line))
kept_cases kept line is = elim (cases_lt kept_limit (length line)) [
  | inl more ↦ inr (omega (arith, ap length is, length-take kept_limit line), omega arith)
  | inr fits ↦ inl (is ∙ take_all kept_limit line fits)
]

pub alike_last : (kept line : List ℕ) → kept ≡ take kept_limit line → Alike kept line
alike_last kept line is = elim (kept_cases kept line is) [ inl same ↦ inl same | inr long ↦ inr (omega arith, omega arith) ]

pub alike_ended : (kept line ended : List ℕ) → kept ≡ take kept_limit line → ended ≡ without_return kept → Alike ended (without_return line)
alike_ended kept line ended is ended_is = elim (kept_cases kept line is) [
  | inl same ↦ inl (ended_is ∙ ap without_return same)
  | inr long ↦ inr (omega (arith, ap length ended_is, length-without_return kept), omega (arith, length-without_return line))
]

module _ {S : Type 0} (Step : List ℕ → Exchange S → Type 0) (quits : List ℕ → Bool) where
  -- lines after lines that do not quit
  pub Answers-then : (s t u : S) (xs ys : List (List ℕ)) (a b : List ℕ) (next : AfterCommand) → Answers Step quits s xs a t End → Answers Step quits t ys b u next → Answers Step quits s (xs ++ ys) (a ++ b) u next
  Answers-then _ _ u _ ys _ b next (nothing s) rest = rest
  Answers-then _ _ u _ ys _ b next (going s t v line lines answer answers _ goes step more) rest =
      subst (λ l. Answers Step quits s (line ∷ (lines ++ ys)) l u next) (sym (append_assoc answer answers b))
      (going s t u line (lines ++ ys) answer (answers ++ b) next goes step (Answers-then t v u lines ys answers b next more rest))

  -- what follows the line that quits is not read
  pub Answers-quit : (s t : S) (xs ys : List (List ℕ)) (a : List ℕ) → Answers Step quits s xs a t Quit → Answers Step quits s (xs ++ ys) a t Quit
  Answers-quit _ _ _ ys _ (quitting s t line lines answer quit step) = quitting s t line (lines ++ ys) answer quit step
  Answers-quit _ _ _ ys _ (going s t u line lines answer answers _ goes step more) =
      going s t u line (lines ++ ys) answer answers Quit goes step (Answers-quit t u lines ys answers more)

  -- of lines that were answered to the end none quits
  pub Answers-go_on : (s t : S) (lines : List (List ℕ)) (answers : List ℕ) → Answers Step quits s lines answers t End → All (λ l. quits l ≡ false) lines
  Answers-go_on _ _ _ _ (nothing s) = All-nil (λ l. quits l ≡ false)
  Answers-go_on _ _ _ _ (going s t u line lines answer answers _ goes step more) = All-cons (λ l. quits l ≡ false) line lines goes (Answers-go_on t u lines answers more)

  pub Answers-one : (s t : S) (line answer : List ℕ) → quits line ≡ false → Step line (exchange s answer t) → Answers Step quits s (line ∷ []) answer t End
  Answers-one s t line answer goes step = subst (λ l. Answers Step quits s (line ∷ []) l t End) (append-nil answer) (going s t t line [] answer [] End goes step (nothing t))

  -- answered lines before others
  pub Answered-then : (s t u : S) (xs ys : List (List ℕ)) (answers : List ℕ) (a b d : Option (List ℕ)) (r : Result AfterCommand WriteFailed)
      → Answers Step quits s xs answers t End → Appends a b answers → Answered Step quits ys (span t u) (span b d) r → Answered Step quits (xs ++ ys) (span s u) (span a d) r
  Answered-then s t u xs ys answers a b d (Ok next) front written rest =
      (answers ++ rest.0, Answers-then s t u xs ys answers rest.0 next front rest.1, Appends-then a b d answers rest.0 written rest.2)
  Answered-then s t u xs ys answers a b d (Err e) front written rest = record {
    earlier = xs ++ rest.earlier;
    line = rest.line;
    later = rest.later;
    lines_are = ap (λ l. xs ++ l) rest.lines_are ∙ sym (append_assoc xs rest.earlier (rest.line ∷ rest.later));
    between = rest.between;
    answers = answers ++ rest.answers;
    answered = Answers-then s t rest.between xs rest.earlier answers rest.answers End front rest.answered;
    answer = rest.answer;
    step = rest.step;
    put = rest.put;
    unput = rest.unput;
    answer_is = rest.answer_is;
    written = subst (Appends a d) (sym (append_assoc answers rest.answers rest.put)) (Appends-then a b d answers (rest.answers ++ rest.put) written rest.written);
  }

  -- lines that follow the one that quits
  pub Answered-quit : (s t : S) (xs ys : List (List ℕ)) (a d : Option (List ℕ)) → Answered Step quits xs (span s t) (span a d) (Ok Quit) → Answered Step quits (xs ++ ys) (span s t) (span a d) (Ok Quit)
  Answered-quit s t xs ys a d run = (run.0, Answers-quit s t xs ys run.0 run.1, run.2)

  -- lines that follow the one where the writer failed
  pub Broken-more : (s t : S) (xs ys : List (List ℕ)) (a d : Option (List ℕ)) → Broken Step quits xs (span s t) (span a d) → Broken Step quits (xs ++ ys) (span s t) (span a d)
  Broken-more s t xs ys a d run = record {
    earlier = run.earlier;
    line = run.line;
    later = run.later ++ ys;
    lines_are = ap (λ l. l ++ ys) run.lines_are ∙ append_assoc run.earlier (run.line ∷ run.later) ys;
    between = run.between;
    answers = run.answers;
    answered = run.answered;
    answer = run.answer;
    step = run.step;
    put = run.put;
    unput = run.unput;
    answer_is = run.answer_is;
    written = run.written;
  }

  -- the one line that quits
  pub Answered-quitting : (s t : S) (line : List ℕ) (more : List (List ℕ)) (answer : List ℕ) (a d : Option (List ℕ))
      → quits line ≡ true → Step line (exchange s answer t) → Appends a d answer → Answered Step quits (line ∷ more) (span s t) (span a d) (Ok Quit)
  Answered-quitting s t line more answer a d quit step written = (answer, quitting s t line more answer quit step, written)

  -- the one line where the writer fails
  pub Broken-one : (s t : S) (line : List ℕ) (more : List (List ℕ)) (answer : List ℕ) (a d : Option (List ℕ)) → Step line (exchange s answer t) → AppendsPrefix a d answer → Broken Step quits (line ∷ more) (span s t) (span a d)
  Broken-one s t line more answer a d step written = record {
    earlier = [];
    line = line;
    later = more;
    lines_are = refl;
    between = s;
    answers = [];
    answered = nothing s;
    answer = answer;
    step = step;
    put = written.written;
    unput = written.left;
    answer_is = written.whole;
    written = written.appended;
  }

  -- before the first byte
  pub Going-none : (s : S) (begun kept : List ℕ) (a : Option (List ℕ)) → kept ≡ take kept_limit begun → Going Step quits s s begun [] kept a a
  Going-none s begun kept a is = record { answers = []; answered = nothing s; written = Appends-none a; kept_is = is }

  -- a byte that is no line feed
  pub Going-other : (s t : S) (begun bytes kept : List ℕ) (c : ℕ) (a b : Option (List ℕ)) → is_line_feed c ≡ false
      → Going Step quits s t begun bytes kept a b → Going Step quits s t begun (bytes ++ c ∷ []) (take kept_limit (kept ++ c ∷ [])) a b
  Going-other s t begun bytes kept c a b other so_far = record {
    answers = so_far.answers;
    answered = subst (λ l. Answers Step quits s l so_far.answers t End) (sym (complete_from-other begun bytes c other)) so_far.answered;
    written = so_far.written;
    kept_is =
        ap (λ l. take kept_limit (l ++ c ∷ [])) so_far.kept_is
        ∙ take-take_push kept_limit (pending_from begun bytes) c
        ∙ ap (take kept_limit) (sym (pending_from-other begun bytes c other));
  }

  -- more bytes after those of which the lines are answered
  pub Going-then : (s t u : S) (begun xs kept ys kept_after : List ℕ) (a b d : Option (List ℕ)) → Going Step quits s t begun xs kept a b
      → Answered Step quits (complete_from (pending_from begun xs) ys) (span t u) (span b d) (Ok End) → kept_after ≡ take kept_limit (pending_from (pending_from begun xs) ys)
      → Going Step quits s u begun (xs ++ ys) kept_after a d
  Going-then s t u begun xs kept ys kept_after a b d so_far more is =
      let both = Answered-then s t u (complete_from begun xs) (complete_from (pending_from begun xs) ys) so_far.answers a b d (Ok End) so_far.answered so_far.written more in
      record {
        answers = both.0;
        answered = subst (λ l. Answers Step quits s l both.0 u End) (sym (complete_from-append begun xs ys)) both.1;
        written = both.2;
        kept_is = is ∙ ap (take kept_limit) (sym (pending_from-append begun xs ys));
      }

  module _ (long : (s t : S) (line other answer : List ℕ) → line_limit < length line → line_limit < length other → Step line (exchange s answer t) → Step other (exchange s answer t))
      (goes : (line : List ℕ) → line_limit < length line → quits line ≡ false) where
    step_alike : (s t : S) (line other answer : List ℕ) → Alike line other → Step line (exchange s answer t) → Step other (exchange s answer t)
    step_alike s t line other answer alike step = elim alike [
      | inl same ↦ subst (λ l. Step l (exchange s answer t)) same step
      | inr both ↦ long s t line other answer both.0 both.1 step
    ]

    quits_alike : (line other : List ℕ) → Alike line other → quits other ≡ quits line
    quits_alike line other alike = elim alike [
      | inl same ↦ ap quits (sym same)
      | inr both ↦ goes other both.1 ∙ sym (goes line both.0)
    ]

    -- a line feed after a line that does not quit
    pub Going-line : (s t u : S) (begun bytes kept ended answer : List ℕ) (c : ℕ) (a b d : Option (List ℕ)) → is_line_feed c ≡ true → Going Step quits s t begun bytes kept a b → ended ≡ without_return kept
        → quits ended ≡ false → Step ended (exchange t answer u) → Appends b d answer → Going Step quits s u begun (bytes ++ c ∷ []) [] a d
    Going-line s t u begun bytes kept ended answer c a b d feed so_far ended_is still step written =
        let line = without_return (pending_from begun bytes) in
        let alike = alike_ended kept (pending_from begun bytes) ended so_far.kept_is ended_is in
        let one = Answers-one t u line answer (quits_alike ended line alike ∙ still) (step_alike t u ended line answer alike step) in
        record {
          answers = so_far.answers ++ answer;
          answered = subst (λ l. Answers Step quits s l (so_far.answers ++ answer) u End) (sym (complete_from-line_feed begun bytes c [] feed))
              (Answers-then s t u (complete_from begun bytes) (line ∷ []) so_far.answers answer End so_far.answered one);
          written = Appends-then a b d so_far.answers answer so_far.written written;
          kept_is = ap (take kept_limit) (sym (pending_from-line_feed begun bytes c feed));
        }

    -- a line feed after the line that quits
    pub quit_line : (s t u : S) (begun bytes kept ended answer : List ℕ) (c : ℕ) (more : List ℕ) (a b d : Option (List ℕ)) → is_line_feed c ≡ true → Going Step quits s t begun bytes kept a b → ended ≡ without_return kept
        → quits ended ≡ true → Step ended (exchange t answer u) → Appends b d answer → Answered Step quits (complete_from begun (bytes ++ c ∷ more)) (span s u) (span a d) (Ok Quit)
    quit_line s t u begun bytes kept ended answer c more a b d feed so_far ended_is quit step written =
        let line = without_return (pending_from begun bytes) in
        let alike = alike_ended kept (pending_from begun bytes) ended so_far.kept_is ended_is in
        let one = Answered-quitting t u line (complete_from [] more) answer b d (quits_alike ended line alike ∙ quit) (step_alike t u ended line answer alike step) written in
        subst (λ l. Answered Step quits l (span s u) (span a d) (Ok Quit)) (sym (complete_from-line_feed begun bytes c more feed))
        (Answered-then s t u (complete_from begun bytes) (line ∷ complete_from [] more) so_far.answers a b d (Ok Quit) so_far.answered so_far.written one)

    -- the bytes up to that line feed, and those after it
    pub quits_within : (s t : S) (begun bytes kept ended : List ℕ) (c : ℕ) (more : List ℕ) (a b : Option (List ℕ)) → is_line_feed c ≡ true → Going Step quits s t begun bytes kept a b → ended ≡ without_return kept
        → quits ended ≡ true → QuitsWithin quits (length (bytes ++ c ∷ more)) begun (bytes ++ c ∷ more)
    quits_within s t begun bytes kept ended c more a b feed so_far ended_is quit =
        let line = without_return (pending_from begun bytes) in
        let alike = alike_ended kept (pending_from begun bytes) ended so_far.kept_is ended_is in
        record {
          front = bytes ++ c ∷ [];
          after = more;
          bytes_are = sym (append_assoc bytes (c ∷ []) more);
          few = omega (arith, length-append bytes (c ∷ more));
          lines = complete_from begun bytes;
          line = line;
          ended = complete_from-line_feed begun bytes c [] feed;
          fed = pending_from-line_feed begun bytes c feed;
          go_on = Answers-go_on s t (complete_from begun bytes) so_far.answers so_far.answered;
          quit = quits_alike ended line alike ∙ quit;
        }

    -- a line feed after a line whose answer cannot be written
    pub broken_line : (s t u : S) (begun bytes kept ended answer : List ℕ) (c : ℕ) (more : List ℕ) (a b d : Option (List ℕ)) → is_line_feed c ≡ true → Going Step quits s t begun bytes kept a b → ended ≡ without_return kept
        → Step ended (exchange t answer u) → AppendsPrefix b d answer → Broken Step quits (complete_from begun (bytes ++ c ∷ more)) (span s u) (span a d)
    broken_line s t u begun bytes kept ended answer c more a b d feed so_far ended_is step written =
        let line = without_return (pending_from begun bytes) in
        let alike = alike_ended kept (pending_from begun bytes) ended so_far.kept_is ended_is in
        let one = Broken-one t u line (complete_from [] more) answer b d (step_alike t u ended line answer alike step) written in
        let e : WriteFailed = record {} in
        subst (λ l. Broken Step quits l (span s u) (span a d)) (sym (complete_from-line_feed begun bytes c more feed))
        (Answered-then s t u (complete_from begun bytes) (line ∷ complete_from [] more) so_far.answers a b d (Err e) so_far.answered so_far.written one)

    -- an empty last line is none
    pub last_none : (s : S) (kept line : List ℕ) (a : Option (List ℕ)) → kept ≡ take kept_limit line → length kept ≡ 0 → Answered Step quits (last_line line) (span s s) (span a a) (Ok End)
    last_none s kept [] a is none = ([], nothing s, Appends-none a)
    last_none s kept (c ∷ text) a is none = absurd (omega (arith, ap length is))

    -- the last line, which no line feed ends
    pub last_going : (s t : S) (kept line answer : List ℕ) (a d : Option (List ℕ)) → kept ≡ take kept_limit line → 0 < length kept → quits kept ≡ false → Step kept (exchange s answer t) → Appends a d answer
        → Answered Step quits (last_line line) (span s t) (span a d) (Ok End)
    last_going s t kept [] answer a d is some goes_on step written = absurd (omega (arith, ap length is))
    last_going s t kept (c ∷ text) answer a d is some goes_on step written =
        let alike = alike_last kept (c ∷ text) is in
        (answer, Answers-one s t (c ∷ text) answer (quits_alike kept (c ∷ text) alike ∙ goes_on) (step_alike s t kept (c ∷ text) answer alike step), written)

    pub last_quit : (s t : S) (kept line answer : List ℕ) (a d : Option (List ℕ)) → kept ≡ take kept_limit line → 0 < length kept → quits kept ≡ true → Step kept (exchange s answer t) → Appends a d answer
        → Answered Step quits (last_line line) (span s t) (span a d) (Ok Quit)
    last_quit s t kept [] answer a d is some quit step written = absurd (omega (arith, ap length is))
    last_quit s t kept (c ∷ text) answer a d is some quit step written =
        let alike = alike_last kept (c ∷ text) is in
        Answered-quitting s t (c ∷ text) [] answer a d (quits_alike kept (c ∷ text) alike ∙ quit) (step_alike s t kept (c ∷ text) answer alike step) written

    pub last_broken : (s t : S) (kept line answer : List ℕ) (a d : Option (List ℕ)) → kept ≡ take kept_limit line → 0 < length kept → Step kept (exchange s answer t) → AppendsPrefix a d answer
        → Broken Step quits (last_line line) (span s t) (span a d)
    last_broken s t kept [] answer a d is some step written = absurd (omega (arith, ap length is))
    last_broken s t kept (c ∷ text) answer a d is some step written =
        Broken-one s t (c ∷ text) [] answer a d (step_alike s t kept (c ∷ text) answer (alike_last kept (c ∷ text) is) step) written

-- what a reader told it had left, in what was taken of it
pub input_told : (old new : Option (List ℕ)) (taken : List ℕ) → Consumes old new taken → IsInput old (taken ++ unwrap_or new [])
input_told None new taken h = tt
input_told (Some xs) None taken h = absurd h
input_told (Some xs) (Some ys) taken h = h

pub input_ended : (old new : Option (List ℕ)) (taken : List ℕ) → Consumes old new taken → IsAtEnd new → IsInput old taken
input_ended None new taken h e = tt
input_ended (Some xs) None taken h e = absurd h
input_ended (Some xs) (Some ys) taken h e = h ∙ ap (λ l. taken ++ l) e ∙ append-nil taken

module _ {S : Type 0} (Step : List ℕ → Exchange S → Type 0) (quits : List ℕ → Bool) where
  -- the lines of all of the input begin with those among which the answers stopped
  pub served_part : (s t u : S) (taken kept piece : List ℕ) (a b d left between left_after : Option (List ℕ)) (r : Result AfterCommand WriteFailed)
      → ((xs ys : List (List ℕ)) → Answered Step quits xs (span s u) (span a d) r → Answered Step quits (xs ++ ys) (span s u) (span a d) r)
      → Going Step quits s t [] taken kept a b → Consumes left between taken → Consumes between left_after piece → Answered Step quits (complete_from (pending_line taken) piece) (span t u) (span b d) r
      → (input : List ℕ) × IsInput left input × Answered Step quits (input_lines input) (span s u) (span a d) r
  served_part s t u taken kept piece a b d left between left_after r stays so_far before after run =
      let more = input_lines-append (taken ++ piece) (unwrap_or left_after []) in
      let lines = complete_lines taken ++ complete_from (pending_line taken) piece in
      let both = Answered-then Step quits s t u (complete_lines taken) (complete_from (pending_line taken) piece) so_far.answers a b d r so_far.answered so_far.written run in (
        (taken ++ piece) ++ unwrap_or left_after [],
        input_told left left_after (taken ++ piece) (Consumes-then left between left_after taken piece before after),
        subst (λ l. Answered Step quits l (span s u) (span a d) r) (sym (more.1 ∙ ap (λ l. l ++ more.0) (complete_from-append [] taken piece))) (stays lines more.0 both),
      )

  -- at the end of the input the last line is answered
  pub served_end : (s t u : S) (taken kept : List ℕ) (a b d left between left_after : Option (List ℕ)) (r : Result AfterCommand WriteFailed)
      → Going Step quits s t [] taken kept a b → Consumes left between taken → Consumes between left_after [] → IsAtEnd left_after → Answered Step quits (last_line (pending_line taken)) (span t u) (span b d) r
      → (input : List ℕ) × IsInput left input × Answered Step quits (input_lines input) (span s u) (span a d) r
  served_end s t u taken kept a b d left between left_after r so_far before after ended run = (
    taken,
    input_ended left left_after taken (subst (Consumes left left_after) (append-nil taken) (Consumes-then left between left_after taken [] before after)) ended,
    Answered-then Step quits s t u (complete_lines taken) (last_line (pending_line taken)) so_far.answers a b d r so_far.answered so_far.written run,
  )

-- the line that quits, in a piece after what was taken before
pub QuitsWithin-then : (quits : List ℕ → Bool) (limit size : ℕ) (taken piece : List ℕ) → limit ≤ size → All (λ l. quits l ≡ false) (complete_lines taken)
    → QuitsWithin quits limit (pending_line taken) piece → QuitsWithin quits size [] (taken ++ piece)
QuitsWithin-then quits limit size taken piece within go_on q = record {
  front = taken ++ q.front;
  after = q.after;
  bytes_are = ap (λ l. taken ++ l) q.bytes_are ∙ sym (append_assoc taken q.front q.after);
  few = omega (arith, q.few);
  lines = complete_lines taken ++ q.lines;
  line = q.line;
  ended = complete_from-append [] taken q.front ∙ ap (λ l. complete_lines taken ++ l) q.ended ∙ sym (append_assoc (complete_lines taken) q.lines (q.line ∷ []));
  fed = pending_from-append [] taken q.front ∙ q.fed;
  go_on = All-append (λ l. quits l ≡ false) (complete_lines taken) q.lines go_on q.go_on;
  quit = q.quit;
}

-- at the end of the input reading stops, whatever the last line is
pub stops_at_end : (quits : List ℕ → Bool) (piece : ℕ) (taken : List ℕ) (left : Option (List ℕ)) (next : AfterCommand) → IsAtEnd left → Stops quits piece taken left (Ok next)
stops_at_end quits piece taken left Go end = tt
stops_at_end quits piece taken left Quit end = inr end
stops_at_end quits piece taken left End end = end

-- what does not quit, and is not in the middle, has come to the end
pub end_from : (next : AfterCommand) → (next ≡ Quit → ⊥) → (◌≡◌ {A = Result AfterCommand WriteFailed} (Ok next) (Ok Go) → ⊥) → next ≡ End
end_from Go quit go = absurd (go refl)
end_from Quit quit go = absurd (quit refl)
end_from End quit go = refl

-- what follows a line
abbrev pub next_after : Bool → AfterCommand
next_after is_last = if is_last then Quit else Go

-- what the answer to a command tells of its line
pub quits_from : (is_last : Bool) → Quit ≡ next_after is_last → is_last ≡ true
quits_from true h = refl
quits_from false h = cc

pub goes_from : (is_last : Bool) (next : AfterCommand) → next ≡ next_after is_last → (next ≡ Quit → ⊥) → is_last ≡ false
goes_from true next h other = absurd (other h)
goes_from false next h other = refl

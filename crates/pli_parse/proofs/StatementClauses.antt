-- An IF statement whose second clause is at fault.
use Rattle.std.proofs.Common.{◌≡◌, ℕ, ◌+◌, Ok, refl, codes}
use Rattle.pli_base.specs.Words.{Tokens, is_word}
use Rattle.pli_base.specs.Reading.{Front, taken}
use Rattle.pli_base.specs.Syntax.{Expression}
use Rattle.pli_base.specs.declared.code.Code.TheVariants.{ThenExpected}
use Rattle.pli_base.specs.declared.failure.Failure.TheVariants as errors
use Rattle.pli_base.specs.Statements.{Statement, count}
use Rattle.pli_parse_statement.specs.StatementWords.{Context, standing}
use Rattle.pli_parse_statement.specs.declared.keyword.StatementStanding.TheVariants.{AsClause}
use Rattle.pli_parse_statement.specs.StatementReading.{Inside, expression_in, alternative_from, else_first, if_at}
use Rattle.pli_base.specs.declared.failure.Failure.{Failure}
use Rattle.pli_base.specs.declared.token.Fault.{Fault}
use Rattle.pli_base.specs.answers.FailureAnswers.{Fails}

-- after a condition, THEN and the first clause, a fault of the second clause is the fault of the statement; m is the number of the next statement
pub alternative_fails : (i : Inside) (c : Context) (p k m : ℕ) (ts us : Tokens) (condition : Front Expression) (first : Front Statement) (e : Failure Fault)
    → expression_in i.levels p ts ≡ Ok condition
    → taken (is_word (codes "THEN")) ThenExpected condition.next condition.rest ≡ Ok us
    → i.statement (standing AsClause c) (condition.next + 1) k us ≡ Ok first
    → m ≡ k + count first.value
    → Fails e (alternative_from i c first.next m first.rest (else_first first.rest))
    → Fails e (if_at i c p k ts)
unfolding if_at
alternative_fails i c p k m ts us condition first errors.OutOfMemory a b d n h = tt
alternative_fails i c p k m ts us condition first (errors.Fault f) a b d n h = rw (a, b, d, ← n, h) refl

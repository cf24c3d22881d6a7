use Rattle.std.proofs.Common.{◌≡◌, Ok, Err, ap, ◌∙◌}
use Rattle.std.specs.Prelude.{Result, IfOk}
use Rattle.std.specs.declared.alloc.AllocError.{AllocError}
use Rattle.pli_base.specs.Name.{Name}
use Rattle.pli_members.specs.Members.{Store}
use Rattle.pli_include.specs.Expanded.{Expanded, told, expansion_of, outcome_of}
use Rattle.pli_include.specs.Expansion.{Outcome}
use Rattle.std.proofs.Common.{None, sym}
use Rattle.pli_members.specs.Members.{Member}
use Rattle.std.specs.Prelude.{Option, List}
use Rattle.pli_include.specs.declared.expansion.ExpansionFault.{ExpansionFault}
use Rattle.pli_include.specs.Expanded.{look_in}
use Rattle.pli_include.specs.Expansion.{Progress}
use Rattle.pli_include.specs.answers.Walking.{ended, IsEven}
use Rattle.pli_include.proofs.StepsKeep.{texts_have_origins}
use Rattle.pli_include.proofs.expander.expansion.Goals as goal

-- where there is no fault each text has its origin
even : (entries : List (Name × Member)) (u : Name) (fault : Option ExpansionFault) (s : Progress) → ended fault s ≡ outcome_of entries u → fault ≡ None → IsEven s
even entries u fault s e none =
    let h = texts_have_origins 200000 (look_in entries) u s (sym e ∙ ap (λ f. ended f s) none) in
    record { origins = h.0; few = h.1 }

pub finish-requires : goal.finish-requires
finish-requires c = even c.args.members.now.entries c.args.unit c.in_ok-fault.fault c.read.new.self.progress c.in_ok-fault.ensures

-- what is told of the outcome is the expansion
passes : (r : Result Expanded AllocError) (s : Store) (u : Name) (o : Outcome) → IfOk r (λ e. e ≡ told s o) → o ≡ outcome_of s.entries u → IfOk r (λ e. e ≡ expansion_of s u)
unfolding expansion_of
passes (Ok e) s u o h same = h ∙ ap (told s) same
passes (Err error) s u o h same = tt

pub returns : goal.returns
returns c = passes c.finish.result c.args.members.now c.args.unit _ c.finish.ensures c.in_ok-fault.ensures

use Rattle.std.proofs.Common.{List, sym, ◌∙◌, subst}
use Rattle.pli_declare_scopes.specs.declared.level.ItemStanding.{ItemStanding}
use Rattle.pli_declare.specs.answers.Owners.{StandAfterOwners}
use Rattle.pli_declare.proofs.ItemsStandAfter.{stand_after_owners}
use Rattle.pli_declare_tables.proofs.entries.declare_items.Goals as goal

pub add_items-requires : goal.add_items-requires
add_items-requires c =
    subst (λ (ss : List ItemStanding). StandAfterOwners ss) (sym (c.deref-4.ensures.value ∙ c.in_ok-standings.ensures)) (stand_after_owners c.deref-2.result.now)

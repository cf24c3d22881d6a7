use Rattle.std.proofs.Common.{◌≡◌, Bool, true, false, List, [], ◌∷◌, ◌++◌, length, ap, if◌then◌else◌}
use Rattle.std.specs.List.{All}
use Rattle.std.proofs.lemmas.List.Elements.{All-push, All-same}
use Rattle.pli_machine_activations.specs.answers.EmptyLists.{AreEmptied}
use Rattle.pli_machine_activations.specs.declared.spare.Lists.{Lists}
use Rattle.pli_machine_activations.proofs.spare.Spare.keep.Goals as goal

-- where they are kept or dropped
kept : (b : Bool) (old new : List Lists) (lists : Lists) → new ≡ (if b then old ++ lists ∷ [] else old) → All AreEmptied old → AreEmptied lists → All AreEmptied new
kept true old new lists is all one = All-same AreEmptied new (old ++ lists ∷ []) is (All-push AreEmptied old lists all one)
kept false old new lists is all one = All-same AreEmptied new old is all

pub invariant_of-self : goal.invariant_of-self
invariant_of-self c =
    record {
      emptied = kept _ c.args.self.now.lists.items c.push-lists.new.self.items _ c.push-lists.ensures.items c.args.self.now.emptied (record {
        operands = ap length c.requires.empty.no_operand;
        pending = ap length c.requires.empty.none_pending;
        owned = ap length c.requires.owned;
      });
    }

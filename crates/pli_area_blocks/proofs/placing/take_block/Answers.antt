use Rattle.std.proofs.Common.{◌≡◌, true, false, ℕ, List, [], ◌∷◌, Some, None, Result, Ok, Err, OnOk, OnErr, if◌then◌else◌, nat_eq, Bool, refl, sym, ap, ◌∙◌}
use Rattle.std.proofs.lemmas.Option.{none-some}
use Rattle.pli_area.specs.Areas.{Block, block_at, without_block}
use Rattle.pli_area_blocks.proofs.placing.take_block.Goals as goal

none_taken : (bs : List Block) (position : ℕ) → block_at bs position ≡ None → without_block bs position ≡ bs
none_taken [] position none = refl
none_taken (b ∷ bs) position none = by (nat_eq b.position position) none (none_taken bs position)
  where
    by : (e : Bool) → (if e then Some b else block_at bs position) ≡ None → (block_at bs position ≡ None → without_block bs position ≡ bs)
        → (if e then bs else b ∷ without_block bs position) ≡ b ∷ bs
    by true e rest = absurd (none-some b (sym e))
    by false e rest = ap (λ l. b ∷ l) (rest e)

taken : {T E : Type 0} (r : Result T E) (old new : List Block) (position : ℕ) → OnOk r (new ≡ without_block old position)
    → OnErr r (block_at old position ≡ None) → OnErr r (new ≡ old) → new ≡ without_block old position
taken (Ok x) old new position released none same = released
taken (Err x) old new position released none same = same ∙ sym (none_taken old position none)

pub returns-clause-blocks : goal.returns-clause-blocks
returns-clause-blocks c =
    taken c.release.result c.args.area.now.blocks c.release.new.self.blocks c.args.position c.release.ensures.released c.release.ensures.not_live
    c.release.ensures.unchanged

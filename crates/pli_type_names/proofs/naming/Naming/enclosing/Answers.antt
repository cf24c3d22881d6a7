use Rattle.std.proofs.Common.{reverse, slice_get, ap, ◌∙◌}
use Rattle.pli_type_names.proofs.naming.Naming.enclosing.Goals as goal

pub returns : goal.returns
returns c =
    c.block_outward.ensures
    ∙ ap (λ xs. slice_get (reverse xs) c.args.links) c.deref.ensures.value
    ∙ ap (λ bs. slice_get bs c.args.links) (ap (λ n. n.blocks) c.self.view_is)

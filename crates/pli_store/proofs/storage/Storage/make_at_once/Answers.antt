use Rattle.std.proofs.Common.{◌≡◌, ℕ, suc, false, ◌∙◌, arith}
use Rattle.pli_map.specs.Scalars.{is_area}
use Rattle.pli_map.specs.Sizes.{size_of}
use Rattle.pli_map.specs.views.DescriptionView.{description_view}
use Rattle.pli_store.specs.declared.kind.Kind.{Kind}
use Rattle.pli_store.proofs.storage.Storage.make_at_once.Goals as goal

-- a kind that takes few bytes is no area
few_there : (kind : Kind) (n : ℕ) → kind.short ≡ suc n
    → (size_of (description_view kind.description.now) ≡ suc n) × (is_area (description_view kind.description.now) ≡ false)
few_there kind n is =
    let both = kind.few (λ none. omega (arith, is, none)) in
    (both.0 ∙ is, both.1)

pub make_short-requires-clause-plain : goal.make_short-requires-clause-plain
make_short-requires-clause-plain c = (few_there c.args.kind.now 3 c.in-4.is).1

pub make_short-requires-clause-size : goal.make_short-requires-clause-size
make_short-requires-clause-size c = (few_there c.args.kind.now 3 c.in-4.is).0

pub make_short-requires-clause-bytes : goal.make_short-requires-clause-bytes
make_short-requires-clause-bytes c = c.requires ∙ (few_there c.args.kind.now 3 c.in-4.is).0

pub make_short-requires-in-8-clause-plain : goal.make_short-requires-in-8-clause-plain
make_short-requires-in-8-clause-plain c = (few_there c.args.kind.now 7 c.in-8.is).1

pub make_short-requires-in-8-clause-size : goal.make_short-requires-in-8-clause-size
make_short-requires-in-8-clause-size c = (few_there c.args.kind.now 7 c.in-8.is).0

pub make_short-requires-in-8-clause-bytes : goal.make_short-requires-in-8-clause-bytes
make_short-requires-in-8-clause-bytes c = c.requires ∙ (few_there c.args.kind.now 7 c.in-8.is).0

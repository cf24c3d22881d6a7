use Rattle.std.proofs.Common.{◌≡◌, ℕ, ◌<◌, ◌-◌, Bool, List, true, false, length, take, drop, if◌then◌else◌, ap, sym, subst, ◌∙◌, arith}
use Rattle.std.specs.Prelude.{reverse}
use Rattle.pli_base.specs.Name.{Name as Characters}
use Rattle.pli_declare_scopes.specs.Scopes.{BlockItems as Items, item_at, chain_over, is_part, fits}
use Rattle.pli_declare_scopes.specs.declared.found.Found.TheVariants.{Nothing, One}
use Rattle.pli_declare_scopes.specs.answers.Indexes.{OwnersBefore}
use Rattle.pli_declare_scopes.proofs.CandidateLemmas.{fits_named}
use Rattle.pli_declare_scopes.proofs.TailsFound.{rest_named}
use Rattle.pli_declare_scopes.proofs.block.BlockItems.found_alone.Goals as goal

-- what the walk up tells is whether all names fit
told : (items : Items) → OwnersBefore items → (names : List Characters) → 1 < length names → (n : ℕ) → n < length items → fits items (drop 1 names) n ≡ true
    → (b t : Bool) → b ≡ is_part (reverse (take (length names - 1) names)) (chain_over items (item_at items n).owner) → b ≡ t → fits items names n ≡ t
told items owners names some n lt h b t e is =
    fits_named items owners names (omega (arith, some)) n lt (rest_named items owners names some n lt h) ∙ sym e ∙ is

pub returns-then-fits : goal.returns-then-fits
returns-then-fits c =
    let items = c.self.inside.items.items in
    let names = c.args.names.now in
    let n = c.args.number in
    let is : fits items names n ≡ true = told items c.self.invariant.0.owners names c.requires.some n
    (subst (λ block. n < length block) (sym c.self.view_is) c.requires.within)
    (subst (λ block. fits block (drop 1 names) n ≡ true) (sym c.self.view_is) c.requires.fitting)
    c.fits.result true
    (subst (λ block. c.fits.result ≡ is_part (reverse (take (length names - 1) names)) (chain_over block (item_at block n).owner)) (sym c.self.view_is) c.fits.ensures) c.if-fits.true in
    ap (λ b. if b then One n else Nothing) (sym (ap (λ block. fits block names n) (sym c.self.view_is) ∙ is))

pub returns-else-fits : goal.returns-else-fits
returns-else-fits c =
    let items = c.self.inside.items.items in
    let names = c.args.names.now in
    let n = c.args.number in
    let is : fits items names n ≡ false = told items c.self.invariant.0.owners names c.requires.some n
    (subst (λ block. n < length block) (sym c.self.view_is) c.requires.within)
    (subst (λ block. fits block (drop 1 names) n ≡ true) (sym c.self.view_is) c.requires.fitting)
    c.fits.result false
    (subst (λ block. c.fits.result ≡ is_part (reverse (take (length names - 1) names)) (chain_over block (item_at block n).owner)) (sym c.self.view_is) c.fits.ensures) c.if-fits.false in
    ap (λ b. if b then One n else Nothing) (sym (ap (λ block. fits block names n) (sym c.self.view_is) ∙ is))

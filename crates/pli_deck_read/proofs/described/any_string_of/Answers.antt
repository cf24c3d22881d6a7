use Rattle.std.proofs.Common.{sym, ◌∙◌}
use Rattle.pli_deck_write.specs.Descriptions.{any_string_tag}
use Rattle.pli_deck_write.proofs.DescriptionViews.{any_string_said}
use Rattle.pli_deck_read.proofs.DescriptionReading.{any_string_read, no_open_form, tag_over}
use Rattle.pli_deck_read.proofs.described.any_string_of.Goals as goal

pub returns-then-has_stars : goal.returns-then-has_stars
returns-then-has_stars c = λ inner.
    rw (any_string_said c.args.form) (any_string_read c.args.version inner c.args.form c.args.bytes.now (sym c.has_stars.ensures ∙ c.if-has_stars.true))

pub returns : goal.returns
returns c = λ inner.
    no_open_form c.args.version inner (any_string_tag c.args.form) c.args.bytes.now (sym c.has_stars.ensures ∙ c.if-has_stars.false) (tag_over c.args.form)

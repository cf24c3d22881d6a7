-- What is kept of a unit, apart from where it lies in memory.
use Rattle.std.specs.Prelude.{◌≡◌, Option, None, Some, option_map}
use Rattle.pli_base.specs.Words.{Tokens}
use Rattle.pli_deck.specs.declared.compiled.Compiled.{Compiled}
use Rattle.pli_deck.specs.views.OutcomeView.{outcome_view}
use Rattle.pli_include.specs.Expanded.{Expanded}
use Rattle.pli_meaning.specs.Scratch.{compiled_texts}

-- the expansion that was compiled: the one before the last where it is kept, else the last
abbrev pub source_of : (last before : Option Expanded) → Option Expanded
source_of last (Some e) = Some e
source_of last None = last

-- its texts, if they have a result
abbrev pub texts_of : {R : Type 0} → (last before : Option Expanded) → Option R → Option Tokens
texts_of last before None = None
texts_of last before (Some r) = option_map (λ e. e.texts) (source_of last before)

-- the texts have a result, which is what they are compiled to; or neither is there
abbrev pub HaveResult : Option Tokens → Option Compiled → Type 0
HaveResult None None = Unit {0}
HaveResult None (Some c) = ⊥
HaveResult (Some texts) None = ⊥
HaveResult (Some texts) (Some c) = outcome_view c ≡ compiled_texts texts

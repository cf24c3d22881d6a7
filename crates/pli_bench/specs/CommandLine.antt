-- What the words of the command line say, by what the crate clap makes of them.
use Rattle.std.specs.Prelude.{◌≡◌, ◌<◌, ◌^◌, ℕ, List, [], ◌∷◌, true, length, codes, Option, Some, None}
use Rattle.std.specs.Prelude.{Result, Ok, Err}
use Rattle.std.specs.Str.Parse.{IsNumeral, digits_value, without_leading_plus}
use Rattle.clap.specs.Words.{App, Kinds, Rule, Text, fault_of, matches_of, new_app, new_rule, one_of}
use Rattle.clap.specs.Words.{with_rule}
use Rattle.clap.specs.Simple.{on_top}
use Rattle.clap.specs.declared.builder.action.ArgAction.TheVariants.{Set}
use Rattle.clap.specs.declared.builder.value_parser.ValueParser.TheVariants.{Unsigned}
use Rattle.pli_bench.specs.declared.arguments.Arguments.{Arguments}
use Rattle.pli_bench.specs.declared.arguments.ArgumentsError.{ArgumentsError}
use Rattle.pli_bench.specs.declared.arguments.ArgumentsError.TheVariants.{Usage, OutOfMemory}

-- `--steps N`, with N up to 18 nines; 1000000 where the words do not say it
abbrev pub steps : Rule
steps = record (new_rule (codes "steps")) {
  long = Some (codes "steps");
  action = Some Set;
  value_names = 1;
  defaults = codes "1000000" ∷ [];
  parser = Some (Unsigned 0 999999999999999999);
}

-- the program takes `--steps` alone; its own name is not among the words
abbrev pub program : App
program = with_rule (on_top (λ s. record s { no_binary_name = true }) (new_app (codes "pliwb"))) steps

-- what is wrong with the words
abbrev pub faults : List Text → Kinds
faults words = fault_of program words

-- the number of steps, as the words spell it
abbrev pub steps_text : List Text → Option Text
steps_text words = one_of (codes "steps") (matches_of program words)

-- the number that a text spells
abbrev pub Spells : Option Text → ℕ → Type 0
Spells None n = n ≡ 1000000
Spells (Some text) n =
    IsNumeral 10 (without_leading_plus text) → digits_value 10 (without_leading_plus text) < 2 ^ 64
    → n ≡ digits_value 10 (without_leading_plus text)

-- words without fault give the steps of a bare RUN
abbrev pub Gives : List Text → ℕ → Type 0
Gives words n = (faults words ≡ []) × Spells (steps_text words) n

-- there are faults, or memory ran out
abbrev pub Refuses : Kinds → ArgumentsError → Type 0
Refuses kinds (Usage text) = 0 < length kinds
Refuses kinds OutOfMemory = Unit {0}

-- what reading the words answers
abbrev pub Reads : List Text → Result Arguments ArgumentsError → Type 0
Reads words (Ok arguments) = Gives words arguments.steps
Reads words (Err error) = Refuses (faults words) error

-- What the law of naming says.
use Rattle.std.specs.Prelude.{◌≡◌}
use Rattle.pli_map.specs.Description.{Description}
use Rattle.pli_value.specs.Value.{Value}
use Rattle.pli_program.specs.Naming.{named}
use Rattle.pli_program.specs.Program.{Instruction}
use Rattle.pli_program.specs.Templates.{Template}

-- an instruction of a program is itself where each description, template and value is answered by itself. So
-- no instruction becomes another one by what it names
abbrev pub NamedByItself : Type 0
NamedByItself =
    (i : Instruction)
    → named (λ X. X) (λ j. j) (λ X f x. f x) (λ (d : Description). d) (λ (t : Template). t)
    (λ (v : Value). v) i ≡ i

-- Instructions that name entries of tables.
use Rattle.std.proofs.Common.{◌≡◌, ◌++◌, ◌∷◌, [], ◌||◌, not, Bool, true, false, List, length, ap, ◌∙◌}
use Rattle.pli_program.specs.Program as programs
use Rattle.pli_code.specs.CodedInstruction.{Instruction}
use Rattle.pli_gen_emit.specs.Encoding.{NumberedTables, descriptions_named, templates_named, values_named}
use Rattle.pli_gen_emit.specs.answers.Emitting.{Emission, tables_with, emitted, gotos_with, with_instruction, Emits, Puts}
use Rattle.pli_gen_emit.specs.answers.Instructions.{instruction_fits}
use Rattle.pli_gen_emit.specs.answers.Numbering.{Numbers}
use Rattle.pli_gen_emit.specs.declared.emitter.Emitter.{Emitter}
use Rattle.pli_gen_emit.specs.declared.emitter.LabelJump.{LabelJump}
use Rattle.pli_gen_emit.specs.views.TableView.{tables_view}
use Rattle.pli_gen_emit.proofs.KeyLemmas.{same_tables}

-- what it names is numbered, and then it is put
pub named_emitted : (old mid new : Emitter) (i : programs.Instruction) (x : Instruction)
    → Numbers old.tables mid.tables (descriptions_named i) (templates_named i) (values_named i)
    → (mid.tables.lacks_memory ≡ false → x ≡ emitted (tables_view old.tables) i)
    → mid.code.items ≡ old.code.items → mid.gotos.items ≡ gotos_with old.gotos.items (length old.code.items) i
    → mid.is_wide ≡ old.is_wide → true ≡ instruction_fits i → Puts mid new true x → Emits old new (i ∷ [])
unfolding with_instruction
named_emitted old mid new i x n number code gotos wide fits p = (
  λ h. n.memory (p.0 h),
  λ h. let m = p.0 h in
      let made : NumberedTables → List Instruction → List LabelJump → Bool → Emission =
      λ t is js w. record { tables = t; code = is; gotos = js; is_wide = w } in
      let now = tables_with (tables_view old.tables) i in
      let is = old.code.items ++ emitted (tables_view old.tables) i ∷ [] in
      let js = gotos_with old.gotos.items (length old.code.items) i in
      p.1 h
      ∙ ap (λ t. made t (mid.code.items ++ x ∷ []) mid.gotos.items (mid.is_wide || false)) (same_tables _ _ _ _ _ _ (n.descriptions m) (n.templates m) (n.values m))
      ∙ ap (λ xs. made now xs mid.gotos.items (mid.is_wide || false)) (ap (λ xs. xs ++ x ∷ []) code ∙ ap (λ y. old.code.items ++ y ∷ []) (number m))
      ∙ ap (λ xs. made now is xs (mid.is_wide || false)) gotos
      ∙ ap (made now is js) (ap (λ b. b || false) wide ∙ ap (λ b. old.is_wide || not b) fits),
)

-- The names of a reference, apart from where they lie in memory.
use Rattle.std.specs.Prelude.{List}
use Rattle.pli_base.specs.declared.syntax.Identifier.{Identifier}
use Rattle.pli_declare_outline.specs.declared.used_names.UsedNames.{UsedNames}
use Rattle.pli_declare_outline.specs.declared.used_names.UsedNames.TheVariants as variants

-- one, or several
abbrev pub names_view : UsedNames → List Identifier
names_view (variants.One names) = names
names_view (variants.Several names) = names.items

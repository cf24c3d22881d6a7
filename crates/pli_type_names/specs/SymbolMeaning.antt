-- What the answers about names say.
use Rattle.std.specs.Prelude.{◌≡◌, ℕ, Bool, true, false, List, [], ◌∷◌, map, option_map}
use Rattle.pli_map.specs.views.DescriptionView.{description_view}
use Rattle.pli_map.specs.views.ParameterView.{type_seen}
use Rattle.pli_type_rules.specs.Names as plain
use Rattle.pli_type_rules.specs.References.{part_of}
use Rattle.pli_type_tree.specs.views.TypedView.{callee_view}
use Rattle.pli_type_names.specs.declared.naming.NamedAs.{NamedAs}
use Rattle.pli_type_names.specs.declared.naming.NamedAs.TheVariants as answers
use Rattle.pli_type_names.specs.declared.naming.NamedProcedure.{NamedProcedure}
use Rattle.pli_type_names.specs.declared.naming.NamedVariable.{NamedVariable}
use Rattle.pli_type_names.specs.views.NameView.{part_view}
use Rattle.pli_type_names.specs.views.StorageView.{storage_view}

-- members stand on the way to a name
abbrev pub is_way : (path : List ℕ) → Bool
is_way [] = false
is_way (i ∷ path) = true

-- a variable: its storage, what it is as a whole, whether it is a member, which part it is, and the area that
-- its OFFSET names
abbrev pub IsVariable : NamedVariable → plain.NamedVariable → Type 0
IsVariable v w =
    (storage_view v.storage ≡ w.storage)
    × (type_seen v.whole ≡ w.whole)
    × (v.is_member ≡ is_way w.path)
    × (option_map part_view v.part.now ≡ part_of w)
    × (v.area ≡ w.area)

-- a procedure: what a call of it calls, its parameters, what it gives, and the area that its RETURNS names
pub record IsProcedure (p : NamedProcedure) (q : plain.NamedProcedure) : Type 0 where
  pub callee : callee_view p.callee ≡ q.callee
  pub parameters : map type_seen p.parameters.now ≡ q.parameters
  pub returned : option_map (λ d. description_view d.now) p.returned ≡ q.returned
  pub area : p.area ≡ q.area

-- a name means this
abbrev pub IsMeantAs : NamedAs → plain.NamedAs → Type 0
IsMeantAs (answers.Variable v) (plain.AVariable w) = IsVariable v w
IsMeantAs (answers.Function f) (plain.AFunction g) = f ≡ g
IsMeantAs (answers.Procedure p) (plain.AProcedure q) = IsProcedure p q
IsMeantAs (answers.Label s) (plain.ALabel t) = s ≡ t
IsMeantAs answers.Untyped plain.Untyped = Unit {0}
IsMeantAs answer meant = ⊥

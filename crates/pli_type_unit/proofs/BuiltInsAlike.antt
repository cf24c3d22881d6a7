-- What built-in functions give, as the type checker finds it.
use Rattle.std.specs.Prelude.{◌≡◌, ℕ, ◌&&◌, nat_eq, nat_le, Bool, true, false, Option, Some, None, option_map, option_and_then, refl, List, [], ◌∷◌, max, if◌then◌else◌}
use Rattle.std.proofs.Common.{ap, ◌∙◌}
use Rattle.pli_base.specs.declared.code.Code.TheVariants.{AggregateNotAllowedHere}
use Rattle.pli_map.specs.Description.{FixedBinary, Character, Varying, Bit, Pointer, Offset, Area, Array, Structure}
use Rattle.pli_map.specs.ParameterTypes.{ParameterType, Stated, AnyString, AnyArray, ArrayOf, StructureOf}
use Rattle.pli_map.specs.declared.dimension.WhichBound.{WhichBound}
use Rattle.pli_map.specs.declared.dimension.WhichBound.TheVariants.{Low, High}
use Rattle.pli_operation.specs.declared.operation.Operation.{Operation}
use Rattle.pli_operation.specs.declared.operation.Operation.TheVariants.{Absolute, Sign as SignOf, LengthOf, Greatest, Least, Modulo, Divide as DivideTo, Index as IndexOf, Rest, Substring as SubstringOf}
use Rattle.pli_declare.specs.declared.built_in.BuiltInFunction.{BuiltInFunction}
use Rattle.pli_declare.specs.declared.built_in.BuiltInFunction.TheVariants as functions
use Rattle.pli_type_rules.specs.ExpressionTypes.{TypedValue, held_type, paired, null_value, empty_value}
use Rattle.pli_type_rules.specs.Faults.{or_fault}
use Rattle.pli_type_rules.specs.FunctionCalls as old
use Rattle.pli_type_rules.specs.FunctionCalls.{Denoted, DenotesVariable, DenotesResult, DenotesEmpty, Meant, OneValue, WholeAggregate, Argument, meant_as, area_of}
use Rattle.pli_type_rules.specs.FunctionCalls.{a_count, string_kind, of_one_kind, offset_within, pointer_within}
use Rattle.pli_type_rules.specs.References.{Referent}
use Rattle.pli_type_rules.specs.Typing.{one_value}
use Rattle.pli_type_rules.specs.declared.beginning.Beginning.{Beginning}
use Rattle.pli_type_rules.specs.declared.expression_type.ExpressionType.{ExpressionType}
use Rattle.pli_type_rules.specs.declared.expression_type.ExpressionType.TheVariants as types
use Rattle.pli_type_tree.specs.TypedTree.{TypedExpression, TypedReference, Held}
use Rattle.pli_type_unit.specs.Found.{◌>>=◌}
use Rattle.pli_type_unit.specs.BuiltIns as new
use Rattle.pli_type_unit.specs.Values.{calculated, digits_of, on_numbers}

-- one value

of_held : (r : Referent) (o : Option ExpressionType) → held_type r.area r.description ≡ o
    → option_map (λ kind. record { expression = Held r.reference; kind = kind }) o ≡ old.value_in (old.meant_by r)
of_held r None e = rw e refl
of_held r (Some kind) e = rw e refl

pub value_alike : (d : Denoted) → new.value_in d ≡ old.value_in (meant_as d)
value_alike (DenotesVariable r) = of_held r (held_type r.area r.description) refl
value_alike (DenotesResult value) = refl
value_alike DenotesEmpty = refl

one_of : (at : ℕ) (m : Meant) → or_fault AggregateNotAllowedHere at (old.value_in m) ≡ one_value at m
one_of at (OneValue v) = refl
one_of at (WholeAggregate r) = refl

pub one_alike : (at : ℕ) (d : Denoted) → or_fault AggregateNotAllowedHere at (new.value_in d) ≡ one_value at (meant_as d)
one_alike at d = ap (or_fault AggregateNotAllowedHere at) (value_alike d) ∙ one_of at (meant_as d)

together : (v : TypedValue) (os : Option (List TypedValue)) → (os >>= λ vs. Some (v ∷ vs)) ≡ option_map (λ vs. v ∷ vs) os
together v None = refl
together v (Some vs) = refl

before : (o : Option TypedValue) (os qs : Option (List TypedValue)) → os ≡ qs
    → (o >>= λ v. os >>= λ vs. Some (v ∷ vs)) ≡ option_and_then (λ v. option_map (λ vs. v ∷ vs) qs) o
before None os qs e = refl
before (Some v) os qs e = together v os ∙ ap (option_map (λ vs. v ∷ vs)) e

values_alike : (gs : List Argument) → new.values_in gs ≡ old.values_in gs
values_alike [] = refl
values_alike (a ∷ more) =
    ap (λ o. o >>= λ (v : TypedValue). new.values_in more >>= λ (vs : List TypedValue). Some (v ∷ vs)) (value_alike a.denoted)
    ∙ before (old.value_in (meant_as a.denoted)) (new.values_in more) (old.values_in more) (values_alike more)

-- roles

substring_roles : (given : ℕ) (b : Bool) → nat_eq given 3 ≡ b → new.roles_asked functions.Substring given ≡ old.roles_of functions.Substring given
substring_roles given true e = rw e (rw e refl)
substring_roles given false e = rw e refl

pub roles_alike : (f : BuiltInFunction) (given : ℕ) → new.roles_asked f given ≡ old.roles_of f given
roles_alike functions.Abs given = refl
roles_alike functions.Sign given = refl
roles_alike functions.Length given = refl
roles_alike functions.Max given = refl
roles_alike functions.Min given = refl
roles_alike functions.Mod given = refl
roles_alike functions.Index given = refl
roles_alike functions.Substring given = substring_roles given (nat_eq given 3) refl
roles_alike functions.Divide given = refl
roles_alike functions.LowBound given = refl
roles_alike functions.HighBound given = refl
roles_alike functions.Allocation given = refl
roles_alike functions.Address given = refl
roles_alike functions.Null given = refl
roles_alike functions.Empty given = refl
roles_alike functions.Pointer given = refl
roles_alike functions.Offset given = refl

-- what is calculated of values

one_number : (operation : Operation) (kind : ℕ → ExpressionType) (x : TypedExpression) (o : Option ℕ)
    → option_map (λ p. calculated operation (x ∷ []) (kind p)) o ≡ old.calculation (Some operation) (option_map kind o) (x ∷ [])
one_number operation kind x None = refl
one_number operation kind x (Some p) = refl

counted : (operation : Operation) (xs : List TypedExpression) (o : Option ExpressionType)
    → option_map (λ kind. calculated operation xs a_count) o ≡ old.calculation (Some operation) (option_map (λ kind. a_count) o) xs
counted operation xs None = refl
counted operation xs (Some kind) = refl

two_numbers : (operation : Operation) (precision : (p q : ℕ) → ℕ) (x y : TypedExpression) (o other : Option ℕ)
    → (o >>= λ p. other >>= λ q. Some (calculated operation (x ∷ y ∷ []) (types.FixedBinary (precision p q))))
    ≡ old.calculation (Some operation) (option_map (λ ps. types.FixedBinary (precision ps.0 ps.1)) (paired o other)) (x ∷ y ∷ [])
two_numbers operation precision x y None other = refl
two_numbers operation precision x y (Some p) None = refl
two_numbers operation precision x y (Some p) (Some q) = refl

rest : (s i : TypedExpression) (o : Option ℕ) (k : Option ExpressionType)
    → (o >>= λ p. k >>= λ kind. Some (calculated Rest (s ∷ i ∷ []) kind)) ≡ old.calculation (Some Rest) (option_and_then (λ p. k) o) (s ∷ i ∷ [])
rest s i None k = refl
rest s i (Some p) None = refl
rest s i (Some p) (Some kind) = refl

substring : (s i n : TypedExpression) (o other : Option ℕ) (k : Option ExpressionType)
    → (o >>= λ p. other >>= λ q. k >>= λ kind. Some (calculated SubstringOf (s ∷ i ∷ n ∷ []) kind))
    ≡ old.calculation (Some SubstringOf) (option_and_then (λ q. option_and_then (λ p. k) o) other) (s ∷ i ∷ n ∷ [])
substring s i n None None k = refl
substring s i n None (Some q) k = refl
substring s i n (Some p) None k = refl
substring s i n (Some p) (Some q) None = refl
substring s i n (Some p) (Some q) (Some kind) = refl

-- NULL and EMPTY take none
abbrev takes_nothing : BuiltInFunction → List TypedValue → Option TypedValue → Option TypedValue
takes_nothing functions.Null [] o = Some null_value
takes_nothing functions.Empty [] o = Some empty_value
takes_nothing f vs o = o

of_values_alike : (f : BuiltInFunction) (vs : List TypedValue) → new.of_values f vs ≡ takes_nothing f vs (old.of_values 63 f vs)
of_values_alike functions.Abs [] = refl
of_values_alike functions.Abs (x ∷ []) = one_number Absolute types.FixedBinary x.expression (digits_of x)
of_values_alike functions.Abs (x ∷ y ∷ more) = refl
of_values_alike functions.Sign [] = refl
of_values_alike functions.Sign (x ∷ []) = one_number SignOf (λ p. a_count) x.expression (digits_of x)
of_values_alike functions.Sign (x ∷ y ∷ more) = refl
of_values_alike functions.Length [] = refl
of_values_alike functions.Length (x ∷ []) = counted LengthOf (x.expression ∷ []) (string_kind x.kind)
of_values_alike functions.Length (x ∷ y ∷ more) = refl
of_values_alike functions.Max [] = refl
of_values_alike functions.Max (x ∷ []) = refl
of_values_alike functions.Max (x ∷ y ∷ []) = two_numbers Greatest max x.expression y.expression (digits_of x) (digits_of y)
of_values_alike functions.Max (x ∷ y ∷ z ∷ more) = refl
of_values_alike functions.Min [] = refl
of_values_alike functions.Min (x ∷ []) = refl
of_values_alike functions.Min (x ∷ y ∷ []) = two_numbers Least max x.expression y.expression (digits_of x) (digits_of y)
of_values_alike functions.Min (x ∷ y ∷ z ∷ more) = refl
of_values_alike functions.Mod [] = refl
of_values_alike functions.Mod (x ∷ []) = refl
of_values_alike functions.Mod (x ∷ y ∷ []) = two_numbers Modulo (λ p q. q) x.expression y.expression (digits_of x) (digits_of y)
of_values_alike functions.Mod (x ∷ y ∷ z ∷ more) = refl
of_values_alike functions.Index [] = refl
of_values_alike functions.Index (x ∷ []) = refl
of_values_alike functions.Index (x ∷ y ∷ []) = counted IndexOf (x.expression ∷ y.expression ∷ []) (of_one_kind x.kind y.kind)
of_values_alike functions.Index (x ∷ y ∷ z ∷ more) = refl
of_values_alike functions.Substring [] = refl
of_values_alike functions.Substring (x ∷ []) = refl
of_values_alike functions.Substring (s ∷ i ∷ []) = rest s.expression i.expression (digits_of i) (string_kind s.kind)
of_values_alike functions.Substring (s ∷ i ∷ n ∷ []) = substring s.expression i.expression n.expression (digits_of i) (digits_of n) (string_kind s.kind)
of_values_alike functions.Substring (s ∷ i ∷ n ∷ m ∷ more) = refl
of_values_alike functions.Divide [] = refl
of_values_alike functions.Divide (x ∷ more) = refl
of_values_alike functions.LowBound [] = refl
of_values_alike functions.LowBound (x ∷ more) = refl
of_values_alike functions.HighBound [] = refl
of_values_alike functions.HighBound (x ∷ more) = refl
of_values_alike functions.Allocation [] = refl
of_values_alike functions.Allocation (x ∷ more) = refl
of_values_alike functions.Address [] = refl
of_values_alike functions.Address (x ∷ more) = refl
of_values_alike functions.Pointer [] = refl
of_values_alike functions.Pointer (x ∷ more) = refl
of_values_alike functions.Offset [] = refl
of_values_alike functions.Offset (x ∷ more) = refl
of_values_alike functions.Null [] = refl
of_values_alike functions.Null (x ∷ more) = refl
of_values_alike functions.Empty [] = refl
of_values_alike functions.Empty (x ∷ more) = refl

-- DIVIDE

quotient : (x y : TypedValue) (p : ℕ) (b : Bool) (o other : Option ℕ)
    → (if b then (o >>= λ m. other >>= λ n. Some (calculated (DivideTo p) (x.expression ∷ y.expression ∷ []) (types.FixedBinary p))) else None)
    ≡ old.calculation (Some (DivideTo p)) (if b then option_map (λ ps. types.FixedBinary p) (paired o other) else None) (x.expression ∷ y.expression ∷ [])
quotient x y p false o other = refl
quotient x y p true None other = refl
quotient x y p true (Some m) None = refl
quotient x y p true (Some m) (Some n) = refl

abbrev divide : Option TypedValue → Option TypedValue → Option ℕ → Option TypedValue
divide x y written =
    x >>= λ v. y >>= λ w. written >>= λ p. if nat_le 1 p && nat_le p 63 then on_numbers (DivideTo p) (λ m n. p) v w else None

divided : (x y : Meant) (written : Option ℕ) → divide (old.value_in x) (old.value_in y) written ≡ old.divided 63 x y written
divided (WholeAggregate r) y written = refl
divided (OneValue x) (WholeAggregate r) written = refl
divided (OneValue x) (OneValue y) None = refl
divided (OneValue x) (OneValue y) (Some p) = quotient x y p (nat_le 1 p && nat_le p 63) (digits_of x) (digits_of y)

quotient_alike : (x y : Denoted) (written : Option ℕ) → new.the_quotient x y written ≡ old.divided 63 (meant_as x) (meant_as y) written
quotient_alike x y written =
    ap (λ o. divide o (new.value_in y) written) (value_alike x) ∙ ap (λ o. divide (old.value_in (meant_as x)) o written) (value_alike y)
    ∙ divided (meant_as x) (meant_as y) written

-- bounds

bound_of : (which : WhichBound) (reference : TypedReference) (type : ParameterType) (passed : Bool) (area : Option Beginning) (written : Option ℕ)
    → (written >>= λ number. old.bound_in which number reference type)
    ≡ old.the_bound which (old.meant_by (record { reference = reference; description = type; is_parameter = passed; area = area })) written
bound_of which reference (Stated (FixedBinary m)) passed area None = refl
bound_of which reference (Stated (FixedBinary m)) passed area (Some n) = refl
bound_of which reference (Stated (Character m)) passed area None = refl
bound_of which reference (Stated (Character m)) passed area (Some n) = refl
bound_of which reference (Stated (Varying m)) passed area None = refl
bound_of which reference (Stated (Varying m)) passed area (Some n) = refl
bound_of which reference (Stated (Bit m)) passed area None = refl
bound_of which reference (Stated (Bit m)) passed area (Some n) = refl
bound_of which reference (Stated Pointer) passed area None = refl
bound_of which reference (Stated Pointer) passed area (Some n) = refl
bound_of which reference (Stated Offset) passed area None = refl
bound_of which reference (Stated Offset) passed area (Some n) = refl
bound_of which reference (Stated (Area m)) passed area None = refl
bound_of which reference (Stated (Area m)) passed area (Some n) = refl
bound_of which reference (Stated (Array bounds element)) passed area None = refl
bound_of which reference (Stated (Array bounds element)) passed area (Some n) = refl
bound_of which reference (Stated (Structure parts)) passed area None = refl
bound_of which reference (Stated (Structure parts)) passed area (Some n) = refl
bound_of which reference (AnyString form) passed area None = refl
bound_of which reference (AnyString form) passed area (Some n) = refl
bound_of which reference (AnyArray m element) passed area None = refl
bound_of which reference (AnyArray m element) passed area (Some n) = refl
bound_of which reference (ArrayOf bounds element) passed area None = refl
bound_of which reference (ArrayOf bounds element) passed area (Some n) = refl
bound_of which reference (StructureOf parts) passed area None = refl
bound_of which reference (StructureOf parts) passed area (Some n) = refl

bound_alike : (which : WhichBound) (d : Denoted) (written : Option ℕ) → new.the_bound which d written ≡ old.the_bound which (meant_as d) written
bound_alike which (DenotesVariable r) written = bound_of which r.reference r.description r.is_parameter r.area written
bound_alike which (DenotesResult value) None = refl
bound_alike which (DenotesResult value) (Some n) = refl
bound_alike which DenotesEmpty None = refl
bound_alike which DenotesEmpty (Some n) = refl

-- arguments that are not evaluated

allocation_alike : (d : Denoted) → (new.referent_in d >>= λ r. old.generations_in r.reference) ≡ old.generations_of d
allocation_alike (DenotesVariable r) = refl
allocation_alike (DenotesResult value) = refl
allocation_alike DenotesEmpty = refl

address_alike : (d : Denoted) → (new.referent_in d >>= λ r. old.address_in r.is_parameter r.reference) ≡ old.address_of d
address_alike (DenotesVariable r) = refl
address_alike (DenotesResult value) = refl
address_alike DenotesEmpty = refl

within : (make : (area : Beginning) → TypedExpression → ExpressionType → Option TypedValue) (m : Meant) (o : Option Beginning)
    → (old.value_in m >>= λ v. o >>= λ area. make area v.expression v.kind) ≡ old.located_within make m o
within make (OneValue v) None = refl
within make (OneValue v) (Some area) = refl
within make (WholeAggregate r) None = refl
within make (WholeAggregate r) (Some area) = refl

within_alike : (make : (area : Beginning) → TypedExpression → ExpressionType → Option TypedValue) (d a : Denoted)
    → (new.value_in d >>= λ v. area_of a >>= λ area. make area v.expression v.kind) ≡ old.located_within make (meant_as d) (area_of a)
within_alike make d a =
    ap (λ o. o >>= λ (v : TypedValue). area_of a >>= λ (area : Beginning). make area v.expression v.kind) (value_alike d) ∙ within make (meant_as d) (area_of a)

-- all

of_all : (f : BuiltInFunction) (o : Option (List TypedValue)) → ((vs : List TypedValue) → new.of_values f vs ≡ old.of_values 63 f vs)
    → (o >>= new.of_values f) ≡ option_and_then (old.of_values 63 f) o
of_all f None e = refl
of_all f (Some vs) e = e vs

others : (f : BuiltInFunction) (gs : List Argument) → ((vs : List TypedValue) → new.of_values f vs ≡ old.of_values 63 f vs)
    → (new.values_in gs >>= new.of_values f) ≡ option_and_then (old.of_values 63 f) (old.values_in gs)
others f gs e = ap (λ o. o >>= new.of_values f) (values_alike gs) ∙ of_all f (old.values_in gs) e

nothing_after : (o : Option TypedValue) (os : Option (List TypedValue)) (f : List TypedValue → Option TypedValue)
    (g : List TypedValue → Option TypedValue) → ((v : TypedValue) (vs : List TypedValue) → f (v ∷ vs) ≡ g (v ∷ vs))
    → (option_and_then (λ v. option_map (λ vs. v ∷ vs) os) o >>= f) ≡ option_and_then g (option_and_then (λ v. option_map (λ vs. v ∷ vs) os) o)
nothing_after None os f g e = refl
nothing_after (Some v) None f g e = refl
nothing_after (Some v) (Some vs) f g e = e v vs

pub arguments_alike : (f : BuiltInFunction) (gs : List Argument) → new.of_arguments f gs ≡ old.of_arguments 63 f gs
arguments_alike functions.Abs gs = others functions.Abs gs (of_values_alike functions.Abs)
arguments_alike functions.Sign gs = others functions.Sign gs (of_values_alike functions.Sign)
arguments_alike functions.Length gs = others functions.Length gs (of_values_alike functions.Length)
arguments_alike functions.Max gs = others functions.Max gs (of_values_alike functions.Max)
arguments_alike functions.Min gs = others functions.Min gs (of_values_alike functions.Min)
arguments_alike functions.Mod gs = others functions.Mod gs (of_values_alike functions.Mod)
arguments_alike functions.Index gs = others functions.Index gs (of_values_alike functions.Index)
arguments_alike functions.Substring gs = others functions.Substring gs (of_values_alike functions.Substring)
arguments_alike functions.Divide [] = others functions.Divide [] (of_values_alike functions.Divide)
arguments_alike functions.Divide (a ∷ []) = others functions.Divide (a ∷ []) (of_values_alike functions.Divide)
arguments_alike functions.Divide (a ∷ b ∷ []) = others functions.Divide (a ∷ b ∷ []) (of_values_alike functions.Divide)
arguments_alike functions.Divide (a ∷ b ∷ c ∷ []) = quotient_alike a.denoted b.denoted c.written
arguments_alike functions.Divide (a ∷ b ∷ c ∷ d ∷ more) = others functions.Divide (a ∷ b ∷ c ∷ d ∷ more) (of_values_alike functions.Divide)
arguments_alike functions.LowBound [] = others functions.LowBound [] (of_values_alike functions.LowBound)
arguments_alike functions.LowBound (a ∷ []) = others functions.LowBound (a ∷ []) (of_values_alike functions.LowBound)
arguments_alike functions.LowBound (a ∷ n ∷ []) = bound_alike Low a.denoted n.written
arguments_alike functions.LowBound (a ∷ b ∷ c ∷ more) = others functions.LowBound (a ∷ b ∷ c ∷ more) (of_values_alike functions.LowBound)
arguments_alike functions.HighBound [] = others functions.HighBound [] (of_values_alike functions.HighBound)
arguments_alike functions.HighBound (a ∷ []) = others functions.HighBound (a ∷ []) (of_values_alike functions.HighBound)
arguments_alike functions.HighBound (a ∷ n ∷ []) = bound_alike High a.denoted n.written
arguments_alike functions.HighBound (a ∷ b ∷ c ∷ more) = others functions.HighBound (a ∷ b ∷ c ∷ more) (of_values_alike functions.HighBound)
arguments_alike functions.Allocation [] = others functions.Allocation [] (of_values_alike functions.Allocation)
arguments_alike functions.Allocation (a ∷ []) = allocation_alike a.denoted
arguments_alike functions.Allocation (a ∷ b ∷ more) = others functions.Allocation (a ∷ b ∷ more) (of_values_alike functions.Allocation)
arguments_alike functions.Address [] = others functions.Address [] (of_values_alike functions.Address)
arguments_alike functions.Address (a ∷ []) = address_alike a.denoted
arguments_alike functions.Address (a ∷ b ∷ more) = others functions.Address (a ∷ b ∷ more) (of_values_alike functions.Address)
arguments_alike functions.Null [] = refl
arguments_alike functions.Null (a ∷ more) = ap (λ o. o >>= new.of_values functions.Null) (values_alike (a ∷ more))
    ∙ nothing_after (old.value_in (meant_as a.denoted)) (old.values_in more) (new.of_values functions.Null) (old.of_values 63 functions.Null) (λ v vs. refl)
arguments_alike functions.Empty [] = refl
arguments_alike functions.Empty (a ∷ more) = ap (λ o. o >>= new.of_values functions.Empty) (values_alike (a ∷ more))
    ∙ nothing_after (old.value_in (meant_as a.denoted)) (old.values_in more) (new.of_values functions.Empty) (old.of_values 63 functions.Empty) (λ v vs. refl)
arguments_alike functions.Pointer [] = others functions.Pointer [] (of_values_alike functions.Pointer)
arguments_alike functions.Pointer (a ∷ []) = others functions.Pointer (a ∷ []) (of_values_alike functions.Pointer)
arguments_alike functions.Pointer (a ∷ n ∷ []) = within_alike offset_within a.denoted n.denoted
arguments_alike functions.Pointer (a ∷ b ∷ c ∷ more) = others functions.Pointer (a ∷ b ∷ c ∷ more) (of_values_alike functions.Pointer)
arguments_alike functions.Offset [] = others functions.Offset [] (of_values_alike functions.Offset)
arguments_alike functions.Offset (a ∷ []) = others functions.Offset (a ∷ []) (of_values_alike functions.Offset)
arguments_alike functions.Offset (a ∷ n ∷ []) = within_alike pointer_within a.denoted n.denoted
arguments_alike functions.Offset (a ∷ b ∷ c ∷ more) = others functions.Offset (a ∷ b ∷ c ∷ more) (of_values_alike functions.Offset)

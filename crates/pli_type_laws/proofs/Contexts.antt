-- Contexts of typed statements, by where their source statements stand.
use Rattle.std.specs.Prelude.{◌≡◌, ℕ, suc, nat_eq, Bool, true, false, IsTrue, Option, Some, None, option_map, List, [], ◌∷◌}
use Rattle.std.specs.Prelude.{length, map, slice_get, refl, if◌then◌else◌}
use Rattle.std.specs.List.{list_any}
use Rattle.std.proofs.Common.{sym, ap, ◌∙◌, subst}
use Rattle.std.proofs.lemmas.Bool.{eqb-true}
use Rattle.std.proofs.lemmas.Option.{same_Some, none-some}
use Rattle.pli_declare.specs.declared.block_numbers.ResolvedBlockKind.TheVariants as kinds
use Rattle.pli_type_rules.specs.NamedUnits.{outward_to}
use Rattle.pli_type_rules.specs.Names.{NamedUnit, NamedAs, AVariable, AFunction, AProcedure, ALabel, Untyped, NamedProcedure}
use Rattle.pli_type_rules.specs.StatementTyping as source
use Rattle.pli_type_rules.specs.StatementTyping.{Enclosing, Surroundings, label_found, lasting_alone}
use Rattle.pli_type_laws.proofs.BlocksKnown.{Within, within_both, AreHome, StandsDirectly}
use Rattle.pli_type_laws.proofs.Calls.{IsCallable}
use Rattle.pli_type_laws.proofs.Expressions.{IsMeaning}
use Rattle.pli_type_laws.specs.NameFacts.{HaveSlots, IsAreaNamed, VariableFacts, IsCalled, ProcedureFacts, NameFacts, StandsAround}
use Rattle.pli_type_laws.specs.SourceBlocks.{SourceBlock, unit_blocks, innermost, slots_in, known_blocks, known_procedures}
use Rattle.pli_type_tree.specs.WellTyped.{BlockAround, KnownProcedure, TypingContext, AreAround, AreAroundOnUnit, IsCallee, IsReached, IsOnUnitHere, blocks_from, knows_label}
use Rattle.pli_type_tree.specs.WellTyped as trees
use Rattle.pli_type_tree.specs.Globals.{signature_of}
use Rattle.pli_type_tree.specs.TypedTree.{Callee, OfBlock, OfEntry}

-- ---- blocks around

-- the same blocks are around themselves
pub around_self : (bs : List BlockAround) → AreAround bs bs
around_self [] = tt
around_self (b ∷ bs) = (refl, (refl, refl), (λ label e. e), (λ label e. e), around_self bs)

-- a place stands in a block
abbrev pub IsInside : List Enclosing → Type 0
IsInside [] = ⊥
IsInside (b ∷ bs) = Unit {0}

module _ (u : NamedUnit) where
  abbrev All : List SourceBlock
  All = unit_blocks u.tree

  -- a context knows at least what a place of the source shows
  pub record Knows (s : TypingContext) (here : Surroundings) : Type 0 where
    pub globals : s.globals ≡ u.globals
    pub procedures : s.procedures ≡ known_procedures u
    pub blocks : AreAround s.blocks (known_blocks u here.blocks)
    pub begins : s.begins ≡ here.begins
    pub value : s.value ≡ here.value

  slots_known : (es : List Enclosing) (bs : List BlockAround) → AreAround bs (known_blocks u es)
      → HaveSlots u (map (λ e. e.number) es) bs
  slots_known [] [] h = tt
  slots_known [] (b ∷ bs) h = h
  slots_known (e ∷ es) [] h = h
  slots_known (e ∷ es) (b ∷ bs) h = (h.0, h.1, slots_known es bs h.4)

  -- in a group
  pub group_known : (labels names : List ℕ) (es : List Enclosing) (bs : List BlockAround) → Within labels names
      → AreAround bs (known_blocks u es)
      → AreAround (trees.with_labels names bs) (known_blocks u (source.with_labels labels es))
  group_known labels names [] [] f h = tt
  group_known labels names [] (b ∷ bs) f h = absurd h
  group_known labels names (e ∷ es) [] f h = absurd h
  group_known labels names (e ∷ es) (b ∷ bs) f h =
      (h.0, h.1, within_both labels e.labels names b.labels f h.2, h.3, h.4)

  -- the label that a GOTO leads to
  pub label_known : (es : List Enclosing) (bs : List BlockAround) (label outward : ℕ) → AreAround bs (known_blocks u es)
      → label_found es label ≡ Some outward → knows_label (slice_get bs outward) label
  label_known [] bs label outward h e = absurd (none-some outward e)
  label_known (e ∷ es) [] label outward h f = absurd h
  label_known (e ∷ es) (b ∷ bs) label outward h f =
      by (list_any (nat_eq label) e.labels) refl f (λ k g. label_known es bs label k h.4 g)
    where
      next : (o : Option ℕ) → label_found es label ≡ o → option_map suc o ≡ Some outward
          → ((k : ℕ) → label_found es label ≡ Some k → knows_label (slice_get bs k) label)
          → knows_label (slice_get (b ∷ bs) outward) label
      next None is g rest = absurd (none-some outward g)
      next (Some k) is g rest = subst (λ j. knows_label (slice_get (b ∷ bs) j) label) (same_Some (suc k) outward g) (rest k is)

      by : (c : Bool) → list_any (nat_eq label) e.labels ≡ c
          → (if c then Some 0 else option_map suc (label_found es label)) ≡ Some outward
          → ((k : ℕ) → label_found es label ≡ Some k → knows_label (slice_get bs k) label)
          → knows_label (slice_get (b ∷ bs) outward) label
      by true is g rest = subst (λ j. knows_label (slice_get (b ∷ bs) j) label) (same_Some 0 outward g) (h.2 label is)
      by false is g rest = next (label_found es label) refl g rest

  -- ---- procedures

  abbrev pub own_procedure : (number : ℕ) → SourceBlock → KnownProcedure
  own_procedure number b = record {
    is_on_unit = false;
    parent = innermost b.around;
    around = known_blocks u b.around;
    parameters = u.parameters number;
    value = u.returned number;
  }

  pub procedure_there : (number : ℕ) (b : SourceBlock) → slice_get All number ≡ Some b → b.kind ≡ kinds.Procedure
      → known_procedures u number ≡ Some (own_procedure number b)
  procedure_there number b there kind = rw (there, kind) refl

  -- ---- ON-units

  abbrev pub own_unit : SourceBlock → KnownProcedure
  own_unit b = record {
    is_on_unit = true;
    parent = innermost b.around;
    around = known_blocks u b.around;
    parameters = [];
    value = None;
  }

  pub unit_there : (number : ℕ) (b : SourceBlock) → slice_get All number ≡ Some b → b.kind ≡ kinds.OnUnit
      → known_procedures u number ≡ Some (own_unit b)
  unit_there number b there kind = rw (there, kind) refl

  unit_parent : (es : List Enclosing) (bs : List BlockAround) → AreAround bs (known_blocks u es)
      → innermost (lasting_alone es) ≡ trees.innermost bs
  unit_parent [] [] h = refl
  unit_parent [] (b ∷ bs) h = absurd h
  unit_parent (e ∷ es) [] h = absurd h
  unit_parent (e ∷ es) (b ∷ bs) h = ap Some (sym h.0)

  unit_around : (es : List Enclosing) (bs : List BlockAround) → IsInside es → AreAround bs (known_blocks u es)
      → AreAroundOnUnit bs (known_blocks u (lasting_alone es))
  unit_around [] bs inside h = absurd inside
  unit_around (e ∷ es) [] inside h = absurd h
  unit_around (e ∷ es) (b ∷ bs) inside h = (h.0, h.1, h.3, h.3, h.4)

  -- an ON-unit of a place
  pub on_unit_known : (s : TypingContext) (here : Surroundings) → Knows s here → IsInside here.blocks → (number : ℕ) (b : SourceBlock)
      → slice_get All number ≡ Some b → b.kind ≡ kinds.OnUnit → b.around ≡ lasting_alone here.blocks → IsOnUnitHere s number
  on_unit_known s here knows inside number b there kind stands = (
    own_unit b,
    ap (λ (g : ℕ → Option KnownProcedure). g number) knows.procedures ∙ unit_there number b there kind,
    refl,
    ap innermost stands ∙ unit_parent here.blocks s.blocks knows.blocks,
    subst (λ es. AreAroundOnUnit s.blocks (known_blocks u es)) (sym stands) (unit_around here.blocks s.blocks inside knows.blocks),
    refl,
    refl,
  )

  -- the place from which the blocks around a procedure are known
  abbrev Found : (number : ℕ) (bs around : List BlockAround) → Type 0
  Found number bs around = (found : List BlockAround) × (blocks_from number bs ≡ Some found) × AreAround found around

  reach : (e : Enclosing) (rest es : List Enclosing) (bs : List BlockAround) (outward : ℕ) → AreHome All es
      → AreAround bs (known_blocks u es) → StandsDirectly All (e ∷ rest)
      → outward_to (map (λ x. x.number) es) e.number ≡ Some outward
      → Found e.number bs (known_blocks u (e ∷ rest))
  reach e rest [] bs outward home around direct at = absurd (none-some outward at)
  reach e rest (x ∷ es) [] outward home around direct at = absurd around
  reach e rest (x ∷ es) (b ∷ bs) outward home around direct at =
      by (nat_eq x.number e.number) refl at (λ k is. reach e rest es bs k home.1 around.4 direct is)
    where
      same_number : nat_eq x.number e.number ≡ true → nat_eq b.number e.number ≡ true
      same_number is = ap (λ n. nat_eq n e.number) around.0 ∙ is

      other_number : nat_eq x.number e.number ≡ false → nat_eq b.number e.number ≡ false
      other_number is = ap (λ n. nat_eq n e.number) around.0 ∙ is

      here : nat_eq b.number e.number ≡ true → blocks_from e.number (b ∷ bs) ≡ Some (b ∷ bs)
      here is = rw is refl

      there : nat_eq b.number e.number ≡ false → blocks_from e.number (b ∷ bs) ≡ blocks_from e.number bs
      there is = rw is refl

      -- the same block of the unit
      one_block : x.number ≡ e.number → home.0.0 ≡ direct.0
      one_block is = same_Some home.0.0 direct.0 (sym home.0.1 ∙ ap (slice_get All) is ∙ direct.1)

      stands : x.number ≡ e.number → home.0.0 ≡ direct.0 → AreAround (b ∷ bs) (known_blocks u (e ∷ rest))
      stands is one = (
        around.0 ∙ is,
        (around.1.0 ∙ ap (λ k. length (u.parameters k)) is, around.1.1 ∙ ap (slots_in u) is),
        (λ label f. around.2 label (home.0.3 label (subst (λ (c : SourceBlock). IsTrue (list_any (nat_eq label) c.labels)) (sym one) (direct.3 label f)))),
        (λ label f. around.3 label (home.0.4 label (subst (λ (c : SourceBlock). IsTrue (list_any (nat_eq label) c.labels)) (sym one) (direct.4 label f)))),
        subst (λ xs. AreAround bs (known_blocks u xs))
            (sym home.0.2 ∙ ap (λ (c : SourceBlock). c.around) one ∙ direct.2) around.4,
      )

      next : (o : Option ℕ) → outward_to (map (λ x. x.number) es) e.number ≡ o → option_map suc o ≡ Some outward
          → ((k : ℕ) → outward_to (map (λ x. x.number) es) e.number ≡ Some k → Found e.number bs (known_blocks u (e ∷ rest)))
          → Found e.number bs (known_blocks u (e ∷ rest))
      next None is g again = absurd (none-some outward g)
      next (Some k) is g again = again k is

      further : nat_eq b.number e.number ≡ false → Found e.number bs (known_blocks u (e ∷ rest))
          → Found e.number (b ∷ bs) (known_blocks u (e ∷ rest))
      further is (found, at, known) = (found, there is ∙ at, known)

      by : (c : Bool) → nat_eq x.number e.number ≡ c
          → (if c then Some 0 else option_map suc (outward_to (map (λ x. x.number) es) e.number)) ≡ Some outward
          → ((k : ℕ) → outward_to (map (λ x. x.number) es) e.number ≡ Some k → Found e.number bs (known_blocks u (e ∷ rest)))
          → Found e.number (b ∷ bs) (known_blocks u (e ∷ rest))
      by true is g again = (
        b ∷ bs,
        here (same_number is),
        stands (eqb-true x.number e.number is) (one_block (eqb-true x.number e.number is)),
      )
      by false is g again = further (other_number is) (next _ refl g again)

  reached : (around es : List Enclosing) (bs : List BlockAround) → AreHome All es → AreAround bs (known_blocks u es)
      → StandsDirectly All around → StandsAround (map (λ x. x.number) es) (innermost around)
      → IsReached (innermost around) bs (known_blocks u around)
  reached [] es bs home around direct at = refl
  reached (e ∷ rest) es bs home around direct at = reach e rest es bs at.0 home around direct at.1

  module _ (facts : NameFacts u)
      (direct : (number : ℕ) (b : SourceBlock) → slice_get All number ≡ Some b → b.kind ≡ kinds.Procedure → StandsDirectly All b.around)
      (s : TypingContext) (here : Surroundings) (knows : Knows s here) (home : AreHome All here.blocks) where
    callee_known : (p : NamedProcedure) (c : Callee) → IsCalled u (map (λ x. x.number) here.blocks) p c
        → IsCallee s.globals s.procedures s.blocks c p.parameters p.returned
    callee_known p (OfBlock number) f = (
      own_procedure number f.block,
      ap (λ (g : ℕ → Option KnownProcedure). g number) knows.procedures ∙ procedure_there number f.block f.there f.kind,
      refl,
      reached f.block.around here.blocks s.blocks home knows.blocks (direct number f.block f.there f.kind) f.reached,
      sym f.parameters,
      sym f.returned,
    )
    callee_known p (OfEntry number) f = ap (λ gs. signature_of (slice_get gs number)) knows.globals ∙ f

    callable : (p : NamedProcedure) → ProcedureFacts u (map (λ x. x.number) here.blocks) p → IsCallable s p
    callable p f = record {
      there = callee_known p p.callee f.called;
      plain = f.plain;
      area = f.area 63 s knows.globals (slots_known here.blocks s.blocks knows.blocks);
    }

    pub known_as : (at : ℕ) (a : NamedAs) → (u.naming (map (λ x. x.number) here.blocks)).meaning at ≡ a → IsMeaning s a
    known_as at (AVariable v) e =
        let own : VariableFacts u (map (λ x. x.number) here.blocks) v = facts.variables (map (λ x. x.number) here.blocks) at v e in
        record {
          begins = own.begins 63 s knows.globals (slots_known here.blocks s.blocks knows.blocks);
          area = own.area 63 s knows.globals (slots_known here.blocks s.blocks knows.blocks);
          plain = own.plain;
          own = own.own;
          leads = own.leads;
          whole = own.whole;
        }
    known_as at (AProcedure p) e = callable p (facts.procedures (map (λ x. x.number) here.blocks) at p e)
    known_as at (AFunction f) e = tt
    known_as at (ALabel statement) e = tt
    known_as at Untyped e = tt

    -- the areas that RETURNS of functions name
    pub areas_known : (block : ℕ) → IsAreaNamed 63 s ((u.naming (map (λ x. x.number) here.blocks)).returned_area block)
    areas_known block =
        facts.returned_areas (map (λ x. x.number) here.blocks) block 63 s knows.globals (slots_known here.blocks s.blocks knows.blocks)

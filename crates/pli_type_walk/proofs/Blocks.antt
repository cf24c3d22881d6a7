-- Lists, groups and blocks that the walk goes into and out of.
use Rattle.std.proofs.Common.{◌≡◌, IfOk, ◌++◌, ◌+◌, ◌-◌, ◌≤◌, ℕ, suc, Bool, true, false, Vec, Global, get_or, List, [], ◌∷◌, Option, Some, None, option_map, Result, Ok, Err, map, length, take, refl, ap, sym, ◌∙◌, subst, append_assoc, length-append, arith}
use Rattle.std.proofs.lemmas.List.{length-map, take_at}
use Rattle.pli_base.specs.Statements as tree
use Rattle.pli_base.specs.declared.statement.Condition.{Condition}
use Rattle.pli_base.specs.declared.token.Fault.{Fault}
use Rattle.pli_map.specs.Description.{Description}
use Rattle.pli_type_rules.specs.StatementTyping as spec
use Rattle.pli_type_rules.specs.StatementTyping.{Enclosing, Surroundings, WithProcedures, body_typed, statements_typed, with_labels, in_group, in_begin, in_on_unit, in_procedure, head_of}
use Rattle.pli_declare.specs.TreeBlocks.{blocks_among}
use Rattle.pli_type_rules.specs.Temporaries.{Next, temporaries_among}
use Rattle.pli_type_names.specs.UnitNaming.{Names, outside, procedure_in}
use Rattle.pli_type_templates.specs.declared.unit_templates.UnitTemplates.{UnitTemplates}
use Rattle.pli_type_templates.specs.views.UnitView.{automatic_at, based_at, row_view}
use Rattle.pli_type_tree.specs.declared.template.VariableGroup.{VariableGroup}
use Rattle.pli_type_tree.specs.Templates.{Template}
use Rattle.pli_type_tree.specs.TypedTree as typed
use Rattle.pli_type_tree.specs.TypedTree.{Form, TypedProcedure, TypedStatements}
use Rattle.pli_type_tree.specs.declared.statement.BlockHead.{BlockHead}
use Rattle.pli_map.specs.views.DescriptionView.{description_view}
use Rattle.pli_map.specs.views.ParameterView.{type_seen}
use Rattle.pli_type_tree.specs.views.TypedView.{head_view, procedure_view}
use Rattle.pli_type_parts.specs.Around.{Around, Listing, blocks_with, blocks_from, blocks_of, seen_from, surroundings_of}
use Rattle.pli_type_parts.specs.Parts.{unit_named, given, told, Adds, after_body, after_list}
use Rattle.pli_type_walk.specs.Walking.{IsDeep, IsPlaced, Walks, WalksBody, WalksList, WalksBlock, Enters, Leaves, Finishes, Ends, ended_as, on_unit_ended, in_list, in_block, unit_at, around, based_names, next_at, finished}
use Rattle.pli_type_walk.specs.declared.walk.OpenBlock.{OpenBlock}
use Rattle.pli_type_parts.specs.declared.surroundings.Surroundings.{Surroundings as Surrounded}
use Rattle.pli_type_walk.specs.declared.walk.TypingWalk.{TypingWalk}
use Rattle.pli_type_names.specs.SymbolMeaning.{IsProcedure}
use Rattle.pli_type_names.specs.declared.naming.NamedProcedure as program
use Rattle.pli_type_parts.specs.views.AroundView.{around_view, lists_view}
use Rattle.pli_type_walk.proofs.WalkLemmas.{as_typed, made_walked, same_based}

-- lists

pub last_list : (bs : List Enclosing) (ls : List Listing) (l : Listing)
    → blocks_from bs (ls ++ l ∷ []) ≡ blocks_with l.block l.is_on_unit l.labels (blocks_from bs ls)
last_list bs [] l = refl
last_list bs (m ∷ ls) l = last_list (blocks_with m.block m.is_on_unit m.labels bs) ls l

abbrev pub numbers : List Enclosing → List ℕ
numbers bs = map (λ (b : Enclosing). b.number) bs

same_numbers : (labels : List ℕ) (bs : List Enclosing) → numbers (with_labels labels bs) ≡ numbers bs
same_numbers labels [] = refl
same_numbers labels (b ∷ bs) = refl

seen_numbers : (is_on_unit : Bool) (bs : List Enclosing) → numbers (seen_from is_on_unit bs) ≡ numbers bs
seen_numbers false bs = refl
seen_numbers true [] = refl
seen_numbers true (b ∷ bs) = refl

pub without_last : (ls : List Listing) (l : Listing) → take (length (ls ++ l ∷ []) - 1) (ls ++ l ∷ []) ≡ ls
without_last ls l =
    let counted : length ls ≡ length (ls ++ l ∷ []) - 1 = omega (arith, length-append ls (l ∷ [])) in
    take_at ls (l ∷ []) (length (ls ++ l ∷ []) - 1) counted

-- out of a list again
back_around : (a d n : Around) (l : Listing) (begins : ℕ) (value : Option Description)
    → d ≡ in_list a l begins value → n.lists ≡ take (length d.lists - 1) d.lists → n.begins ≡ a.begins → n.value ≡ a.value
    → n ≡ a
back_around a d n l begins value is lists begun given =
    ap (λ ls. record { lists = ls; begins = n.begins; value = n.value })
    (lists ∙ ap (λ (d : Around). take (length d.lists - 1) d.lists) is ∙ without_last a.lists l)
    ∙ ap (λ b. record { lists = a.lists; begins = b; value = n.value }) begun
    ∙ ap (λ v. record { lists = a.lists; begins = a.begins; value = v }) given

-- what BASED variables are made from
pub same_templates : (t u : UnitTemplates) (block : ℕ) → t.based ≡ u.based → based_at t block ≡ based_at u block
same_templates t u block e = ap (λ (rows : Vec (Vec VariableGroup Global) Global). get_or (map row_view rows.items) block []) e

same_naming : (m n : Names) (block : ℕ) → m.unit ≡ n.unit
    → ((unit_named m.unit).naming []).based block ≡ ((unit_named n.unit).naming []).based block
same_naming m n block e = ap (λ u. ((unit_named u).naming []).based block) e

-- groups

pub group_placed : (old e : TypingWalk) (labels : List ℕ) → IsPlaced old → e.naming ≡ old.naming
    → around_view e.surroundings ≡ in_list (around_view old.surroundings) (record { block = None; is_on_unit = false; labels = labels }) (around_view old.surroundings).begins (around_view old.surroundings).value
    → e.next ≡ old.next → e.templates ≡ old.templates → IsPlaced e
group_placed old e labels placed same is next templates = record {
  blocks = ap (λ (n : Names). n.blocks) same ∙ placed.blocks
      ∙ sym (ap (λ a. numbers (blocks_of a.lists)) is ∙ ap numbers (last_list [] (around_view old.surroundings).lists (record { block = None; is_on_unit = false; labels = labels }))
      ∙ same_numbers labels (around old).blocks);
  templates = λ k le. ap (λ t. automatic_at t k) templates
      ∙ placed.templates k (subst (λ n. n.block ≤ k) next le)
      ∙ sym (ap (λ (n : Names). (unit_named n.unit).automatic k) same);
  based = λ k. ap (λ t. based_at t k) templates ∙ placed.based k
      ∙ sym (same_naming e.naming old.naming k (ap (λ (n : Names). n.unit) same));
  deep = subst IsDeep (sym is) (omega (arith, placed.deep, length-append (around_view old.surroundings).lists (record { block = None; is_on_unit = false; labels = labels } ∷ [])));
}

pub group_walked : (old e d new : TypingWalk) (ss : tree.Statements) (list : Option TypedStatements)
    → IsPlaced old → e.naming ≡ old.naming
    → around_view e.surroundings ≡ in_list (around_view old.surroundings) (record { block = None; is_on_unit = false; labels = spec.labels_of ss }) (around_view old.surroundings).begins (around_view old.surroundings).value
    → e.next ≡ old.next → e.templates ≡ old.templates → e.faults ≡ old.faults → e.procedures ≡ old.procedures
    → WalksList e d (around e) ss list
    → new.naming ≡ d.naming
    → (around_view new.surroundings).lists ≡ take (length (around_view d.surroundings).lists - 1) (around_view d.surroundings).lists
    → (around_view new.surroundings).begins ≡ (around_view d.surroundings).begins
    → (around_view new.surroundings).value ≡ (around_view d.surroundings).value
    → new.next ≡ d.next → new.templates ≡ d.templates → new.faults ≡ d.faults → new.procedures ≡ d.procedures
    → WalksList old new (in_group ss (around old)) ss list
group_walked old e d new ss list placed same is next templates faults procedures w named lists begins value next' templates' faults' procedures' =
    let a = around_view old.surroundings in
    let l : Listing = record { block = None; is_on_unit = false; labels = spec.labels_of ss } in
    let inner : around_view d.surroundings ≡ in_list a l a.begins a.value = w.back.around ∙ is in
    let outer : around_view new.surroundings ≡ a =
    back_around a (around_view d.surroundings) (around_view new.surroundings) l a.begins a.value inner lists
    (begins ∙ ap (λ (a : Around). a.begins) inner) (value ∙ ap (λ (a : Around). a.value) inner) in
    let naming : new.naming ≡ old.naming = named ∙ w.back.naming ∙ same in
    let asked : statements_typed (unit_at e) (around e) (next_at e) ss ≡ statements_typed (unit_at old) (in_group ss (around old)) (next_at old) ss =
    ap (λ (n : Names). statements_typed (unit_named n.unit) (around e) (next_at e) ss) same
    ∙ ap (λ a. statements_typed (unit_at old) (surroundings_of a) (next_at e) ss) is
    ∙ ap (λ bs. statements_typed (unit_at old) (record { blocks = bs; begins = a.begins; value = a.value }) (next_at e) ss) (last_list [] a.lists l)
    ∙ ap (λ n. statements_typed (unit_at old) (in_group ss (around old)) (record { block = n.block; temporary = n.temporary }) ss) next in
    record {
      back = record {
        naming = naming;
        around = outer;
        globals = ap (λ t. t.globals) templates' ∙ w.back.globals ∙ ap (λ t. t.globals) templates;
        placed = record {
          blocks = ap (λ (n : Names). n.blocks) naming ∙ placed.blocks ∙ sym (ap (λ (a : Around). numbers (blocks_of a.lists)) outer);
          templates = λ k le. ap (λ t. automatic_at t k) templates'
              ∙ w.back.placed.templates k (subst (λ n. n.block ≤ k) next' le)
              ∙ sym (ap (λ (n : Names). (unit_named n.unit).automatic k) named);
          based = λ k. ap (λ t. based_at t k) templates' ∙ w.back.placed.based k
              ∙ sym (same_naming new.naming d.naming k (ap (λ (n : Names). n.unit) named));
          deep = subst IsDeep (sym outer) placed.deep;
        };
      };
      next = ap (λ n. record { block = n.block; temporary = n.temporary }) next' ∙ w.next
          ∙ ap (λ f. after_list f (next_at e) ss) (same_based old e same)
          ∙ ap (λ n. after_list (based_names old) (record { block = n.block; temporary = n.temporary }) ss) next;
      part = w.part ∙ ap given asked;
      faults = ap (λ f. f.items) faults' ∙ w.faults ∙ ap (λ f. f.items ++ told (statements_typed (unit_at e) (around e) (next_at e) ss)) faults
          ∙ ap (λ r. old.faults.items ++ told r) asked;
      procedures = subst (λ r. Adds r (finished old) (finished new)) asked
          (subst (λ p. Adds (statements_typed (unit_at e) (around e) (next_at e) ss) p (finished new)) (ap (λ p. map procedure_view p.items) procedures)
          (subst (λ p. Adds (statements_typed (unit_at e) (around e) (next_at e) ss) (finished e) p) (sym (ap (λ p. map procedure_view p.items) procedures')) w.procedures));
    }

-- blocks

pub block_placed : (old e : TypingWalk) (block : OpenBlock) (is_on_unit : Bool) (begins : ℕ) (value : Option Description) (labels : List ℕ)
    → begins ≤ 1 + length (around_view old.surroundings).lists → IsPlaced old → Enters old e block is_on_unit begins value labels → IsPlaced e
block_placed old e block is_on_unit begins value labels few placed in_it = record {
  blocks = ap (λ (n : Names). n.blocks) in_it.naming ∙ ap (λ bs. old.next.block ∷ bs) placed.blocks
      ∙ sym (ap (λ (a : Around). numbers (blocks_of a.lists)) in_it.around
      ∙ ap numbers (last_list [] (around_view old.surroundings).lists (record { block = Some old.next.block; is_on_unit = is_on_unit; labels = labels }))
      ∙ ap (λ ns. old.next.block ∷ ns) (seen_numbers is_on_unit (around old).blocks));
  templates = λ k le.
      let le' : suc old.next.block ≤ k = subst (λ (n : Next). n.block ≤ k) in_it.next le in
      in_it.templates k (λ e. absurd (omega (arith, le', e)))
      ∙ placed.templates k (omega (arith, le'))
      ∙ sym (ap (λ (n : Names). (unit_named n.unit).automatic k) in_it.naming);
  based = λ k. same_templates e.templates old.templates k in_it.based ∙ placed.based k
      ∙ sym (same_naming e.naming old.naming k (ap (λ (n : Names). n.unit) in_it.naming));
  deep = subst IsDeep (sym in_it.around) (omega (arith, few, length-append (around_view old.surroundings).lists (record { block = Some old.next.block; is_on_unit = is_on_unit; labels = labels } ∷ [])));
}

without_none : (n : ℕ) → 0 + n ≡ n
without_none n = omega arith

abbrev head_with : (number temporaries statement : ℕ) → List Template → typed.BlockHead
head_with number temporaries statement variables =
    record { number = number; statement = statement; variables = variables; temporaries = temporaries }

same_head : (a b a' b' : ℕ) (s : ℕ) (v v' : List Template) → a ≡ a' → v ≡ v' → b ≡ b'
    → head_with a b s v ≡ head_with a' b' s v'
same_head a b a' b' s v v' e f g =
    ap (λ x. record { number = x; statement = s; variables = v; temporaries = b }) e
    ∙ ap (λ x. record { number = a'; statement = s; variables = x; temporaries = b }) f
    ∙ ap (λ x. record { number = a'; statement = s; variables = v'; temporaries = x }) g

pub block_walked : (old e d new : TypingWalk) (block : OpenBlock) (is_on_unit : Bool) (begins : ℕ) (value : Option Description) (number : ℕ)
    (ss : tree.Statements) (list : Option TypedStatements) (head : BlockHead)
    → IsPlaced old → Enters old e block is_on_unit begins value (spec.labels_of ss) → WalksList e d (around e) ss list
    → Leaves d new block number head → WalksBlock old new (in_block old is_on_unit begins value ss) number ss head list
block_walked old e d new block is_on_unit begins value number ss list head placed in_it w out =
    let a = around_view old.surroundings in
    let l : Listing = record { block = Some old.next.block; is_on_unit = is_on_unit; labels = spec.labels_of ss } in
    let inner : around_view d.surroundings ≡ in_list a l begins value = w.back.around ∙ in_it.around in
    let outer : around_view new.surroundings ≡ a =
    back_around a (around_view d.surroundings) (around_view new.surroundings) l begins value inner out.lists
    (out.begins ∙ in_it.begins) (ap (option_map (λ d. description_view d.now)) (out.value ∙ in_it.value)) in
    let naming : new.naming ≡ old.naming = out.naming ∙ ap outside (w.back.naming ∙ in_it.naming) in
    let asked : statements_typed (unit_at e) (around e) (next_at e) ss
    ≡ statements_typed (unit_at old) (in_block old is_on_unit begins value ss) (spec.inside (next_at old)) ss =
    ap (λ (n : Names). statements_typed (unit_named n.unit) (around e) (next_at e) ss) in_it.naming
    ∙ ap (λ a. statements_typed (unit_at old) (surroundings_of a) (next_at e) ss) in_it.around
    ∙ ap (λ n. statements_typed (unit_at old) (in_block old is_on_unit begins value ss) n ss) in_it.next in
    let nexts : next_at d ≡ after_list (based_names old) (record { block = suc old.next.block; temporary = 0 }) ss =
    w.next ∙ ap (λ (n : Names). after_list (unit_named n.unit).is_based (next_at e) ss) in_it.naming
    ∙ ap (λ n. after_list (based_names old) n ss) in_it.next in
    record {
      walked = record {
        back = record {
          naming = naming;
          around = outer;
          globals = ap (λ t. t.globals) out.templates ∙ w.back.globals ∙ in_it.globals;
          placed = record {
            blocks = ap (λ (n : Names). n.blocks) naming ∙ placed.blocks ∙ sym (ap (λ (a : Around). numbers (blocks_of a.lists)) outer);
            templates = λ k le. ap (λ t. automatic_at t k) out.templates
                ∙ w.back.placed.templates k (subst (λ (n : Next). n.block ≤ k) out.next le)
                ∙ sym (ap (λ (n : Names). (unit_named n.unit).automatic k) out.naming);
            based = λ k. ap (λ t. based_at t k) out.templates ∙ w.back.placed.based k
                ∙ sym (same_naming new.naming d.naming k (ap (λ (n : Names). n.unit) out.naming));
            deep = subst IsDeep (sym outer) placed.deep;
          };
        };
        next = out.next ∙ ap (λ (n : Next). record { block = n.block; temporary = block.temporary }) nexts
            ∙ ap (λ t. record { block = suc old.next.block + blocks_among ss; temporary = t }) in_it.temporary;
        part = w.part ∙ ap given asked;
        faults = out.faults ∙ w.faults ∙ ap (λ fs. fs ++ told (statements_typed (unit_at e) (around e) (next_at e) ss)) in_it.faults
            ∙ ap (λ r. old.faults.items ++ told r) asked;
        procedures = subst (λ r. Adds r (finished old) (finished new)) asked
            (subst (λ p. Adds (statements_typed (unit_at e) (around e) (next_at e) ss) p (finished new)) (ap (map procedure_view) in_it.procedures)
            (subst (λ p. Adds (statements_typed (unit_at e) (around e) (next_at e) ss) (finished e) p) (sym (ap (map procedure_view) out.procedures)) w.procedures));
      };
      head = out.head ∙ same_head _ _ _ _ number _ _ in_it.number
          (in_it.variables ∙ placed.templates old.next.block (omega arith))
          (ap (λ (n : Next). n.temporary) nexts ∙ without_none (temporaries_among (based_names old) ss));
    }

-- a BEGIN block, a procedure and an ON-unit

abbrev procedure_with : (is_on_unit : Bool) → typed.BlockHead → TypedStatements → (parent parameters : ℕ) → Option ℕ → TypedProcedure
procedure_with is_on_unit head list parent parameters end = record {
  is_on_unit = is_on_unit;
  head = head;
  parent = Some parent;
  parameters = parameters;
  function_end = end;
  statements = list;
}

abbrev next_of : ℕ → ℕ → Next
next_of block temporary = record { block = block; temporary = temporary }

same_next : (x y x' y' : ℕ) → x ≡ x' → y ≡ y' → next_of (x) (y) ≡ next_of x' y'
same_next x y x' y' e f = ap (λ b. record { block = b; temporary = y }) e ∙ ap (λ t. record { block = x'; temporary = t }) f

after_begin : (x : Next) (count : ℕ)
    → next_of (suc x.block + count) (x.temporary) ≡ next_of (x.block + suc count) (x.temporary + 0)
after_begin x count = same_next _ _ _ _ (omega arith) (omega arith)

pub begin_walked : (old new : TypingWalk) (number at : ℕ) (ss : tree.Statements) (end : ℕ) (begins : ℕ) (head : BlockHead)
    (list : Option TypedStatements) → begins ≡ suc old.surroundings.begins
    → WalksBlock old new (in_block old false begins (around_view old.surroundings).value ss) number ss head list
    → WalksBody old new number at (tree.Begin ss end) (option_map (typed.Begin (head_view head)) list)
begin_walked old new number at ss end begins head list is w =
    let a = around_view old.surroundings in
    let l : Listing = record { block = Some old.next.block; is_on_unit = false; labels = spec.labels_of ss } in
    let stands : in_block old false begins a.value ss ≡ in_begin old.next.block ss (around old) =
    ap (λ bs. record { blocks = bs; begins = begins; value = a.value }) (last_list [] a.lists l)
    ∙ ap (λ b. record { blocks = spec.enclosing old.next.block ss ∷ (around old).blocks; begins = b; value = a.value }) is in
    as_typed old new _ _ _ _ _ _ (after_begin (next_at old) (blocks_among ss))
    (ap (λ s. spec.made (typed.Begin (head_of (unit_at old) old.next.block number ss)) (statements_typed (unit_at old) s (spec.inside (next_at old)) ss)) stands)
    (ap (λ h. option_map (typed.Begin h) list) w.head)
    (made_walked (typed.Begin (head_of (unit_at old) old.next.block number ss)) old new _ _ list w.walked)

procedure_ends : (r : Result (WithProcedures TypedStatements) (List Fault)) (left : Form) (make other : TypedStatements → TypedProcedure)
    (old mid new : List TypedProcedure) (list : Option TypedStatements) (form : Option Form)
    → list ≡ given r → Adds r old mid → ((x : TypedStatements) → other x ≡ make x) → Ends left other mid list new form
    → (form ≡ given (spec.as_procedure left make r)) × Adds (spec.as_procedure left make r) old new
procedure_ends (Ok x) left make other old mid new list form is adds same ends =
    let there : Ends left other mid (Some x.part) new form = subst (λ l. Ends left other mid l new form) is ends in (
      there.0,
      there.1 ∙ ap (λ ps. ps ++ other x.part ∷ []) adds
          ∙ ap (λ p. (old ++ x.procedures) ++ p ∷ []) (same x.part) ∙ append_assoc old x.procedures (make x.part ∷ []),
    )
procedure_ends (Err fs) left make other old mid new list form is adds same ends =
    (subst (λ l. Ends left other mid l new form) is ends, tt)

told_procedure : (r : Result (WithProcedures TypedStatements) (List Fault)) (left : Form) (make : TypedStatements → TypedProcedure)
    → told (spec.as_procedure left make r) ≡ told r
told_procedure (Ok x) left make = refl
told_procedure (Err fs) left make = refl

-- a block whose list stands in these surroundings, and what it leaves in its place
ended_walked : (old mid new : TypingWalk) (number at : ℕ) (b : tree.Body) (ss : tree.Statements) (inner : Surroundings) (left : Form)
    (make other : TypedStatements → TypedProcedure) (head : BlockHead) (list : Option TypedStatements) (form : Option Form)
    → WalksBlock old mid inner number ss head list → Finishes mid new left other list form
    → ((x : TypedStatements) → other x ≡ make x)
    → next_of (suc old.next.block + blocks_among ss) old.next.temporary ≡ after_body (based_names old) (next_at old) b
    → spec.as_procedure left make (statements_typed (unit_at old) inner (spec.inside (next_at old)) ss)
    ≡ body_typed (unit_at old) (around old) (next_at old) number at b
    → WalksBody old new number at b form
ended_walked old mid new number at b ss inner left make other head list form w ended same after asked =
    let r = statements_typed (unit_at old) inner (spec.inside (next_at old)) ss in
    let both = procedure_ends r left make other (finished old) (finished mid) (finished new) list form w.walked.part w.walked.procedures same ended.ends in
    let walked : Walks Form old new (next_of (suc old.next.block + blocks_among ss) old.next.temporary) (spec.as_procedure left make r) form =
    record {
      back = record {
        naming = ended.naming ∙ w.walked.back.naming;
        around = ap around_view ended.surroundings ∙ w.walked.back.around;
        globals = ap (λ t. t.globals) ended.templates ∙ w.walked.back.globals;
        placed = record {
          blocks = ap (λ (n : Names). n.blocks) ended.naming ∙ w.walked.back.placed.blocks
              ∙ sym (ap (λ s. numbers (surroundings_of (around_view s)).blocks) ended.surroundings);
          templates = λ k le. ap (λ t. automatic_at t k) ended.templates
              ∙ w.walked.back.placed.templates k (subst (λ n. n.block ≤ k) ended.next le)
              ∙ sym (ap (λ (n : Names). (unit_named n.unit).automatic k) ended.naming);
          based = λ k. ap (λ t. based_at t k) ended.templates ∙ w.walked.back.placed.based k
              ∙ sym (same_naming new.naming mid.naming k (ap (λ (n : Names). n.unit) ended.naming));
          deep = subst IsDeep (sym (ap around_view ended.surroundings)) w.walked.back.placed.deep;
        };
      };
      next = ap (λ n. record { block = n.block; temporary = n.temporary }) ended.next ∙ w.walked.next;
      part = both.0;
      faults = ap (λ f. f.items) ended.faults ∙ w.walked.faults
          ∙ ap (λ fs. old.faults.items ++ fs) (sym (told_procedure r left make));
      procedures = both.1;
    } in
    as_typed old new _ _ _ _ form form after asked refl walked

pub procedure_walked : (old mid new : TypingWalk) (number at end : ℕ) (heading : tree.Heading) (ss : tree.Statements) (value : Option Description)
    (head : BlockHead) (list : Option TypedStatements) (form : Option Form) → value ≡ (unit_at old).returned old.next.block
    → WalksBlock old mid (in_block old false 0 value ss) number ss head list
    → Finishes mid new typed.Null (ended_as mid end head) list form
    → WalksBody old new number at (tree.Procedure heading ss end) form
procedure_walked old mid new number at end heading ss value head list form gives w ended =
    let a = around_view old.surroundings in
    let b = old.next.block in
    let l : Listing = record { block = Some b; is_on_unit = false; labels = spec.labels_of ss } in
    let stands : in_block old false 0 value ss ≡ in_procedure b ((unit_at old).returned b) ss (around old) =
    ap (λ bs. record { blocks = bs; begins = 0; value = value }) (last_list [] a.lists l)
    ∙ ap (λ v. record { blocks = spec.enclosing b ss ∷ (around old).blocks; begins = 0; value = v }) gives in
    let make = spec.procedure_of (unit_at old) (Some (spec.block_at (around old))) b number end ss in
    let counted : head.number ≡ b = ap (λ (h : typed.BlockHead). h.number) w.head in
    let same : (x : TypedStatements) → ended_as mid end head x ≡ make x = λ x.
    ap (λ (n : Names). procedure_with false (head_view head) x (spec.block_at (around mid)) (length ((unit_named n.unit).parameters head.number)) (spec.function_end ((unit_named n.unit).returned head.number) end)) w.walked.back.naming
    ∙ ap (λ (a : Around). procedure_with false (head_view head) x (spec.block_at (surroundings_of a)) (length ((unit_at old).parameters head.number)) (spec.function_end ((unit_at old).returned head.number) end)) w.walked.back.around
    ∙ ap (λ k. procedure_with false (head_view head) x (spec.block_at (around old)) (length ((unit_at old).parameters k)) (spec.function_end ((unit_at old).returned k) end)) counted
    ∙ ap (λ h. procedure_with false h x (spec.block_at (around old)) (length ((unit_at old).parameters b)) (spec.function_end ((unit_at old).returned b) end)) w.head in
    ended_walked old mid new number at (tree.Procedure heading ss end) ss (in_block old false 0 value ss) typed.Null make (ended_as mid end head) head list form
    w ended same (after_begin (next_at old) (blocks_among ss))
    (ap (λ s. spec.as_procedure typed.Null make (statements_typed (unit_at old) s (spec.inside (next_at old)) ss)) stands)

pub procedure_answer : {X E : Type 0} (view : X → Form) (result : Result (Option X) E) (old mid new : TypingWalk) (number at end : ℕ) (heading : tree.Heading) (ss : tree.Statements)
    (value : Option Description) (head : BlockHead) (list : Option TypedStatements) → value ≡ (unit_at old).returned old.next.block
    → WalksBlock old mid (in_block old false 0 value ss) number ss head list
    → IfOk result (λ form. Finishes mid new typed.Null (ended_as mid end head) list (option_map view form))
    → IfOk result (λ form. WalksBody old new number at (tree.Procedure heading ss end) (option_map view form))
procedure_answer view (Ok form) old mid new number at end heading ss value head list gives w ended =
    procedure_walked old mid new number at end heading ss value head list (option_map view form) gives w ended
procedure_answer view (Err e) old mid new number at end heading ss value head list gives w ended = tt

-- an ON-unit, whose list is its statement

unit_walked : (old mid new : TypingWalk) (number at : ℕ) (c : Condition) (unit : tree.Statement) (head : BlockHead)
    (list : Option TypedStatements) (form : Option Form)
    → WalksBlock old mid (in_block old true 0 None (spec.only unit)) number (spec.only unit) head list
    → Finishes mid new (typed.On c head.number) (on_unit_ended mid head) list form
    → WalksBody old new number at (tree.On c unit) form
unit_walked old mid new number at c unit head list form w ended =
    let a = around_view old.surroundings in
    let b = old.next.block in
    let ss = spec.only unit in
    let l : Listing = record { block = Some b; is_on_unit = true; labels = spec.labels_of ss } in
    let stands : in_block old true 0 None ss ≡ in_on_unit b unit (around old) =
    ap (λ bs. record { blocks = bs; begins = 0; value = None }) (last_list [] a.lists l) in
    let make = spec.on_unit_of (unit_at old) (Some (spec.block_at (around old))) b number unit in
    let counted : head.number ≡ b = ap (λ (h : typed.BlockHead). h.number) w.head in
    let same : (x : TypedStatements) → on_unit_ended mid head x ≡ make x = λ x.
    ap (λ (a : Around). procedure_with true (head_view head) x (spec.block_at (surroundings_of a)) 0 None) w.walked.back.around
    ∙ ap (λ h. procedure_with true h x (spec.block_at (around old)) 0 None) w.head in
    ended_walked old mid new number at (tree.On c unit) ss (in_block old true 0 None ss) (typed.On c b) make (on_unit_ended mid head) head list form
    w (subst (λ k. Finishes mid new (typed.On c k) (on_unit_ended mid head) list form) counted ended) same
    (same_next _ _ _ _ (omega arith) (omega arith))
    (ap (λ s. spec.as_procedure (typed.On c b) make (statements_typed (unit_at old) s (spec.inside (next_at old)) ss)) stands)

pub unit_answer : {X E : Type 0} (view : X → Form) (result : Result (Option X) E) (old mid new : TypingWalk) (number at : ℕ) (c : Condition) (unit : tree.Statement)
    (head : BlockHead) (list : Option TypedStatements)
    → WalksBlock old mid (in_block old true 0 None (spec.only unit)) number (spec.only unit) head list
    → IfOk result (λ form. Finishes mid new (typed.On c head.number) (on_unit_ended mid head) list (option_map view form))
    → IfOk result (λ form. WalksBody old new number at (tree.On c unit) (option_map view form))
unit_answer view (Ok form) old mid new number at c unit head list w ended =
    unit_walked old mid new number at c unit head list (option_map view form) w ended
unit_answer view (Err e) old mid new number at c unit head list w ended = tt

-- what a procedure gives, and what its parameters are
pub returned_is : (w : TypingWalk) (block : ℕ) (p : program.NamedProcedure) → IsProcedure p (procedure_in w.naming block)
    → option_map (λ d. description_view d.now) p.returned ≡ (unit_at w).returned block
unfolding procedure_in unit_named
returned_is w block p is = is.returned

pub parameters_are : (w : TypingWalk) (block : ℕ) (p : program.NamedProcedure) → IsProcedure p (procedure_in w.naming block)
    → length p.parameters.now ≡ length ((unit_at w).parameters block)
unfolding procedure_in unit_named
parameters_are w block p is = sym (length-map p.parameters.now type_seen) ∙ ap length is.parameters

-- a group's list is gone into
pub in_group_around : (old new : Surrounded) (labels labels' : List ℕ) → labels' ≡ labels
    → lists_view new.lists.items ≡ lists_view old.lists.items ++ record { block = None; is_on_unit = false; labels = labels' } ∷ []
    → new.begins ≡ old.begins → new.value ≡ old.value
    → around_view new ≡ in_list (around_view old) (record { block = None; is_on_unit = false; labels = labels }) (around_view old).begins (around_view old).value
in_group_around old new labels labels' same lists begins value =
    ap (λ ls. record { lists = ls; begins = new.begins; value = (around_view new).value }) (lists ∙ ap (λ l. lists_view old.lists.items ++ record { block = None; is_on_unit = false; labels = l } ∷ []) same)
    ∙ ap (λ b. in_list (around_view old) (record { block = None; is_on_unit = false; labels = labels }) b (around_view new).value) begins
    ∙ ap (λ v. in_list (around_view old) (record { block = None; is_on_unit = false; labels = labels }) old.begins (option_map (λ d. description_view d.now) v)) value

pub procedure_parts : (is_on_unit : Bool) (head : typed.BlockHead) (list : TypedStatements) (p p' n n' : ℕ) (e e' : Option ℕ) → p ≡ p' → n ≡ n' → e ≡ e'
    → procedure_with is_on_unit head list p n e ≡ procedure_with is_on_unit head list p' n' e'
procedure_parts is_on_unit head list p p' n n' e e' a b c =
    ap (λ x. procedure_with is_on_unit head list x n e) a ∙ ap (λ x. procedure_with is_on_unit head list p' x e) b
    ∙ ap (λ x. procedure_with is_on_unit head list p' n' x) c

-- How an expansion goes on from its open members.
use Rattle.std.specs.Prelude.{◌≡◌, ℕ, suc, ◌≤◌, List, [], ◌∷◌, ◌++◌, map, drop, slice_get, true, false, Option, None, Some, Result, Ok, Err, if◌then◌else◌, refl}
use Rattle.std.specs.List.{All}
use Rattle.std.specs.Option.{option_to_list, is_some}
use Rattle.std.proofs.Common.{sym, ap, subst, ◌∙◌, append_assoc, append-nil}
use Rattle.std.proofs.lemmas.List.{map-append, same_from_push}
use Rattle.std.proofs.lemmas.List.Elements.{All-nil, All-push, All-pop, All-weaker}
use Rattle.pli_base.specs.Name.{Name}
use Rattle.pli_base.specs.declared.code.Code.TheVariants.{NoSuchMember, RecursiveInclude}
use Rattle.pli_base.specs.declared.token.Origin.{Origin}
use Rattle.pli_base.specs.declared.token.Token.{Token}
use Rattle.pli_lex.specs.declared.answer.LexFault.{LexFault}
use Rattle.pli_include.specs.declared.expansion.ExpansionFault.{ExpansionFault}
use Rattle.pli_include.specs.declared.reading.Request.{Request}
use Rattle.pli_include.specs.declared.reading.Pause.TheVariants as at
use Rattle.pli_include.specs.declared.walk.OpenMember.{OpenMember}
use Rattle.pli_include.specs.declared.walk.ExpansionWalk.{ExpansionWalk}
use Rattle.pli_members.specs.Members.{Store}
use Rattle.pli_include.specs.Expanded.{look_in, outcome_of}
use Rattle.pli_include.specs.Pieces.{pieces_of}
use Rattle.pli_base.specs.Words.{is_among}
use Rattle.pli_include.specs.Expansion.{Look, Progress, Outcome, Include, included, expanded_within, stopped, found, looking, read_pieces, ◌then◌}
use Rattle.pli_include.specs.answers.Pausing.{Reads}
use Rattle.pli_include.specs.answers.Walking.{HoldsTexts, IsFresh, IsUnderWay, going, ended, include_from, rest_of, tokens_in}
use Rattle.pli_include.proofs.TextsHeld.{looked_stays}
use Rattle.pli_include.proofs.LevelNeverMet.{level_is_never_met}

then_ok : (o : Outcome) (next : Progress → Outcome) → ((s : Progress) → next s ≡ Ok s) → (o then next) ≡ o
then_ok (Ok s) next h = h s
then_ok (Err stop) next h = refl

then_assoc : (o : Outcome) (f g : Progress → Outcome) → ((o then f) then g) ≡ (o then (λ s. f s then g))
then_assoc (Ok s) f g = refl
then_assoc (Err stop) f g = refl

then_same : (o : Outcome) (f g : Progress → Outcome) → ((s : Progress) → f s ≡ g s) → (o then f) ≡ (o then g)
then_same (Ok s) f g h = h s
then_same (Err stop) f g h = refl

abbrev pub names_of : List OpenMember → List Name
names_of frames = map (λ f. f.name) frames

-- what an open member does, with these members open
abbrev pub read_rest : ℕ → Look → List Name → OpenMember → Progress → Outcome
read_rest limit look path f s = read_pieces limit (include_from limit look path) f.name (pieces_of (rest_of look f)) s

-- the innermost member goes on, and then the others
going_from : (limit : ℕ) (look : Look) (path : List Name) (fs : List OpenMember) (f : OpenMember) (s : Progress)
    → going limit look path (fs ++ f ∷ []) s ≡ (read_rest limit look ((path ++ names_of fs) ++ f.name ∷ []) f s then going limit look path fs)
unfolding going
going_from limit look path [] f s =
    ap (λ p. read_rest limit look (p ++ f.name ∷ []) f s) (sym (append-nil path))
    ∙ sym (then_ok (read_rest limit look ((path ++ []) ++ f.name ∷ []) f s) (going limit look path []) (λ s. refl))
going_from limit look path (g ∷ fs) f s =
    let inner = path ++ g.name ∷ [] in
    ap (λ o. o then read_rest limit look inner g) (going_from limit look inner fs f s)
    ∙ then_assoc (read_rest limit look ((inner ++ names_of fs) ++ f.name ∷ []) f s) (going limit look inner fs) (read_rest limit look inner g)
    ∙ ap (λ p. read_rest limit look (p ++ f.name ∷ []) f s then (λ s. going limit look inner fs s then read_rest limit look inner g)) (append_assoc path (g.name ∷ []) (names_of fs))

pub going_push : (limit : ℕ) (look : Look) (fs : List OpenMember) (f : OpenMember) (s : Progress)
    → going limit look [] (fs ++ f ∷ []) s ≡ (read_rest limit look (names_of fs ++ f.name ∷ []) f s then going limit look [] fs)
going_push limit look fs f s = going_from limit look [] fs f s

pub going_none : (limit : ℕ) (look : Look) (s : Progress) → going limit look [] [] s ≡ Ok s
unfolding going
going_none limit look s = refl

abbrev stop_at : Option ExpansionFault → Progress → Outcome
stop_at fault s = ended fault s

-- a member that is open already
recursive : (limit level : ℕ) (look : Look) (path : List Name) (at : Origin) (name : Name) (s : Progress) → is_among name path ≡ true
    → included (suc level) limit look path at name s ≡ stopped RecursiveInclude at s
unfolding included
recursive limit level look path at name s e =
    ap (λ b. if b then stopped RecursiveInclude at s else found limit (included level limit look (path ++ name ∷ [])) at name (look name) (looking name s)) e

pub enters_open : (limit : ℕ) (look : Look) (path : List Name) (at : Origin) (name : Name) (s : Progress) (next : Progress → Outcome) → is_among name path ≡ true
    → ended (Some (record { code = RecursiveInclude; origin = at })) s ≡ (include_from limit look path at name s then next)
enters_open limit look path at name s next e = sym (ap (λ o. o then next) (recursive limit limit look path at name s e))

-- a member that is not open
fresh : (limit : ℕ) (look : Look) (path : List Name) (at : Origin) (name : Name) (s : Progress) → s.read ≤ limit → is_among name path ≡ false
    → include_from limit look path at name s ≡ found limit (include_from limit look (path ++ name ∷ [])) at name (look name) (looking name s)
fresh limit look path at name s le e =
    level_is_never_met limit look path at name s le
    ∙ ap (λ b. if b then stopped RecursiveInclude at s else found limit (include_from limit look (path ++ name ∷ [])) at name (look name) (looking name s)) e

pub enters_none : (limit : ℕ) (look : Look) (path : List Name) (at : Origin) (name : Name) (s t : Progress) (next : Progress → Outcome) → s.read ≤ limit → is_among name path ≡ false
    → t ≡ looking name s → look name ≡ None
    → ended (Some (record { code = NoSuchMember; origin = at })) t ≡ (include_from limit look path at name s then next)
enters_none limit look path at name s t next le e is none =
    ap (λ t. ended (Some (record { code = NoSuchMember; origin = at })) t) is
    ∙ sym (ap (λ o. o then next) (fresh limit look path at name s le e ∙ ap (λ r. found limit (include_from limit look (path ++ name ∷ [])) at name r (looking name s)) none))

pub enters_faulty : (limit : ℕ) (look : Look) (path : List Name) (at : Origin) (name : Name) (s t : Progress) (next : Progress → Outcome) (fault : LexFault) → s.read ≤ limit
    → is_among name path ≡ false → t ≡ looking name s → look name ≡ Some (Err fault)
    → ended (Some (record { code = fault.code; origin = record { member = name; line = fault.line } })) t ≡ (include_from limit look path at name s then next)
enters_faulty limit look path at name s t next fault le e is faulty =
    ap (λ t. ended (Some (record { code = fault.code; origin = record { member = name; line = fault.line } })) t) is
    ∙ sym (ap (λ o. o then next) (fresh limit look path at name s le e ∙ ap (λ r. found limit (include_from limit look (path ++ name ∷ [])) at name r (looking name s)) faulty))

pub enters : (limit : ℕ) (look : Look) (path : List Name) (fs : List OpenMember) (slot : ℕ) (at : Origin) (name : Name) (s t : Progress) (tokens : List Token) → s.read ≤ limit
    → path ≡ names_of fs → is_among name path ≡ false → t ≡ looking name s → look name ≡ Some (Ok tokens)
    → going limit look [] (fs ++ record { name = name; slot = slot; next = 0 } ∷ []) t ≡ (include_from limit look path at name s then going limit look [] fs)
enters limit look path fs slot at name s t tokens le names e is reads =
    let read : Option (Result (List Token) LexFault) → List Name → Progress → Outcome =
    λ r path t. read_pieces limit (include_from limit look (path ++ name ∷ [])) name (pieces_of (tokens_in r)) t in
    going_push limit look fs (record { name = name; slot = slot; next = 0 }) t
    ∙ ap (λ t. read (look name) (names_of fs) t then going limit look [] fs) is
    ∙ ap (λ p. read (look name) p (looking name s) then going limit look [] fs) (sym names)
    ∙ ap (λ r. read r path (looking name s) then going limit look [] fs) reads
    ∙ sym (ap (λ o. o then going limit look [] fs)
    (fresh limit look path at name s le e ∙ ap (λ r. found limit (include_from limit look (path ++ name ∷ [])) at name r (looking name s)) reads))

-- an open member has come to its end, to a fault, or to a directive
module _ (limit : ℕ) (look : Look) (fs : List OpenMember) (f : OpenMember) (tokens : List Token) (s t : Progress) (is : look f.name ≡ Some (Ok tokens)) where
  abbrev here : Include
  here = include_from limit look (names_of fs ++ f.name ∷ [])

  from_tokens : going limit look [] (fs ++ f ∷ []) s ≡ (read_pieces limit here f.name (pieces_of (drop f.next tokens)) s then going limit look [] fs)
  from_tokens = going_push limit look fs f s ∙ ap (λ r. read_pieces limit here f.name (pieces_of (drop f.next (tokens_in r))) s then going limit look [] fs) is

  pub steps_end : Reads limit f.name tokens f.next s at.End t → going limit look [] fs t ≡ going limit look [] (fs ++ f ∷ []) s
  steps_end h = sym (from_tokens ∙ ap (λ o. o then going limit look [] fs) (h.same here))

  pub steps_fault : (fault : ExpansionFault) → Reads limit f.name tokens f.next s (at.Fault fault) t → ended (Some fault) t ≡ going limit look [] (fs ++ f ∷ []) s
  steps_fault fault h = sym (from_tokens ∙ ap (λ o. o then going limit look [] fs) (h.same here))

  pub steps_into : (r : Request) (g : OpenMember) → g.name ≡ f.name → g.next ≡ r.next → Reads limit f.name tokens f.next s (at.Include r) t
      → (include_from limit look (names_of fs ++ f.name ∷ []) r.at r.name t then going limit look [] (fs ++ g ∷ [])) ≡ going limit look [] (fs ++ f ∷ []) s
  steps_into r g named next h =
      let after : Progress → Outcome = read_pieces limit here f.name (pieces_of (drop r.next tokens)) in
      sym
      (from_tokens ∙ ap (λ o. o then going limit look [] fs) (h.same here)
      ∙ then_assoc (here r.at r.name t) after (going limit look [] fs)
      ∙ then_same (here r.at r.name t) (λ s. after s then going limit look [] fs) (going limit look [] (fs ++ g ∷ []))
      (λ s. sym
      (going_push limit look fs g s
      ∙ ap (λ n. read_pieces limit (include_from limit look (names_of fs ++ n ∷ [])) n (pieces_of (drop g.next (tokens_in (look n)))) s then going limit look [] fs) named
      ∙ ap (λ n. read_pieces limit here f.name (pieces_of (drop n (tokens_in (look f.name)))) s then going limit look [] fs) next
      ∙ ap (λ o. read_pieces limit here f.name (pieces_of (drop r.next (tokens_in o))) s then going limit look [] fs) is)))

-- the names of open members, the last of them apart
pub names_push : (fs : List OpenMember) (f : OpenMember) → names_of (fs ++ f ∷ []) ≡ names_of fs ++ f.name ∷ []
names_push fs f = map-append (λ f. f.name) fs (f ∷ [])

-- the path without its last name
pub pops : (path left : List Name) (r : Option Name) (fs : List OpenMember) (f : OpenMember) → path ≡ left ++ option_to_list r → (is_some r ≡ true) → path ≡ names_of (fs ++ f ∷ []) → left ≡ names_of fs
pops path left (Some n) fs f e some names = (same_from_push left (names_of fs) n f.name (sym e ∙ names ∙ names_push fs f)).0
pops path left None fs f e some names = let bad : ⊥ = cc in absurd bad

-- the slot of the innermost member
pub slot_of : (look : Look) (looked : List Name) (texts : List (List Token)) (path : List Name) (fs : List OpenMember) (f : OpenMember) → IsUnderWay look looked texts path (fs ++ f ∷ [])
    → slice_get looked f.slot ≡ Some f.name
slot_of look looked texts path fs f way = (All-pop (λ f. slice_get looked f.slot ≡ Some f.name) (fs ++ f ∷ []) fs (Some f) refl way.slots).1

-- the others are under way without it
pub under_way_pop : (look : Look) (looked : List Name) (texts : List (List Token)) (path left : List Name) (fs : List OpenMember) (f : OpenMember) → IsUnderWay look looked texts path (fs ++ f ∷ [])
    → left ≡ names_of fs → IsUnderWay look looked texts left fs
under_way_pop look looked texts path left fs f way is = record {
  texts_held = way.texts_held;
  path_is = is;
  slots = (All-pop (λ f. slice_get looked f.slot ≡ Some f.name) (fs ++ f ∷ []) fs (Some f) refl way.slots).0;
}

-- and with it where it has read on
pub under_way_on : (look : Look) (looked : List Name) (texts : List (List Token)) (path : List Name) (fs : List OpenMember) (f g : OpenMember) → IsUnderWay look looked texts path (fs ++ f ∷ [])
    → g.name ≡ f.name → g.slot ≡ f.slot → IsUnderWay look looked texts path (fs ++ g ∷ [])
under_way_on look looked texts path fs f g way named slot = record {
  texts_held = way.texts_held;
  path_is = way.path_is ∙ names_push fs f ∙ ap (λ n. names_of fs ++ n ∷ []) (sym named) ∙ sym (names_push fs g);
  slots = All-push (λ f. slice_get looked f.slot ≡ Some f.name) fs g
      ((All-pop (λ f. slice_get looked f.slot ≡ Some f.name) (fs ++ f ∷ []) fs (Some f) refl way.slots).0)
      (ap (λ i. slice_get looked i) slot ∙ slot_of look looked texts path fs f way ∙ ap Some (sym named));
}

-- a member more is open
pub under_way_push : (look : Look) (s t : Progress) (texts : List (List Token)) (path more : List Name) (fs : List OpenMember) (f : OpenMember) → t ≡ looking f.name s
    → All (λ f. slice_get s.looked f.slot ≡ Some f.name) fs → path ≡ names_of fs → more ≡ path ++ f.name ∷ [] → HoldsTexts look t.looked texts → slice_get t.looked f.slot ≡ Some f.name
    → IsUnderWay look t.looked texts more (fs ++ f ∷ [])
under_way_push look s t texts path more fs f is slots names longer holds at = record {
  texts_held = holds;
  path_is = longer ∙ ap (λ p. p ++ f.name ∷ []) names ∙ sym (names_push fs f);
  slots = All-push (λ f. slice_get t.looked f.slot ≡ Some f.name) fs f
      (All-weaker (λ f. slice_get s.looked f.slot ≡ Some f.name) (λ f. slice_get t.looked f.slot ≡ Some f.name)
      (λ g h. ap (λ t. slice_get t.looked g.slot) is ∙ looked_stays f.name s g.slot g.name h) fs slots)
      at;
}

-- a walk that has not begun is under way
pub fresh_is_under_way : (look : Look) (w : ExpansionWalk) → IsFresh w → IsUnderWay look w.progress.looked w.texts.items w.path.keys w.frames.items
fresh_is_under_way look w fresh =
    let looked : w.progress.looked ≡ [] = ap (λ p. p.looked) fresh.progress in
    record {
      texts_held = subst (λ l. HoldsTexts look l w.texts.items) (sym looked) (subst (λ t. HoldsTexts look [] t) (sym fresh.texts)
          (record { count = refl; held = λ i name tokens p q. let bad : ⊥ = cc in absurd bad }));
      path_is = fresh.path ∙ ap names_of (sym fresh.frames);
      slots = subst (λ fs. All (λ f. slice_get w.progress.looked f.slot ≡ Some f.name) fs) (sym fresh.frames) (All-nil (λ f. slice_get w.progress.looked f.slot ≡ Some f.name));
    }

-- what a unit's directive does is what its expansion is
pub unit_read : (s : Store) (u : Name) (w : ExpansionWalk) (o : Outcome) → IsFresh w
    → o ≡ (include_from 200000 (look_in s.entries) w.path.keys (record { member = u; line = 1 }) u w.progress then going 200000 (look_in s.entries) [] w.frames.items)
    → o ≡ outcome_of s.entries u
unfolding expanded_within
unit_read s u w o fresh e =
    let look = look_in s.entries in
    let start : Origin = record { member = u; line = 1 } in
    e
    ∙ ap (λ fs. include_from 200000 look w.path.keys start u w.progress then going 200000 look [] fs) fresh.frames
    ∙ then_ok (include_from 200000 look w.path.keys start u w.progress) (going 200000 look [] []) (going_none 200000 look)
    ∙ ap (λ p. include_from 200000 look p start u w.progress) fresh.path
    ∙ ap (λ q. include_from 200000 look [] start u q) fresh.progress

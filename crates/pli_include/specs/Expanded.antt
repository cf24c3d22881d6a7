-- The expansion of a member of a store, with its trace (own).
use Rattle.std.specs.Prelude.{nat_eq, Bool, List, [], map, Option, None, Some, Ok, Err}
use Rattle.std.specs.List.{list_all}
use Rattle.std.specs.Map.{lookup}
use Rattle.std.specs.Option.{option_eq, option_map}
use Rattle.pli_base.specs.Name.{Name}
use Rattle.pli_base.specs.declared.token.Origin.{Origin}
use Rattle.pli_base.specs.declared.token.TokenText.{TokenText}
use Rattle.pli_lex.specs.Reading.{lexed}
use Rattle.pli_members.specs.Members.{Store, Member, is_named, version_of}
use Rattle.pli_include.specs.declared.expansion.ExpansionFault.{ExpansionFault}
use Rattle.pli_include.specs.declared.expansion.TraceEntry.{TraceEntry}
use Rattle.pli_include.specs.Expansion.{Look, Outcome, expanded_within, token_limit}

-- the names that were looked up, each with its version or its absence, and either texts, each with its
-- origin, or a fault
pub record Expanded : Type 0 where
  pub trace : List TraceEntry
  pub texts : List TokenText
  pub origins : List Origin
  pub fault : Option ExpansionFault

-- what members have under a name
abbrev pub look_in : List (Name × Member) → Look
look_in entries name = option_map lexed (option_map (λ m. m.lines) (lookup (is_named name) entries))

-- the expansion of one of the members, or its first fault
abbrev pub outcome_of : List (Name × Member) → Name → Outcome
outcome_of entries u = expanded_within token_limit (look_in entries) u

-- the version of a name, or its absence
abbrev pub answered : Store → Name → TraceEntry
answered s name = record { name = name; version = version_of s name }

-- an outcome as it is told of a store: each name that was looked up with its version or its absence
abbrev pub told : Store → Outcome → Expanded
told s (Ok p) =
    record { trace = map (answered s) p.looked; texts = p.texts; origins = p.origins; fault = None }
told s (Err stop) =
    record { trace = map (answered s) stop.looked; texts = []; origins = []; fault = Some stop.fault }

-- the expansion of a member of a store
unfoldable pub expansion_of : Store → Name → Expanded
expansion_of s u = told s (outcome_of s.entries u)

-- the store answers a name as an entry of a trace says: with the version there, or with no member
abbrev pub answers : Store → TraceEntry → Bool
answers s e = option_eq nat_eq (version_of s e.name) e.version

-- and so it answers each name of a trace
abbrev pub holds : Store → List TraceEntry → Bool
holds s trace = list_all (answers s) trace

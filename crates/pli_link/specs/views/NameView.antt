-- What a table of external variables says, apart from where its templates lie in memory.
use Rattle.std.specs.Prelude.{option_map, List, map}
use Rattle.pli_base.specs.Name.{Name}
use Rattle.pli_link.specs.Names.{Declaration}
use Rattle.pli_link.specs.declared.names.KnownExternal.{KnownExternal}
use Rattle.pli_type_keys.specs.views.KeyView.{templated}

-- a declaration
abbrev pub declaration_view : KnownExternal → Declaration
declaration_view e =
    record {
      kind = e.kind;
      template = option_map templated e.template;
      unit = e.unit;
      global = e.global;
    }

-- external variables with their first declarations
abbrev pub externals_view : List (Name × KnownExternal) → List (Name × Declaration)
externals_view es = map (λ e. (e.0, declaration_view e.1)) es

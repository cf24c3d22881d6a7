-- What controls a group, apart from where it lies in memory.
use Rattle.pli_type_iteration.specs.Headers as plain
use Rattle.pli_type_iteration.specs.declared.headers.Header.{Header}
use Rattle.pli_type_iteration.specs.declared.headers.Header.TheVariants as headers
use Rattle.pli_type_tree.specs.views.TypedView.{expression_view, iteration_view}

-- what controls a group
abbrev pub header_view : Header → plain.Header
header_view headers.Plain = plain.Plain
header_view (headers.While condition) = plain.While (expression_view condition.value)
header_view (headers.Iterate iteration) = plain.Iterate (iteration_view iteration.value)

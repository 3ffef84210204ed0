-- Where `names_compute` is unfolded, every definition of names computes: for tables and examples.
use Rattle.names.specs.Bytes.{order, starts_with, ends_with, contains, every, strip}
use Rattle.names.specs.Name.{is_pseudo, looks_full, directory, remote_head}
use Rattle.names.specs.WellFormed.{well_formed, complete}
use Rattle.names.specs.Category.{classify_below, first_slash, classify_linked, classify, category_and_short_name, category, short_name, is_private, to_full_name}
use Rattle.names.specs.Namespace.{expand_rest, expand, names_check, expanded}
use Rattle.names.specs.Candidates.{full_name, pass, passes, last_candidate, candidates}
use Rattle.names.specs.Route.{route_as, route, packed_as, packed_name}

unfoldable pub names_compute : Unit {0}
unfolding order starts_with ends_with contains every strip is_pseudo looks_full directory remote_head well_formed complete
    classify_below first_slash classify_linked classify category_and_short_name category short_name is_private to_full_name
    expand_rest expand names_check expanded full_name pass passes last_candidate candidates route_as route packed_as packed_name
names_compute = tt

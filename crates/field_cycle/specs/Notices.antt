-- What waits to be told.
use Rattle.std.specs.Prelude.{◌++◌, List}
use Rattle.std.specs.Option.{option_to_list}
use Rattle.field_cycle.specs.declared.notices.Change.{Change}
use Rattle.field_cycle.specs.declared.notices.Notices.{Notices}

-- in the order in which it's told
abbrev pub listed : Notices → List Change
listed n = option_to_list n.first ++ option_to_list n.second

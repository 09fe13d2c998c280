-- What a view is made of, as plain data, which a seat can carry.
use Rattle.std.specs.Prelude.{List}
use Rattle.std.specs.Coded.{Coded, coded_list}
use Rattle.hg_rule.specs.declared.view.Event.{Event}
use Rattle.hg_rule.specs.declared.view.Part.{Part}
use Rattle.hg_rule.specs.declared.view.Sight.{Sight}
use Rattle.hg_rule.specs.contracts.view.Event.{the_row as event_row}
use Rattle.hg_rule.specs.contracts.view.Part.{the_row as part_row}
use Rattle.hg_rule.specs.contracts.view.Sight.{the_row as sight_row}

-- parts of the state
abbrev pub parts_code : Coded (List Part)
parts_code = coded_list part_row.coded

-- what was seen
abbrev pub sights_code : Coded (List Sight)
sights_code = coded_list sight_row.coded

-- steps
abbrev pub events_code : Coded (List Event)
events_code = coded_list event_row.coded

use Rattle.std.proofs.Common.{◌≡◌, rules, length}
use Rattle.hg_script.proofs.Places.{places_more}
use Rattle.hg_script.proofs.tables.add_name.Goals as goal

pub returns-clause-places : goal.returns-clause-places
returns-clause-places c =
    let same : c.in_ok-name.name.items ≡ c.args.table.now.name = search rules in
    let place : c.len.result ≡ length c.args.tables.now.items = search rules in
    places_more c.args.places.now c.insert.new.self c.args.tables.now.items c.args.table.now c.in_ok-name.name c.len.result c.requires.places c.requires.fresh same place
    c.in_ok-insert.ensures.updates

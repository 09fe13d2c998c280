use Rattle.hg_base.specs.declared.statement.Record.{Record}
use Rattle.hg_script.specs.Numbered.{next_place}
use Rattle.hg_script.proofs.Open.{notes, reads}
use Rattle.hg_script.proofs.reader.add_asked.Goals as goal

pub returns-clause-known : goal.returns-clause-known
returns-clause-known c =
    let added : Record = record { place = next_place c.args.script.now; session = c.value-number.result; statement = c.into_statement-statement.result } in
    rw c.in_ok-add.ensures (
      notes c.args.sessions.now.flags c.note.new.self.flags c.args.script.now.records added c.requires.known.0 c.note.ensures.flags,
      reads c.args.sessions.now.cursors c.note.new.self.cursors c.args.script.now.records added c.requires.known.1 c.note.ensures.cursors,
    )

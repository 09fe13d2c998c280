use Rattle.std.proofs.Common.{◌∙◌, sym, ap, refl}
use Rattle.csv.specs.Records.{fields_of}
use Rattle.hg_script.specs.Draft.{table_named}
use Rattle.hg_script.specs.Numbered.{next_place}
use Rattle.std.proofs.lemmas.Bool.{or_parts}
use Rattle.hg_base.specs.declared.limits.TheConstants.{MOST_SESSIONS}
use Rattle.hg_script.proofs.Growth.{lies}
use Rattle.hg_script.proofs.Declared.{MayDeclare, may_declare}
use Rattle.hg_script.proofs.Lawful.{version-first}
use Rattle.hg_script.proofs.reader.add.Goals as goal

pub set_version-requires : goal.set_version-requires
set_version-requires c =
    (version-first (next_place c.args.script.now) c.args.script.now c.args.word (fields_of c.args.row.now) c.in-Version.version c.requires.word (sym c.requires.draft ∙ c.in-Version.is) refl).records

may : (c : goal.After-declare-arg-1) → MayDeclare c.args.script.now (fields_of c.args.row.now)
may c = may_declare (next_place c.args.script.now) c.args.script.now c.args.word (fields_of c.args.row.now) c.in-Table.fresh c.in-Table.columns
    (sym c.requires.draft ∙ c.in-Table.is) c.requires.count (rw c.in-Table.is at c.requires.kept)

pub declare-requires-clause-room : goal.declare-requires-clause-room
declare-requires-clause-room c = (may c).room

pub declare-requires-clause-fresh : goal.declare-requires-clause-fresh
declare-requires-clause-fresh c = ap (table_named c.args.script.now.tables) (ap (λ d. d.name) c.in_ok-table-in-Table.ensures ∙ c.field.ensures) ∙ (may c).fresh

pub declare-requires-clause-first : goal.declare-requires-clause-first
declare-requires-clause-first c = (may c).first

pub add_asked-requires-clause-session : goal.add_asked-requires-clause-session
add_asked-requires-clause-session c =
    let kept = rw c.in-Session.is at c.requires.kept in
    (lies 1 MOST_SESSIONS c.in-Session.session (or_parts _ _ kept.1).0).most

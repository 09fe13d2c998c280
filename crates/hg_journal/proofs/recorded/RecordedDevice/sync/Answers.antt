use Rattle.std.proofs.Common.{rules, ◌≡◌, ◌∷◌, is_ok, true}
use Rattle.hg_journal.specs.Calls.{Syncs, all_within}
use Rattle.hg_journal.proofs.Recording.{synced}
use Rattle.hg_journal.proofs.recorded.RecordedDevice.sync.Goals.{then-self, else-self}
use Rattle.hg_journal.proofs.recorded.RecordedDevice.sync.Goals as goal

pub returns-clause-crash : goal.returns-clause-crash
returns-clause-crash g c =
    let noted : c.note.new.self.told.calls ≡ (Syncs, is_ok c.if-self.answer) ∷ c.args.self.now.told.calls = elim c.if-self.branch [ then-self w ↦ search rules | else-self w ↦ search rules ] in
    let within : all_within c.args.self.now.told.calls ≡ true = search rules in
    synced (is_ok c.if-self.answer) c.args.self.now.told.calls c.note.new.self.told.calls noted within

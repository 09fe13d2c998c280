-- What each step of a collector's pass on contents and on groups makes of its view.
use Rattle.std.specs.Prelude.{◌≡◌, ℕ, suc, ◌-◌, List, [], ◌∷◌, ◌++◌, length}
use Rattle.hg_base.specs.declared.rid.Rid.{Rid}
use Rattle.hg_base.specs.declared.report.Kind.{Kind}
use Rattle.hg_core.specs.declared.journal.PassEntry.TheVariants as entries
use Rattle.hg_core.specs.declared.version.Version.{Version}
use Rattle.hg_core.specs.Contents.{store}
use Rattle.hg_core.specs.Counters.{removed_more}
use Rattle.hg_core.specs.Removal.{reclaimed}
use Rattle.hg_core.specs.Visits.{removing}
use Rattle.hg_rule.specs.declared.view.BucketPart.{BucketPart}
use Rattle.hg_rule.specs.declared.view.CommitPart.{CommitPart}
use Rattle.hg_rule.specs.declared.view.PassPart.{PassPart}
use Rattle.hg_rule.specs.declared.view.Part.TheVariants.{OfBucket, OfCommit, OfPass}
use Rattle.hg_rule.specs.declared.view.Sight.TheVariants.{Saw, Took}
use Rattle.hg_rule.specs.declared.view.Event.TheVariants.{Reclaim, Take}
use Rattle.hg_rule.specs.declared.view.View.{View}
use Rattle.hg_rule.specs.Facts.{record_of}
use Rattle.hg_rule.specs.Views.{number, pass, then_has}
use Rattle.hg_rule.specs.Steps.{IsHistoryAt, Seated}
use Rattle.atomic_table.specs.Table.{Step}
use Rattle.hg_rule.specs.Holding.{bucket_number, bucket, beyond, commit, held}

-- the versions of a record that the pass leaves
abbrev pub left_of : View → Rid → Kind → List Version
left_of v rid kind = reclaimed kind rid.table (record_of (pass v)) (held v rid)

-- how many versions of a record the pass removes
abbrev pub removed_of : View → Rid → Kind → ℕ
removed_of v rid kind = length (held v rid) - length (left_of v rid kind)

-- a bucket that keeps these versions of a record, where a kind removed so many
abbrev pub shortening : Rid → Kind → List Version → ℕ → BucketPart → BucketPart
shortening rid kind versions n part = record { content = store rid versions part.content; counters = record part.counters { removed = removed_more kind n part.counters.removed } }

-- the visit counts the n versions that were removed
abbrev pub visiting : Kind → ℕ → PassPart → PassPart
visiting kind n part = record part { visits = removing kind n part.visits }

-- w is v after the pass removed a record's versions from the bucket held, by the rule of its kind
abbrev pub Reclaims : View → Rid → Kind → View → Type 0
Reclaims v rid kind w = w ≡ then_has v (OfPass (number v) (visiting kind (removed_of v rid kind) (pass v)) ∷ OfBucket (bucket_number v)
    (shortening rid kind (left_of v rid kind) (removed_of v rid kind) (bucket v)) ∷ beyond v) []
    (Reclaim (number v) kind rid (removed_of v rid kind))

-- the pass notes that it took the group of this number
abbrev pub noting : ℕ → PassPart → PassPart
noting group part = record part { journal = part.journal ++ entries.Took group ∷ [] }

-- the committer's part after one group more was taken out of its list
abbrev pub taking : CommitPart → CommitPart
taking part = record part { taken = suc part.taken }

-- w is v after the pass took a group out of the committer's list, at the mark n
abbrev pub Takes : View → ℕ → View → Type 0
Takes v n w = IsHistoryAt v n (commit v).history.list × (w ≡ then_has v (OfPass (number v) (noting (suc (commit v).taken) (pass v)) ∷ OfCommit (taking (commit v)) ∷ beyond v)
    (Saw (commit v).history ∷ Took (suc (commit v).taken) ∷ []) (Take (number v) n))

-- ---- the same steps, as the table plays them

-- the step of `Reclaims`
abbrev pub removed : Rid → Kind → Step ℕ → Seated → ℕ → Seated → Type 0
removed rid kind step m n w = Reclaims m.0 rid kind w.0 × (w.1 ≡ m.1)

-- the step of `Takes`, by the mark that was found
abbrev pub took : Step ℕ → Seated → ℕ → Seated → Type 0
took step m n w = Takes m.0 n w.0 × (w.1 ≡ m.1)

-- What a fetch returns is what a history shows that has its looks.
use Rattle.std.proofs.Common.{ℕ, ◌<◌, List, [], ◌∷◌, ◌++◌, ap, subst}
use Rattle.hg_base.specs.declared.rid.Rid.{Rid}
use Rattle.hg_base.specs.declared.rid.TableId.{TableId}
use Rattle.hg_base.specs.History.{History, visible, seen}
use Rattle.hg_base.specs.Replies.{AreRows, AreFirst}
use Rattle.hg_core.specs.declared.log.LogEntry.{LogEntry}
use Rattle.hg_core.specs.Reading.{bucket_at, looks}
use Rattle.hg_core.specs.Replies.{in_bucket, AreReplied}
use Rattle.hg_core.proofs.Right.{looks_replied, picked_rows}
use Rattle.hg_rule.specs.declared.view.View.{View}
use Rattle.hg_rule.specs.declared.view.SessionPart.{SessionPart}
use Rattle.hg_rule.specs.Views.{number, session}
use Rattle.hg_cursor.specs.Keys.{Rows}
use Rattle.hg_cursor.specs.Logs.{ReadsAt, GoesOn}
use Rattle.hg_cursor.specs.Cursors.{FetchesRows, shown_at}
use Rattle.hg_cursor.proofs.Trips.{added_session}

replied_earlier : (buckets : ℕ) (h : History) (logs : ℕ → List LogEntry) (j : ℕ) (later l : List LogEntry) → AreReplied buckets h logs j (later ++ l) → AreReplied buckets h logs j l
replied_earlier buckets h logs j [] l a = a
replied_earlier buckets h logs j (e ∷ later) l a = replied_earlier buckets h logs j later l a.1

module _ (count n : ℕ) (v w : View) (at : ℕ) (table : TableId) (low high : ℕ) (rows : Rows) (h : History) (logs : ℕ → List LogEntry) (r : ReadsAt at table v)
    (k : FetchesRows count n v table low high rows w) (g : GoesOn count w h logs) where
  parts : (i : ℕ) → i < k.looked.number → AreRows (in_bucket count (bucket_at count table low i) table (λ rid. visible h rid at)) low high (k.looked.part i)
  parts i less =
      let log = ap (λ (p : SessionPart). p.log) (added_session v w _ k.looked.adds) in
      let whole : AreReplied count h logs (number w) (g.later.0 ++ (session w).log) = subst (AreReplied count h logs (number w)) g.later.1 (g.answers (number w)) in
      let own : AreReplied count h logs (number w) (looks count table low high k.looked.part k.looked.number ++ (session v).log) = subst (AreReplied count h logs (number w)) log
      (replied_earlier count h logs (number w) g.later.0 (session w).log whole) in
      subst (λ ws. AreRows (in_bucket count (bucket_at count table low i) table (seen h ws at)) low high (k.looked.part i)) r.unwritten
      (looks_replied count h logs (number w) table low high k.looked.part k.looked.number (session v).log _ r.opens own i less)

  pub right : AreFirst (shown_at h table at) n low high rows
  right = picked_rows count n table (λ (rid : Rid). visible h rid at) low high k.looked.number k.looked.part rows k.picks parts

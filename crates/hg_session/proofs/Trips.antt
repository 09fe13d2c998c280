-- A session that takes a bucket, works in it and gives it back.
use Rattle.std.proofs.Common.{◌≡◌, ℕ, List, [], ◌∷◌, refl, sym, ap, ◌∙◌, subst, inl, inr}
use Rattle.hg_base.specs.declared.rid.Rid.{Rid}
use Rattle.hg_base.specs.declared.image.Image.{Image}
use Rattle.hg_core.specs.declared.ask.Ask.{Ask}
use Rattle.hg_core.specs.declared.log.LogEntry.TheVariants.{Wrote, Undid, Over}
use Rattle.hg_core.specs.declared.phase.Phase.TheVariants.{Idle}
use Rattle.hg_rule.specs.declared.view.SessionPart.{SessionPart}
use Rattle.hg_rule.specs.declared.view.Part.{Part}
use Rattle.hg_rule.specs.declared.view.Part.TheVariants.{OfSession, OfBucket}
use Rattle.hg_rule.specs.declared.view.Sight.{Sight}
use Rattle.hg_rule.specs.declared.view.Sight.TheVariants.{Heard}
use Rattle.hg_rule.specs.declared.view.View.{View}
use Rattle.hg_rule.specs.Facts.{StartsWith, IsAmong}
use Rattle.hg_rule.specs.Views.{number, part_number, session, after_first, HasSession, HasOnlySession}
use Rattle.hg_rule.specs.Steps.{logging, Ends}
use Rattle.hg_rule.specs.Holding.{bucket_number, bucket, beyond, writer}
use Rattle.hg_rule.specs.Writes.{with_log, with_entry, log_asked, Looks, Installs, Undoes, installing, undoing}
use Rattle.hg_rule.specs.Places.{without_bucket}
use Rattle.hg_rule.proofs.Growing.{among_later}
use Rattle.hg_rule.proofs.Holders.{session_departs}
use Rattle.hg_cursor.proofs.Trips.{first_number, first_session, Beside, only_others, more_seen}
use Rattle.hg_session.specs.Gains.{Alone}

pub alone_only : (v : View) (j : ℕ) (part : SessionPart) (old : List Sight) → Alone j part old v → HasOnlySession v
alone_only v j part old a = a.parts ∙ (λ i. OfSession (sym (first_number v j part [] a.parts) i) (sym (first_session v j part [] a.parts) i) ∷ [])

-- ---- a bucket is taken, and given back

pub departed : (j : ℕ) (part : SessionPart) (b : ℕ) (old : List Sight) (u w : View) → Beside j part b old u → w ≡ without_bucket u → Alone j part old w
departed j part b old u w h e = record {
  parts =
      let n = first_number u j part _ h.parts in
      let s = first_session u j part _ h.parts in
      let o : beyond u ≡ [] = ap (λ (ps : List Part). after_first (after_first ps)) h.parts in
      let has : HasSession u = h.parts ∙ (λ i. OfSession (sym n i) (sym s i) ∷ sym (ap after_first h.parts) i) in
      session_departs u w has e ∙ (λ i. OfSession (n i) (s i) ∷ o i);
  kept = (h.kept.0, ap (λ (x : View). x.sights) e ∙ h.kept.1);
}

-- ---- what is done between

pub installed : (j : ℕ) (part : SessionPart) (b : ℕ) (old : List Sight) (r : Rid) (image : Image) (u w : View) → Beside j part b old u → Installs u r image w →
    Beside j (with_entry (Wrote r image) part) b old w × IsAmong (Heard j (Wrote r image ∷ part.log)) w.sights
installed j part b old r image u w h k =
    let e = first_number u j part _ h.parts in
    let s = first_session u j part _ h.parts in
    let m : bucket_number u ≡ b = ap (λ (ps : List Part). part_number (after_first ps)) h.parts in
    let o : beyond u ≡ [] = ap (λ (ps : List Part). after_first (after_first ps)) h.parts in (
      record {
        holds = installing (writer u) r image (bucket u);
        parts = ap (λ (x : View). x.parts) k ∙ (λ i. OfSession (e i) (with_entry (Wrote r image) (s i)) ∷ OfBucket (m i) (installing (writer u) r image (bucket u)) ∷ o i);
        kept = subst (λ l. StartsWith l old) (sym (ap (λ (x : View). x.sights) k)) (more_seen old u.sights _ h.kept);
      },
      subst (IsAmong (Heard j (Wrote r image ∷ part.log))) (sym (ap (λ (x : View). x.sights) k)) (among_later _ u.sights _ (inl (λ i. Heard (e i) (Wrote r image ∷ (s i).log)))),
    )

pub undone : (j : ℕ) (part : SessionPart) (b : ℕ) (old : List Sight) (r : Rid) (u w : View) → Beside j part b old u → Undoes u r w → Beside j (with_entry (Undid r) part) b old w ×
    IsAmong (Heard j (Undid r ∷ part.log)) w.sights
undone j part b old r u w h k =
    let e = first_number u j part _ h.parts in
    let s = first_session u j part _ h.parts in
    let m : bucket_number u ≡ b = ap (λ (ps : List Part). part_number (after_first ps)) h.parts in
    let o : beyond u ≡ [] = ap (λ (ps : List Part). after_first (after_first ps)) h.parts in (
      record {
        holds = undoing r (bucket u);
        parts = ap (λ (x : View). x.parts) k ∙ (λ i. OfSession (e i) (with_entry (Undid r) (s i)) ∷ OfBucket (m i) (undoing r (bucket u)) ∷ o i);
        kept = subst (λ l. StartsWith l old) (sym (ap (λ (x : View). x.sights) k)) (more_seen old u.sights _ h.kept);
      },
      subst (IsAmong (Heard j (Undid r ∷ part.log))) (sym (ap (λ (x : View). x.sights) k)) (among_later _ u.sights _ (inl (λ i. Heard (e i) (Undid r ∷ (s i).log)))),
    )

-- ---- with nothing held

pub looked_alone : (v w : View) (n : ℕ) (ask : Ask) → HasOnlySession v → (k : Looks v ask n w) → Alone (number v) (with_log (log_asked v ask n k.rows) (session v)) v.sights w ×
    IsAmong (Heard (number v) (log_asked v ask n k.rows)) w.sights
looked_alone v w n ask only k = (
  record {
    parts = ap (λ (x : View). x.parts) k.after ∙ (λ i. OfSession (number v) (with_log (log_asked v ask n k.rows) (session v)) ∷ only_others v only i);
    kept = (_, ap (λ (x : View). x.sights) k.after);
  },
  subst (IsAmong (Heard (number v) (log_asked v ask n k.rows))) (sym (ap (λ (x : View). x.sights) k.after)) (among_later _ v.sights _ (inr (inl refl))),
)

pub ended : (v w : View) → HasOnlySession v → Ends v w → Alone (number v) (logging Over Idle (session v)) v.sights w × IsAmong (Heard (number v) (Over ∷ (session v).log)) w.sights
ended v w only k = (
  record {
    parts = ap (λ (x : View). x.parts) k ∙ (λ i. OfSession (number v) (logging Over Idle (session v)) ∷ only_others v only i);
    kept = (_, ap (λ (x : View). x.sights) k);
  },
  subst (IsAmong (Heard (number v) (Over ∷ (session v).log))) (sym (ap (λ (x : View). x.sights) k)) (among_later _ v.sights _ (inl refl)),
)

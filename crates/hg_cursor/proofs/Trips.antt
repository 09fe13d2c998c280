-- A session that takes a bucket, looks at it and gives it back.
use Rattle.std.proofs.Common.{◌≡◌, ℕ, List, [], ◌∷◌, ◌++◌, refl, sym, ap, ◌∙◌, subst, inl, inr, append_assoc}
use Rattle.hg_base.specs.declared.rid.TableId.{TableId}
use Rattle.hg_base.specs.declared.writer.Writer.{Writer}
use Rattle.hg_core.specs.declared.ask.Ask.{Ask}
use Rattle.hg_core.specs.declared.log.LogEntry.{LogEntry}
use Rattle.hg_core.specs.declared.log.LogEntry.TheVariants.{Saw}
use Rattle.hg_core.specs.Logs.{begans, current, own_writes, is_plain}
use Rattle.hg_rule.specs.declared.passes.SessionPass.{SessionPass}
use Rattle.hg_rule.specs.declared.view.SessionPart.{SessionPart}
use Rattle.hg_rule.specs.declared.view.BucketPart.{BucketPart}
use Rattle.hg_rule.specs.declared.view.Part.{Part}
use Rattle.hg_rule.specs.declared.view.Part.TheVariants.{OfSession, OfBucket}
use Rattle.hg_rule.specs.declared.view.Sight.{Sight}
use Rattle.hg_rule.specs.declared.view.Sight.TheVariants.{Heard}
use Rattle.hg_rule.specs.declared.view.View.{View}
use Rattle.hg_rule.specs.declared.view.Sizes.{Sizes}
use Rattle.hg_rule.specs.Facts.{StartsWith, IsAmong}
use Rattle.hg_rule.specs.Views.{number, part_number, session, session_there, others, first_in, after_first, seeing, HasSession, HasOnlySession}
use Rattle.hg_rule.specs.Steps.{loaded_in}
use Rattle.hg_rule.specs.Holding.{beyond, writer, snapshot}
use Rattle.hg_rule.specs.Writes.{with_log, log_asked, Looks}
use Rattle.hg_rule.specs.Places.{without_bucket}
use Rattle.hg_rule.specs.Seats.{BoardId, session_view, session_rest, IsSeatOf, IsSessionOf}
use Rattle.hg_rule.proofs.Growing.{among_later}
use Rattle.hg_rule.proofs.Holders.{session_arrives, session_departs, still_session}
use Rattle.hg_rule.proofs.Lists.{starts_on}
use Rattle.hg_store.specs.Stores.{Takes}
use Rattle.hg_cursor.specs.Keys.{Rows}
use Rattle.hg_cursor.specs.Logs.{Adds, ReadsAt}

-- a view with a session's part and a bucket's part, which has the earlier sights
pub record Beside (j : ℕ) (part : SessionPart) (b : ℕ) (old : List Sight) (v : View) : Type 0 where
  pub holds : BucketPart
  pub parts : v.parts ≡ OfSession j part ∷ OfBucket b holds ∷ []
  pub kept : StartsWith v.sights old

pub only_others : (v : View) → HasOnlySession v → others v ≡ []
only_others v only = ap after_first only

pub only_session : (v : View) → HasOnlySession v → HasSession v
only_session v only = only ∙ (λ i. OfSession (number v) (session v) ∷ sym (only_others v only) i)

-- what the first part is
pub first_number : (v : View) (j : ℕ) (part : SessionPart) (os : List Part) → v.parts ≡ OfSession j part ∷ os → number v ≡ j
first_number v j part os e = ap part_number e

pub first_session : (v : View) (j : ℕ) (part : SessionPart) (os : List Part) → v.parts ≡ OfSession j part ∷ os → session v ≡ part
first_session v j part os e = ap (λ (ps : List Part). session_there (first_in ps)) e

-- ---- a bucket is taken, and given back

pub arrived : (v u : View) (b : ℕ) → HasOnlySession v → Takes v b u → Beside (number v) (session v) b v.sights u
arrived v u b only t = record {
  holds = t.part;
  parts = session_arrives v (seeing (OfBucket b t.part ∷ []) t.seen []) u b t.part (only_session v only) refl t.after ∙
      (λ i. OfSession (number v) (session v) ∷ OfBucket b t.part ∷ only_others v only i);
  kept = (t.seen, ap (λ (x : View). x.sights) t.after);
}

pub more_seen : (old sights xs : List Sight) → StartsWith sights old → StartsWith (sights ++ xs) old
more_seen old sights xs k = (k.0 ++ xs, ap (λ l. l ++ xs) k.1 ∙ append_assoc old k.0 xs)

pub looked : (j : ℕ) (part : SessionPart) (b n : ℕ) (old : List Sight) (ask : Ask) (u w : View) → Beside j part b old u → (k : Looks u ask n w) →
    Beside j (with_log (log_asked u ask n k.rows) part) b old w × IsAmong (Heard j (log_asked u ask n k.rows)) w.sights
looked j part b n old ask u w h k =
    let e = first_number u j part _ h.parts in
    let s = first_session u j part _ h.parts in
    let o : others u ≡ OfBucket b h.holds ∷ [] = ap after_first h.parts in (
      record {
        holds = h.holds;
        parts = ap (λ (x : View). x.parts) k.after ∙ (λ i. OfSession (e i) (with_log (log_asked u ask n k.rows) (s i)) ∷ o i);
        kept = subst (λ l. StartsWith l old) (sym (ap (λ (x : View). x.sights) k.after)) (more_seen old u.sights _ h.kept);
      },
      subst (IsAmong (Heard j (log_asked u ask n k.rows))) (sym (ap (λ (x : View). x.sights) k.after)) (among_later _ u.sights _ (inr (inl (ap (λ i. Heard i (log_asked u ask n k.rows)) e)))),
    )

-- after the bucket was given back
pub departed : (j : ℕ) (part : SessionPart) (b : ℕ) (old : List Sight) (u w : View) → Beside j part b old u → w ≡ without_bucket u → (w.parts ≡ OfSession j part ∷ []) × StartsWith w.sights old
departed j part b old u w h e =
    let n = first_number u j part _ h.parts in
    let s = first_session u j part _ h.parts in
    let o : beyond u ≡ [] = ap (λ (ps : List Part). after_first (after_first ps)) h.parts in
    let has : HasSession u = h.parts ∙ (λ i. OfSession (sym n i) (sym s i) ∷ sym (ap after_first h.parts) i) in
    (session_departs u w has e ∙ (λ i. OfSession (n i) (s i) ∷ o i), (h.kept.0, ap (λ (x : View). x.sights) e ∙ h.kept.1))

-- a pass that gave the bucket back is still one of the board
pub left_pass : (t : BoardId) (z : Sizes) (p q : SessionPass) (j b : ℕ) (part : SessionPart) (old : List Sight) → IsSessionOf t z p → Beside j part b old (session_view p) →
    IsSeatOf t q.seat → session_rest q ≡ session_rest p → (session_view q).parts ≡ OfSession j part ∷ [] → IsSessionOf t z q
left_pass t z p q j b part old own h seat rest a =
    let n = first_number (session_view p) j part _ h.parts in
    let s = first_session (session_view p) j part _ h.parts in
    still_session t z p q [] own seat rest (a ∙ (λ i. OfSession (sym n i) (sym s i) ∷ []))

-- ---- the reader, next to a bucket

pub writer_beside : (j b : ℕ) (part : SessionPart) (old : List Sight) (u : View) (by : Writer) → Beside j part b old u → by.session ≡ j → by.transaction ≡ begans part.log → by ≡ writer u
writer_beside j b part old u by h s t = (λ i. record { session = s i; transaction = t i }) ∙
    (λ i. record { session = sym (first_number u j part _ h.parts) i; transaction = begans (sym (first_session u j part _ h.parts) i).log })

pub snapshot_beside : (j b : ℕ) (part : SessionPart) (old : List Sight) (u : View) → Beside j part b old u → snapshot u ≡ loaded_in part.phase
snapshot_beside j b part old u h = ap (λ (p : SessionPart). loaded_in p.phase) (first_session u j part _ h.parts)

-- ---- what the log gained

pub adds_none : (v : View) → HasOnlySession v → Adds v [] v
adds_none v only = record { parts = only; kept = ([], sym (append_nil v.sights)) }
  where
    append_nil : {X : Type 0} (xs : List X) → xs ++ [] ≡ xs
    append_nil [] = refl
    append_nil (x ∷ xs) = ap (λ ys. x ∷ ys) (append_nil xs)

pub added_number : (v w : View) (es : List LogEntry) → Adds v es w → number w ≡ number v
added_number v w es a = first_number w (number v) (with_log (es ++ (session v).log) (session v)) [] a.parts

pub added_session : (v w : View) (es : List LogEntry) → Adds v es w → session w ≡ with_log (es ++ (session v).log) (session v)
added_session v w es a = first_session w (number v) (with_log (es ++ (session v).log) (session v)) [] a.parts

-- one entry more
pub adds_one : (u v w : View) (e : LogEntry) (es : List LogEntry) → Adds u es v → Adds v (e ∷ []) w → Adds u (e ∷ es) w
adds_one u v w e es a b =
    let n = added_number u v es a in
    let s = added_session u v es a in record {
      parts = b.parts ∙ (λ i. OfSession (n i) (with_log (e ∷ (s i).log) (s i)) ∷ []);
      kept = starts_on w.sights v.sights u.sights a.kept b.kept;
    }

pub adds_only : (v w : View) (es : List LogEntry) → Adds v es w → HasOnlySession w
adds_only v w es a = a.parts ∙ (λ i. OfSession (sym (added_number v w es a) i) (sym (added_session v w es a) i) ∷ [])

-- reads leave the session reading
pub reads_on : (at : ℕ) (table : TableId) (v w : View) (other : TableId) (low high b : ℕ) (rows : Rows) → ReadsAt at table v → Adds v (Saw other low high b rows ∷ []) w → ReadsAt at table w
reads_on at table v w other low high b rows r a =
    let s = added_session v w (Saw other low high b rows ∷ []) a in record {
      only = adds_only v w (Saw other low high b rows ∷ []) a;
      scope = r.scope;
      live = ap (λ (p : SessionPart). p.phase) s ∙ r.live;
      opens = ap (λ (p : SessionPart). current p.log) s ∙ r.opens;
      declared = r.declared;
      unwritten = ap (λ (p : SessionPart). own_writes p.log) s ∙ r.unwritten;
      plain = ap (λ (p : SessionPart). is_plain p.log) s ∙ r.plain;
      unstamped = ap (λ (p : SessionPart). p.stamped) s ∙ r.unstamped;
    }

-- What a look logs, and what the session has after it.
use Rattle.std.proofs.Common.{◌≡◌, ◌⊎◌, ℕ, List, [], ◌∷◌, Option, Some, None, refl, sym, ap, ◌∙◌, subst, arith, inl, inr}
use Rattle.std.specs.Prelude.{IsTrue, ◌==◌}
use Rattle.std.specs.List.{list_any}
use Rattle.std.proofs.lemmas.Option.{none-some}
use Rattle.hg_base.specs.declared.rid.Rid.{Rid}
use Rattle.hg_base.specs.declared.rid.TableId.{TableId}
use Rattle.hg_base.specs.declared.image.Image.{Image}
use Rattle.hg_base.specs.declared.value.Value.{Value}
use Rattle.hg_base.specs.Replies.{AreRows}
use Rattle.hg_base.specs.declared.writer.Writer.{Writer}
use Rattle.hg_core.specs.declared.ask.Ask.{Ask}
use Rattle.hg_core.specs.declared.ask.Ask.TheVariants.{Read}
use Rattle.hg_core.specs.declared.log.LogEntry.{LogEntry}
use Rattle.hg_core.specs.declared.log.LogEntry.TheVariants.{Saw}
use Rattle.hg_core.specs.Contents.{bucket_of}
use Rattle.hg_core.specs.Logs.{begans, is_plain}
use Rattle.hg_core.specs.Reading.{saw}
use Rattle.hg_core.specs.Replies.{read_by}
use Rattle.hg_rule.specs.declared.view.SessionPart.{SessionPart}
use Rattle.hg_rule.specs.declared.passes.SessionPass.{SessionPass}
use Rattle.hg_rule.specs.declared.view.Part.{Part}
use Rattle.hg_rule.specs.declared.view.Part.TheVariants.{OfSession}
use Rattle.hg_rule.specs.declared.view.Sight.TheVariants.{Heard}
use Rattle.hg_rule.specs.declared.view.Sizes.{Sizes}
use Rattle.hg_rule.specs.Facts.{IsAmong}
use Rattle.hg_rule.specs.Places.{without_bucket}
use Rattle.hg_rule.specs.Seats.{BoardId, session_view, session_rest, IsSeatOf, IsSessionOf}
use Rattle.hg_rule.specs.Steps.{loaded_in}
use Rattle.hg_rule.specs.declared.view.Sight.{Sight}
use Rattle.hg_rule.specs.declared.view.View.{View}
use Rattle.hg_rule.specs.Views.{number, part_number, session, after_first, HasOnlySession}
use Rattle.hg_rule.specs.Holding.{bucket_number, held, writer, snapshot}
use Rattle.hg_rule.specs.Writes.{with_log, log_asked, Looks}
use Rattle.hg_store.specs.Stores.{Takes}
use Rattle.hg_cursor.specs.Keys.{Rows, rows_at}
use Rattle.hg_cursor.specs.Logs.{Adds, IsHeard, MayRead}
use Rattle.hg_cursor.proofs.Trips.{first_number, first_session, Beside, arrived, looked, departed, left_pass, writer_beside, snapshot_beside, added_session, adds_only}

-- ---- a bucket is taken, looked at and given back

module _ (v u w x : View) (b n : ℕ) (ask : Ask) (only : HasOnlySession v) (t : Takes v b u) (k : Looks u ask n w) (gives : x ≡ without_bucket w) where
  -- the log gains the look
  pub look_adds : (e : LogEntry) → log_asked u ask n k.rows ≡ e ∷ (session v).log → Adds v (e ∷ []) x
  look_adds e log =
      let l = looked (number v) (session v) b n v.sights ask u w (arrived v u b only t) k in
      let d = departed (number v) _ b v.sights w x l.0 gives in
      record { parts = d.0 ∙ (λ i. OfSession (number v) (with_log (log i) (session v)) ∷ []); kept = d.1 }

  -- and the session has heard it
  pub look_heard : IsHeard x
  look_heard =
      let l = looked (number v) (session v) b n v.sights ask u w (arrived v u b only t) k in
      let d = departed (number v) _ b v.sights w x l.0 gives in
      let there = subst (IsAmong (Heard (number v) (log_asked u ask n k.rows))) (sym (ap (λ (y : View). y.sights) gives)) l.1 in
      let m = first_number x (number v) (with_log (log_asked u ask n k.rows) (session v)) [] d.0 in
      let s = first_session x (number v) (with_log (log_asked u ask n k.rows) (session v)) [] d.0 in
      inr (subst (λ e. IsAmong e x.sights) (λ i. Heard (sym m i) (sym s i).log) there)

-- its pass is still one of the board
pub look_own : (t : BoardId) (z : Sizes) (v u : View) (p q : SessionPass) (b n : ℕ) (ask : Ask) → HasOnlySession v → Takes v b u → Looks u ask n (session_view p) →
    session_view q ≡ without_bucket (session_view p) → IsSessionOf t z p → IsSeatOf t q.seat → session_rest q ≡ session_rest p → IsSessionOf t z q
look_own t z v u p q b n ask only takes k gives own seat rest =
    let l = looked (number v) (session v) b n v.sights ask u (session_view p) (arrived v u b only takes) k in
    let d = departed (number v) _ b v.sights (session_view p) (session_view q) l.0 gives in
    left_pass t z p q (number v) b _ v.sights own l.0 seat rest d.0

-- and it may read on
pub may_read_on : (at : ℕ) (table : TableId) (v w : View) (other : TableId) (low high b : ℕ) (rows : Rows) → MayRead at table v → Adds v (Saw other low high b rows ∷ []) w → MayRead at table w
may_read_on at table v w other low high b rows r a =
    let s = added_session v w (Saw other low high b rows ∷ []) a in record {
      only = adds_only v w (Saw other low high b rows ∷ []) a;
      scope = r.scope;
      live = ap (λ (p : SessionPart). p.phase) s ∙ r.live;
      declared = r.declared;
      plain = ap (λ (p : SessionPart). is_plain p.log) s ∙ r.plain;
      unstamped = ap (λ (p : SessionPart). p.stamped) s ∙ r.unstamped;
    }

-- ---- one record

-- the rows of a range of one key
pub only_rows : (f : ℕ → Image) (key : ℕ) (row : Option (List Value)) (rows : List (ℕ × List Value)) → AreRows f key key rows → (f key).row ≡ row → rows ≡ rows_at key row
only_rows f key row [] a e = empty row e (a.every key (omega arith) (omega arith))
  where
    empty : (row : Option (List Value)) → (f key).row ≡ row → IsTrue (list_any (λ (p : ℕ × List Value). p.0 == key) []) ⊎ ((f key).row ≡ None) → [] ≡ rows_at key row
    empty None e h = refl
    empty (Some values) e (inl h) = absurd (let k = h in cc)
    empty (Some values) e (inr h) = absurd (none-some values (sym h ∙ e))
only_rows f key row (p ∷ []) a e =
    let here : p.0 ≡ key = (let x = a.each.0 in omega (arith, x.0, x.1)) in
    let it : row ≡ Some p.1 = sym e ∙ (ap (λ k. (f k).row) (sym here) ∙ a.each.0.2) in
    (λ i. (here i, p.1) ∷ []) ∙ sym (ap (rows_at key) it)
only_rows f key row (p ∷ q ∷ rows) a e = absurd (let x = a.each.0 in let y = a.each.1.0 in let z = a.ascend.0 in omega (arith, x.0, x.1, y.0, y.1, z))

pub saw_log : (buckets j b n : ℕ) (part : SessionPart) (old : List Sight) (rid : Rid) (u w : View) (row : Option (List Value)) → Beside j part b old u → b ≡ bucket_of buckets rid →
    (k : Looks u (Read rid.table rid.key rid.key) n w)
    → (read_by (writer u) (snapshot u) (held u rid)).row ≡ row → log_asked u (Read rid.table rid.key rid.key) n k.rows ≡ saw buckets rid (rows_at rid.key row) ∷ part.log
saw_log buckets j b n part old rid u w row h here k read =
    let m : bucket_number u ≡ bucket_of buckets rid = ap (λ (ps : List Part). part_number (after_first ps)) h.parts ∙ here in
    let s = first_session u j part _ h.parts in
    let rows = only_rows (λ key. read_by (writer u) (snapshot u) (held u record { table = rid.table; key = key })) rid.key row k.rows k.shown read in
    (λ i. Saw rid.table rid.key rid.key (m i) (rows i) ∷ (s i).log)

-- what a trip to one record adds
pub saw_record : (buckets : ℕ) (v u w x : View) (b n at : ℕ) (rid : Rid) (by : Writer) (row : Option (List Value)) → MayRead at rid.table v → b ≡ bucket_of buckets rid → Takes v b u →
    Looks u (Read rid.table rid.key rid.key) n w → x ≡ without_bucket w → by.session ≡ number v → by.transaction ≡ begans (session v).log
    → (read_by by at (held u rid)).row ≡ row → Adds v (saw buckets rid (rows_at rid.key row) ∷ []) x
saw_record buckets v u w x b n at rid by row reads here takes k gives s t read =
    let h = arrived v u b reads.only takes in
    let same = writer_beside (number v) b (session v) v.sights u by h s t in
    let live : loaded_in (session v).phase ≡ at = ap loaded_in reads.live in
    let now = snapshot_beside (number v) b (session v) v.sights u h ∙ live in
    let shown : (read_by (writer u) (snapshot u) (held u rid)).row ≡ row = (λ i. (read_by (sym same i) (now i) (held u rid)).row) ∙ read in
    look_adds v u w x b n (Read rid.table rid.key rid.key) reads.only takes k gives (saw buckets rid (rows_at rid.key row))
    (saw_log buckets (number v) b n (session v) v.sights rid u w row h here k shown)

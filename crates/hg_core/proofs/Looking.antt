-- A session reads a range, tries a write, or names a table outside.
use Rattle.std.proofs.Common.{◌≡◌, ℕ, ◌<◌, ◌≤◌, List, [], ◌∷◌, length, Option, None, Some, Bool, true, false, inr, refl, sym, ap, ◌∙◌, subst, arith}
use Rattle.std.specs.Prelude.{if◌then◌else◌, nat_le, ◌==◌, is_some, unwrap_or, IsSome, IfSome, IsTrue, IsFalse, ⊤}
use Rattle.std.proofs.lemmas.Bool.Decides.{Decides-eqb, nat_tests}
use Rattle.hg_base.specs.declared.rid.Rid.{Rid}
use Rattle.hg_base.specs.declared.image.Image.{Image}
use Rattle.hg_base.specs.declared.writer.Writer.{Writer}
use Rattle.hg_base.specs.declared.scope.Scope.{Scope}
use Rattle.hg_base.specs.declared.line.Answer.{Answer}
use Rattle.hg_base.specs.declared.line.Answer.TheVariants.{Newer, OpenBy}
use Rattle.hg_base.specs.declared.value.Value.{Value}
use Rattle.hg_base.specs.History.{image_in, visible, seen, group_at, group_image, same_writer}
use Rattle.hg_base.specs.Replies.{AreRows}
use Rattle.hg_base.specs.Lists.{Each}
use Rattle.hg_base.specs.Transcript.{has}
use Rattle.hg_core.specs.declared.ask.Ask.{Ask}
use Rattle.hg_core.specs.declared.ask.Ask.TheVariants as asks
use Rattle.hg_core.specs.declared.log.LogEntry.{LogEntry}
use Rattle.hg_core.specs.declared.log.LogEntry.TheVariants.{Saw, Refused, Outside}
use Rattle.hg_core.specs.declared.phase.Phase.TheVariants.{Live}
use Rattle.hg_core.specs.Logs.{current, snapshot_number, begans, wrotes, begun_in, is_plain, own_writes, open_in, open_writes}
use Rattle.hg_core.specs.Phases.{snapshot_in}
use Rattle.hg_core.specs.declared.version.Version.{Version}
use Rattle.hg_core.specs.Versions.{newest_at, unpublished}
use Rattle.hg_core.specs.Contents.{versions, has_stamped}
use Rattle.hg_core.specs.OpenWrites.{writer_of}
use Rattle.hg_core.specs.Covered.{Reads}
use Rattle.hg_core.specs.Replies.{read_by, in_bucket, refused_over, refused_by, refusal, writes_in, numbers_in, Refuses, IsReplied}
use Rattle.hg_core.specs.State.{CoreState}
use Rattle.hg_core.specs.Events.{put, with_refusal, happens, May, Look}
use Rattle.hg_core.specs.Invariant.{IsSteady}
use Rattle.hg_core.proofs.Indices.{by_number, only_put, only_same}
use Rattle.hg_core.proofs.Recalls.{reach_step}
use Rattle.hg_core.proofs.Versions.{same_pair}
use Rattle.hg_core.proofs.OpenWrites.{none_stamped, stand_alike, next_alike}
use Rattle.hg_core.proofs.NewGroup.{image_open}
use Rattle.hg_core.proofs.Shows.{writer_itself, read_own, read_other, backed_newest, group_does, open_is}
use Rattle.hg_core.proofs.Replies.{IsNoNumber, replies_entry}
use Rattle.hg_core.proofs.Writing.{IsOwn, answer_more, begun_more, current_open}
use Rattle.hg_core.specs.Counters.{first_writes, undos}
use Rattle.hg_core.proofs.Tallies.{counters_entry}
use Rattle.hg_core.specs.Judged.{UndoesOpen}

-- ---- what is read is what is seen

own_is : (s : CoreState) (j : ℕ) (r : Rid) → IsTrue (is_plain (s.log j)) → image_in r (own_writes (s.log j)) ≡ open_in r (s.log j)
own_is s j r plain = image_open r (s.log j) plain

read_seen : (s : CoreState) (j at : ℕ) (scope : Scope) (r : Rid) → IsSteady s → s.phase j ≡ Live at scope → IsTrue (has scope r.table) → IsTrue (is_plain (s.log j)) →
    IsFalse (has_stamped j s.stamped_list) → read_by (writer_of (begun_in s.log) j) at (versions s.buckets s.bucket r) ≡ seen s.history (own_writes (s.log j)) at r
read_seen s j at scope r h live table plain unstamped = go (open_in r (s.log j)) refl
  where
    w : Writer
    w = writer_of (begun_in s.log) j

    go : (x : Option Image) → open_in r (s.log j) ≡ x → read_by (writer_of (begun_in s.log) j) at (versions s.buckets s.bucket r) ≡ seen s.history (own_writes (s.log j)) at r
    go (Some i) e =
        let own = h.open_writes_stand.owns r j i e in
        read_own s.mark at w i (versions s.buckets s.bucket r) own (h.stamped_is_next.exact r w i own ∙ none_stamped j r s.stamped_list unstamped)
        ∙ sym (ap (λ o. unwrap_or o (visible s.history r at)) (own_is s j r plain ∙ e))
    go None e =
        read_other s.mark at w (versions s.buckets s.bucket r) (λ i o. let own = (h.open_writes_stand.owned r w i o).1 in let z : None ≡ Some i = sym e ∙ own in cc)
        ∙ (h.covered r).same at (inr (j, subst (λ p. Reads r.table p at) (sym live) (refl, table)))
        ∙ sym (ap (λ o. unwrap_or o (visible s.history r at)) (own_is s j r plain ∙ e))

-- ---- an entry more that writes nothing

-- a look's entry
abbrev pub IsLook : ℕ → LogEntry → Type 0
IsLook n (Saw t low high b rows) = ⊤
IsLook n (Refused r answer) = IsOwn n (Refused r answer)
IsLook n (Outside t) = ⊤
IsLook n _ = ⊥

look_own : (n : ℕ) (e : LogEntry) → IsLook n e → IsOwn n e × IsNoNumber e
look_own n (Saw t low high b rows) l = (tt, tt)
look_own n (Refused r answer) l = (l, tt)
look_own n (Outside t) l = (tt, tt)
look_own n _ l = absurd l

look_same : (n : ℕ) (e : LogEntry) (log : List LogEntry) → IsLook n e → ((r : Rid) → open_in r (e ∷ log) ≡ open_in r log) × (begans (e ∷ log) ≡ begans log) × (wrotes (e ∷ log) ≡ wrotes log)
look_same n (Saw t low high b rows) log l = ((λ r. refl), refl, refl)
look_same n (Refused q answer) log l = ((λ r. refl), refl, refl)
look_same n (Outside t) log l = ((λ r. refl), refl, refl)
look_same n _ log l = absurd l

look_counts : (n : ℕ) (e : LogEntry) (log : List LogEntry) → IsLook n e → (test : Rid → Bool) → (first_writes test (e ∷ log) ≡ first_writes test log) × (undos test (e ∷ log) ≡ undos test log)
look_counts n (Saw t low high b rows) log l test = (refl, refl)
look_counts n (Refused q answer) log l test = (refl, refl)
look_counts n (Outside t) log l test = (refl, refl)
look_counts n _ log l test = absurd l

look_undoes : (n : ℕ) (e : LogEntry) (log : List LogEntry) → IsLook n e → UndoesOpen log → UndoesOpen (e ∷ log)
look_undoes n (Saw t low high b rows) log l u = u
look_undoes n (Refused q answer) log l u = u
look_undoes n (Outside t) log l u = u
look_undoes n _ log l u = absurd l

look_more : (s : CoreState) (j : ℕ) (e : LogEntry) → IsSteady s → IsLook (length s.history) e → IsSome (current (s.log j)) → IsReplied s.buckets s.history s.log j e (s.log j) →
    IsSteady (record s { log = put s.log j (e ∷ s.log j) })
look_more s j e h look some replied = record {
  mark_is_length = h.mark_is_length;
  taken_at_most_mark = h.taken_at_most_mark;
  history = h.history;
  no_update_is_lost = h.no_update_is_lost;
  registers_agree = h.registers_agree;
  covered = h.covered;
  open_writes_stand = stand_alike s.mark (begun_in s.log) _ (open_writes s.log) _ _ opened (λ k r i o. begun_more s.log j e same.1 k) h.open_writes_stand;
  stamped_is_next = next_alike s.mark (open_writes s.log) _ _ _ opened h.stamped_is_next;
  contents_are_ordered = h.contents_are_ordered;
  contents_are_placed = h.contents_are_placed;
  visits_stay = h.visits_stay;
  records_bound_sessions = h.records_bound_sessions;
  open_writes_may_commit = λ k r image o. h.open_writes_may_commit k r image (sym (opened k r) ∙ o);
  counters_balance = counters_entry s.sessions s.buckets s.passes s.log s.bucket s.counters s.visits j (e ∷ s.log j) (λ test. look_counts (length s.history) e (s.log j) look test) h.counters_balance;
  logs_answer = answer_more s j e h own.0 some (look_undoes (length s.history) e (s.log j) look (h.logs_answer.undone j)) (omega (arith, same.2, h.logs_answer.written j));
  replies_answer = replies_entry s.buckets s.history s.log j e own.1 h.logs_answer.within replied h.replies_answer;
  records_reach_logs = reach_step s.phase s.phase s.log (put s.log j (e ∷ s.log j)) s.pass j (s.phase j) (e ∷ []) h.records_reach_logs (only_same s.phase j)
      (only_put s.log j (e ∷ s.log j)) (λ x. inr x);
}
  where
    own : IsOwn (length s.history) e × IsNoNumber e
    own = look_own (length s.history) e look

    same : ((r : Rid) → open_in r (e ∷ s.log j) ≡ open_in r (s.log j)) × (begans (e ∷ s.log j) ≡ begans (s.log j)) × (wrotes (e ∷ s.log j) ≡ wrotes (s.log j))
    same = look_same (length s.history) e (s.log j) look

    opened : (k : ℕ) (r : Rid) → open_writes (put s.log j (e ∷ s.log j)) k r ≡ open_writes s.log k r
    opened = by_number j (λ k b. (r : Rid) → open_in r (if b then e ∷ s.log j else s.log k) ≡ open_in r (s.log k)) same.0 (λ k other r. refl)

-- ---- a look

pub look_kept : (s : CoreState) (j : ℕ) (ask : Ask) (b : ℕ) (rows : List (ℕ × List Value)) → IsSteady s → May s (Look j ask b rows) → IsSteady (happens s (Look j ask b rows))
look_kept s j (asks.Read table low high) b rows h (at, scope, may) = look_more s j (Saw table low high b rows) h tt (subst IsSome (sym reads) refl)
    (subst (λ o. IfSome o (λ snapshot. IsTrue (has snapshot.scope table) × AreRows (in_bucket s.buckets b table (seen s.history (own_writes (s.log j)) snapshot.at)) low high rows)) (sym reads)
    (may.asks.0, subst (λ f. AreRows f low high rows) (λ i key. shown key i) may.asks.1))
  where
    reads : current (s.log j) ≡ Some (record { at = at; scope = scope })
    reads = h.logs_answer.reads j ∙ ap snapshot_in may.live

    shown : (key : ℕ) → in_bucket s.buckets b table (λ r. read_by (writer_of (begun_in s.log) j) at (versions s.buckets s.bucket r)) key ≡ in_bucket s.buckets b table
        (seen s.history (own_writes (s.log j)) at) key
    shown key = ap (λ image. in_bucket s.buckets b table (λ r. image) key) (read_seen s j at scope (record { table = table; key = key }) h may.live may.asks.0 may.plain may.unstamped)
look_kept s j (asks.Outside table) b rows h (at, scope, may) = look_more s j (Outside table) h tt (subst IsSome (sym reads) refl)
    (subst (λ o. IfSome o (λ snapshot. IsFalse (has snapshot.scope table))) (sym reads) may.asks)
  where
    reads : current (s.log j) ≡ Some (record { at = at; scope = scope })
    reads = h.logs_answer.reads j ∙ ap snapshot_in may.live
look_kept s j (asks.Write r) b rows h (at, scope, may) = subst (λ n. IsSteady (record s { log = put s.log j (with_refusal r (refusal s.mark w n vs) (s.log j)) }))
    (sym (ap snapshot_number reads)) (by_owner (unpublished s.mark vs) refl)
  where
    w : Writer
    w = writer_of (begun_in s.log) j

    vs : List Version
    vs = versions s.buckets s.bucket r

    reads : current (s.log j) ≡ Some (record { at = at; scope = scope })
    reads = h.logs_answer.reads j ∙ ap snapshot_in may.live

    some : IsSome (current (s.log j))
    some = subst IsSome (sym reads) refl

    unwritten : ((i : Image) → unpublished s.mark vs ≡ Some (w, i) → ⊥) → IsFalse (is_some (image_in r (own_writes (s.log j))))
    unwritten other = go (open_in r (s.log j)) refl
      where
        go : (x : Option Image) → open_in r (s.log j) ≡ x → IsFalse (is_some (image_in r (own_writes (s.log j))))
        go None e = ap is_some (own_is s j r may.plain ∙ e)
        go (Some i) e = absurd (other i (h.open_writes_stand.owns r j i e))

    refused : (answer : Answer) → IsOwn (length s.history) (Refused r answer) → ((i : Image) → unpublished s.mark vs ≡ Some (w, i) → ⊥) → Refuses s.history s.log j at r answer →
        IsSteady (record s { log = put s.log j (Refused r answer ∷ s.log j) })
    refused answer own other refuses = look_more s j (Refused r answer) h own some
        (subst (λ o. IfSome o (λ snapshot. IsTrue (has snapshot.scope r.table) ×
        (IsFalse (is_some (image_in r (own_writes (s.log j)))) × Refuses s.history s.log j snapshot.at r answer))) (sym reads) (may.asks, (unwritten other, refuses)))

    nothing_new : IsSteady (record s { log = put s.log j (s.log j) })
    nothing_new = subst (λ log. IsSteady (record s { log = log })) (λ i k. by_number j (λ k b. s.log k ≡ (if b then s.log j else s.log k)) refl (λ k other. refl) k i) h

    by_newest : unpublished s.mark vs ≡ None → (x : Option (ℕ × Image)) → newest_at s.mark vs ≡ x → IsSteady (record s { log = put s.log j (with_refusal r (refused_over at x) (s.log j)) })
    by_newest none None e = nothing_new
    by_newest none (Some p) e = by_number_of (nat_le p.0 at) refl
      where
        found : (p.0 ≤ s.mark) × (group_image r (group_at s.history p.0) ≡ Some p.1)
        found = backed_newest s.mark s.mark s.history r p vs (omega arith) (h.contents_are_ordered.backed r) e

        by_number_of : (t : Bool) → nat_le p.0 at ≡ t → IsSteady (record s { log = put s.log j (with_refusal r (if t then None else Some (Newer p.0)) (s.log j)) })
        by_number_of true q = nothing_new
        by_number_of false q =
            let within : p.0 ≤ length s.history = omega (arith, found.0, h.mark_is_length.is_length) in
            refused (Newer p.0) within (λ i o. let z : None ≡ Some (w, i) = sym none ∙ o in cc)
            (record { over = grind (arith, nat_tests); within = within; does = group_does 1 s.history r p.0 p.1 found.1 })

    by_owner : (x : Option (Writer × Image)) → unpublished s.mark vs ≡ x → IsSteady (record s { log = put s.log j (with_refusal r (refused_by w x (refused_over at (newest_at s.mark vs))) (s.log j)) })
    by_owner None e = by_newest e (newest_at s.mark vs) refl
    by_owner (Some o) e = by_writer (same_writer o.0 w) refl
      where
        is_current : (k : ℕ) (i : Image) → open_in r (s.log k) ≡ Some i → IsSome (current (s.log k))
        is_current k i q = current_open s.history r i (s.log k) (h.logs_answer.judged k) q

        other_session : (t : Bool) → (o.0.session == j) ≡ t → o.0 ≡ writer_of (begun_in s.log) o.0.session → same_writer o.0 w ≡ false → t ≡ false
        other_session false q own no_one = refl
        other_session true q own no_one =
            let same : o.0.session ≡ j = (Decides-eqb o.0.session j).0 q in
            let mine : o.0 ≡ w = own ∙ ap (writer_of (begun_in s.log)) same in
            let z : same_writer o.0 w ≡ true = subst (λ x. same_writer x w ≡ true) (sym mine) (writer_itself w) in cc

        by_writer : (t : Bool) → same_writer o.0 w ≡ t → IsSteady (record s { log = put s.log j (with_refusal r (if t then None else Some (OpenBy o.0)) (s.log j)) })
        by_writer true q = nothing_new
        by_writer false q =
            let own = h.open_writes_stand.owned r o.0 o.1 e in
            let k : ℕ = o.0.session in
            let number : o.0.transaction ≡ begans (s.log k) = ap (λ (x : Writer). x.transaction) own.0 in
            let stands = open_is s.buckets s.history s.log k r o.1 (s.log k) (h.replies_answer k) (is_current k o.1 own.1) own.1 in
            refused (OpenBy o.0) tt (λ i m. let both = same_pair o (w, i) (sym e ∙ m) in
            let z : same_writer o.0 w ≡ true = subst (λ x. same_writer x w ≡ true) (sym (ap (λ x. x.0) both)) (writer_itself w) in cc)
            (record {
              other = other_session (o.0.session == j) refl own.0 q;
              does = subst (λ x. IsSome (image_in r (writes_in x (s.log k)))) (sym number) stands.does;
              after = subst (λ x. Each (λ c. at < c) (numbers_in x (s.log k))) (sym number) (subst (Each (λ c. at < c)) (sym stands.unnumbered) tt);
            })

-- Where each record is clean, few of the committed versions are held, by the lines.
use Rattle.std.proofs.Common.{◌≡◌, ◌⊎◌, inl, inr, ℕ, zero, suc, ◌+◌, ◌<◌, ◌≤◌, List, [], ◌∷◌, length, Bool, true, false, not, Option, Some, None, refl, sym, ap, ◌∙◌, subst, arith}
use Rattle.std.specs.Prelude.{◌||◌, cond, filter, filter_map, is_some}
use Rattle.std.specs.List.{cons_option}
use Rattle.hg_base.specs.declared.rid.Rid.{Rid}
use Rattle.hg_base.specs.declared.writer.Writer.{Writer}
use Rattle.hg_base.specs.declared.image.Image.{Image}
use Rattle.hg_base.specs.declared.report.Kind.{Kind}
use Rattle.hg_base.specs.declared.report.Kind.TheVariants.{Group, Table, Interval}
use Rattle.hg_base.specs.declared.statement.Record.{Record}
use Rattle.hg_base.specs.declared.line.Line.{Line}
use Rattle.hg_base.specs.History.{Write, same_rid, is_among, rids_of, NoneTwice}
use Rattle.hg_base.specs.Counts.{first_writes as printed_firsts, is_committed, once}
use Rattle.hg_base.specs.Lists.{Each, onto}
use Rattle.hg_base.specs.Script.{replay}
use Rattle.hg_base.specs.Shape.{HasShape}
use Rattle.hg_base.specs.Transcript.{Said, said_from, is_of, stored, stored_in}
use Rattle.hg_base.proofs.ListFacts.{each_keeps, false_true}
use Rattle.hg_core.specs.declared.log.LogEntry.{LogEntry}
use Rattle.hg_core.specs.declared.phase.Phase.TheVariants as phases
use Rattle.hg_core.specs.Contents.{versions}
use Rattle.hg_core.specs.Counters.{total, removed_all, undos, first_writes}
use Rattle.hg_core.specs.Few.{has_open, IsCleanFor}
use Rattle.hg_core.specs.Logs.{open_in}
use Rattle.hg_core.specs.Phases.{IsSession, snapshot_in}
use Rattle.hg_core.specs.Reading.{Follows}
use Rattle.hg_core.specs.State.{CoreState}
use Rattle.hg_core.specs.Sums.{sum_to, sum_below}
use Rattle.hg_core.specs.Versions.{unpublished}
use Rattle.hg_core.specs.Invariant.{IsSteady}
use Rattle.hg_core.proofs.Begins.{none_open}
use Rattle.hg_core.proofs.Few.{all_few}
use Rattle.hg_core.proofs.Remaining.{once_once, filtered_once}
use Rattle.hg_core.proofs.Sums.{sum_same}
use Rattle.hg_headline.specs.Counted.{every, made_in, undone_in}
use Rattle.hg_headline.specs.Few.{written, HoldsFew}
use Rattle.hg_headline.specs.Following.{told_removed}
use Rattle.hg_headline.specs.Met.{IsMet}
use Rattle.hg_headline.proofs.Among.{or_right, among_once, among_passing, no_more, all_to, all_long, all_has}
use Rattle.hg_headline.proofs.Counting.{firsts_counted, committed_is, all_pass}
use Rattle.hg_headline.proofs.Firsts.{first_by, first_writes_is, CountsFor}
use Rattle.hg_headline.proofs.OverBuckets.{state_logged, state_made, state_undone, state_removed}
use Rattle.hg_headline.proofs.Removed.{removed_said}
use Rattle.hg_headline.proofs.Replaying.{met_collected}
use Rattle.hg_headline.proofs.Ties.{Ties}
use Rattle.hg_headline.proofs.Undone.{opens, opens_has, publishes, unpublished_firsts}
use Rattle.hg_headline.proofs.Wrote.{wrote_in, wrote_by, held_wrote}

-- ---- what is in a log is in its session's lines

among_stored : (r : Rid) (o : Option Write) (ws : List Write) → is_among r (rids_of ws) ≡ true → is_among r (rids_of (cons_option o ws)) ≡ true
among_stored r None ws e = e
among_stored r (Some w) ws e = or_right (same_rid r w.rid) (is_among r (rids_of ws)) e

stored_all : (p : Said → Bool) (r : Rid) (xs : List Said) → is_among r (rids_of (filter_map stored (filter p xs))) ≡ true → is_among r (rids_of (filter_map stored xs)) ≡ true
stored_all p r [] e = e
stored_all p r (x ∷ xs) e = go (p x) e (λ k. stored_all p r xs k)
  where
    taken : (o : Option Write) → is_among r (rids_of (cons_option o (filter_map stored (filter p xs)))) ≡ true →
        (is_among r (rids_of (filter_map stored (filter p xs))) ≡ true → is_among r (rids_of (filter_map stored xs)) ≡ true) → is_among r (rids_of (cons_option o (filter_map stored xs))) ≡ true
    taken None e later = later e
    taken (Some w) e later = step (same_rid r w.rid) e
      where
        step : (b : Bool) → (b || is_among r (rids_of (filter_map stored (filter p xs)))) ≡ true → (b || is_among r (rids_of (filter_map stored xs))) ≡ true
        step true e = refl
        step false e = later e

    go : (b : Bool) → is_among r (rids_of (filter_map stored (cond b (x ∷ filter p xs) (filter p xs)))) ≡ true →
        (is_among r (rids_of (filter_map stored (filter p xs))) ≡ true → is_among r (rids_of (filter_map stored xs)) ≡ true) → is_among r (rids_of (cons_option (stored x) (filter_map stored xs))) ≡ true
    go false e later = among_stored r (stored x) (filter_map stored xs) (later e)
    go true e later = taken (stored x) e later

stored_back : (r : Rid) (xs ys : List Said) → is_among r (rids_of (filter_map stored (onto xs ys))) ≡ true →
    (is_among r (rids_of (filter_map stored xs)) ≡ true) ⊎ (is_among r (rids_of (filter_map stored ys)) ≡ true)
stored_back r [] ys e = inr e
stored_back r (x ∷ xs) ys e = go (stored x) (stored_back r xs (x ∷ ys) e)
  where
    go : (o : Option Write) → (is_among r (rids_of (filter_map stored xs)) ≡ true) ⊎ (is_among r (rids_of (cons_option o (filter_map stored ys))) ≡ true) →
        (is_among r (rids_of (cons_option o (filter_map stored xs))) ≡ true) ⊎ (is_among r (rids_of (filter_map stored ys)) ≡ true)
    go o (inl k) = inl (among_stored r o (filter_map stored xs) k)
    go None (inr k) = inr k
    go (Some w) (inr k) = step (same_rid r w.rid) k
      where
        step : (b : Bool) → (b || is_among r (rids_of (filter_map stored ys))) ≡ true → ((b || is_among r (rids_of (filter_map stored xs))) ≡ true) ⊎ (is_among r (rids_of (filter_map stored ys)) ≡ true)
        step true k = inl refl
        step false k = inr k

wrote_said : (all : List Said) (j : ℕ) (log : List LogEntry) (r : Rid) → Ties j (onto all []) log → is_among r (wrote_in log) ≡ true → is_among r (written all) ≡ true
wrote_said all j log r ties e =
    let by = wrote_by r log e in
    let one : is_among r (rids_of (stored_in j by.0 (onto all []))) ≡ true = subst (λ (ws : List Write). is_among r (rids_of ws) ≡ true) (sym (ties.own by.0)) by.1 in
    among_once r (rids_of (filter_map stored all)) (only (stored_back r all [] (stored_all (is_of j by.0) r (onto all []) one)))
  where
    only : (is_among r (rids_of (filter_map stored all)) ≡ true) ⊎ (is_among r [] ≡ true) → is_among r (rids_of (filter_map stored all)) ≡ true
    only (inl k) = k
    only (inr k) = absurd (false_true k)

-- ---- open writes

-- the records with an open write are no more than the logs have open
open_few : (s : CoreState) (rs : List Rid) → IsSteady s → NoneTwice rs → length (filter (has_open s) rs) ≤ sum_to s.sessions (λ j. length (opens (s.log j)))
open_few s rs h once = omega (
  arith,
  no_more (filter (has_open s) rs) (all_to s.sessions (λ j. opens (s.log j))) (filtered_once (has_open s) rs once) (λ r e. owned r (unpublished s.mark (versions s.buckets s.bucket r)) refl (among_passing (has_open s) r rs e)),
  all_long s.sessions (λ j. opens (s.log j)),
)
  where
    owned : (r : Rid) (o : Option (Writer × Image)) → unpublished s.mark (versions s.buckets s.bucket r) ≡ o → is_some o ≡ true → is_among r (all_to s.sessions (λ j. opens (s.log j))) ≡ true
    owned r None e some = absurd (false_true some)
    owned r (Some (w, i)) e some =
        let own : open_in r (s.log w.session) ≡ Some i = (h.open_writes_stand.owned r w i e).1 in
        by_session (h.registers_agree.others w.session) own
      where
        by_session : IsSession s.sessions w.session ⊎ (s.phase w.session ≡ phases.Idle) → open_in r (s.log w.session) ≡ Some i → is_among r (all_to s.sessions (λ j. opens (s.log j))) ≡ true
        by_session (inl k) own = all_has s.sessions w.session (λ j. opens (s.log j)) r k.first k.last (opens_has r (s.log w.session) ∙ ap is_some own)
        by_session (inr k) own = absurd (let none = none_open s.history r (s.log w.session) (h.logs_answer.judged w.session) (h.logs_answer.reads w.session ∙ ap snapshot_in k) in cc)

-- ---- the state's counts

-- what was made is what was undone, removed and held, over all buckets
balance_over : (n : ℕ) (made undone group table interval held : ℕ → ℕ) → ((b : ℕ) → made b ≡ undone b + group b + table b + interval b + held b) →
    sum_below n made ≡ sum_below n undone + sum_below n group + sum_below n table + sum_below n interval + sum_below n held
balance_over zero made undone group table interval held e = refl
balance_over (suc n) made undone group table interval held e = omega (arith, balance_over n made undone group table interval held e, e n)

pub state_balance : (s : CoreState) → IsSteady s → 0 < s.buckets → made_in s.sessions s.log ≡ undone_in s.sessions s.log + sum_below s.passes (λ p. removed_all Group (s.visits p))
    + sum_below s.passes (λ p. removed_all Table (s.visits p)) + sum_below s.passes (λ p. removed_all Interval (s.visits p)) + sum_below s.buckets (λ b. total (s.bucket b))
state_balance s h some =
    let group : sum_below s.buckets (λ b. (s.counters b).removed.group) ≡ sum_below s.passes (λ p. removed_all Group (s.visits p)) = state_removed s Group h in
    let table : sum_below s.buckets (λ b. (s.counters b).removed.table) ≡ sum_below s.passes (λ p. removed_all Table (s.visits p)) = state_removed s Table h in
    let interval : sum_below s.buckets (λ b. (s.counters b).removed.interval) ≡ sum_below s.passes (λ p. removed_all Interval (s.visits p)) = state_removed s Interval h in
    let all = balance_over s.buckets (λ b. (s.counters b).made) (λ b. (s.counters b).undone) (λ b. (s.counters b).removed.group) (λ b. (s.counters b).removed.table)
    (λ b. (s.counters b).removed.interval) (λ b. total (s.bucket b)) h.counters_balance.balance in
    let made = state_made s h some in
    let undone = state_undone s h some in
    omega (arith, all, made, undone, group, table, interval)

-- ---- the lines

-- those that pass and those that don't
both_parts : (p : Said → Bool) (xs : List Said) → length (filter p xs) + length (filter (λ x. not (p x)) xs) ≡ length xs
both_parts p [] = refl
both_parts p (x ∷ xs) = go (p x) (both_parts p xs)
  where
    go : (b : Bool) → length (filter p xs) + length (filter (λ x. not (p x)) xs) ≡ length xs →
        length (cond b (x ∷ filter p xs) (filter p xs)) + length (cond (not b) (x ∷ filter (λ x. not (p x)) xs) (filter (λ x. not (p x)) xs)) ≡ suc (length xs)
    go true e = omega (arith, e)
    go false e = omega (arith, e)

sums_add : (n : ℕ) (f g : ℕ → ℕ) → sum_to n (λ j. f j + g j) ≡ sum_to n f + sum_to n g
sums_add zero f g = refl
sums_add (suc n) f g = omega (arith, sums_add n f g)

pub lines_hold_few : (s : CoreState) (n : ℕ) (records : List Record) (lines : List Line) → IsSteady s → 0 < s.buckets → ((r : Rid) → IsCleanFor s n r) →
    Each (λ (r : Record). (1 ≤ r.session) × (r.session ≤ s.sessions)) records → HasShape records lines → Follows s.buckets (IsMet s.sessions) (λ j. []) (λ j. None) records lines s.log →
    ((kind : Kind) → sum_below s.passes (λ p. removed_all kind (s.visits p)) ≡ told_removed kind lines) → HoldsFew n (said_from [] records lines)
lines_hold_few s n records lines h some clean within shape follows told =
    let all : List Said = said_from [] records lines in
    let firsts : List Said = printed_firsts all in
    let f = firsts_counted replay s.buckets s.sessions s.history s.log (IsMet s.sessions) records lines (λ ls q line m. met_collected s.sessions q.session ls q.statement line.reply.answer m)
    (each_keeps (λ (q : Record). (1 ≤ q.session) × (q.session ≤ s.sessions)) (CountsFor s.sessions) (λ q k. inl k) records within) (state_logged s h some) follows in
    let made : made_in s.sessions s.log ≡ length firsts =
    sum_same s.sessions (λ j. first_by (λ x. true) (s.log j)) (λ j. first_writes every (s.log j)) (λ j le. first_writes_is (s.log j)) ∙ sym (f.counted (λ j x. true)) ∙ ap length (all_pass firsts) in
    let lost : length (filter (λ said. not (is_committed all said)) firsts) ≡ sum_to s.sessions (λ j. undos every (s.log j) + length (opens (s.log j))) =
    ap (λ (p : Said → Bool). length (filter (λ said. not (p said)) firsts)) (λ i said. committed_is s.log all f.ties said i)
    ∙ f.counted (λ j x. not (publishes x (s.log j)))
    ∙ sum_same s.sessions (λ j. undos every (s.log j) + length (opens (s.log j))) (λ j. first_by (λ x. not (publishes x (s.log j))) (s.log j))
    (λ j le. unpublished_firsts (s.log j) (f.tidy j).0) in
    omega (
      arith,
      made,
      lost,
      sums_add s.sessions (λ j. undos every (s.log j)) (λ j. length (opens (s.log j))),
      both_parts (is_committed all) firsts,
      state_balance s h some,
      all_few s n (written all) h (once_once (rids_of (filter_map stored all))) (λ r held. (let k = held_wrote s r h held in wrote_said all k.0 (s.log k.0) r (f.ties k.0) k.1)) clean,
      open_few s (written all) h (once_once (rids_of (filter_map stored all))),
      told Group ∙ sym (removed_said Group [] records lines shape),
      told Table ∙ sym (removed_said Table [] records lines shape),
      told Interval ∙ sym (removed_said Interval [] records lines shape),
    )

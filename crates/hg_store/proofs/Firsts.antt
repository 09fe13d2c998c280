-- By the logs that a look heard, what it answers a write is the first cause.
use Rattle.std.proofs.Common.{◌≡◌, inl, inr, ℕ, List, [], ◌∷◌, Option, None, Some, sym, ap, ◌∙◌, subst}
use Rattle.std.specs.Prelude.{IfSome, IsSome, IsTrue, Result, Ok, Err}
use Rattle.hg_base.specs.declared.rid.Rid.{Rid}
use Rattle.hg_base.specs.declared.writer.Writer.{Writer}
use Rattle.hg_base.specs.declared.line.Answer.{Answer}
use Rattle.hg_base.specs.declared.line.Answer.TheVariants as answers
use Rattle.hg_base.specs.Lists.{Each}
use Rattle.hg_base.specs.Transcript.{has}
use Rattle.hg_core.specs.declared.ask.Ask.TheVariants.{Write}
use Rattle.hg_core.specs.declared.log.LogEntry.{LogEntry}
use Rattle.hg_core.specs.declared.phase.Phase.TheVariants.{Live}
use Rattle.hg_core.specs.Contents.{bucket_of, versions}
use Rattle.hg_core.specs.Events.{with_refusal}
use Rattle.hg_core.specs.Logs.{begans, begun_in, is_plain}
use Rattle.hg_core.specs.OpenWrites.{writer_of}
use Rattle.hg_core.specs.Phases.{declared_in, snapshot_in}
use Rattle.hg_core.specs.Replies.{refusal}
use Rattle.hg_core.specs.Shown.{HasOpen, IsFirstAt, IsNewestIn, NoOtherHas}
use Rattle.hg_core.specs.State.{CoreState}
use Rattle.hg_core.proofs.Firsts.{first_newer, first_stored}
use Rattle.hg_bucket.specs.declared.refusal.WriteRefusal.{WriteRefusal}
use Rattle.hg_bucket.specs.declared.refusal.WriteRefusal.TheVariants.{Open, Newer, NoMemory}
use Rattle.hg_rule.specs.declared.view.Part.TheVariants.{OfSession}
use Rattle.hg_rule.specs.declared.view.Sight.{Sight}
use Rattle.hg_rule.specs.declared.view.Sight.TheVariants as sights
use Rattle.hg_rule.specs.declared.view.Sizes.{Sizes}
use Rattle.hg_rule.specs.declared.view.View.{View}
use Rattle.hg_rule.specs.Facts.{EndsWith, IsAmong, Known, Shown}
use Rattle.hg_rule.specs.Holding.{held, snapshot, tables, writer}
use Rattle.hg_rule.specs.Views.{number, session}
use Rattle.hg_rule.specs.Writes.{TrulyLooks, with_log}
use Rattle.hg_rule.proofs.Lists.{among_left}
use Rattle.hg_store.specs.declared.held.Held.{Held}
use Rattle.hg_store.specs.Stores.{Holds, held_number}
use Rattle.hg_store.specs.Writing.{GoOn, ShowsAnswer, refused_at, IsCause}
use Rattle.hg_store.proofs.Deciding.{begans_same, live_is}
use Rattle.hg_store.proofs.Holding.{held_is}
use Rattle.hg_store.proofs.Stepping.{look_holds}
use Rattle.hg_store.proofs.Storing.{free_at, told_newer}

pub known_at : (s : CoreState) (xs : List Sight) (k : ℕ) (log : List LogEntry) → Each (Known s) xs → IsAmong (sights.Heard k log) xs → EndsWith (s.log k) log
known_at s [] k log e there = absurd there
known_at s (x ∷ xs) k log e (inl same) = subst (Known s) same e.0
known_at s (x ∷ xs) k log e (inr later) = known_at s xs k log e.1 later

module _ (z : Sizes) (n : ℕ) (v w : View) (h : Held) (r : Rid) (hold : Holds v h) (t : TrulyLooks z v (Write r) n w) where
  -- each log that was heard before is the end of what the look heard
  pub goes_on : GoOn t.looks.logs v.sights
  goes_on k log there =
      let all : IsAmong (sights.Heard k log) w.sights = subst (λ (x : View). IsAmong (sights.Heard k log) x.sights) (sym t.looks.after) (among_left (sights.Heard k log) v.sights _ there) in
      subst (λ l. EndsWith l log) (t.logs_are k) (known_at t.backed.state w.sights k log t.backed.true_of.sights all)

  module _ (here : bucket_of z.buckets r ≡ held_number h) (live : IsSome (snapshot_in (session v).phase)) (plain : IsTrue (is_plain (session v).log)) (table : IsTrue (has (tables v) r.table)) where
    abbrev s : CoreState
    s = t.backed.state

    abbrev why : Option Answer
    why = refusal n (writer v) (snapshot v) (held v r)

    mine : Shown s (OfSession (number v) (with_log (with_refusal r why (session v).log) (session v)))
    mine = (subst (λ (x : View). Each (Shown s) x.parts) t.looks.after t.backed.true_of.parts).0

    at_session : s.phase (number v) ≡ Live (snapshot v) (live_is (session v).phase live).0
    at_session = mine.0 ∙ (live_is (session v).phase live).1

    with_table : IsTrue (has (live_is (session v).phase live).0 r.table)
    with_table = subst (λ scope. IsTrue (has scope r.table)) (ap declared_in (live_is (session v).phase live).1) table

    same_why : refusal s.mark (writer_of (begun_in s.log) (number v)) (snapshot v) (versions s.buckets s.bucket r) ≡ why
    same_why =
        let f : ℕ → Writer = λ x. record { session = number v; transaction = x } in
        let own : writer_of (begun_in s.log) (number v) ≡ writer v = ap f (ap begans mine.1.0 ∙ begans_same r why (session v).log) in
        let same : versions s.buckets s.bucket r ≡ held v r = held_is z n (held_number h) w t.backed (look_holds v w h (Write r) n hold t.looks).has r here ∙ ap (λ x. held x r) t.looks.after in
        λ i. refusal (t.backed.mark_is i) (own i) (snapshot v) (same i)

    logs_are : s.log ≡ t.looks.logs
    logs_are i k = t.logs_are k i

    stored : why ≡ None → IsFirstAt t.looks.logs (session v).log (number v) (snapshot v) r answers.Stored
    stored none =
        let log : s.log (number v) ≡ (session v).log = mine.1.0 ∙ ap (λ o. with_refusal r o (session v).log) none in
        let k = first_stored s t.backed.steady (number v) (snapshot v) (live_is (session v).phase live).0 r at_session with_table (subst (λ l. IsTrue (is_plain l)) (sym log) plain)
        (same_why ∙ none) in
        elim k [
          | inl own ↦ inl (subst (λ l. HasOpen l r) log own)
          | inr first ↦ inr (subst (λ l. NoOtherHas l (number v) r × IsNewestIn l r (snapshot v)) logs_are first)
        ]

    newer : (c : ℕ) → why ≡ Some (answers.Newer c) → IsFirstAt t.looks.logs (session v).log (number v) (snapshot v) r (answers.Newer c)
    newer c is = subst (λ l. NoOtherHas l (number v) r × IsNewestIn l r c) logs_are
        (first_newer s t.backed.steady (number v) (snapshot v) (live_is (session v).phase live).0 r at_session with_table c (same_why ∙ is))

    -- of a write that is refused, and of one that is stored
    pub refused_first : {T : Type 0} (answer : Result T WriteRefusal) (e : WriteRefusal) → answer ≡ Err e → IsCause n v r e → ShowsAnswer t.looks.logs (session v).log (number v) (snapshot v) r answer
    refused_first {T} answer e is cause = subst (ShowsAnswer t.looks.logs (session v).log (number v) (snapshot v) r) (sym is) (go e cause)
      where
        go : (e : WriteRefusal) → IsCause n v r e → ShowsAnswer {T = T} t.looks.logs (session v).log (number v) (snapshot v) r (Err e)
        go (Open i x) cause = tt
        go (Newer c) cause = newer c (told_newer why c cause)
        go NoMemory cause = tt

    pub stored_first : {S : Type 0} (found : Result S WriteRefusal) (x : S) → found ≡ Ok x → IfSome (refused_at n v r) (λ e. found ≡ Err e) →
        IsFirstAt t.looks.logs (session v).log (number v) (snapshot v) r answers.Stored
    stored_first found x is told = stored (free_at n v r found x is told)

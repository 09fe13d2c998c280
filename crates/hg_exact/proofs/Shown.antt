-- Where the logs show the first cause of each write, the lines do.
use Rattle.std.proofs.Common.{◌≡◌, ℕ, ◌≤◌, ◌⊎◌, inl, inr, List, [], ◌∷◌, length, map, Option, Some, None, refl, sym, ap, ◌∙◌, subst}
use Rattle.std.specs.Prelude.{unwrap_or, is_some, IfSome, IsSome}
use Rattle.hg_base.specs.declared.rid.Rid.{Rid}
use Rattle.hg_base.specs.declared.image.Image.{Image}
use Rattle.hg_base.specs.declared.scope.Snapshot.{Snapshot}
use Rattle.hg_base.specs.declared.statement.Record.{Record}
use Rattle.hg_base.specs.declared.statement.Statement.{Statement}
use Rattle.hg_base.specs.declared.statement.Statement.TheVariants.{Begin, CursorOpen, Gc}
use Rattle.hg_base.specs.declared.line.Answer.{Answer}
use Rattle.hg_base.specs.declared.line.Answer.TheVariants.{Stored, Gone, Newer}
use Rattle.hg_base.specs.declared.line.Reply.{Reply}
use Rattle.hg_base.specs.declared.line.Line.{Line}
use Rattle.hg_base.specs.Lists.{EachAfter, greatest, onto}
use Rattle.hg_base.specs.Conflicts.{target}
use Rattle.hg_base.specs.History.{History, image_in}
use Rattle.hg_base.specs.Script.{Script, replay}
use Rattle.hg_base.specs.Sound.{LinesAreSound, all_said}
use Rattle.hg_base.specs.Transcript.{Rest, Said, history_of, last_of, next_after, open_of, own_writes, rest_after, said, said_from}
use Rattle.hg_base.specs.Transcript.{standing, stored_in}
use Rattle.hg_base.proofs.Resting.{left_nothing}
use Rattle.hg_core.specs.declared.log.LogEntry.{LogEntry}
use Rattle.hg_core.specs.Events.{put}
use Rattle.hg_core.specs.Judged.{Judged}
use Rattle.hg_core.specs.Logs.{begans, current}
use Rattle.hg_core.specs.Logs.{own_writes as own_in_log}
use Rattle.hg_core.specs.Reading.{Follows, log_after}
use Rattle.hg_core.proofs.Right.{places_of}
use Rattle.hg_core.proofs.Updates.{some_is as some_of_yes}
use Rattle.hg_headline.specs.Counted.{Closes}
use Rattle.hg_headline.specs.Following.{IsFollowing}
use Rattle.hg_headline.specs.Logged.{Logged}
use Rattle.hg_headline.specs.Met.{IsMet}
use Rattle.hg_headline.specs.Replayed.{HasReplayed}
use Rattle.hg_headline.proofs.Before.{logged_before}
use Rattle.hg_headline.proofs.Ended.{own_is}
use Rattle.hg_headline.proofs.Following.{following_ends}
use Rattle.hg_headline.proofs.LineParts.{AsCollected}
use Rattle.hg_headline.proofs.Replaying.{each_after_first, met_collected, replay_sound}
use Rattle.hg_headline.proofs.Telling.{lines_told}
use Rattle.hg_headline.proofs.Ties.{StandsIn, Ties, ties_nothing}
use Rattle.hg_headline.proofs.Whole.{AtLine, IsTold, judged_less}
use Rattle.hg_script.specs.Lawful.{IsLawful}
use Rattle.hg_exact.specs.First.{IsFirst, IsFirstCause, IsFree, IsNewest}
use Rattle.hg_exact.specs.Lawful.{AreAnswered}
use Rattle.hg_exact.specs.State.{start}
use Rattle.hg_exact.specs.Replayed.{plain, replayed}
use Rattle.hg_core.specs.Shown.{HasOpen, IsFreeIn, IsNewestIn, ShowsFirst, ShowsFirsts, reads_at}
use Rattle.hg_exact.proofs.Ascending.{CommitAscends, sound_ascends}
use Rattle.hg_exact.proofs.Asked.{lawful_asked}
use Rattle.hg_exact.proofs.Exact.{sound_exact}
use Rattle.hg_exact.proofs.Newest.{is_newest}

no_some : {X : Type 0} (x : X) → None ≡ Some x → ⊥
no_some x e = cc

-- ---- who has a record open

-- what an open transaction has written, by its lines and by its log
own_same : (j x : ℕ) (earlier : List Said) (l : List LogEntry) (c : Snapshot) → Ties j earlier l → current l ≡ Some c → x ≡ begans l → stored_in j x earlier ≡ own_in_log l
own_same j x earlier l c t e number = ap (λ y. stored_in j y earlier) number ∙ t.own (begans l) ∙ sym (own_is l c e)

has_open : (j : ℕ) (earlier : List Said) (l : List LogEntry) (r : Rid) (q : Said) → Ties j earlier l → open_of j earlier ≡ Some q →
    IsSome (image_in r (stored_in j q.transaction earlier)) → HasOpen l r
has_open j earlier l r q t e wrote = go (current l) refl (subst (λ o. StandsIn o (current l) (begans l)) e t.standing)
  where
    go : (c : Option Snapshot) → current l ≡ c → StandsIn (Some q) c (begans l) → HasOpen l r
    go None f h = absurd h
    go (Some c) f h = (ap is_some f, subst (λ ws. IsSome (image_in r ws)) (own_same j q.transaction earlier l c t f h.0) wrote)

is_free : (logs : ℕ → List LogEntry) (earlier : List Said) (j : ℕ) (r : Rid) → ((k : ℕ) → Ties k earlier (logs k)) → IsFreeIn logs j r → IsFree earlier j r
is_free logs earlier j r t f k other = go (open_of k earlier) refl
  where
    go : (o : Option Said) → open_of k earlier ≡ o → IfSome o (λ q. image_in r (stored_in k q.transaction earlier) ≡ None)
    go None e = tt
    go (Some q) e = none (image_in r (stored_in k q.transaction earlier)) refl
      where
        none : (x : Option Image) → image_in r (stored_in k q.transaction earlier) ≡ x → image_in r (stored_in k q.transaction earlier) ≡ None
        none None g = g
        none (Some i) g = absurd (f k other (has_open k earlier (logs k) r q (t k) e (ap is_some g)))

-- ---- where a line is

-- in the open transaction, or with the snapshot that it prints
abbrev Placed : Option Said → Said → Type 0
Placed None now = now.at ≡ unwrap_or now.reply.at 0
Placed (Some q) now = (now.transaction ≡ q.transaction) × (now.at ≡ q.at)

abbrev IsPlaced : List Said → Said → Type 0
IsPlaced earlier now = IfSome (target now.statement) (λ r. Placed (open_of now.session earlier) now)

placed_in : (earlier : List Said) (r : Record) (n : ℕ) (reply : Reply) (q : Option Said) → open_of r.session earlier ≡ q → IsPlaced earlier (standing q n r reply)
placed_in earlier r n reply None e = all (target r.statement)
  where
    all : (o : Option Rid) → IfSome o (λ x. Placed (open_of r.session earlier) (standing None n r reply))
    all None = tt
    all (Some x) = subst (λ o. Placed o (standing None n r reply)) (sym e) refl
placed_in earlier r n reply (Some opened) e = all (target r.statement)
  where
    all : (o : Option Rid) → IfSome o (λ x. Placed (open_of r.session earlier) (standing (Some opened) n r reply))
    all None = tt
    all (Some x) = subst (λ o. Placed o (standing (Some opened) n r reply)) (sym e) (refl, refl)

placed_line : (earlier : List Said) (place j : ℕ) (reply : Reply) (s : Statement) → IsPlaced earlier (said earlier (record { place = place; session = j; statement = s }) reply)
placed_line earlier place j reply (Begin scope) = tt
placed_line earlier place j reply (CursorOpen table low high) = tt
placed_line earlier place j reply (Gc kind) = tt
placed_line earlier place j reply s = placed_in earlier (record { place = place; session = j; statement = s }) (next_after (last_of j earlier)) reply (open_of j earlier) refl

placed_all : (rs : List Record) (lines : List Line) (earlier : List Said) → EachAfter IsPlaced earlier (said_from earlier rs lines)
placed_all [] lines earlier = tt
placed_all (r ∷ rs) [] earlier = tt
placed_all (r ∷ rs) (line ∷ lines) earlier = (placed_line earlier r.place r.session line.reply r.statement, placed_all rs lines (said earlier r line.reply ∷ earlier))

-- the snapshot that its session's log shows
at_same : (now : Said) (o : Option Said) (c : Option Snapshot) (x : ℕ) → StandsIn o c x → Placed o now → reads_at c now.reply ≡ now.at
at_same now None None x h p = sym p
at_same now None (Some c) x h p = absurd h
at_same now (Some q) None x h p = absurd h
at_same now (Some q) (Some c) x h p = sym (p.1 ∙ h.1.0)

own_shown : (earlier : List Said) (now : Said) (j : ℕ) (l : List LogEntry) (r : Rid) → now.session ≡ j → Ties j earlier l → Placed (open_of j earlier) now → HasOpen l r →
    IsSome (image_in r (own_writes earlier now))
own_shown earlier now j l r mine t p h =
    let c = some_of_yes (current l) h.0 in
    go (open_of j earlier) c.0 c.1 (subst (λ o. StandsIn (open_of j earlier) o (begans l)) c.1 t.standing) p
  where
    go : (o : Option Said) (c : Snapshot) → current l ≡ Some c → StandsIn o (Some c) (begans l) → Placed o now → IsSome (image_in r (own_writes earlier now))
    go None c e s q = absurd s
    go (Some opened) c e s q = subst (λ ws. IsSome (image_in r ws)) (sym (ap (λ k. stored_in k now.transaction earlier) mine ∙ own_same j now.transaction earlier l c t e (q.0 ∙ s.0))) h.1

-- ---- one line

cause_shown : (h : History) (earlier : List Said) (now : Said) (logs : ℕ → List LogEntry) (at : ℕ) (r : Rid) (a : Answer) → ((k : ℕ) → Ties k earlier (logs k)) → at ≡ now.at →
    (HasOpen (logs now.session) r → IsSome (image_in r (own_writes earlier now))) → ((c : ℕ) → IsNewestIn logs r c → IsNewest h earlier r c) → ShowsFirst logs now.session at r a →
    IsFirstCause h earlier now r a
cause_shown h earlier now logs at r a t same own new s = go a s
  where
    stored : HasOpen (logs now.session) r ⊎ (IsFreeIn logs now.session r × IsNewestIn logs r at) →
        IsSome (image_in r (own_writes earlier now)) ⊎ (IsFree earlier now.session r × IsNewest h earlier r now.at)
    stored (inl k) = inl (own k)
    stored (inr k) = inr (is_free logs earlier now.session r t k.0, subst (IsNewest h earlier r) same (new at k.1))

    go : (b : Answer) → ShowsFirst logs now.session at r b → IsFirstCause h earlier now r b
    go Stored k = stored k
    go Gone k = stored k
    go (Newer c) k = (is_free logs earlier now.session r t k.0, new c k.1)
    go _ k = tt

-- of a record with its line: what is shown of its write, and how a `gc` is answered
abbrev Shows : (ℕ → List LogEntry) → Record → Line → Type 0
Shows logs r line = ShowsFirsts logs r line × AsCollected replay r.session r.statement line.reply.answer

line_first : (buckets : ℕ) (Q : ℕ → List LogEntry → Type 0) (all earlier : List Said) (now : Said) (rest : List Said) → onto all [] ≡ onto (now ∷ rest) earlier →
    EachAfter CommitAscends earlier (now ∷ rest) → IsPlaced earlier now → AtLine buckets Shows Q earlier now → IsFirst (history_of all) earlier now
line_first buckets Q all earlier now rest is up placed at =
    let shown : IfSome (target now.statement) (λ r. ShowsFirst at.logs now.session (reads_at (current (at.logs now.session)) now.reply) r now.reply.answer) =
    subst (λ p. p) (λ i. IfSome (target (sym at.says.1 i)) (λ r. ShowsFirst at.logs (sym at.says.0 i) (reads_at (current (at.logs (sym at.says.0 i))) (sym at.says.2 i)) r
    (sym at.says.2 i).answer)) at.met.0 in
    record { number = up.0; cause = go (target now.statement) shown placed }
  where
    go : (o : Option Rid) → IfSome o (λ r. ShowsFirst at.logs now.session (reads_at (current (at.logs now.session)) now.reply) r now.reply.answer) →
        IfSome o (λ r. Placed (open_of now.session earlier) now) → IfSome o (λ r. IsFirstCause (history_of all) earlier now r now.reply.answer)
    go None s p = tt
    go (Some r) s p =
        cause_shown (history_of all) earlier now at.logs (reads_at (current (at.logs now.session)) now.reply) r now.reply.answer at.ties
        (at_same now (open_of now.session earlier) (current (at.logs now.session)) (begans (at.logs now.session)) (at.ties now.session).standing p)
        (own_shown earlier now now.session (at.logs now.session) r refl (at.ties now.session) p)
        (λ c. is_newest at.logs all earlier (now ∷ rest) r c is up at.ties) s

lines_first : (buckets : ℕ) (Q : ℕ → List LogEntry → Type 0) (all earlier rest : List Said) → onto all [] ≡ onto rest earlier → EachAfter CommitAscends earlier rest →
    EachAfter IsPlaced earlier rest → EachAfter (AtLine buckets Shows Q) earlier rest → EachAfter (IsFirst (history_of all)) earlier rest
lines_first buckets Q all earlier [] is up placed at = tt
lines_first buckets Q all earlier (now ∷ rest) is up placed at = (line_first buckets Q all earlier now rest is up placed.0 at.0, lines_first buckets Q all (now ∷ earlier) rest is up.1 placed.1 at.1)

-- ---- all lines

-- how each `gc` is answered is known of the lines, whatever logs they follow
shows_too : (buckets sessions : ℕ) (rs : List Record) (lines : List Line) (logs final more last : ℕ → List LogEntry) (left was : ℕ → Option Rest) →
    Follows buckets ShowsFirsts logs left rs lines final → Follows buckets (IsMet sessions) more was rs lines last → Follows buckets Shows logs left rs lines final
shows_too buckets sessions [] [] logs final more last left was f m = f
shows_too buckets sessions [] (line ∷ lines) logs final more last left was f m = absurd f
shows_too buckets sessions (r ∷ rs) [] logs final more last left was f m = absurd f
shows_too buckets sessions (r ∷ rs) (line ∷ lines) logs final more last left was f m = (
  (f.0, met_collected sessions r.session more r.statement line.reply.answer m.0),
  (
    f.1.0,
    f.1.1,
    shows_too buckets sessions rs lines (put logs r.session (log_after buckets f.1.0 r.statement line.reply (logs r.session))) final
        (put more r.session (log_after buckets m.1.0 r.statement line.reply (more r.session))) last
        (put left r.session (rest_after r.statement line.reply.answer (left r.session))) (put was r.session (rest_after r.statement line.reply.answer (was r.session))) f.1.2 m.1.2,
    f.1.3,
  ),
)

pub shown_first : (buckets sessions top : ℕ) (h : History) (logs : ℕ → List LogEntry) (script : Script) (lines : List Line) →
    HasReplayed buckets sessions h logs top script.records lines → Follows buckets ShowsFirsts (λ j. []) (λ j. None) script.records lines logs →
    EachAfter (IsFirst (history_of (all_said replay script lines))) [] (all_said replay script lines)
shown_first buckets sessions top h logs script lines r f =
    let all : List Said = said_from [] script.records lines in
    let k : History = history_of all in
    let Q : ℕ → List LogEntry → Type 0 = λ j l. Judged h l in
    let sound : LinesAreSound replay script lines = replay_sound buckets sessions top h logs script lines r in
    let told = lines_told replay buckets h k logs all Shows Q (judged_less h) (places_of buckets r.logged.some) (λ ls q line m. m.1) script.records lines (λ j. []) logs []
    (λ j. ties_nothing j) (λ j. None) (λ j. left_nothing j) (shows_too buckets sessions script.records lines (λ j. []) logs (λ j. []) logs (λ j. None) (λ j. None) f r.follows)
    r.logged.judged r.logged.replied r.logged.judged in
    let both = each_after_first (IsTold replay h k logs all) (AtLine buckets Shows Q) [] all told.0 in
    lines_first buckets Q all [] all refl (sound_ascends script lines top sound r.rises) (placed_all script.records lines []) both.1

pub shown_text : (buckets sessions top : ℕ) (h : History) (logs : ℕ → List LogEntry) (script : Script) (lines : List Line) →
    HasReplayed buckets sessions h logs top script.records lines → Follows buckets ShowsFirsts (λ j. []) (λ j. None) script.records lines logs → IsLawful script → map plain lines ≡ replayed script
shown_text buckets sessions top h logs script lines r f lawful = sound_exact script lines (replay_sound buckets sessions top h logs script lines r)
    (shown_first buckets sessions top h logs script lines r f) (lawful_asked script lawful _)

pub shown_at_end : (buckets sessions seen top : ℕ) (h : History) (logs closed : ℕ → List LogEntry) (script : Script) (lines : List Line) →
    IsFollowing buckets sessions logs seen top script.records lines → Follows buckets ShowsFirsts (λ j. []) (λ j. None) script.records lines logs →
    ((j : ℕ) → Closes (logs j) (closed j)) → Logged buckets h closed → seen ≤ length h → IsLawful script → map plain lines ≡ replayed script
shown_at_end buckets sessions seen top h logs closed script lines g f closes logged saw = shown_text buckets sessions top h logs script lines
    (following_ends buckets sessions h logs seen top script.records lines g (logged_before buckets h logs closed closes logged) saw) f

-- the same of the logs of a history, where each statement has an answer
pub shown_answered : (buckets sessions seen top : ℕ) (h : History) (logs : ℕ → List LogEntry) (script : Script) (lines : List Line) →
    IsFollowing buckets sessions logs seen top script.records lines → Follows buckets ShowsFirsts (λ j. []) (λ j. None) script.records lines logs →
    Logged buckets h logs → seen ≤ length h → AreAnswered (start (greatest (map (λ (r : Record). r.session) script.records))) script.records → map plain lines ≡ replayed script
shown_answered buckets sessions seen top h logs script lines g f logged saw answered =
    let r = following_ends buckets sessions h logs seen top script.records lines g logged saw in
    sound_exact script lines (replay_sound buckets sessions top h logs script lines r) (shown_first buckets sessions top h logs script lines r f) answered

-- What a replay knows, one record further.
use Rattle.std.proofs.Common.{◌≡◌, ℕ, ◌<◌, ◌≤◌, List, [], ◌∷◌, ◌++◌, length, Bool, true, false, Option, None, refl, subst, arith}
use Rattle.std.specs.Prelude.{◌==◌, ⊤}
use Rattle.std.specs.Bool.{MatchBool}
use Rattle.std.proofs.lemmas.Bool.Decides.{nat_tests}
use Rattle.hg_base.specs.declared.statement.Record.{Record}
use Rattle.hg_base.specs.declared.line.Line.{Line}
use Rattle.hg_base.specs.Lists.{Each}
use Rattle.hg_base.specs.History.{History}
use Rattle.hg_base.specs.Transcript.{Rest, rest_after}
use Rattle.hg_base.specs.Shape.{HasShape, IsLineOf, IsReportOf}
use Rattle.hg_base.proofs.ListFacts.{each_snoc, if_some_keeps}
use Rattle.hg_core.specs.declared.log.LogEntry.{LogEntry}
use Rattle.hg_core.specs.Events.{put}
use Rattle.hg_core.specs.Reading.{Unprinted, Fits, HasRest, log_after, left_after, Follows}
use Rattle.hg_headline.specs.Logged.{Logged}
use Rattle.hg_headline.specs.Timely.{reads_in, commit_in, IsTimely, Rises}
use Rattle.hg_headline.specs.Met.{IsMet}
use Rattle.hg_headline.specs.Replayed.{HasReplayed}
use Rattle.hg_headline.proofs.Growing.{logged_opened}

-- the next record, of any session
pub follows_snoc : (buckets : ℕ) (P : (ℕ → List LogEntry) → Record → Line → Type 0) (logs final : ℕ → List LogEntry) (left : ℕ → Option Rest) (rs : List Record) (lines : List Line)
    (r : Record) (line : Line) (u : Unprinted) → Follows buckets P logs left rs lines final → P final r line → Fits buckets u (final r.session) r.statement line.reply →
    HasRest r.statement u.rest (left_after left rs lines r.session) →
    Follows buckets P logs left (rs ++ r ∷ []) (lines ++ line ∷ []) (put final r.session (log_after buckets u r.statement line.reply (final r.session)))
follows_snoc buckets P logs final left [] [] r line u t p f hr =
    let same : final ≡ logs = λ i j. t j i in
    let Q : (ℕ → List LogEntry) → Type 0 = λ ls. Follows buckets P ls left (r ∷ []) (line ∷ []) (put final r.session (log_after buckets u r.statement line.reply (final r.session))) in
    let now : Q final = (p, (u, f, (λ j. refl), hr)) in
    subst Q same now
follows_snoc buckets P logs final left [] (e ∷ es) r line u t p f hr = absurd t
follows_snoc buckets P logs final left (q ∷ qs) [] r line u t p f hr = absurd t
follows_snoc buckets P logs final left (q ∷ qs) (e ∷ es) r line u t p f hr = (
  t.0,
  (
    t.1.0,
    t.1.1,
    follows_snoc buckets P (put logs q.session (log_after buckets t.1.0 q.statement e.reply (logs q.session))) final
        (put left q.session (rest_after q.statement e.reply.answer (left q.session))) qs es r line u t.1.2 p f hr,
    t.1.3,
  ),
)

pub rises_snoc : (top last next : ℕ) (rs : List Record) (lines : List Line) (r : Record) (line : Line) → Rises top rs lines last → IsTimely last next r.statement line.reply →
    Rises top (rs ++ r ∷ []) (lines ++ line ∷ []) next
rises_snoc top last next [] [] r line f t = (next, lower f t, same next)
  where
    same : (n : ℕ) → n ≤ n
    same n = omega arith

    lower : top ≤ last → IsTimely last next r.statement line.reply → IsTimely top next r.statement line.reply
    lower k t =
        let Over : ℕ → ℕ → Type 0 = λ n c. (n < c) × (c ≤ next) × Each (λ m. m < c) (reads_in line.reply) in
        record {
          grows = omega (arith, k, t.grows);
          reads = t.reads;
          snapshot = if_some_keeps _ (λ at. last ≤ at) (λ at. top ≤ at) (λ at q. omega (arith, k, q)) t.snapshot;
          mark = if_some_keeps _ (λ m. last ≤ m) (λ m. top ≤ m) (λ m q. omega (arith, k, q)) t.mark;
          newer = t.newer;
          commit = if_some_keeps (commit_in r.statement line.reply) (Over last) (Over top) (λ c q. (omega (arith, k, q.0), q.1, q.2)) t.commit;
        }
rises_snoc top last next [] (e ∷ es) r line f t = absurd f
rises_snoc top last next (q ∷ qs) [] r line f t = absurd f
rises_snoc top last next (q ∷ qs) (e ∷ es) r line f t = (f.0, f.1, rises_snoc f.0 last next qs es r line f.2 t)

pub shape_snoc : (rs : List Record) (lines : List Line) (r : Record) (line : Line) → HasShape rs lines → IsLineOf r line → HasShape (rs ++ r ∷ []) (lines ++ line ∷ [])
shape_snoc [] [] r line s k = (k, tt)
shape_snoc [] (e ∷ es) r line s k = absurd s
shape_snoc (q ∷ qs) [] r line s k = absurd s
shape_snoc (q ∷ qs) (e ∷ es) r line s k = (s.0, shape_snoc qs es r line s.1 k)

-- the line of a session's record
pub line_of : (r : Record) (line : Line) → 1 ≤ r.session → line.session ≡ r.session → line.place ≡ r.place → IsLineOf r line
line_of r line some session place = record { session = session; place = place; report = go (r.session == 0) (grind (arith, nat_tests)) }
  where
    go : (b : Bool) → b ≡ false → MatchBool b (IsReportOf r.statement line.reply.answer) ⊤
    go true e = absurd (let k : true ≡ false = e in cc)
    go false e = tt

-- before the first record
pub replayed_opened : (buckets sessions : ℕ) → 0 < buckets → HasReplayed buckets sessions [] (λ j. []) 0 [] []
replayed_opened buckets sessions some = record { logged = logged_opened buckets some; within = tt; shape = tt; follows = λ j. refl; rises = omega arith; below = omega arith }

-- after the next record, where the history and the logs are known to have gone on, and the line to be right
pub replayed_more : (buckets sessions : ℕ) (h more : History) (logs : ℕ → List LogEntry) (top next : ℕ) (rs : List Record) (lines : List Line) (r : Record) (line : Line)
    (u : Unprinted) → HasReplayed buckets sessions h logs top rs lines →
    1 ≤ r.session → r.session ≤ sessions → line.session ≡ r.session → line.place ≡ r.place →
    IsMet sessions logs r line → Fits buckets u (logs r.session) r.statement line.reply → HasRest r.statement u.rest (left_after (λ j. None) rs lines r.session) →
    IsTimely top next r.statement line.reply → next ≤ length more → Logged buckets more (put logs r.session (log_after buckets u r.statement line.reply (logs r.session))) →
    HasReplayed buckets sessions more (put logs r.session (log_after buckets u r.statement line.reply (logs r.session))) next (rs ++ r ∷ []) (lines ++ line ∷ [])
replayed_more buckets sessions h more logs top next rs lines r line u g some most session place met fits left timely below logged = record {
  logged = logged;
  within = each_snoc (λ (r : Record). (1 ≤ r.session) × (r.session ≤ sessions)) rs r g.within (some, most);
  shape = shape_snoc rs lines r line g.shape (line_of r line some session place);
  follows = follows_snoc buckets (IsMet sessions) (λ j. []) logs (λ j. None) rs lines r line u g.follows met fits left;
  rises = rises_snoc 0 top next rs lines r line g.rises timely;
  below = below;
}

-- What a replay knows of the logs of its sessions, one record further, and what that is at its end.
use Rattle.std.proofs.Common.{◌≡◌, ℕ, suc, ◌<◌, ◌≤◌, List, [], ◌∷◌, ◌++◌, length, Option, Some, None, refl, subst, arith}
use Rattle.std.specs.Prelude.{max, IfSome}
use Rattle.std.specs.List.{cons_option}
use Rattle.hg_base.specs.declared.statement.Statement.{Statement}
use Rattle.hg_base.specs.declared.statement.Record.{Record}
use Rattle.hg_base.specs.declared.line.Reply.{Reply}
use Rattle.hg_base.specs.declared.line.Line.{Line}
use Rattle.hg_base.specs.Lists.{Each, greatest, present}
use Rattle.hg_base.specs.History.{History}
use Rattle.hg_base.proofs.ListFacts.{each_snoc, each_keeps, if_some_keeps}
use Rattle.hg_core.specs.declared.log.LogEntry.{LogEntry}
use Rattle.hg_core.specs.declared.log.LogEntry.TheVariants.{Began, Saw, Refused, Outside, Wrote, Undid, Published, Over}
use Rattle.hg_core.specs.Logs.{current, UpTo}
use Rattle.hg_core.specs.Events.{put}
use Rattle.hg_core.specs.Reading.{Unprinted, Fits, is_alone, log_after, HasRest, left_after}
use Rattle.hg_core.proofs.Indices.{put_here, put_else, at_index}
use Rattle.hg_headline.specs.Timely.{snapshot_in, mark_in, newer_in, commit_in, reads_in, IsTimely}
use Rattle.hg_headline.specs.Met.{IsMet, IsMetAnswer}
use Rattle.hg_headline.specs.Logged.{Logged}
use Rattle.hg_headline.specs.Replayed.{HasReplayed}
use Rattle.hg_headline.specs.Following.{AreUpTo, IsOver, IsFollowing, IsFreshIn, top_after}
use Rattle.hg_headline.proofs.Words.{each_cons}
use Rattle.hg_headline.proofs.Commits.{greatest_within}
use Rattle.hg_headline.proofs.Whole.{OfBeginnings, log_first}
use Rattle.hg_headline.proofs.Loops.{follows_snoc, rises_snoc, shape_snoc, line_of}
use Rattle.hg_headline.proofs.Prints.{ArePrinted, printed_known}

-- ---- logs grow

pub up_to_less : (n : ℕ) → OfBeginnings (λ j l. UpTo n l)
up_to_less n j (Began at scope) l k = k.1
up_to_less n j (Refused r a) l k = k.1
up_to_less n j (Published m) l k = k.1
up_to_less n j (Saw t low high b rows) l k = k
up_to_less n j (Outside t) l k = k
up_to_less n j (Wrote r image) l k = k
up_to_less n j (Undid r) l k = k
up_to_less n j Over l k = k

-- what is known of a log's numbers with a reply's entries holds of those before
pub up_to_before : (buckets : ℕ) (logs : ℕ → List LogEntry) (j : ℕ) (u : Unprinted) (s : Statement) (reply : Reply) (n : ℕ) →
    AreUpTo n (put logs j (log_after buckets u s reply (logs j))) → AreUpTo n logs
up_to_before buckets logs j u s reply n k =
    let after : List LogEntry = log_after buckets u s reply (logs j) in
    at_index j (λ i. UpTo n (logs i))
    (log_first (λ i l. UpTo n l) (up_to_less n) j (is_alone (current (logs j)) s) buckets u s reply (logs j) (subst (UpTo n) (put_here logs j after) (k j)))
    (λ i z. subst (UpTo n) (put_else logs j i after z) (k i))

-- ---- a record further

pub each_greatest : (xs : List ℕ) (n : ℕ) → greatest xs ≤ n → Each (λ m. m ≤ n) xs
each_greatest [] n k = tt
each_greatest (x ∷ xs) n k =
    let here : x ≤ n = max_left x (greatest xs) n k in
    let rest : greatest xs ≤ n = max_right x (greatest xs) n k in
    (here, each_greatest xs n rest)
  where
    max_left : (a b n : ℕ) → max a b ≤ n → a ≤ n
    max_left a b n k = grind (arith, k)

    max_right : (a b n : ℕ) → max a b ≤ n → b ≤ n
    max_right a b n k = grind (arith, k)

pub following_opened : (buckets sessions : ℕ) → IsFollowing buckets sessions (λ j. []) 0 0 [] []
following_opened buckets sessions = record { within = tt; shape = tt; follows = λ j. refl; rises = omega arith; known = λ n k. omega arith }

pub each_from_option : (P : ℕ → Type 0) (o : Option ℕ) (xs : List ℕ) → Each P (cons_option o xs) → IfSome o P × Each P xs
each_from_option P None xs k = (tt, k)
each_from_option P (Some x) xs k = (k.0, k.1)

-- what top_after is over
pub after_covers : (top : ℕ) (s : Statement) (reply : Reply) → (top ≤ top_after top s reply) × IfSome (commit_in s reply) (λ c. c ≤ top_after top s reply) ×
    Each (λ m. m ≤ top_after top s reply) (reads_in reply)
after_covers top s reply =
    let next : ℕ = top_after top s reply in
    let all : Each (λ m. m ≤ next) (top ∷ cons_option (commit_in s reply) (reads_in reply)) = each_greatest (top ∷ cons_option (commit_in s reply) (reads_in reply)) next (omega arith) in
    let rest = each_from_option (λ m. m ≤ next) (commit_in s reply) (reads_in reply) all.1 in
    (all.0, rest.0, rest.1)

-- and how it stays below a number
pub after_within : (n top : ℕ) (s : Statement) (reply : Reply) → top ≤ n → ArePrinted n s reply → IfSome (mark_in reply) (λ m. m ≤ n) → top_after top s reply ≤ n
after_within n top s reply up p mark =
    greatest_within n (top ∷ cons_option (commit_in s reply) (reads_in reply))
    (up, each_cons (λ m. m ≤ n) (commit_in s reply) (reads_in reply) p.commit (reads (snapshot_in reply) (newer_in reply) (mark_in reply) p.snapshot p.newer mark))
  where
    front : (o : Option ℕ) (os : List (Option ℕ)) → IfSome o (λ m. m ≤ n) → Each (λ m. m ≤ n) (present os) → Each (λ m. m ≤ n) (present (o ∷ os))
    front None os k rest = rest
    front (Some x) os k rest = (k, rest)

    reads : (a b c : Option ℕ) → IfSome a (λ m. m ≤ n) → IfSome b (λ m. m ≤ n) → IfSome c (λ m. m ≤ n) → Each (λ m. m ≤ n) (present (a ∷ b ∷ c ∷ []))
    reads a b c ka kb kc = front a (b ∷ c ∷ []) ka (front b (c ∷ []) kb (front c [] kc tt))

-- a reply that is fresh in the logs is timely
pub fresh_timely : (logs : ℕ → List LogEntry) (seen later top : ℕ) (s : Statement) (reply : Reply) → ((n : ℕ) → IsOver logs seen n → top ≤ n) → IsFreshIn logs seen later s reply →
    IsTimely top (top_after top s reply) s reply
fresh_timely logs seen later top s reply known f =
    let next : ℕ = top_after top s reply in
    let covers = after_covers top s reply in
    let Next : ℕ → Type 0 = λ c. (n : ℕ) × (c ≡ suc n) × IsOver logs seen n × Each (λ m. m ≤ n) (reads_in reply) in
    record {
      grows = covers.0;
      reads = covers.2;
      snapshot = if_some_keeps (snapshot_in reply) (λ at. IsOver logs seen at) (λ at. top ≤ at) (λ at k. known at k) f.snapshot;
      mark = if_some_keeps (mark_in reply) (λ m. IsOver logs seen m × (m ≤ later)) (λ m. top ≤ m) (λ m k. known m k.0) f.mark;
      newer = f.newer;
      commit = if_some_both (commit_in s reply) Next (λ c. c ≤ next) (λ c. (top < c) × (c ≤ next) × Each (λ m. m < c) (reads_in reply))
          (λ c k up. (over c k.0 k.1 (known k.0 k.2), up, each_keeps (λ m. m ≤ k.0) (λ m. m < c) (λ m q. over c k.0 k.1 q) (reads_in reply) k.3)) f.commit covers.1;
    }
  where
    over : (c n : ℕ) {m : ℕ} → c ≡ suc n → m ≤ n → m < c
    over c n e k = omega (arith, e, k)

    if_some_both : (o : Option ℕ) (P Q R : ℕ → Type 0) → ((x : ℕ) → P x → Q x → R x) → IfSome o P → IfSome o Q → IfSome o R
    if_some_both None P Q R g p q = tt
    if_some_both (Some x) P Q R g p q = g x p q

-- After the next record, where its line shows what is open in the logs as they stand before it. Only the log of the record's
-- session has gone on.
pub following_more : (buckets sessions : ℕ) (logs : ℕ → List LogEntry) (seen later top : ℕ) (rs : List Record) (lines : List Line) (r : Record) (line : Line) (u : Unprinted) →
    IsFollowing buckets sessions logs seen top rs lines →
    1 ≤ r.session → r.session ≤ sessions → line.session ≡ r.session → line.place ≡ r.place →
    Fits buckets u (logs r.session) r.statement line.reply → HasRest r.statement u.rest (left_after (λ j. None) rs lines r.session) →
    IsMetAnswer sessions logs r.statement line.reply.answer → IsFreshIn logs seen later r.statement line.reply →
    IsFollowing buckets sessions (put logs r.session (log_after buckets u r.statement line.reply (logs r.session))) later (top_after top r.statement line.reply) (rs ++ r ∷ []) (lines ++ line ∷ [])
following_more buckets sessions logs seen later top rs lines r line u g some most session place fits left met fresh = record {
  within = each_snoc (λ (r : Record). (1 ≤ r.session) × (r.session ≤ sessions)) rs r g.within (some, most);
  shape = shape_snoc rs lines r line g.shape (line_of r line some session place);
  follows = follows_snoc buckets (IsMet sessions) (λ j. []) logs (λ j. None) rs lines r line u g.follows met fits left;
  rises = rises_snoc 0 top (top_after top r.statement line.reply) rs lines r line g.rises (fresh_timely logs seen later top r.statement line.reply g.known fresh);
  known = λ n k.
      let before : IsOver logs seen n = record { entries = up_to_before buckets logs r.session u r.statement line.reply n k.entries; groups = below n fresh.grows k.groups } in
      let after : List LogEntry = log_after buckets u r.statement line.reply (logs r.session) in
      after_within n top r.statement line.reply (g.known n before)
      (printed_known buckets u (logs r.session) r.statement line.reply n fits (subst (UpTo n) (put_here logs r.session after) (k.entries r.session)))
      (if_some_keeps (mark_in line.reply) (λ m. IsOver logs seen m × (m ≤ later)) (λ m. m ≤ n) (λ m q. below n q.1 k.groups) fresh.mark);
}
  where
    below : (n : ℕ) {a b : ℕ} → a ≤ b → b ≤ n → a ≤ n
    below n p q = omega (arith, p, q)

-- ---- at the end

-- where the history is known at last
pub following_ends : (buckets sessions : ℕ) (h : History) (logs : ℕ → List LogEntry) (seen top : ℕ) (rs : List Record) (lines : List Line) →
    IsFollowing buckets sessions logs seen top rs lines → Logged buckets h logs → seen ≤ length h → HasReplayed buckets sessions h logs top rs lines
following_ends buckets sessions h logs seen top rs lines g logged saw = record {
  logged = logged;
  within = g.within;
  shape = g.shape;
  follows = g.follows;
  rises = g.rises;
  below = g.known (length h) (record { entries = logged.within; groups = saw });
}

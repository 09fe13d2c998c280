-- A line that is right in a history stays right in a longer one, and beside one more line.
use Rattle.std.proofs.Common.{◌≡◌, ℕ, ◌+◌, ◌<◌, ◌≤◌, List, [], ◌∷◌, ◌++◌, length, Some, refl, sym, ap, ◌∙◌, subst, arith}
use Rattle.std.specs.Prelude.{◌==◌, filter, filter_map, cond, IsTrue, IsSome, is_some, option_map}
use Rattle.std.specs.List.{list_any, cons_option}
use Rattle.std.proofs.lemmas.List.Elements.{filter-append, filter_map-append}
use Rattle.hg_base.specs.declared.rid.Rid.{Rid}
use Rattle.hg_base.specs.declared.image.Image.{Image}
use Rattle.hg_base.specs.declared.writer.Writer.{Writer}
use Rattle.hg_base.specs.declared.report.Told.{Told}
use Rattle.hg_base.specs.declared.report.Sweep.{Sweep}
use Rattle.hg_base.specs.declared.line.Answer.{Answer}
use Rattle.hg_base.specs.declared.line.Answer.TheVariants.{Newer, OpenBy}
use Rattle.hg_base.specs.Lists.{Each, EachAfter, onto}
use Rattle.hg_base.specs.Script.{Mode}
use Rattle.hg_base.specs.History.{Write, Group, History, writes, group_image, does_write, seen, image_in, same_rid}
use Rattle.hg_base.specs.Transcript.{Said, committed, is_of, stored, stored_in, numbers_in, own_writes, rest_in}
use Rattle.hg_base.specs.Shape.{report_of}
use Rattle.hg_base.specs.Replies.{IsAnswer, IsReply, is_written}
use Rattle.hg_base.specs.Conflicts.{ShowsNewer, ShowsOpen, ShowsCause, ShowsConflict, target}
use Rattle.hg_base.specs.Freshness.{IsHeld, IsReported, IsFresh}
use Rattle.hg_base.specs.Sound.{IsRight}
use Rattle.hg_base.proofs.ListFacts.{false_true, any_more, cases, if_some_keeps, match_keeps, each_append, each_keeps, each_picked, each_after_snoc, each_after_keeps}
use Rattle.hg_base.proofs.HistoryFacts.{seen_stays, writes_from_snoc}

-- h is the beginning of k, in what the lines up to now say of it
pub record Extends (h : History) (k : History) : Type 0 where
  pub longer : length h ≤ length k
  pub sees : (own : List Write) (at : ℕ) → at ≤ length h → seen h own at ≡ seen k own at
  pub does : (n : ℕ) (r : Rid) → IsTrue (does_write h n r) → IsTrue (does_write k n r)

pub snoc_longer : (h : History) (g : Group) → length h ≤ length (h ++ g ∷ [])
snoc_longer [] g = omega arith
snoc_longer (f ∷ fs) g = let e : length fs ≤ length (fs ++ g ∷ []) = snoc_longer fs g in omega (arith, e)

pub extends_itself : (h : History) → Extends h h
extends_itself h = record { longer = omega arith; sees = λ own at k. refl; does = λ n r e. e }

pub extends_snoc : (h : History) (g : Group) → Extends h (h ++ g ∷ [])
extends_snoc h g = record {
  longer = snoc_longer h g;
  sees = λ own at k. sym (seen_stays h g own at k);
  does = λ n r e. ap (list_any (λ (w : ℕ × Image). w.0 == n)) (writes_from_snoc 1 h g r) ∙
      any_more (λ w. w.0 == n) (writes h r) (cons_option (option_map (λ image. (1 + length h, image)) (group_image r g)) []) e;
}

-- ---- a line's reply

pub reply_stays : (mode : Mode) (h k : History) (earlier : List Said) (now : Said) → Extends h k → IsReply mode h earlier now → IsReply mode k earlier now
reply_stays mode h k earlier now x r = record {
  at = r.at;
  number = r.number;
  snapshot = let a : now.at ≤ length h = r.snapshot in let b : length h ≤ length k = x.longer in omega (arith, a, b);
  answer =
      let P : (Rid → Image) → Type 0 = λ look. IsAnswer mode look (is_written (own_writes earlier now)) (rest_in now.session now.transaction earlier) now now.statement in
      subst P (x.sees (own_writes earlier now) now.at r.snapshot) r.answer;
}

-- ---- a line's conflict

-- every commit number of the new line is over n
abbrev pub IsLate : ℕ → Said → Type 0
IsLate n new = (c : ℕ) → committed new ≡ Some c → n < c

pub newer_stays : (h k : History) (at : ℕ) (r : Rid) (c : ℕ) → Extends h k → ShowsNewer h at r c → ShowsNewer k at r c
newer_stays h k at r c x s = record { over = s.over; within = let a : c ≤ length h = s.within in let b : length h ≤ length k = x.longer in omega (arith, a, b); does = x.does c r s.does }

-- what was written first stays written
pub still_written : (r : Rid) (ws vs : List Write) → IsSome (image_in r ws) → IsSome (image_in r (ws ++ vs))
still_written r [] vs s = absurd (false_true s)
still_written r (w ∷ ws) vs s =
    cases (same_rid w.rid r) (λ e. ap (λ b. is_some (cond b (Some w.image) (image_in r (ws ++ vs)))) e)
    (λ e. ap (λ b. is_some (cond b (Some w.image) (image_in r (ws ++ vs)))) e ∙ still_written r ws vs (ap (λ b. is_some (cond b (Some w.image) (image_in r ws))) (sym e) ∙ s))

pub stored_in_append : (j x : ℕ) (xs ys : List Said) → stored_in j x (xs ++ ys) ≡ stored_in j x xs ++ stored_in j x ys
stored_in_append j x xs ys = ap (filter_map stored) (filter-append (is_of j x) xs ys) ∙ filter_map-append stored (filter (is_of j x) xs) (filter (is_of j x) ys)

pub numbers_in_append : (j x : ℕ) (xs ys : List Said) → numbers_in j x (xs ++ ys) ≡ numbers_in j x xs ++ numbers_in j x ys
numbers_in_append j x xs ys = ap (filter_map committed) (filter-append (is_of j x) xs ys) ∙ filter_map-append committed (filter (is_of j x) xs) (filter (is_of j x) ys)

pub late_numbers : (n at : ℕ) (j x : ℕ) (new : Said) → IsLate n new → at ≤ n → Each (λ c. at < c) (numbers_in j x (new ∷ []))
late_numbers n at j x new late b = each_picked (λ c. at < c) committed (is_of j x new) new (λ c e. let k : n < c = late c e in omega (arith, b, k))

pub open_stays : (n : ℕ) (all : List Said) (new : Said) (session at : ℕ) (r : Rid) (w : Writer) → IsLate n new → at ≤ n →
    ShowsOpen (stored_in w.session w.transaction all) (numbers_in w.session w.transaction all) session at r w →
    ShowsOpen (stored_in w.session w.transaction (all ++ new ∷ [])) (numbers_in w.session w.transaction (all ++ new ∷ [])) session at r w
open_stays n all new session at r w late b s = record {
  other = s.other;
  does = subst (λ ws. IsSome (image_in r ws)) (sym (stored_in_append w.session w.transaction all (new ∷ [])))
      (still_written r (stored_in w.session w.transaction all) (stored_in w.session w.transaction (new ∷ [])) s.does);
  after = subst (Each (λ c. at < c)) (sym (numbers_in_append w.session w.transaction all (new ∷ [])))
      (each_append (λ c. at < c) (numbers_in w.session w.transaction all) (numbers_in w.session w.transaction (new ∷ [])) s.after (late_numbers n at w.session w.transaction new late b));
}

pub cause_stays : (mode : Mode) (h k : History) (all earlier : List Said) (now new : Said) (r : Rid) (a : Answer) → Extends h k → IsLate (length h) new → now.at ≤ length h →
    ShowsCause mode h all earlier now r a → ShowsCause mode k (all ++ new ∷ []) earlier now r a
cause_stays mode h k all earlier now new r (Newer c) x late b s = (s.0, newer_stays h k now.at r c x s.1)
cause_stays mode h k all earlier now new r (OpenBy w) x late b s = (s.0, open_stays (length h) all new now.session now.at r w late b s.1, s.2)
cause_stays mode h k all earlier now new r _ x late b s = tt

pub conflict_stays : (mode : Mode) (h k : History) (all earlier : List Said) (now new : Said) → Extends h k → IsLate (length h) new → now.at ≤ length h →
    ShowsConflict mode h all earlier now → ShowsConflict mode k (all ++ new ∷ []) earlier now
conflict_stays mode h k all earlier now new x late b s = if_some_keeps (target now.statement) _ _ (λ r. cause_stays mode h k all earlier now new r now.reply.answer x late b) s

-- ---- what was known

pub held_stays : (all : List Said) (new : Said) (told : Told) → IsHeld all told → IsHeld (all ++ new ∷ []) told
held_stays all new told s = record { printed = any_more _ all (new ∷ []) s.printed; declared = match_keeps told.moved (any_more _ all (new ∷ [])) s.declared }

pub reported_stays : (h k : History) (all earlier : List Said) (new : Said) (sweep : Sweep) → Extends h k → IsReported h all earlier sweep → IsReported k (all ++ new ∷ []) earlier sweep
reported_stays h k all earlier new sweep x s = record {
  rising = s.rising;
  horizon = s.horizon;
  mark = let a : sweep.mark ≤ length h = s.mark in let b : length h ≤ length k = x.longer in omega (arith, a, b);
  sessions = s.sessions;
  held = each_keeps (IsHeld all) (IsHeld (all ++ new ∷ [])) (held_stays all new) sweep.held s.held;
}

pub fresh_stays : (mode : Mode) (h k : History) (all earlier : List Said) (now new : Said) → Extends h k → IsFresh mode h all earlier now → IsFresh mode k (all ++ new ∷ []) earlier now
fresh_stays mode h k all earlier now new x s = record {
  rising = s.rising;
  exact = s.exact;
  report = if_some_keeps (report_of now.reply) _ _ (λ sweep. reported_stays h k all earlier new sweep x) s.report;
}

-- ---- a line

pub line_stays : (mode : Mode) (h k : History) (all : List Said) (new : Said) → Extends h k → IsLate (length h) new → (earlier : List Said) (now : Said) →
    IsRight mode h all earlier now → IsRight mode k (all ++ new ∷ []) earlier now
line_stays mode h k all new x late earlier now s = record {
  reply = reply_stays mode h k earlier now x s.reply;
  conflict = conflict_stays mode h k all earlier now new x late s.reply.snapshot s.conflict;
  fresh = fresh_stays mode h k all earlier now new x s.fresh;
}

-- every line so far is right, and the new one: so every line is
pub lines_step : (mode : Mode) (h k : History) (all : List Said) (new : Said) → Extends h k → IsLate (length h) new → EachAfter (IsRight mode h all) [] all →
    IsRight mode k (all ++ new ∷ []) (onto all []) new → EachAfter (IsRight mode k (all ++ new ∷ [])) [] (all ++ new ∷ [])
lines_step mode h k all new x late s now = each_after_snoc _ [] all new (each_after_keeps _ _ (line_stays mode h k all new x late) [] all s) now

-- That a write has its first cause: what its look heard, in the views before and after.
use Rattle.std.proofs.Common.{◌≡◌, inl, inr, ℕ, List, [], Bool, Option, Some, None, Result, Ok, Err, refl, sym, ap, subst}
use Rattle.std.specs.Prelude.{OnOk, OnErr, IfSome, IsSome, ⊤}
use Rattle.hg_base.specs.declared.rid.Rid.{Rid}
use Rattle.hg_base.specs.declared.image.Image.{Image}
use Rattle.hg_base.specs.History.{image_in}
use Rattle.hg_base.specs.declared.statement.Statement.{Statement}
use Rattle.hg_base.specs.declared.line.Answer.{Answer}
use Rattle.hg_base.specs.declared.line.Answer.TheVariants as answers
use Rattle.hg_base.specs.declared.line.Reply.{Reply}
use Rattle.hg_core.specs.declared.log.LogEntry.{LogEntry}
use Rattle.hg_core.specs.Logs.{current, own_writes}
use Rattle.hg_core.specs.Shown.{HasOpen, IsFirstAt, reads_at}
use Rattle.hg_bucket.specs.declared.refusal.WriteRefusal.{WriteRefusal}
use Rattle.hg_bucket.specs.declared.refusal.WriteRefusal.TheVariants.{Open, Newer, NoMemory}
use Rattle.hg_rule.specs.declared.view.SessionPart.{SessionPart}
use Rattle.hg_rule.specs.declared.view.Sight.{Sight}
use Rattle.hg_rule.specs.declared.view.Sight.TheVariants.{Heard}
use Rattle.hg_rule.specs.declared.view.Sizes.{Sizes}
use Rattle.hg_rule.specs.declared.view.View.{View}
use Rattle.hg_rule.specs.Facts.{StartsWith, IsAmong, IsHeard}
use Rattle.hg_rule.specs.Holding.{snapshot}
use Rattle.hg_rule.specs.Places.{without_bucket}
use Rattle.hg_rule.specs.Views.{number, session}
use Rattle.hg_rule.specs.Writes.{Installs}
use Rattle.hg_rule.proofs.Growing.{among_later}
use Rattle.hg_rule.proofs.Lists.{starts_same, among_left}
use Rattle.hg_store.specs.Writing.{GoOn, ShowsAnswer, Writes}
use Rattle.hg_session.specs.declared.answers.PutRefusal.{PutRefusal}
use Rattle.hg_session.specs.declared.answers.PutRefusal.TheVariants as put
use Rattle.hg_session.specs.Firsts.{AnswersWrite, HasFirst, ShownFirst, ShowsPut, ShowsWrite}
use Rattle.hg_session.specs.Gains.{Gains}
use Rattle.hg_session.specs.Replies.{Answers, refused_at, refused_reply}
use Rattle.hg_cursor.proofs.Trips.{first_number, first_session, Beside}

-- ---- what was heard stays so

among_on : (x : Sight) (xs ys : List Sight) → StartsWith ys xs → IsAmong x xs → IsAmong x ys
among_on x xs ys s a = subst (IsAmong x) (sym s.1) (among_left x xs s.0 a)

heard_on : (k : ℕ) (log : List LogEntry) (xs ys : List Sight) → StartsWith ys xs → IsHeard k log xs → IsHeard k log ys
heard_on k log xs ys s (inl e) = inl e
heard_on k log xs ys s (inr a) = inr (among_on (Heard k log) xs ys s a)

goes_back : (logs : ℕ → List LogEntry) (xs ys : List Sight) → StartsWith ys xs → GoOn logs ys → GoOn logs xs
goes_back logs xs ys s g k log a = g k log (among_on (Heard k log) xs ys s a)

own_back : (logs : ℕ → List LogEntry) (own was : List LogEntry) (j at : ℕ) (r : Rid) (a : Answer) → (HasOpen own r → HasOpen was r) → IsFirstAt logs own j at r a → IsFirstAt logs was j at r a
own_back logs own was j at r answers.Stored f (inl h) = inl (f h)
own_back logs own was j at r answers.Stored f (inr h) = inr h
own_back logs own was j at r answers.Gone f (inl h) = inl (f h)
own_back logs own was j at r answers.Gone f (inr h) = inr h
own_back logs own was j at r (answers.Newer c) f h = h
own_back logs own was j at r _ f h = tt

-- ---- the views around a write: one before it that had the record open too, and one after it

module _ (v m w : View) (r : Rid) (at : ℕ) (es : List LogEntry) (g : Gains v es m) (own : HasOpen (session m).log r → HasOpen (session v).log r) where
  first_back : (a : Answer) → ShownFirst m r at a w → ShownFirst v r at a w
  first_back a h = record {
    logs = h.logs;
    heard = h.heard;
    goes = goes_back h.logs v.sights m.sights g.kept h.goes;
    first = subst (λ j. IsFirstAt h.logs (session v).log j at r a) g.number_is (own_back h.logs (session m).log (session v).log (number m) at r a own h.first);
  }

  pub write_back : {T : Type 0} (e : Result T WriteRefusal) → ShowsWrite m r at e w → ShowsWrite v r at e w
  write_back (Ok t) h = first_back answers.Stored h
  write_back (Err (Newer n)) h = first_back (answers.Newer n) h
  write_back (Err (Open j y)) h = tt
  write_back (Err NoMemory) h = tt

  pub put_back : {T : Type 0} (e : Result T PutRefusal) → ShowsPut m r at e w → ShowsPut v r at e w
  put_back (Ok t) h = first_back answers.Stored h
  put_back (Err (put.Newer s n)) h = first_back (answers.Newer n) h
  put_back (Err (put.Open s j y)) h = tt
  put_back (Err (put.Undeclared table)) h = tt
  put_back (Err put.NoMemory) h = tt

-- a transaction that has written nothing has nothing open
pub bare : (log : List LogEntry) (was : Type 0) (r : Rid) → own_writes log ≡ [] → HasOpen log r → was
bare log was r none h = absurd (let q = subst (λ ws. IsSome (image_in r ws)) none h.1 in cc)

first_later : (v w x : View) (r : Rid) (at : ℕ) (a : Answer) → StartsWith x.sights w.sights → ShownFirst v r at a w → ShownFirst v r at a x
first_later v w x r at a s h = record { logs = h.logs; heard = λ k. heard_on k (h.logs k) w.sights x.sights s (h.heard k); goes = h.goes; first = h.first }

-- a refusal shows what it does, whatever the answer would have been
pub write_told : (v w : View) (r : Rid) (at : ℕ) (e : WriteRefusal) → ShowsWrite {T = Bool} v r at (Err e) w → ShowsWrite {T = ⊤} v r at (Err e) w
write_told v w r at (Newer n) h = h
write_told v w r at (Open j y) h = tt
write_told v w r at NoMemory h = tt

-- a refused write as the put that it refuses
pub put_told : (T : Type 0) (v w : View) (r : Rid) (at : ℕ) (e : WriteRefusal) → ShowsWrite {T = ⊤} v r at (Err e) w → ShowsPut {T = T} v r at (Err (refused_at at e)) w
put_told T v w r at (Newer n) h = h
put_told T v w r at (Open j y) h = tt
put_told T v w r at NoMemory h = tt

pub write_later : {T : Type 0} (v w x : View) (r : Rid) (at : ℕ) (e : Result T WriteRefusal) → StartsWith x.sights w.sights → ShowsWrite v r at e w → ShowsWrite v r at e x
write_later v w x r at (Ok t) s h = first_later v w x r at answers.Stored s h
write_later v w x r at (Err (Newer n)) s h = first_later v w x r at (answers.Newer n) s h
write_later v w x r at (Err (Open j y)) s h = tt
write_later v w x r at (Err NoMemory) s h = tt

-- ---- a write in a bucket that was taken, and is given back

module _ (v u w x : View) (b : ℕ) (rid : Rid) (image : Image) (answer : Result Bool WriteRefusal) (h : Beside (number v) (session v) b v.sights u) (k : Writes u rid image answer w)
    (gives : x ≡ without_bucket w) where
  looked_kept : (a : Result Bool WriteRefusal) → answer ≡ a → StartsWith w.sights k.looked.sights
  looked_kept (Ok t) e = let i = subst (λ a. OnOk a (Installs k.looked rid image w)) e k.stored in (_, ap (λ (y : View). y.sights) i)
  looked_kept (Err f) e = let s = subst (λ a. OnErr a (w ≡ k.looked)) e k.stays in subst (λ (y : View). StartsWith y.sights k.looked.sights) (sym s) (starts_same k.looked.sights)

  kept : StartsWith x.sights k.looked.sights
  kept = subst (λ l. StartsWith l k.looked.sights) (sym (ap (λ (y : View). y.sights) gives)) (looked_kept answer refl)

  at_look : (n : ℕ) → IsHeard n (k.looks.logs n) k.looks.heard → IsHeard n (k.looks.logs n) k.looked.sights
  at_look n (inl e) = inl e
  at_look n (inr a) = inr (subst (IsAmong (Heard n (k.looks.logs n))) (sym (ap (λ (y : View). y.sights) k.looks.after)) (among_later _ u.sights _ (inr (inr a))))

  shown : (at : ℕ) (a : Answer) → IsFirstAt k.looks.logs (session v).log (number v) at rid a → ShownFirst v rid at a x
  shown at a f = record {
    logs = k.looks.logs;
    heard = λ n. heard_on n (k.looks.logs n) k.looked.sights x.sights kept (at_look n (k.looks.all n));
    goes = goes_back k.looks.logs v.sights u.sights h.kept k.goes;
    first = f;
  }

  answered : (at : ℕ) (a : Result Bool WriteRefusal) → at ≡ snapshot u → answer ≡ a → ShowsAnswer k.looks.logs (session v).log (number v) at rid a
  answered at a same is =
      let n = first_number u (number v) (session v) _ h.parts in
      let p = first_session u (number v) (session v) _ h.parts in
      subst (ShowsAnswer k.looks.logs (session v).log (number v) at rid) is (subst (λ (q : (ℕ × SessionPart) × ℕ). ShowsAnswer k.looks.logs q.0.1.log q.0.0 q.1 rid answer)
      (λ i. ((n i, p i), sym same i)) k.first)

  stored_shown : (at : ℕ) (t : Bool) → at ≡ snapshot u → answer ≡ Ok t → ShownFirst v rid at answers.Stored x
  stored_shown at t same is = shown at answers.Stored (answered at (Ok t) same is)

  refused_shown : (at : ℕ) (e : WriteRefusal) → at ≡ snapshot u → answer ≡ Err e → ShowsWrite {T = Bool} v rid at (Err e) x
  refused_shown at (Newer n) same is = shown at (answers.Newer n) (answered at (Err (Newer n)) same is)
  refused_shown at (Open j y) same is = tt
  refused_shown at NoMemory same is = tt

  pub write_shown : (at : ℕ) (a : Result Bool WriteRefusal) → at ≡ snapshot u → answer ≡ a → ShowsWrite v rid at a x
  write_shown at (Ok t) same is = stored_shown at t same is
  write_shown at (Err e) same is = refused_shown at e same is

-- ---- with the reply

pub both : (z : Sizes) (v w : View) (s : Statement) (r : Rid) (o : Option Reply) → IfSome o (λ reply. Answers z v s reply w) →
    IfSome o (λ reply. HasFirst v r (reads_at (current (session v).log) reply) reply.answer w) → IfSome o (λ reply. AnswersWrite z v s r reply w)
both z v w s r None a f = tt
both z v w s r (Some reply) a f = record { answers = a; first = f }

module _ (v w : View) (r : Rid) (at : ℕ) where
  pub refused_first : (alone : Bool) (e : PutRefusal) → ShowsPut {T = ⊤} v r at (Err e) w →
      IfSome (refused_reply alone e) (λ reply. HasFirst v r (reads_at (current (session v).log) reply) reply.answer w)
  refused_first alone (put.Newer t n) h = record { logs = h.logs; heard = h.heard; goes = h.goes; first = h.first }
  refused_first alone (put.Open t j y) h = tt
  refused_first alone (put.Undeclared table) h = tt
  refused_first alone put.NoMemory h = tt

  pub stored_first : (reply : Reply) → reads_at (current (session v).log) reply ≡ at → ShownFirst v r at answers.Stored w → ShownFirst v r (reads_at (current (session v).log) reply) answers.Stored w
  stored_first reply e h = subst (λ n. ShownFirst v r n answers.Stored w) (sym e) h

  pub gone_first : (reply : Reply) → reads_at (current (session v).log) reply ≡ at → ShownFirst v r at answers.Stored w → ShownFirst v r (reads_at (current (session v).log) reply) answers.Gone w
  gone_first reply e h = subst (λ n. ShownFirst v r n answers.Gone w) (sym e) (record { logs = h.logs; heard = h.heard; goes = h.goes; first = h.first })

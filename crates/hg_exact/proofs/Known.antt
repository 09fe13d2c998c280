-- What one thread knows after some lines, and after a line more that prints a commit or none.
use Rattle.std.proofs.Common.{◌≡◌, ℕ, suc, ◌<◌, ◌≤◌, ◌⊎◌, inl, inr, List, [], ◌∷◌, ◌++◌, length, Bool, true, false, Option, Some, None, refl, sym, ap, ◌∙◌, subst, arith}
use Rattle.std.specs.Prelude.{◌==◌, filter_map, IfSome, IsTrue, ⊤}
use Rattle.std.specs.List.{list_any}
use Rattle.hg_base.specs.declared.image.Image.{Image}
use Rattle.hg_base.specs.declared.report.Sweep.{Sweep}
use Rattle.hg_base.specs.declared.statement.Record.{Record}
use Rattle.hg_base.specs.declared.statement.Statement.{Statement}
use Rattle.hg_base.specs.declared.line.Answer.{Answer}
use Rattle.hg_base.specs.declared.line.Answer.TheVariants.{Begun, Newer, Swept}
use Rattle.hg_base.specs.declared.line.Reply.{Reply}
use Rattle.hg_base.specs.Lists.{Each, onto, present}
use Rattle.hg_base.specs.Script.{replay}
use Rattle.hg_base.specs.History.{Write, Commit, Group, History, IsGroup, LosesNothing, NoneTwice, rids_of, writes}
use Rattle.hg_base.specs.Transcript.{Said, commit_by, committed, greatest_commit, history_of, last_images}
use Rattle.hg_base.specs.Replies.{IsReply, is_written}
use Rattle.hg_base.specs.Conflicts.{ShowsConflict}
use Rattle.hg_base.specs.Freshness.{IsFresh, known, newer_of, snapshot_of}
use Rattle.hg_base.specs.Sound.{AreRight, IsRight}
use Rattle.hg_base.proofs.Growth.{commit_stays, history_next, history_same, plain_stays}
use Rattle.hg_base.proofs.Extending.{extends_snoc, reply_stays}
use Rattle.hg_core.proofs.Grouping.{none_last}
use Rattle.hg_core.proofs.Updates.{each_last}
use Rattle.hg_exact.specs.State.{Open, State, mark, with_group}
use Rattle.hg_exact.specs.Replayed.{plain_answer, plain_reply}
use Rattle.hg_exact.proofs.Answering.{Prints}
use Rattle.hg_exact.proofs.Counting.{AreBegun, Counts, IsUpTo, counts_commit, counts_plain}
use Rattle.hg_exact.proofs.Counting.{known_upto}
use Rattle.hg_exact.proofs.Keeping.{AreKept}
use Rattle.hg_exact.proofs.Standing.{Shows}

-- ---- what is known after some lines, oldest first

-- what is said of sound lines alone
abbrev pub OnSound : Bool → Type 0 → Type 0
OnSound true P = P
OnSound false P = ⊤

pub given : (b : Bool) {P : Type 0} → P → OnSound b P
given true p = p
given false p = tt

pub on_sound : (b : Bool) {P Q : Type 0} → (P → Q) → OnSound b P → OnSound b Q
on_sound true f p = f p
on_sound false f p = tt

on_both : (b : Bool) {P Q R : Type 0} → (P → Q → R) → OnSound b P → OnSound b Q → OnSound b R
on_both true f p q = f p q
on_both false f p q = tt

-- the lines are right, where that is said, and so is what one thread knows
pub record Knows (b : Bool) (all : List Said) (s : State) : Type 0 where
  pub history : history_of all ≡ s.history
  pub right : OnSound b (AreRight replay all)
  pub shows : Shows (onto all []) s.begun s.opened
  pub kept : AreKept s.sessions s.history s.opened
  pub counts : Counts (onto all []) (mark s)
  pub begun : AreBegun (onto all [])
  pub within : Each (λ (said : Said). said.session ≤ s.sessions) (onto all [])

pub onto_snoc : (all earlier : List Said) (now : Said) → onto (all ++ now ∷ []) earlier ≡ now ∷ onto all earlier
onto_snoc [] earlier now = refl
onto_snoc (x ∷ all) earlier now = onto_snoc all (x ∷ earlier) now

length_snoc : (h : History) (g : Group) → length (h ++ g ∷ []) ≡ suc (length h)
length_snoc [] g = refl
length_snoc (f ∷ fs) g = ap suc (length_snoc fs g)

-- ---- replies that are no reports

abbrev pub is_swept : Answer → Bool
is_swept (Swept sweep) = true
is_swept _ = false

pub swept_not : (a : Answer) (m : ℕ) → Prints m a → is_swept a ≡ false
swept_not (Swept sweep) m p = absurd p
swept_not _ m p = refl

same_answer : (a b : Answer) → plain_answer a ≡ b → is_swept b ≡ false → a ≡ b
same_answer (Swept sweep) b e f = absurd (let bad : true ≡ false = ap is_swept e ∙ f in cc)
same_answer _ b e f = e

pub same_reply : (reply r : Reply) → plain_reply reply ≡ r → is_swept r.answer ≡ false → reply ≡ r
same_reply reply r e p =
    let is : reply.answer ≡ r.answer = same_answer reply.answer r.answer (ap (λ (x : Reply). x.answer) e) p in
    λ i. record { at = ap (λ (x : Reply). x.at) e i; answer = is i; number = ap (λ (x : Reply). x.number) e i }

-- what a line prints whose answer is none that begins or reports
snapshot_is : (a : Answer) (m : ℕ) (at : Option ℕ) → Prints m a → (elim a [ Begun s ↦ Some s | _ ↦ at ]) ≡ at
snapshot_is (Begun s) m at p = absurd p
snapshot_is _ m at p = refl

no_report : (a : Answer) (m : ℕ) (P : Sweep → Type 0) → Prints m a → IfSome (elim a [ Swept sweep ↦ Some sweep | _ ↦ None ]) P
no_report (Swept sweep) m P p = absurd p
no_report _ m P p = tt

newer_printed : (a : Answer) (m : ℕ) (Q : ℕ → Type 0) → Prints m a → ((c : ℕ) → 0 < c → c ≤ m → Q c) → IfSome (elim a [ Newer c ↦ Some c | _ ↦ None ]) Q
newer_printed (Newer c) m Q p f = f c p.0 p.1
newer_printed _ m Q p f = tt

-- the three numbers of a line
pub three : (P : ℕ → Type 0) (a b c : Option ℕ) → IfSome a P → IfSome b P → IfSome c P → Each P (present (a ∷ b ∷ c ∷ []))
three P a b c f g h = one a (b ∷ c ∷ []) f (one b (c ∷ []) g (one c [] h tt))
  where
    one : (o : Option ℕ) (xs : List (Option ℕ)) → IfSome o P → Each P (present xs) → Each P (present (o ∷ xs))
    one None xs f h = h
    one (Some n) xs f h = (f, h)

pub if_some_is : (P : ℕ → Type 0) (o p : Option ℕ) → o ≡ p → IfSome p P → IfSome o P
if_some_is P o p e h = subst (λ q. IfSome q P) (sym e) h

pub said_same : (p q : Said) → Some p ≡ Some q → p ≡ q
said_same p q e = cc

pub no_said : (q : Said) → None ≡ Some q → ⊥
no_said q e = cc

module _ (sound : Bool) (all : List Said) (s : State) (knows : Knows sound all s) (place j : ℕ) (some : 1 ≤ j) (most : j ≤ s.sessions) where
  abbrev earlier : List Said
  earlier = onto all []

  abbrev asked : Statement → Record
  asked st = record { place = place; session = j; statement = st }

  -- ---- a line that prints no commit, and one that does

  pub plain_line : (now : Said) (begun_by : ℕ → ℕ) (opens : ℕ → Option Open) → now.session ≡ j → committed now ≡ None →
      OnSound sound (IsRight replay s.history (all ++ now ∷ []) earlier now) → IsUpTo (mark s) now → AreBegun (now ∷ earlier)
      → Shows (now ∷ earlier) begun_by opens → AreKept s.sessions s.history opens →
      Knows sound (all ++ now ∷ []) (record { sessions = s.sessions; history = s.history; begun = begun_by; opened = opens })
  plain_line now begun_by opens mine none right upto begun shows kept =
      let back : now ∷ earlier ≡ onto (all ++ now ∷ []) [] = sym (onto_snoc all [] now) in
      record {
        history = history_same all now none ∙ knows.history;
        right = on_both sound (λ r q. plain_stays replay all now r none (subst (λ h. IsRight replay h (all ++ now ∷ []) earlier now) (sym knows.history) q)) knows.right right;
        shows = subst (λ l. Shows l begun_by opens) back shows;
        kept = kept;
        counts = subst (λ l. Counts l (mark s)) back (counts_plain earlier (mark s) now knows.counts none upto);
        begun = subst AreBegun back begun;
        within = subst (Each (λ (said : Said). said.session ≤ s.sessions)) back (subst (λ n. n ≤ s.sessions) (sym mine) most, knows.within);
      }

  pub commit_line : (now : Said) (o : Open) (begun_by : ℕ → ℕ) (opens : ℕ → Option Open) → now.session ≡ j → committed now ≡ Some (suc (mark s)) →
      commit_by earlier now ≡ record { session = j; transaction = o.transaction; at = o.at; images = last_images o.wrote }
      → is_written o.wrote ≡ true → o.at ≤ mark s → Each (λ w. Each (λ (other : ℕ × Image). other.0 ≤ o.at) (writes s.history w.rid)) o.wrote
      → IsReply replay s.history earlier now → ((h : History) → ShowsConflict replay h (all ++ now ∷ []) earlier now) →
      ((h : History) → IsFresh replay h (all ++ now ∷ []) earlier now) → IsUpTo (suc (mark s)) now → AreBegun (now ∷ earlier)
      → Shows (now ∷ earlier) begun_by opens → AreKept s.sessions (with_group (Some (suc (mark s))) j o s.history) opens
      → Knows sound (all ++ now ∷ []) (record { sessions = s.sessions; history = with_group (Some (suc (mark s))) j o s.history; begun = begun_by; opened = opens })
  commit_line now o begun_by opens mine number is wrote at loses reply conflict fresh upto begun shows kept =
      let back : now ∷ earlier ≡ onto (all ++ now ∷ []) [] = sym (onto_snoc all [] now) in
      let c : Commit = record { session = j; transaction = o.transaction; at = o.at; images = last_images o.wrote } in
      let group : Group = c ∷ [] in
      let printed : committed now ≡ Some (suc (length (history_of all))) = number ∙ ap (λ h. Some (suc (length h))) (sym knows.history) in
      let whole : history_of all ++ (commit_by earlier now ∷ []) ∷ [] ≡ s.history ++ group ∷ [] = (λ i. knows.history i ++ (is i ∷ []) ∷ []) in
      let right : IsRight replay (s.history ++ group ∷ []) (all ++ now ∷ []) earlier now =
      (record {
        reply = reply_stays replay s.history (s.history ++ group ∷ []) earlier now (extends_snoc s.history group) reply;
        conflict = conflict (s.history ++ group ∷ []);
        fresh = fresh (s.history ++ group ∷ []);
      }) in
      let one : IsGroup (suc (length s.history)) group = (record {
        some = omega arith;
        commits = (record { some = images_some o.wrote wrote; before = omega (arith, at) }, tt);
        sessions = (refl, tt);
        rids = subst NoneTwice (sym (nil (rids_of (last_images o.wrote)))) (none_last o.wrote);
      }) in
      let loses_nothing : LosesNothing s.history c = each_last (λ w. Each (λ (other : ℕ × Image). other.0 ≤ o.at) (writes s.history w.rid)) o.wrote loses in
      let longer : suc (mark s) ≡ length (s.history ++ group ∷ []) = sym (length_snoc s.history group) in
      record {
        history = history_next all now printed ∙ whole;
        right = on_sound sound (λ r. commit_stays replay all now r printed (as_group knows.history is one) (lost knows.history is loses_nothing)
            (subst (λ h. IsRight replay h (all ++ now ∷ []) earlier now) (sym whole) right)) knows.right;
        shows = subst (λ l. Shows l begun_by opens) back shows;
        kept = kept;
        counts = subst (λ n. Counts (onto (all ++ now ∷ []) []) n) longer (subst (λ l. Counts l (suc (mark s))) back (counts_commit earlier (mark s) now knows.counts number upto));
        begun = subst AreBegun back begun;
        within = subst (Each (λ (said : Said). said.session ≤ s.sessions)) back (subst (λ n. n ≤ s.sessions) (sym mine) most, knows.within);
      }
    where
      images_some : (ws : List Write) → is_written ws ≡ true → 0 < length (last_images ws)
      images_some [] e = absurd (let bad : false ≡ true = e in cc)
      images_some (w ∷ ws) e = omega arith

      nil : {X : Type 0} (xs : List X) → xs ++ [] ≡ xs
      nil [] = refl
      nil (x ∷ xs) = ap (λ ys. x ∷ ys) (nil xs)

      as_group : {h k : History} {c d : Commit} → h ≡ k → c ≡ d → IsGroup (suc (length k)) (d ∷ []) → IsGroup (suc (length h)) (c ∷ [])
      as_group e f g = subst (λ (p : History × Commit). IsGroup (suc (length p.0)) (p.1 ∷ [])) (λ i. (sym e i, sym f i)) g

      lost : {h k : History} {c d : Commit} → h ≡ k → c ≡ d → LosesNothing k d → LosesNothing h c
      lost e f g = subst (λ (p : History × Commit). LosesNothing p.0 p.1) (λ i. (sym e i, sym f i)) g

  -- ---- what every line has

  pub known_below : (h : History) → Each (λ n. n ≤ mark s) (known j earlier)
  known_below h = known_upto j (mark s) earlier knows.counts.upto

  pub newest_is : mark s ≡ greatest_commit earlier
  newest_is = sym knows.counts.mark

  -- a line with an answer that neither begins nor reports, at this snapshot or none
  pub fresh_line : (now : Said) (h : History) (after : List Said) → now.session ≡ j → Prints (mark s) now.reply.answer → (now.reply.at ≡ None) ⊎ (now.reply.at ≡ Some (mark s)) →
      IsFresh replay h after earlier now
  fresh_line now h after mine p at = record {
    rising = by_snapshot (λ n. Each (λ m. m ≤ n) (known now.session earlier)) (subst (λ i. Each (λ m. m ≤ mark s) (known i earlier)) (sym mine) (known_below h));
    exact = record {
      snapshot = by_snapshot (λ n. n ≡ greatest_commit earlier) newest_is;
      newer = newer_printed now.reply.answer (mark s) (λ c. IsTrue (list_any (λ n. n == c) (filter_map committed earlier))) p (λ c k l. knows.counts.printed c k l);
      report = no_report now.reply.answer (mark s) _ p;
    };
    report = no_report now.reply.answer (mark s) _ p;
  }
    where
      by_snapshot : (P : ℕ → Type 0) → P (mark s) → IfSome (snapshot_of now) P
      by_snapshot P h = if_some_is P (snapshot_of now) now.reply.at (snapshot_is now.reply.answer (mark s) now.reply.at p) (at_most at)
        where
          at_most : (now.reply.at ≡ None) ⊎ (now.reply.at ≡ Some (mark s)) → IfSome now.reply.at P
          at_most (inl e) = if_some_is P now.reply.at None e tt
          at_most (inr e) = if_some_is P now.reply.at (Some (mark s)) e h

  pub upto_line : (now : Said) (m : ℕ) → mark s ≤ m → Prints (mark s) now.reply.answer → (now.reply.at ≡ None) ⊎ (now.reply.at ≡ Some (mark s)) → IfSome (committed now) (λ n. n ≤ m) → IsUpTo m now
  upto_line now m k p at c = (
    three (λ n. n ≤ m) (snapshot_of now) (committed now) (newer_of now)
        (if_some_is (λ n. n ≤ m) (snapshot_of now) now.reply.at (snapshot_is now.reply.answer (mark s) now.reply.at p) (go at)) c
        (newer_printed now.reply.answer (mark s) (λ n. n ≤ m) p (λ n l q. omega (arith, q, k))),
    no_report now.reply.answer (mark s) _ p,
  )
    where
      go : (now.reply.at ≡ None) ⊎ (now.reply.at ≡ Some (mark s)) → IfSome now.reply.at (λ n. n ≤ m)
      go (inl e) = if_some_is (λ n. n ≤ m) now.reply.at None e tt
      go (inr e) = if_some_is (λ n. n ≤ m) now.reply.at (Some (mark s)) e k

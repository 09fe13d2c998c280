-- One line more is right, and what one thread knows goes on.
use Rattle.std.proofs.Common.{◌≡◌, ℕ, suc, ◌≤◌, List, [], ◌∷◌, ◌++◌, map, Bool, true, false, Option, Some, None, refl, sym, ap, ◌∙◌, subst, arith}
use Rattle.std.specs.Prelude.{◌==◌, ◌&&◌, ◌||◌, cond, filter_map, is_some, nat_lt, option_map, IfSome, IsSome, IsTrue, ⊤}
use Rattle.std.specs.Bool.{MatchBool}
use Rattle.std.specs.List.{list_any}
use Rattle.std.proofs.lemmas.Bool.Decides.{nat_tests}
use Rattle.hg_base.specs.declared.rid.Rid.{Rid}
use Rattle.hg_base.specs.declared.image.Image.{Image}
use Rattle.hg_base.specs.declared.report.Kind.{Kind}
use Rattle.hg_base.specs.declared.report.Kind.TheVariants as kinds
use Rattle.hg_base.specs.declared.report.Told.{Told}
use Rattle.hg_base.specs.declared.report.Sweep.{Sweep}
use Rattle.hg_base.specs.declared.statement.Record.{Record}
use Rattle.hg_base.specs.declared.statement.Statement.{Statement}
use Rattle.hg_base.specs.declared.statement.Statement.TheVariants.{Begin, CursorOpen, Fetch, Gc}
use Rattle.hg_base.specs.declared.line.Answer.{Answer}
use Rattle.hg_base.specs.declared.line.Answer.TheVariants.{Begun, Newer, Swept}
use Rattle.hg_base.specs.declared.line.Reply.{Reply}
use Rattle.hg_base.specs.Lists.{Each, Ascends, onto}
use Rattle.hg_base.specs.Script.{replay}
use Rattle.hg_base.specs.History.{image_in, writes}
use Rattle.hg_base.specs.Transcript.{Said, committed, greatest_commit, is_end, last_of, next_after, only, open_after, open_of}
use Rattle.hg_base.specs.Transcript.{rest_after, rest_in, said, standing, stored, table_of}
use Rattle.hg_base.specs.Shape.{report_of, same_kind}
use Rattle.hg_base.specs.Replies.{IsReply}
use Rattle.hg_base.specs.Conflicts.{ShowsCause, target}
use Rattle.hg_base.specs.Freshness.{IsFresh, IsHeld, IsReplayed, IsReported, is_declared, known, mark_of, newer_of, prints, snapshot_of}
use Rattle.hg_base.proofs.ListFacts.{any_more, match_keeps}
use Rattle.hg_headline.proofs.Words.{and_true, any_of_onto, any_same}
use Rattle.hg_exact.specs.State.{Open, State, but, mark, next}
use Rattle.hg_exact.specs.Answers.{answer_in, report}
use Rattle.hg_exact.specs.Lawful.{MayAsk, MovesDeclared}
use Rattle.hg_exact.specs.Replayed.{alone, begins, inside, number_for, plain_answer, plain_reply, plain_sweep, plain_told, stands, step, within}
use Rattle.hg_exact.proofs.Answering.{IsPlain, answer_prints}
use Rattle.hg_exact.proofs.Causes.{opened_at}
use Rattle.hg_exact.proofs.Counting.{AreBegun, WasBegun, are_begun, IsOf, IsUpTo, begins_at, begun_here, begun_more, each_unmap, held_ascends, held_each}
use Rattle.hg_exact.proofs.Counting.{held_from, held_snapshots, marks_upto, pair, told_pairs, told_sessions}
use Rattle.hg_exact.proofs.Keeping.{IsKept, kept_but}
use Rattle.hg_exact.proofs.Standing.{last_by, last_some, open_as, opened_last, shows_begun, shows_beside}
use Rattle.hg_exact.proofs.Known.{OnSound, given, on_sound, Knows, is_swept, swept_not, same_reply, three, if_some_is, said_same, plain_line, known_below, newest_is}
use Rattle.hg_exact.proofs.Within.{within_line}
use Rattle.hg_exact.proofs.Single.{alone_line}

module _ (sound : Bool) (all : List Said) (s : State) (knows : Knows sound all s) (place j : ℕ) (some : 1 ≤ j) (most : j ≤ s.sessions) where
  abbrev earlier : List Said
  earlier = onto all []

  abbrev asked : Statement → Record
  asked st = record { place = place; session = j; statement = st }

  -- ---- a transaction begins

  begin_line : (now : Said) (o : Open) → now.session ≡ j → now.transaction ≡ suc (s.begun j) → now.at ≡ mark s → now.alone ≡ false → is_end now.statement ≡ false →
      stored now ≡ None → committed now ≡ None → target now.statement ≡ None → now.reply ≡ inside (Begun (mark s))
      → IsReply replay s.history earlier now → o.at ≡ mark s → o.wrote ≡ []
      → o ≡ record {
        transaction = suc (s.begun j);
        at = now.at;
        scope = now.scope;
        wrote = [];
        rest = rest_after now.statement now.reply.answer (rest_in j (suc (s.begun j)) earlier);
      } → Knows sound (all ++ now ∷ []) (begins s j o)
  begin_line now o mine number at alone no_end writes_none none no_target says reply at_o wrote_o is =
      plain_line sound all s knows place j some most now (but s.begun j (suc (s.begun j))) (but s.opened j (Some o)) mine none
      (given sound (record { reply = reply; conflict = subst (λ t. IfSome t (λ r. ShowsCause replay s.history (all ++ now ∷ []) earlier now r now.reply.answer)) (sym no_target) tt; fresh = fresh }))
      upto begun
      (shows_begun j earlier s.begun s.opened knows.shows now o mine number (ap (λ b. b || is_end now.statement) alone ∙ no_end) writes_none is)
      (kept_but s.sessions s.history s.opened j (Some o) knows.kept kept_o (λ k r f w. absurd (no_write r w)))
    where
      no_write : (r : Rid) → IsSome (image_in r o.wrote) → ⊥
      no_write r w = let bad : false ≡ true = sym (ap (λ ws. is_some (image_in r ws)) wrote_o) ∙ w in cc

      kept_o : IsKept s.sessions s.history j o
      kept_o = record {
        some = some;
        most = most;
        at = subst (λ n. n ≤ mark s) (sym at_o) (omega arith);
        loses = subst (Each (λ w. Each (λ (other : ℕ × Image). other.0 ≤ o.at) (writes s.history w.rid))) (sym wrote_o) tt;
      }

      shown : snapshot_of now ≡ Some (mark s)
      shown = ap (λ (x : Reply). elim x.answer [ Begun n ↦ Some n | _ ↦ x.at ]) says

      reported : report_of now.reply ≡ None
      reported = ap report_of says

      newer_none : newer_of now ≡ None
      newer_none = ap (λ (x : Reply). elim x.answer [ Newer n ↦ Some n | _ ↦ None ]) says

      fresh : IsFresh replay s.history (all ++ now ∷ []) earlier now
      fresh = record {
        rising = if_some_is (λ n. Each (λ m. m ≤ n) (known now.session earlier)) (snapshot_of now) (Some (mark s)) shown
            (subst (λ i. Each (λ m. m ≤ mark s) (known i earlier)) (sym mine) (known_below sound all s knows place j some most s.history));
        exact = record {
          snapshot = if_some_is (λ n. n ≡ greatest_commit earlier) (snapshot_of now) (Some (mark s)) shown (newest_is sound all s knows place j some most);
          newer = if_some_is (λ c. IsTrue (list_any (λ n. n == c) (filter_map committed earlier))) (newer_of now) None newer_none tt;
          report = subst (λ q. IfSome q (IsReplayed earlier now.statement)) (sym reported) tt;
        };
        report = subst (λ q. IfSome q (IsReported s.history (all ++ now ∷ []) earlier)) (sym reported) tt;
      }

      upto : IsUpTo (mark s) now
      upto = (
        three (λ n. n ≤ mark s) (snapshot_of now) (committed now) (newer_of now) (if_some_is (λ n. n ≤ mark s) (snapshot_of now) (Some (mark s)) shown (omega arith))
            (if_some_is (λ n. n ≤ mark s) (committed now) None none tt) (if_some_is (λ n. n ≤ mark s) (newer_of now) None newer_none tt),
        subst (λ q. IfSome q (λ sweep. sweep.mark ≤ mark s)) (sym reported) tt,
      )

      last : last_of j (now ∷ earlier) ≡ Some now
      last = last_by j earlier now true mine (ap (nat_lt 0) number ∙ (let n : ℕ = s.begun j in grind (arith, nat_tests)))

      begun : AreBegun (now ∷ earlier)
      begun = are_begun j earlier now mine knows.begun (λ q e.
          subst (WasBegun j (now ∷ earlier)) (said_same now q (sym (ap open_after last ∙ ap (λ b. cond (b || is_end now.statement) None (Some now)) alone ∙
          ap (λ b. cond b None (Some now)) no_end) ∙ e))
          (begun_here j earlier now mine (shown ∙ ap Some (sym at))))

  -- ---- a collector's round

  abbrev round : Kind → Sweep → Said
  round kind sweep = said earlier (asked (Gc kind)) (record { at = None; answer = Swept sweep; number = None })

  round_line : (kind : Kind) (sweep : Sweep) → let now : Said = said earlier (asked (Gc kind)) (record { at = None; answer = Swept sweep; number = None }) in
      plain_sweep sweep ≡ report s kind → OnSound sound (MovesDeclared earlier now) → Knows sound (all ++ now ∷ []) s
  round_line kind sweep is moves =
      plain_line sound all s knows place j some most (round kind sweep) s.begun s.opened refl refl
      (on_sound sound (λ m. record { reply = record { at = refl; number = refl; snapshot = omega arith; answer = tt }; conflict = tt; fresh = fresh m }) moves)
      (tt, subst (λ n. n ≤ mark s) (sym (ap (λ (x : Sweep). x.mark) is)) (omega arith))
      (are_begun j earlier (round kind sweep) refl knows.begun (λ q e. begun_more j earlier (round kind sweep) q q refl refl
      (knows.begun j q (sym (ap open_after (last_by j earlier (round kind sweep) false refl refl)) ∙ e))))
      (shows_beside j earlier s.begun s.opened knows.shows (round kind sweep) refl refl refl (λ rest. refl) (λ q e. last_some j earlier q (opened_last j earlier s.begun s.opened knows.shows q e)))
      knows.kept
    where
      same_itself : (k : Kind) → same_kind k k ≡ true
      same_itself kinds.Group = refl
      same_itself kinds.Table = refl
      same_itself kinds.Interval = refl

      held : map plain_told sweep.held ≡ held_from s.opened 1 s.sessions
      held = ap (λ (x : Sweep). x.held) is

      each_held : Each (λ told. IsOf s.opened told) sweep.held
      each_held = each_unmap (IsOf s.opened) plain_told sweep.held (subst (Each (IsOf s.opened)) (sym held) (held_each s.opened 1 s.sessions))

      is_held : (told : Told) → IsOf s.opened told → MatchBool told.moved (IfSome (open_of told.session earlier) (λ said. IsTrue (is_declared said.scope))) ⊤ →
          IsHeld (all ++ round kind sweep ∷ []) told
      is_held told (o, e, at) moved =
          let q = opened_at told.session earlier (s.opened told.session) o (knows.shows.opened told.session) e in
          let number : q.0.at ≡ told.number = ap (λ (x : Open). x.at) (sym q.2) ∙ at in
          let begun : WasBegun told.session earlier q.0 = knows.begun told.session q.0 q.1 in
          let printed : list_any (begins_at told.session false told.number) earlier ≡ true = subst (λ n. list_any (begins_at told.session false n) earlier ≡ true) number (begun.shown false refl) in
          record {
            printed = any_more (prints told) all (round kind sweep ∷ [])
                (any_of_onto (prints told) all (sym (any_same (begins_at told.session false told.number) (prints told) (λ x. and_true (prints told x)) earlier) ∙ printed));
            declared = match_keeps told.moved (λ h. any_more (λ said. prints told said && is_declared said.scope) all (round kind sweep ∷ [])
                (any_of_onto (λ said. prints told said && is_declared said.scope) all
                (subst (λ n. list_any (begins_at told.session true n) earlier ≡ true) number (begun.shown true (declared_is (open_of told.session earlier) q.0 q.1 h))))) moved;
          }
        where
          declared_is : (x : Option Said) (q : Said) → x ≡ Some q → IfSome x (λ said. IsTrue (is_declared said.scope)) → is_declared q.scope ≡ true
          declared_is x q e h = subst (λ y. IfSome y (λ said. IsTrue (is_declared said.scope))) e h

      all_held : (ts : List Told) → Each (λ told. IsOf s.opened told) ts →
          Each (λ told. MatchBool told.moved (IfSome (open_of told.session earlier) (λ said. IsTrue (is_declared said.scope))) ⊤) ts → Each (IsHeld (all ++ round kind sweep ∷ [])) ts
      all_held [] h k = tt
      all_held (t ∷ ts) h k = (is_held t h.0 k.0, all_held ts h.1 k.1)

      at_mark : sweep.mark ≡ mark s
      at_mark = ap (λ (x : Sweep). x.mark) is

      at_horizon : sweep.horizon ≡ sweep.mark
      at_horizon = ap (λ (x : Sweep). x.horizon) is ∙ sym at_mark

      fresh : MovesDeclared earlier (round kind sweep) → IsFresh replay s.history (all ++ round kind sweep ∷ []) earlier (round kind sweep)
      fresh m = record {
        rising = tt;
        exact = record {
          snapshot = tt;
          newer = tt;
          report = record {
            kind = ap (λ (x : Sweep). same_kind x.kind kind) is ∙ same_itself kind;
            mark = at_mark ∙ newest_is sound all s knows place j some most;
            horizon = at_horizon;
            held = told_pairs sweep.held ∙ ap (map pair) held ∙ held_snapshots s.opened s.sessions earlier knows.shows.opened knows.within;
          };
        };
        report = record {
          rising = subst (λ n. Each (λ m. m ≤ n) (filter_map (mark_of sweep.kind) earlier)) (sym at_mark) (marks_upto sweep.kind (mark s) earlier knows.counts.upto);
          horizon = subst (λ n. n ≤ sweep.mark) (sym at_horizon) (omega arith);
          mark = subst (λ n. n ≤ mark s) (sym at_mark) (omega arith);
          sessions = subst Ascends (sym (told_sessions sweep.held ∙ ap (map (λ (t : Told). t.session)) held)) (held_ascends s.opened 1 s.sessions);
          held = all_held sweep.held each_held m;
        };
      }

  -- ---- any line

  abbrev Whole : Statement → Reply → Option Open → Type 0
  Whole st reply x = MayAsk x st → plain_reply reply ≡ (stands s j x st).0 →
      Knows sound (all ++ standing (open_of j earlier) (next_after (last_of j earlier)) (asked st) reply ∷ []) (stands s j x st).1

  stands_line : (st : Statement) → IsPlain st → MayAsk (s.opened j) st → (reply : Reply) → plain_reply reply ≡ (stands s j (s.opened j) st).0 →
      Knows sound (all ++ standing (open_of j earlier) (next_after (last_of j earlier)) (asked st) reply ∷ []) (stands s j (s.opened j) st).1
  stands_line st plain may reply f = subst (Whole st reply) (sym (knows.shows.opened j)) (go (open_of j earlier) refl) may f
    where
      no_fetch : MayAsk None st → MayAsk (Some (next s j (only (table_of st)) None)) st
      no_fetch m = by_statement st plain m
        where
          by_statement : (it : Statement) → IsPlain it → MayAsk None it → MayAsk (Some (next s j (only (table_of it)) None)) it
          by_statement (Fetch n) p m = absurd m
          by_statement (Begin scope) p m = absurd p
          by_statement (CursorOpen table low high) p m = absurd p
          by_statement _ p m = tt

      go : (y : Option Said) → open_of j earlier ≡ y → (let x : Option Open = option_map (open_as j earlier) y in MayAsk x st → plain_reply reply ≡ (stands s j x st).0 →
          Knows sound (all ++ standing y (next_after (last_of j earlier)) (asked st) reply ∷ []) (stands s j x st).1)
      go None g m h =
          let o : Open = next s j (only (table_of st)) None in
          let is : reply ≡ record { at = Some (mark s); answer = answer_in s o st; number = number_for s st (answer_in s o st) } = same_reply reply
          (record { at = Some (mark s); answer = answer_in s o st; number = number_for s st (answer_in s o st) }) h (swept_not (answer_in s o st) (mark s) (answer_prints s o st plain)) in
          subst (λ (p : ℕ × Reply). Knows sound (all ++ standing None p.0 (asked st) p.1 ∷ []) (alone s j o st (answer_in s o st))) (λ i. (sym (knows.shows.begun j) i, sym is i))
          (alone_line sound all s knows place j some most g st plain (no_fetch m))
      go (Some q) g m h =
          let o : Open = open_as j earlier q in
          let is : reply ≡ inside (answer_in s o st) = same_reply reply (inside (answer_in s o st)) h (swept_not (answer_in s o st) (mark s) (answer_prints s o st plain)) in
          subst (λ (x : Reply). Knows sound (all ++ standing (Some q) (next_after (last_of j earlier)) (asked st) x ∷ []) (within s j o st (answer_in s o st))) (sym is)
          (within_line sound all s knows place j some most q g st plain m)

  round_any : (kind : Kind) (at : Option ℕ) (answer : Answer) (number : Option ℕ) → at ≡ None → plain_answer answer ≡ Swept (report s kind) → number ≡ None →
      OnSound sound (MovesDeclared earlier (said earlier (asked (Gc kind)) (record { at = at; answer = answer; number = number }))) →
      Knows sound (all ++ said earlier (asked (Gc kind)) (record { at = at; answer = answer; number = number }) ∷ []) s
  round_any kind at (Swept sweep) number f g h moves = subst (λ (p : Option ℕ × Option ℕ). Knows sound
      (all ++ said earlier (asked (Gc kind)) (record { at = p.0; answer = Swept sweep; number = p.1 }) ∷ []) s) (λ i. (sym f i, sym h i))
      (round_line kind sweep (same_sweep (plain_sweep sweep) (report s kind) g) moves)
    where
      same_sweep : (x y : Sweep) → Swept x ≡ Swept y → x ≡ y
      same_sweep x y k = cc
  round_any kind at answer number f g h moves = absurd (let bad : false ≡ true = ap is_swept g in cc)

  pub step_line : (st : Statement) → MayAsk (s.opened j) st → (reply : Reply) → plain_reply reply ≡ (step s j st).0 →
      OnSound sound (MovesDeclared earlier (said earlier (asked st) reply)) → Knows sound (all ++ said earlier (asked st) reply ∷ []) (step s j st).1
  step_line (Begin scope) may reply f moves =
      subst (λ (x : Reply). Knows sound (all ++ said earlier (asked (Begin scope)) x ∷ []) (begins s j (next s j scope None))) (sym (same_reply reply (inside (Begun (mark s))) f refl))
      (begin_line (said earlier (asked (Begin scope)) (inside (Begun (mark s)))) (next s j scope None) refl (knows.shows.begun j) refl refl refl refl refl refl refl
      (record { at = refl; number = refl; snapshot = omega arith; answer = tt }) refl refl refl)
  step_line (CursorOpen table low high) may reply f moves =
      subst (λ (x : Reply). Knows sound (all ++ said earlier (asked (CursorOpen table low high)) x ∷ [])
      (begins s j (next s j (only (Some table)) (Some (record { table = table; low = low; high = high }))))) (sym (same_reply reply (inside (Begun (mark s))) f refl))
      (begin_line (said earlier (asked (CursorOpen table low high)) (inside (Begun (mark s))))
      (next s j (only (Some table)) (Some (record { table = table; low = low; high = high }))) refl (knows.shows.begun j) refl refl refl refl refl refl refl
      (record { at = refl; number = refl; snapshot = omega arith; answer = tt }) refl refl refl)
  step_line (Gc kind) may reply f moves = round_any kind reply.at reply.answer reply.number (ap (λ (x : Reply). x.at) f) (ap (λ (x : Reply). x.answer) f) (ap (λ (x : Reply). x.number) f) moves
  step_line st may reply f moves = stands_line st tt may reply f

-- What lines that are sound with a reader say of it.
use Rattle.std.proofs.Common.{◌≡◌, ℕ, suc, ◌<◌, ◌≤◌, List, [], ◌∷◌, ◌++◌, length, map, max, Bool, true, false, Option, Some, None, refl, sym, ap, ◌∙◌, subst, arith}
use Rattle.std.specs.Prelude.{◌==◌, ◌&&◌, ◌||◌, cond, take, drop, IfSome, IsTrue, IsFalse, ⊤}
use Rattle.std.specs.Bool.{MatchBool}
use Rattle.std.specs.List.{flat_map, list_any}
use Rattle.std.specs.Option.{option_map_or}
use Rattle.std.proofs.lemmas.Bool.Decides.{Decides-eqb, nat_tests}
use Rattle.std.proofs.lemmas.List.{take-append-drop}
use Rattle.hg_base.specs.declared.report.Told.{Told}
use Rattle.hg_base.specs.declared.report.Sweep.{Sweep}
use Rattle.hg_base.specs.declared.scope.Scope.TheVariants.{All}
use Rattle.hg_base.specs.declared.statement.Record.{Record}
use Rattle.hg_base.specs.declared.statement.Statement.TheVariants.{Begin, Commit as CommitIt}
use Rattle.hg_base.specs.declared.line.Answer.TheVariants.{Begun, Ended}
use Rattle.hg_base.specs.declared.line.Line.{Line}
use Rattle.hg_base.specs.declared.line.Printed.{Printed}
use Rattle.hg_base.specs.declared.line.Reply.{Reply}
use Rattle.hg_base.specs.History.{History}
use Rattle.hg_base.specs.Lists.{Each, EachAfter, greatest, onto}
use Rattle.hg_base.specs.Script.{Script, run}
use Rattle.hg_base.specs.Shape.{HasShape, report_of}
use Rattle.hg_base.specs.Sound.{IsRight, all_said}
use Rattle.hg_base.specs.Freshness.{IsHeld, IsReported, is_declared, prints, snapshot_of}
use Rattle.hg_base.specs.Transcript.{Said, history_of, in_order, last_of, of_session, open_after, next_after, said, said_from, sessions_of, standing}
use Rattle.hg_base.proofs.ListFacts.{each_append, each_keeps, if_some_keeps}
use Rattle.hg_headline.proofs.Words.{any_append, each_left, true_false}
use Rattle.hg_dump.specs.Reader.{IsHeldAt, IsSoundWith, answered, asked, lines_with, read_lines, read_records, reader_of, session_lines, with_reader}
use Rattle.hg_dump.proofs.Joining.{after_append, each_said, sessions_said}
use Rattle.hg_dump.proofs.Parting.{history_alone, said_with}
use Rattle.hg_dump.proofs.Parting.{first_said as said_first, own_said as said_own, last_said as said_last}
use Rattle.hg_dump.proofs.Sessions.{all_records, top}
use Rattle.hg_dump.proofs.Silent.{IsRound, all_rounds, each_round}

-- ---- the reader's own lines

reads_within : (n j : ℕ) (ats : List ℕ) (earlier : List Said) → Each (λ (s : Said). s.at ≤ n) (said_from earlier (read_records j ats) (read_lines j ats)) → Each (λ at. at ≤ n) ats
reads_within n j [] earlier h = tt
reads_within n j (at ∷ ats) earlier h = (h.0, reads_within n j ats _ h.1.1)

-- a `commit` prints no snapshot, wherever it is
prints_none : (told : Told) (o : Option Said) (next j : ℕ) → prints told (standing o next (asked j CommitIt) (answered j Ended).reply) ≡ false
prints_none told None next j = both_false (j == told.session)
  where
    both_false : (b : Bool) → (b && false) ≡ false
    both_false true = refl
    both_false false = refl
prints_none told (Some opened) next j = both_false (j == told.session)
  where
    both_false : (b : Bool) → (b && false) ≡ false
    both_false true = refl
    both_false false = refl

-- the snapshots that it prints are those at which it read, of all tables
module _ (told : Told) (j : ℕ) where
  reads_printed : (ats : List ℕ) (earlier : List Said) → list_any (prints told) (said_from earlier (read_records j ats) (read_lines j ats)) ≡ true → list_any (λ at. at == told.number) ats ≡ true
  reads_printed [] earlier h = h
  reads_printed (at ∷ ats) earlier h =
      let first : Said = said earlier (asked j (Begin All)) (answered j (Begun at)).reply in
      let last : Option Said = last_of j (first ∷ earlier) in
      let second : Said = standing (open_after last) (next_after last) (asked j CommitIt) (answered j Ended).reply in
      let later : Bool = list_any (prints told) (said_from (second ∷ first ∷ earlier) (read_records j ats) (read_lines j ats)) in
      go (j == told.session) (at == told.number) (prints told second) later (prints_none told (open_after last) (next_after last) j) h (λ k. reads_printed ats (second ∷ first ∷ earlier) k)
    where
      go : (a b c d : Bool) → c ≡ false → ((a && b) || (c || d)) ≡ true → (d ≡ true → list_any (λ n. n == told.number) ats ≡ true) → (b || list_any (λ n. n == told.number) ats) ≡ true
      go a true c d e h f = refl
      go true false c d e h f = f (sym (ap (λ x. x || d) e) ∙ h)
      go false false c d e h f = f (sym (ap (λ x. x || d) e) ∙ h)

  none_declared : (ats : List ℕ) (earlier : List Said) → list_any (λ s. prints told s && is_declared s.scope) (said_from earlier (read_records j ats) (read_lines j ats)) ≡ false
  none_declared [] earlier = refl
  none_declared (at ∷ ats) earlier =
      let first : Said = said earlier (asked j (Begin All)) (answered j (Begun at)).reply in
      let last : Option Said = last_of j (first ∷ earlier) in
      let second : Said = standing (open_after last) (next_after last) (asked j CommitIt) (answered j Ended).reply in
      go (prints told first) (prints told second) (is_declared second.scope) _ (prints_none told (open_after last) (next_after last) j) (none_declared ats (second ∷ first ∷ earlier))
    where
      go : (a b c d : Bool) → b ≡ false → d ≡ false → ((a && false) || ((b && c) || d)) ≡ false
      go true b c d e f = ap (λ x. (x && c) || d) e ∙ f
      go false b c d e f = ap (λ x. (x && c) || d) e ∙ f

-- lines of other sessions print none of its snapshots
pub others_print : (told : Told) (P : Said → Bool) (xs : List Said) → Each (λ (s : Said). (s.session == told.session) ≡ false) xs → list_any (λ s. prints told s && P s) xs ≡ false
others_print told P [] h = refl
others_print told P (x ∷ xs) h = ap (λ b. ((b && option_map_or (λ s. s == told.number) (snapshot_of x) false) && P x) || list_any (λ s. prints told s && P s) xs) h.0 ∙ others_print told P xs h.1

pub others_none : (told : Told) (xs : List Said) → Each (λ (s : Said). (s.session == told.session) ≡ false) xs → list_any (prints told) xs ≡ false
others_none told [] h = refl
others_none told (x ∷ xs) h = ap (λ b. (b && option_map_or (λ s. s == told.number) (snapshot_of x) false) || list_any (prints told) xs) h.0 ∙ others_none told xs h.1

middle : {X : Type 0} (p : X → Bool) (xs ys zs : List X) → list_any p xs ≡ false → list_any p zs ≡ false → list_any p (xs ++ (ys ++ zs)) ≡ list_any p ys
middle p xs ys zs e f = any_append p xs (ys ++ zs) ∙ ap (λ b. b || list_any p (ys ++ zs)) e ∙ any_append p ys zs ∙ ap (λ b. list_any p ys || b) f ∙ or_false (list_any p ys)
  where
    or_false : (b : Bool) → (b || false) ≡ b
    or_false true = refl
    or_false false = refl

-- ---- whose the script's records are

session_most : (m : ℕ) (rs : List Record) → greatest (map (λ (r : Record). r.session) rs) ≤ m → Each (λ (r : Record). r.session ≤ m) rs
session_most m [] most = tt
session_most m (r ∷ rs) most = (omega (arith, most), session_most m rs (omega (arith, most)))

flat_least : (P : Record → Type 0) (rs : List Record) → ((j : ℕ) → Each P (of_session j rs)) → (js : List ℕ) → Each P (flat_map (λ j. of_session j rs) js)
flat_least P rs f [] = tt
flat_least P rs f (j ∷ js) = each_append P (of_session j rs) (flat_map (λ k. of_session k rs) js) (f j) (flat_least P rs f js)

same_picked : (P : Record → Type 0) (j : ℕ) (rs : List Record) → Each P rs → Each P (of_session j rs)
same_picked P j [] h = tt
same_picked P j (r ∷ rs) h = go (r.session == j) (same_picked P j rs h.1)
  where
    go : (b : Bool) → Each P (of_session j rs) → Each P (cond b (r ∷ of_session j rs) (of_session j rs))
    go true k = (h.0, k)
    go false k = k

each_of_after : {X : Type 0} (P : List X → X → Type 0) (Q : X → Type 0) → ((earlier : List X) (x : X) → P earlier x → Q x) → (earlier xs : List X) → EachAfter P earlier xs → Each Q xs
each_of_after P Q f earlier [] k = tt
each_of_after P Q f earlier (x ∷ xs) k = (f earlier x k.0, each_of_after P Q f (x ∷ earlier) xs k.1)

-- ---- the lines

module _ (rounds : ℕ) (script : Script) (ats : List ℕ) (printed : Printed) (s : IsSoundWith rounds script ats printed) where
  abbrev j : ℕ
  j = reader_of script

  abbrev lines : List Line
  lines = printed.lines

  abbrev shape : HasShape (in_order (run rounds) (with_reader script ats).records) (lines_with script ats lines)
  shape = s.lines.shape

  abbrev all : List Said
  all = all_said (run rounds) (with_reader script ats) (lines_with script ats lines)

  -- what the script's sessions say, then the reader, and then the collectors
  abbrev first_said : List Said
  first_said = said_first rounds script ats lines shape

  abbrev own_said : List Said
  own_said = said_own rounds script ats lines shape

  abbrev last_said : List Said
  last_said = said_last rounds script ats lines shape

  parted : all ≡ first_said ++ (own_said ++ last_said)
  parted = said_with rounds script ats lines shape

  -- ---- what is right of them

  abbrev h : History
  h = history_of all

  right : EachAfter (IsRight (run rounds) h all) [] (first_said ++ (own_said ++ last_said))
  right = subst (λ xs. EachAfter (IsRight (run rounds) h all) [] xs) parted s.lines.right.lines

  pub within_alone : Each (λ at. at ≤ length (history_of (all_said (run rounds) script lines))) ats
  within_alone =
      let here = (after_append (IsRight (run rounds) h all) (onto first_said []) own_said last_said (after_append (IsRight (run rounds) h all) [] first_said (own_said ++ last_said) right).1).0 in
      subst (λ (k : History). Each (λ at. at ≤ length k) ats) (history_alone rounds script ats lines shape)
      (reads_within (length h) j ats (onto first_said []) (each_of_after (IsRight (run rounds) h all) (λ (x : Said). x.at ≤ length h) (λ earlier x r. r.reply.snapshot)
      (onto first_said []) own_said here))

  -- ---- what is held

  module _ (told : Told) (same : told.session ≡ j) where
    others_first : Each (λ (x : Said). (x.session == told.session) ≡ false) first_said
    others_first =
        sessions_said (λ k. (k == told.session) ≡ false) [] (all_records script) (take (session_lines script) lines)
        (flat_least (λ (r : Record). (r.session == told.session) ≡ false) script.records
        (λ k. same_picked (λ (r : Record). (r.session == told.session) ≡ false) k script.records
        (each_keeps (λ (r : Record). r.session ≤ top script) (λ (r : Record). (r.session == told.session) ≡ false)
        (λ r most. below r.session (top script) told.session most same) script.records (session_most (top script) script.records (omega arith))))
        (sessions_of script.records))
      where
        below : (k m t : ℕ) → k ≤ m → t ≡ suc (max 1 m) → (k == t) ≡ false
        below k m t most e = let less : k < t = omega (arith, most, e) in grind (arith, nat_tests, less)

    others_last : Each (λ (x : Said). (x.session == told.session) ≡ false) last_said
    others_last =
        sessions_said (λ k. (k == told.session) ≡ false) (onto own_said (onto first_said [])) (all_rounds rounds) (drop (session_lines script) lines)
        (each_keeps IsRound (λ (r : Record). (r.session == told.session) ≡ false) (λ r i. zero_below r.session (max 1 (top script)) told.session i.0 same) (all_rounds rounds) (each_round rounds))
      where
        zero_below : (k m t : ℕ) → k ≡ 0 → t ≡ suc m → (k == t) ≡ false
        zero_below k m t e f = let less : k < t = omega (arith, e, f) in grind (arith, nat_tests, less)

    held_here : IsHeld all told → IsTrue (list_any (λ at. at == told.number) ats) × IsFalse told.moved
    held_here q = (
      reads_printed told j ats (onto first_said []) (sym (middle (prints told) first_said own_said last_said (others_none told first_said others_first)
          (others_none told last_said others_last)) ∙ sym (ap (list_any (prints told)) parted) ∙ q.printed),
      go told.moved q.declared,
    )
      where
        none : list_any (λ (x : Said). prints told x && is_declared x.scope) all ≡ false
        none =
            ap (list_any (λ (x : Said). prints told x && is_declared x.scope)) parted
            ∙ middle (λ (x : Said). prints told x && is_declared x.scope) first_said own_said last_said (others_print told (λ x. is_declared x.scope) first_said others_first)
            (others_print told (λ x. is_declared x.scope) last_said others_last)
            ∙ none_declared told j ats (onto first_said [])

        go : (b : Bool) → MatchBool b (IsTrue (list_any (λ (x : Said). prints told x && is_declared x.scope) all)) ⊤ → IsFalse b
        go true d = absurd (true_false (sym d ∙ none))
        go false d = refl

  pub held_at : (told : Told) → IsHeld all told → IsHeldAt script ats told
  held_at told q same = held_here told ((Decides-eqb told.session j).0 same) q

  abbrev HoldsRight : Reply → Type 0
  HoldsRight reply = IfSome (report_of reply) (λ (sweep : Sweep). Each (IsHeldAt script ats) sweep.held)

  abbrev first : List Line
  first = take (session_lines script) lines

  abbrev last : List Line
  last = drop (session_lines script) lines

  pub held_alone : Each (λ (line : Line). HoldsRight line.reply) lines
  held_alone =
      let said_right : Each (λ (x : Said). HoldsRight x.reply) all =
      each_of_after (IsRight (run rounds) h all) (λ (x : Said). HoldsRight x.reply)
      (λ earlier x r. if_some_keeps (report_of x.reply) (IsReported h all earlier) (λ (sweep : Sweep). Each (IsHeldAt script ats) sweep.held)
      (λ sweep k. each_keeps (IsHeld all) (IsHeldAt script ats) held_at sweep.held k.held) r.fresh.report)
      [] all s.lines.right.lines in
      let lines_right : Each (λ (line : Line). HoldsRight line.reply) (lines_with script ats lines) =
      each_said (λ k reply. HoldsRight reply) [] (in_order (run rounds) (with_reader script ats).records) (lines_with script ats lines) said_right s.lines.shape in
      let split = each_left (λ (line : Line). HoldsRight line.reply) first (read_lines j ats ++ last) lines_right in
      subst (λ ls. Each (λ (line : Line). HoldsRight line.reply) ls) (take-append-drop (session_lines script) lines)
      (each_append (λ (line : Line). HoldsRight line.reply) first last split.0 (each_left (λ (line : Line). HoldsRight line.reply) (read_lines j ats) last split.1).1)

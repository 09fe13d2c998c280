-- A line with its first cause is the one that is replayed, by its kind.
use Rattle.std.proofs.Common.{◌≡◌, ℕ, zero, suc, ◌<◌, ◌≤◌, ◌⊎◌, inl, inr, List, [], ◌∷◌, ◌++◌, length, map, Bool, true, false, Option, Some, None, refl, sym, ap, ◌∙◌, subst, arith}
use Rattle.std.specs.Prelude.{◌==◌, cond, filter, filter_map, is_some, option_map, unwrap_or, if◌then◌else◌, IfSome, IsSome, IsTrue}
use Rattle.std.specs.List.{list_any, cons_option}
use Rattle.std.proofs.lemmas.Bool.Decides.{Decides-eqb}
use Rattle.hg_base.specs.declared.rid.Rid.{Rid}
use Rattle.hg_base.specs.declared.image.Image.{Image}
use Rattle.hg_base.specs.declared.report.Kind.{Kind}
use Rattle.hg_base.specs.declared.report.Kind.TheVariants as kinds
use Rattle.hg_base.specs.declared.report.Told.{Told}
use Rattle.hg_base.specs.declared.statement.Record.{Record}
use Rattle.hg_base.specs.declared.statement.Statement.{Statement}
use Rattle.hg_base.specs.declared.statement.Statement.TheVariants.{Gc}
use Rattle.hg_base.specs.declared.line.Answer.{Answer}
use Rattle.hg_base.specs.declared.line.Answer.TheVariants.{Begun, Stored, Gone, Newer, OpenBy, Swept}
use Rattle.hg_base.specs.declared.line.Reply.{Reply}
use Rattle.hg_base.specs.Lists.{onto}
use Rattle.hg_base.specs.Script.{replay}
use Rattle.hg_base.specs.History.{Write, History, does_write, image_in, seen}
use Rattle.hg_base.specs.Transcript.{Said, Rest, committed, ends, greatest_commit, is_of, last_of, next_after, only, open_of, own_writes, rest_after}
use Rattle.hg_base.specs.Transcript.{rest_in, standing, stored, stored_by, stored_in, table_of}
use Rattle.hg_base.specs.Shape.{same_kind}
use Rattle.hg_base.specs.Replies.{IsAnswer, IsBegun, IsReply, IsSwept, is_written}
use Rattle.hg_base.specs.Conflicts.{ShowsCause, ShowsConflict, target}
use Rattle.hg_base.specs.Freshness.{IsExact, IsReplayed}
use Rattle.hg_base.proofs.ListFacts.{cases}
use Rattle.hg_core.proofs.Indices.{at_index}
use Rattle.hg_headline.proofs.Numbers.{any_below}
use Rattle.hg_headline.proofs.Words.{none_of_no}
use Rattle.hg_exact.specs.State.{Open, State, mark, next}
use Rattle.hg_exact.specs.Answers.{answer_in, newest, report, sees, told_of, writers}
use Rattle.hg_exact.specs.First.{IsFirstCause, IsFree, IsNewest}
use Rattle.hg_exact.proofs.Numbering.{IsNext}
use Rattle.hg_exact.specs.Lawful.{MayAsk}
use Rattle.hg_exact.specs.Replayed.{inside, number_for, plain, plain_answer, plain_reply, plain_sweep, plain_told}
use Rattle.hg_exact.proofs.Answering.{IsPlain, answer_prints}
use Rattle.hg_exact.proofs.Counting.{held_from, held_snapshots, pair}
use Rattle.hg_exact.proofs.Determined.{Caused, determined, nobody_has, one_has}
use Rattle.hg_exact.proofs.Keeping.{IsKept, none_of, wrote_by}
use Rattle.hg_exact.proofs.Longer.{newest_is, newest_within, seen_longer}
use Rattle.hg_exact.proofs.Standing.{open_as}
use Rattle.hg_exact.proofs.Known.{Knows, swept_not}
use Rattle.hg_exact.proofs.Unended.{Ended, not_begun, shown_at, plain_same, some_is, made}

module _ (all : List Said) (s : State) (knows : Knows false all s) (ended : Ended (onto all [])) (place j : ℕ) (h : History) (more : History) (longer : h ≡ s.history ++ more) where
  abbrev earlier : List Said
  earlier = onto all []

  abbrev asked : Statement → Record
  asked st = record { place = place; session = j; statement = st }

  marked : greatest_commit earlier ≡ mark s
  marked = knows.counts.mark

  -- the number of a newer group, and who is refused for another's open write
  free_is : (r : Rid) → IsFree earlier j r → image_in r (wrote_by (s.opened j)) ≡ None → (k : ℕ) → image_in r (wrote_by (s.opened k)) ≡ None
  free_is r free mine = at_index j (λ k. image_in r (wrote_by (s.opened k)) ≡ None) mine (λ k f. ap (λ x. image_in r (wrote_by x)) (knows.shows.opened k) ∙ go k (open_of k earlier) (free k f))
    where
      go : (k : ℕ) (o : Option Said) → IfSome o (λ opened. image_in r (stored_in k opened.transaction earlier) ≡ None) → image_in r (wrote_by (option_map (open_as k earlier) o)) ≡ None
      go k None e = refl
      go k (Some q) e = e

  newest_so_far : (r : Rid) (c : ℕ) → IsNewest h earlier r c → (n : ℕ) → n ≤ length s.history → IsTrue (does_write (s.history ++ more) n r) → n ≤ c
  newest_so_far r c f n l does = f n (subst (λ m. n ≤ m) (sym marked) l) (subst (λ k. IsTrue (does_write k n r)) (sym longer) does)

  open_is : (k x : ℕ) (r : Rid) → (k ≡ j → ⊥) → IsSome (image_in r (stored_in k x earlier)) → list_any ends (filter (is_of k x) earlier) ≡ false →
      writers s r ≡ record { session = k; transaction = x } ∷ []
  open_is k x r other wrote going =
      let is = ended k x r wrote going in
      let q : Said = is.0 in
      let opened : s.opened k ≡ Some (open_as k earlier q) = knows.shows.opened k ∙ ap (option_map (open_as k earlier)) is.1 in
      let kept : IsKept s.sessions s.history k (open_as k earlier q) = subst (λ y. IfSome y (IsKept s.sessions s.history k)) opened (knows.kept.each k) in
      let writes : IsSome (image_in r (stored_in k q.transaction earlier)) = subst (λ n. IsSome (image_in r (stored_in k n earlier))) (sym is.2) wrote in
      one_has s r k (open_as k earlier q) kept.some kept.most opened writes (λ i f. knows.kept.apart k i r (λ g. f (sym g)) (subst (λ y. IsSome (image_in r (wrote_by y))) (sym opened) writes))
      ∙ ap (λ n. record { session = k; transaction = n } ∷ []) is.2

  stored_by_first : (o : Open) (now : Said) (r : Rid) → now.session ≡ j → own_writes earlier now ≡ o.wrote → now.at ≡ o.at → (image_in r o.wrote ≡ None → image_in r (wrote_by (s.opened j)) ≡ None)
      → IsSome (image_in r (own_writes earlier now)) ⊎ (IsFree earlier now.session r × IsNewest h earlier r now.at) → IsSome (image_in r o.wrote) ⊎ ((writers s r ≡ []) × (newest s.history r ≤ o.at))
  stored_by_first o now r mine own at none (inl w) = inl (subst (λ ws. IsSome (image_in r ws)) own w)
  stored_by_first o now r mine own at none (inr f) = cases (is_some (image_in r o.wrote)) (λ t. inl t)
      (λ t. inr (
        nobody_has s r (free_is r (subst (λ i. IsFree earlier i r) mine f.0) (none (none_of (image_in r o.wrote) t))),
        newest_within s.history more r o.at
            (newest_so_far r o.at (subst (λ n. IsNewest h earlier r n) at f.1)),
      ))

  caused : (o : Open) (now : Said) (all' : List Said) (r : Rid) (a : Answer) → now.session ≡ j → own_writes earlier now ≡ o.wrote → now.at ≡ o.at →
      (image_in r o.wrote ≡ None → image_in r (wrote_by (s.opened j)) ≡ None)
      → ShowsCause replay h all' earlier now r a → IsFirstCause h earlier now r a →
      IfSome (elim a [ Newer c ↦ Some c | _ ↦ None ]) (λ c. IsTrue (list_any (λ n. n == c) (filter_map committed earlier))) → Caused s o r a
  caused o now all' r Stored mine own at none shows first newer = stored_by_first o now r mine own at none first
  caused o now all' r Gone mine own at none shows first newer = stored_by_first o now r mine own at none first
  caused o now all' r (Newer c) mine own at none shows first newer =
      let unwritten : image_in r o.wrote ≡ None = none_of (image_in r o.wrote) (ap (λ ws. is_some (image_in r ws)) (sym own) ∙ shows.0) in
      let within : c ≤ length s.history = subst (λ m. c ≤ m) marked (any_below c (filter_map committed earlier) newer) in (
        unwritten,
        nobody_has s r (free_is r (subst (λ i. IsFree earlier i r) mine first.0) (none unwritten)),
        subst (λ n. n < c) at shows.1.over,
        newest_is s.history more r c within (subst (λ k. IsTrue (does_write k c r)) longer shows.1.does) (newest_so_far r c first.1),
      )
  caused o now all' r (OpenBy w) mine own at none shows first newer =
      let unwritten : image_in r o.wrote ≡ None = none_of (image_in r o.wrote) (ap (λ ws. is_some (image_in r ws)) (sym own) ∙ shows.0) in
      (unwritten, ([], open_is w.session w.transaction r (λ g. same_not (g ∙ sym mine)) shows.2.does shows.2.opened))
    where
      same_not : w.session ≡ now.session → ⊥
      same_not g = let f : (w.session == now.session) ≡ false = shows.1.other in let t : (w.session == now.session) ≡ true = (Decides-eqb w.session now.session).1 g in cc
  caused o now all' r _ mine own at none shows first newer = tt

  -- what a line has beside its answer
  line_caused : (o : Open) (now : Said) (all' : List Said) (st : Statement) → now.statement ≡ st → now.session ≡ j → own_writes earlier now ≡ o.wrote → now.at ≡ o.at →
      ((r : Rid) → image_in r o.wrote ≡ None → image_in r (wrote_by (s.opened j)) ≡ None)
      → ShowsConflict replay h all' earlier now → IsNext h earlier now → IsExact earlier now → IfSome (target st) (λ r. Caused s o r now.reply.answer)
  line_caused o now all' st is mine own at none shows first exact = subst (λ x. IfSome (target x) (λ r. Caused s o r now.reply.answer)) is (go (target now.statement) shows first.cause)
    where
      go : (t : Option Rid) → IfSome t (λ r. ShowsCause replay h all' earlier now r now.reply.answer) → IfSome t (λ r. IsFirstCause h earlier now r now.reply.answer) →
          IfSome t (λ r. Caused s o r now.reply.answer)
      go None f g = tt
      go (Some r) f g = caused o now all' r now.reply.answer mine own at (none r) f g exact.newer

  pub begun_exact : (at : Option ℕ) (a : Answer) (number : Option ℕ) → is_some at ≡ false → is_some number ≡ false → IsBegun a →
      IfSome (elim a [ Begun n ↦ Some n | _ ↦ at ]) (λ n. n ≡ greatest_commit earlier) → plain_reply (record { at = at; answer = a; number = number }) ≡ inside (Begun (mark s))
  begun_exact at (Begun n) number e f g k = λ i. record { at = none_of_no at e i; answer = Begun ((k ∙ marked) i); number = none_of_no number f i }
  begun_exact at _ number e f g k = absurd g

  pub round_exact : (kind : Kind) (at : Option ℕ) (a : Answer) (number : Option ℕ) → is_some at ≡ false → is_some number ≡ false → IsSwept a →
      IfSome (elim a [ Swept sweep ↦ Some sweep | _ ↦ None ]) (IsReplayed earlier (Gc kind)) → plain_reply (record { at = at; answer = a; number = number }) ≡ inside (Swept (report s kind))
  round_exact kind at (Swept sweep) number e f g k = λ i. record { at = none_of_no at e i; answer = Swept (same i); number = none_of_no number f i }
    where
      kind_is : (x y : Kind) → same_kind x y ≡ true → x ≡ y
      kind_is kinds.Group kinds.Group t = refl
      kind_is kinds.Table kinds.Table t = refl
      kind_is kinds.Interval kinds.Interval t = refl
      kind_is _ _ t = absurd (let bad : false ≡ true = t in cc)

      -- what is told but for what was moved is told by the pairs
      by_pairs : (ts : List Told) → map plain_told ts ≡ map made (map pair ts)
      by_pairs [] = refl
      by_pairs (t ∷ ts) = ap (λ l. plain_told t ∷ l) (by_pairs ts)

      held_plain : (n many : ℕ) → map made (map pair (held_from s.opened n many)) ≡ held_from s.opened n many
      held_plain n zero = refl
      held_plain n (suc many) = one (s.opened n) (held_plain (suc n) many)
        where
          one : (o : Option Open) → map made (map pair (held_from s.opened (suc n) many)) ≡ held_from s.opened (suc n) many →
              map made (map pair (cons_option (told_of n o) (held_from s.opened (suc n) many))) ≡ cons_option (told_of n o) (held_from s.opened (suc n) many)
          one None q = q
          one (Some o) q = ap (λ l. record { session = n; number = o.at; moved = false } ∷ l) q

      held : map plain_told sweep.held ≡ held_from s.opened 1 s.sessions
      held = by_pairs sweep.held ∙ ap (map made) (k.held ∙ sym (held_snapshots s.opened s.sessions earlier knows.shows.opened knows.within)) ∙ held_plain 1 s.sessions

      same : plain_sweep sweep ≡ report s kind
      same = λ i. record { kind = kind_is sweep.kind kind k.kind i; mark = (k.mark ∙ marked) i; horizon = (k.horizon ∙ k.mark ∙ marked) i; removed = 0; held = held i }
  round_exact kind at _ number e f g k = absurd g

  -- a line in the open transaction
  pub within_exact : (all' : List Said) (q : Said) → open_of j earlier ≡ Some q → (st : Statement) → IsPlain st → MayAsk (Some (open_as j earlier q)) st → (reply : Reply) →
      let now : Said = standing (Some q) (next_after (last_of j earlier)) (asked st) reply in
      IsReply replay h earlier now → ShowsConflict replay h all' earlier now → IsExact earlier now → IsNext h earlier now → plain_reply reply ≡ inside (answer_in s (open_as j earlier q) st)
  within_exact all' q e st plain may reply right shows exact first =
      let o : Open = open_as j earlier q in
      let now : Said = standing (Some q) (next_after (last_of j earlier)) (asked st) reply in
      let opened : s.opened j ≡ Some o = knows.shows.opened j ∙ ap (option_map (open_as j earlier)) e in
      let kept : IsKept s.sessions s.history j o = subst (λ x. IfSome x (IsKept s.sessions s.history j)) opened (knows.kept.each j) in
      let look : seen h o.wrote o.at ≡ sees s o = ap (λ k. seen k o.wrote o.at) longer ∙ seen_longer s.history more o.wrote o.at kept.at in
      let is : reply.answer ≡ answer_in s o st = determined s o st now reply.answer plain may (subst (λ l. IsAnswer replay l (is_written o.wrote) o.rest now st) look right.answer)
      (line_caused o now all' st refl refl refl refl (λ r f. ap (λ x. image_in r (wrote_by x)) opened ∙ f) shows first exact)
      (λ _. subst (λ m. IfSome (committed now) (λ c. c ≡ suc m)) marked first.number) in
      λ i. record {
        at = none_of_no reply.at right.at i;
        answer = (ap plain_answer is ∙
            plain_same (answer_in s o st) (swept_not (answer_in s o st) (mark s) (answer_prints s o st plain))) i;
        number = none_of_no reply.number right.number i;
      }

  -- a line that is a transaction of its own
  pub alone_exact : (all' : List Said) → open_of j earlier ≡ None → (st : Statement) → IsPlain st → MayAsk (Some (next s j (only (table_of st)) None)) st →
      (at : Option ℕ) (a : Answer) (number : Option ℕ) → let now : Said = standing None (suc (s.begun j)) (asked st) (record { at = at; answer = a; number = number }) in
      IsReply replay h earlier now → ShowsConflict replay h all' earlier now → IsExact earlier now → IsNext h earlier now
      → plain_reply (record { at = at; answer = a; number = number }) ≡ record {
        at = Some (mark s);
        answer = answer_in s (next s j (only (table_of st)) None) st;
        number = number_for s st (answer_in s (next s j (only (table_of st)) None) st);
      }
  alone_exact all' e st plain may at a number right shows exact first =
      let o : Open = next s j (only (table_of st)) None in
      let now : Said = standing None (suc (s.begun j)) (asked st) (record { at = at; answer = a; number = number }) in
      let opened : s.opened j ≡ None = knows.shows.opened j ∙ ap (option_map (open_as j earlier)) e in
      let none_before : filter (is_of j (suc (s.begun j))) earlier ≡ [] = knows.shows.fresh j (suc (s.begun j)) (omega arith) in
      let own : own_writes earlier now ≡ [] = ap (filter_map stored) none_before in
      let shown : at ≡ Some (mark s) = some_is at (mark s) right.at
      (subst (λ m. IfSome at (λ n. n ≡ m)) marked (shown_at a at (λ n. n ≡ greatest_commit earlier) (not_begun _ _ _ now st plain right.answer) exact.snapshot)) in
      let now_at : now.at ≡ mark s = ap (λ x. unwrap_or x 0) shown in
      let look : seen h (own_writes earlier now) now.at ≡ sees s o = (λ i. seen (longer i) (own i) (now_at i)) ∙ seen_longer s.history more [] (mark s) (omega arith) in
      let wrote : is_written (own_writes earlier now) ≡ is_written o.wrote = ap is_written own in
      let rest : rest_in j (suc (s.begun j)) earlier ≡ None = rest_none earlier none_before in
      let is : a ≡ answer_in s o st = determined s o st now a plain may
      (subst (λ (p : (Rid → Image) × Bool × Option Rest). IsAnswer replay p.0 p.1 p.2 now st) (λ i. (look i, wrote i, rest i)) right.answer)
      (line_caused o now all' st refl refl own now_at (λ r f. ap (λ x. image_in r (wrote_by x)) opened) shows first exact)
      (λ w. absurd (let bad : false ≡ true = w in cc)) in
      let numbered : number ≡ number_for s st (answer_in s o st) = number_is (stored_by st a) number right.number
      (subst (λ m. IfSome number (λ c. c ≡ suc m)) marked first.number) ∙ ap (λ x. number_for s st x) is in
      λ i. record { at = shown i; answer = (ap plain_answer is ∙ plain_same (answer_in s o st) (swept_not (answer_in s o st) (mark s) (answer_prints s o st plain))) i; number = numbered i }
    where
      rest_none : (xs : List Said) → filter (is_of j (suc (s.begun j))) xs ≡ [] → rest_in j (suc (s.begun j)) xs ≡ None
      rest_none [] f = refl
      rest_none (x ∷ xs) f = go (is_of j (suc (s.begun j)) x) f (λ g. rest_none xs g)
        where
          go : (b : Bool) → cond b (x ∷ filter (is_of j (suc (s.begun j))) xs) (filter (is_of j (suc (s.begun j))) xs) ≡ [] →
              (filter (is_of j (suc (s.begun j))) xs ≡ [] → rest_in j (suc (s.begun j)) xs ≡ None) →
              (if b then rest_after x.statement x.reply.answer (rest_in j (suc (s.begun j)) xs) else rest_in j (suc (s.begun j)) xs) ≡ None
          go true g later = absurd (let bad : (x ∷ filter (is_of j (suc (s.begun j))) xs) ≡ [] = g in cc)
          go false g later = later g

      number_is : (w : Option Write) (n : Option ℕ) → is_some n ≡ is_some w → IfSome n (λ c. c ≡ suc (mark s)) → n ≡ (if is_some w then Some (suc (mark s)) else None)
      number_is None n f g = none_of_no n f
      number_is (Some w) n f g = some_is n (suc (mark s)) f g

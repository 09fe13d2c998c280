-- What is right of lines with silent ones between them is right of them without these, and so are the totals.
use Rattle.std.proofs.Common.{◌≡◌, ℕ, ◌<◌, ◌≤◌, List, [], ◌∷◌, ◌++◌, length, Bool, true, false, Some, None, inl, inr, ◌⊎◌, max, refl, sym, ap, ◌∙◌, subst, arith}
use Rattle.std.specs.Prelude.{◌==◌, ◌&&◌, cond, filter, filter_map, if◌then◌else◌, is_none, not, sum_by, IfSome, IsSome}
use Rattle.std.specs.List.{cons_option, flat_map}
use Rattle.std.specs.Option.{option_map_or}
use Rattle.std.proofs.lemmas.Bool.Decides.{Decides-eqb, nat_tests}
use Rattle.std.proofs.lemmas.List.Sums.{sum_by-append}
use Rattle.hg_base.specs.declared.rid.Rid.{Rid}
use Rattle.hg_base.specs.declared.line.Answer.{Answer}
use Rattle.hg_base.specs.declared.line.Answer.TheVariants.{Newer, OpenBy}
use Rattle.hg_base.specs.declared.report.Kind.{Kind}
use Rattle.hg_base.specs.declared.report.Kind.TheVariants as kinds
use Rattle.hg_base.specs.declared.report.Sweep.{Sweep}
use Rattle.hg_base.specs.declared.report.Told.{Told}
use Rattle.hg_base.specs.declared.line.Totals.{Totals}
use Rattle.hg_base.specs.Conflicts.{ShowsCause, target}
use Rattle.hg_base.specs.Counts.{AreTotals, first_write, first_writes, first_writes_from, is_committed, removed_by}
use Rattle.hg_base.specs.Freshness.{IsHeld, IsReported, is_declared, known, mark_of, numbers_of, prints, snapshot_of}
use Rattle.hg_base.specs.History.{History, Write, image_in, seen}
use Rattle.hg_base.specs.Lists.{Each, EachAfter, onto}
use Rattle.hg_base.specs.Replies.{IsAnswer, is_written}
use Rattle.hg_base.specs.Script.{Script, run}
use Rattle.hg_base.specs.Shape.{report_of, same_kind}
use Rattle.hg_base.specs.Sound.{IsRight}
use Rattle.hg_base.specs.Transcript.{Said, committed, is_of, numbers_in, own_writes, rest_in, stored, stored_by, stored_in}
use Rattle.hg_base.proofs.ListFacts.{cases, cons_option_append, each_keeps, if_some_keeps, match_keeps}
use Rattle.hg_headline.proofs.Counting.{any_committed}
use Rattle.hg_headline.proofs.Words.{is_any}
use Rattle.hg_dump.proofs.Holding.{others_none, others_print}
use Rattle.hg_dump.proofs.Joining.{after_append}
use Rattle.hg_dump.specs.Alone.{IsReaders, IsReportedBut, IsRightBut}
use Rattle.hg_dump.specs.Reader.{IsHeldAt, reader_of}
use Rattle.hg_dump.proofs.Runs.{reader_not_zero}
use Rattle.hg_dump.proofs.Sessions.{top}
use Rattle.hg_dump.proofs.Quiet.{IsCollecting, IsSilent, any_between, picked_between, sum_none}

-- ---- line by line

module _ (rounds : ℕ) (script : Script) (ats : List ℕ) (h : History) (xs ys zs : List Said) (silent : Each (IsSilent (reader_of script)) ys) (collecting : Each IsCollecting zs) where
  abbrev j : ℕ
  j = reader_of script

  other : (j == 0) ≡ false
  other = reader_not_zero (max 1 (top script))

  abbrev with_it : List Said
  with_it = xs ++ (ys ++ zs)

  abbrev without : List Said
  without = xs ++ zs

  stores_same : (k x : ℕ) → stored_in k x with_it ≡ stored_in k x without
  stores_same k x = picked_between stored (is_of k x) xs ys zs (each_keeps (IsSilent j) (λ y. stored y ≡ None) (λ y s. s.writes) ys silent)

  numbers_same : (k x : ℕ) → numbers_in k x with_it ≡ numbers_in k x without
  numbers_same k x = picked_between committed (is_of k x) xs ys zs (each_keeps (IsSilent j) (λ y. committed y ≡ None) (λ y s. s.commits) ys silent)

  cause_same : (earlier : List Said) (now : Said) (r : Rid) (a : Answer) → ShowsCause (run rounds) h with_it earlier now r a → ShowsCause (run rounds) h without earlier now r a
  cause_same earlier now r (Newer c) m = m
  cause_same earlier now r (OpenBy w) m = (
    m.0,
    record {
      other = m.1.other;
      does = subst (λ ws. IsSome (image_in r ws)) (stores_same w.session w.transaction) m.1.does;
      after = subst (λ ns. Each (λ c. now.at < c) ns) (numbers_same w.session w.transaction) m.1.after;
    },
    tt,
  )
  cause_same earlier now r _ m = tt

  other_session : (told : Told) → (told.session == j) ≡ false → Each (λ (y : Said). (y.session == told.session) ≡ false) ys
  other_session told n = each_keeps (IsSilent j) (λ (y : Said). (y.session == told.session) ≡ false) (λ y s. go y.session told.session s.session n) ys silent
    where
      go : (k t : ℕ) → k ≡ j → (t == j) ≡ false → (k == t) ≡ false
      go k t e n = grind (arith, nat_tests, e, n)

  held_same : (told : Told) → (told.session == j) ≡ false → IsHeld with_it told → IsHeld without told
  held_same told n q = record {
    printed = sym (any_between (prints told) xs ys zs (others_none told ys (other_session told n))) ∙ q.printed;
    declared = match_keeps told.moved (λ m. sym (any_between (λ (s : Said). prints told s && is_declared s.scope) xs ys zs
        (others_print told (λ s. is_declared s.scope) ys (other_session told n))) ∙ m) q.declared;
  }

  -- what is held is held by a session of the script, or the reader's
  abbrev Own : Type 0
  Own = (told : Told) → IsHeld with_it told → IsHeldAt script ats told

  held_but : Own → (told : Told) → IsHeld with_it told → IsHeld without told ⊎ IsReaders script ats told
  held_but own told q = cases (told.session == j)
      (λ same. let is = own told q same in inr (record { session = (Decides-eqb told.session j).0 same; read = is.0; unmoved = is.1 }))
      (λ n. inl (held_same told n q))

  abbrev SameMarks : List Said → List Said → Type 0
  SameMarks a b = (kind : Kind) → filter_map (mark_of kind) a ≡ filter_map (mark_of kind) b

  report_same : Own → (a b : List Said) (sweep : Sweep) → SameMarks a b → IsReported h with_it a sweep → IsReportedBut script ats h without b sweep
  report_same own a b sweep m q = record {
    rising = subst (Each (λ mark. mark ≤ sweep.mark)) (m sweep.kind) q.rising;
    horizon = q.horizon;
    mark = q.mark;
    sessions = q.sessions;
    held = each_keeps (IsHeld with_it) (λ (told : Told). IsHeld without told ⊎ IsReaders script ats told) (held_but own) sweep.held q.held;
  }

  abbrev IsBut : List Said → Said → Type 0
  IsBut = IsRightBut rounds script ats h without

  -- a session's line, after the same lines
  first_right : Own → (earlier : List Said) (now : Said) → IsRight (run rounds) h with_it earlier now → IsBut earlier now
  first_right own earlier now r = record {
    reply = r.reply;
    conflict = if_some_keeps (target now.statement) (λ q. ShowsCause (run rounds) h with_it earlier now q now.reply.answer)
        (λ q. ShowsCause (run rounds) h without earlier now q now.reply.answer) (λ q m. cause_same earlier now q now.reply.answer m) r.conflict;
    rising = r.fresh.rising;
    report = if_some_keeps (report_of now.reply) (IsReported h with_it earlier) (IsReportedBut script ats h without earlier)
        (λ sweep q. report_same own earlier earlier sweep (λ kind. refl) q) r.fresh.report;
  }

  firsts_right : Own → (earlier some : List Said) → EachAfter (IsRight (run rounds) h with_it) earlier some → EachAfter IsBut earlier some
  firsts_right own earlier [] r = tt
  firsts_right own earlier (s ∷ some) r = (first_right own earlier s r.0, firsts_right own (s ∷ earlier) some r.1)

  -- a collector's line
  last_right : Own → (a b : List Said) (now : Said) → IsCollecting now → SameMarks a b → known 0 a ≡ known 0 b → IsRight (run rounds) h with_it a now → IsBut b now
  last_right own a b now c m k r = record {
    reply = record {
      at = r.reply.at;
      number = r.reply.number;
      snapshot = r.reply.snapshot;
      answer = subst (λ s. IsAnswer (run rounds) (seen h (own_writes b now) now.at) (is_written (own_writes b now)) (rest_in now.session now.transaction b) now s) (sym c.statement)
          (subst (λ s. IsAnswer (run rounds) (seen h (own_writes a now) now.at) (is_written (own_writes a now)) (rest_in now.session now.transaction a) now s) c.statement r.reply.answer);
    };
    conflict = subst (λ s. IfSome (target s) (λ q. ShowsCause (run rounds) h without b now q now.reply.answer)) (sym c.statement) tt;
    rising = subst (λ ns. IfSome (snapshot_of now) (λ s. Each (λ n. n ≤ s) ns)) (ap (λ i. known i a) c.session ∙ k ∙ sym (ap (λ i. known i b) c.session)) r.fresh.rising;
    report = if_some_keeps (report_of now.reply) (IsReported h with_it a) (IsReportedBut script ats h without b) (λ sweep q. report_same own a b sweep m q) r.fresh.report;
  }

  known_more : (a b : List Said) (now : Said) → known 0 a ≡ known 0 b → known 0 (now ∷ a) ≡ known 0 (now ∷ b)
  known_more a b now k = go (now.session == 0)
    where
      go : (t : Bool) → flat_map numbers_of (cond t (now ∷ filter (λ (s : Said). s.session == 0) a) (filter (λ (s : Said). s.session == 0) a)) ≡ flat_map numbers_of
          (cond t (now ∷ filter (λ (s : Said). s.session == 0) b) (filter (λ (s : Said). s.session == 0) b))
      go true = ap (λ l. numbers_of now ++ l) k
      go false = k

  lasts_right : Own → (a b some : List Said) → Each IsCollecting some → SameMarks a b → known 0 a ≡ known 0 b → EachAfter (IsRight (run rounds) h with_it) a some → EachAfter IsBut b some
  lasts_right own a b [] c m k r = tt
  lasts_right own a b (s ∷ some) c m k r = (
    last_right own a b s c.0 m k r.0,
    lasts_right own (s ∷ a) (s ∷ b) some c.1 (λ kind. ap (cons_option (mark_of kind s)) (m kind)) (known_more a b s k) r.1,
  )

  -- the reader's lines have no mark and are of no collector
  marks_over : (some earlier : List Said) → Each (IsSilent j) some → SameMarks (onto some earlier) earlier
  marks_over [] earlier s kind = refl
  marks_over (y ∷ some) earlier s kind =
      marks_over some (y ∷ earlier) s.1 kind
      ∙ ap (λ o. cons_option (elim o [ None ↦ None | Some sweep ↦ if same_kind sweep.kind kind then Some sweep.mark else None ]) (filter_map (mark_of kind) earlier)) s.0.reports

  known_over : (some earlier : List Said) → Each (IsSilent j) some → known 0 (onto some earlier) ≡ known 0 earlier
  known_over [] earlier s = refl
  known_over (y ∷ some) earlier s =
      known_over some (y ∷ earlier) s.1
      ∙ ap (λ t. flat_map numbers_of (cond t (y ∷ filter (λ (x : Said). x.session == 0) earlier) (filter (λ (x : Said). x.session == 0) earlier))) (ap (λ i. i == 0) s.0.session ∙ other)

  pub right_without : Own → EachAfter (IsRight (run rounds) h with_it) [] with_it → EachAfter IsBut [] without
  right_without own r =
      let parts = after_append (IsRight (run rounds) h with_it) [] xs (ys ++ zs) r in
      let more = after_append (IsRight (run rounds) h with_it) (onto xs []) ys zs parts.1 in
      after_join IsBut [] xs zs (firsts_right own [] xs parts.0)
      (lasts_right own (onto ys (onto xs [])) (onto xs []) zs collecting (marks_over ys (onto xs []) silent) (known_over ys (onto xs []) silent) more.1)
    where
      after_join : {X : Type 0} (P : List X → X → Type 0) (earlier cs bs : List X) → EachAfter P earlier cs → EachAfter P (onto cs earlier) bs → EachAfter P earlier (cs ++ bs)
      after_join P earlier [] bs p q = q
      after_join P earlier (x ∷ cs) bs p q = (p.0, after_join P (x ∷ earlier) cs bs p.1 q)

  -- ---- totals

  firsts_append : (earlier cs bs : List Said) → first_writes_from earlier (cs ++ bs) ≡ first_writes_from earlier cs ++ first_writes_from (onto cs earlier) bs
  firsts_append earlier [] bs = refl
  firsts_append earlier (x ∷ cs) bs = ap (cons_option (first_write earlier x)) (firsts_append (x ∷ earlier) cs bs) ∙
      cons_option_append (first_write earlier x) (first_writes_from (x ∷ earlier) cs) (first_writes_from (onto cs (x ∷ earlier)) bs)

  firsts_none : (earlier some : List Said) → Each (λ s. stored s ≡ None) some → first_writes_from earlier some ≡ []
  firsts_none earlier [] e = refl
  firsts_none earlier (x ∷ some) e =
      ap (λ o. cons_option (if option_map_or (λ (w : Write). is_none (image_in w.rid (own_writes earlier x))) o false then Some x else None) (first_writes_from (x ∷ earlier) some)) e.0
      ∙ firsts_none (x ∷ earlier) some e.1

  ys_store : Each (λ s. stored s ≡ None) ys
  ys_store = each_keeps (IsSilent j) (λ s. stored s ≡ None) (λ y s. s.writes) ys silent

  zs_store : Each (λ s. stored s ≡ None) zs
  zs_store = each_keeps IsCollecting (λ s. stored s ≡ None) (λ z c. ap (λ s. stored_by s z.reply.answer) c.statement) zs collecting

  firsts_same : first_writes with_it ≡ first_writes without
  firsts_same =
      firsts_append [] xs (ys ++ zs)
      ∙ ap (λ l. first_writes xs ++ l) (firsts_append (onto xs []) ys zs ∙ (λ i. firsts_none (onto xs []) ys ys_store i ++ firsts_none (onto ys (onto xs [])) zs zs_store i))
      ∙ sym (firsts_append [] xs zs ∙ ap (λ l. first_writes xs ++ l) (firsts_none (onto xs []) zs zs_store))

  committed_same : (s : Said) → is_committed with_it s ≡ is_committed without s
  committed_same s =
      any_committed (filter (is_of s.session s.transaction) with_it) ∙ ap is_any (numbers_same s.session s.transaction) ∙ sym (any_committed (filter (is_of s.session s.transaction) without))

  removed_same : (kind : Kind) → sum_by (removed_by kind) with_it ≡ sum_by (removed_by kind) without
  removed_same kind =
      let a = sum_by-append (removed_by kind) xs (ys ++ zs) in
      let b = sum_by-append (removed_by kind) ys zs in
      let c = sum_by-append (removed_by kind) xs zs in
      let none = sum_none (removed_by kind) ys (each_keeps (IsSilent j) (λ s. removed_by kind s ≡ 0)
      (λ y s. ap (λ o. option_map_or (λ (sweep : Sweep). if same_kind sweep.kind kind then sweep.removed else 0) o 0) s.reports) ys silent) in
      omega (arith, a, b, c, none)

  pub totals_without : (k : History) (totals : Totals) → AreTotals with_it k totals → AreTotals without k totals
  totals_without k totals t = record {
    made = t.made ∙ ap (λ l. length l) firsts_same;
    undone = t.undone ∙ (λ i. length (filter (λ s. not (committed_same s i)) (firsts_same i)));
    group = t.group ∙ removed_same kinds.Group;
    table = (let is = removed_same kinds.Table in let most = t.table in omega (arith, is, most));
    interval = t.interval ∙ removed_same kinds.Interval;
    left = t.left;
    balance = t.balance;
  }

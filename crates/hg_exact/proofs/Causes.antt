-- A refused write shows its cause, by what is open and by the history so far.
use Rattle.std.proofs.Common.{◌≡◌, ℕ, ◌<◌, ◌⊎◌, inl, inr, List, [], ◌∷◌, ◌++◌, map, max, Bool, true, false, Option, Some, None, refl, sym, ap, ◌∙◌, subst, arith}
use Rattle.std.specs.Prelude.{◌==◌, ◌||◌, cond, filter, filter_map, is_some, nat_lt, option_map, if◌then◌else◌, IsFalse, IsSome}
use Rattle.std.specs.List.{list_any, cons_option}
use Rattle.std.proofs.lemmas.Bool.{or_parts}
use Rattle.std.proofs.lemmas.Bool.Decides.{Decides-eqb, nat_tests}
use Rattle.hg_base.specs.declared.rid.Rid.{Rid}
use Rattle.hg_base.specs.declared.image.Image.{Image}
use Rattle.hg_base.specs.declared.writer.Writer.{Writer}
use Rattle.hg_base.specs.declared.statement.Statement.{Statement}
use Rattle.hg_base.specs.declared.statement.Statement.TheVariants.{Commit as CommitIt}
use Rattle.hg_base.specs.declared.line.Answer.{Answer}
use Rattle.hg_base.specs.declared.line.Answer.TheVariants.{Stored, Gone}
use Rattle.hg_base.specs.Lists.{Each, greatest, onto}
use Rattle.hg_base.specs.History.{History, image_in, writes}
use Rattle.hg_base.specs.Script.{replay}
use Rattle.hg_base.specs.Transcript.{Said, committed, committed_by, ends, is_end, is_of, numbers_in, open_of, own_writes, stored_in}
use Rattle.hg_base.specs.Conflicts.{IsStillOpen, ShowsCause, ShowsNewer, ShowsOpen, target}
use Rattle.hg_base.proofs.ListFacts.{cases, each_append}
use Rattle.hg_base.proofs.Extending.{numbers_in_append, still_written, stored_in_append}
use Rattle.hg_headline.proofs.Commits.{image_of_onto, printed_onto, stored_onto}
use Rattle.hg_headline.proofs.Words.{each_onto}
use Rattle.hg_exact.specs.State.{Open, State}
use Rattle.hg_exact.specs.Answers.{answer_in, newest, writer_of, writers}
use Rattle.hg_exact.proofs.Answering.{target_by}
use Rattle.hg_exact.proofs.Keeping.{newest_most, not_none, picked_first, writer_is, wrote_by}
use Rattle.hg_exact.proofs.Standing.{Shows, differs, not_session, open_as, opened_in}

-- ---- a transaction that goes on has printed no commit number

no_commit : (said : Said) → ends said ≡ false → committed said ≡ None
no_commit said e = go said.alone said.statement (or_parts said.alone (is_end said.statement) e)
  where
    go : (b : Bool) (st : Statement) → (b ≡ false) × (is_end st ≡ false) → (if b then said.reply.number else committed_by st said.reply.answer) ≡ None
    go b CommitIt h = absurd (let bad : true ≡ false = h.1 in cc)
    go true st h = absurd (let bad : true ≡ false = h.0 in cc)
    go false st h = none st h.1
      where
        none : (it : Statement) → is_end it ≡ false → committed_by it said.reply.answer ≡ None
        none CommitIt f = absurd (let bad : true ≡ false = f in cc)
        none _ f = refl

no_numbers : (xs : List Said) → list_any ends xs ≡ false → filter_map committed xs ≡ []
no_numbers [] e = refl
no_numbers (x ∷ xs) e =
    let parts = or_parts (ends x) (list_any ends xs) e in
    ap (λ o. cons_option o (filter_map committed xs)) (no_commit x parts.0) ∙ no_numbers xs parts.1

-- ---- the newest group writes the record

pub greatest_in : (ws : List (ℕ × Image)) → 0 < greatest (map (λ (w : ℕ × Image). w.0) ws) → list_any (λ (w : ℕ × Image). w.0 == greatest (map (λ (v : ℕ × Image). v.0) ws)) ws ≡ true
greatest_in [] k = absurd (omega (arith, k))
greatest_in (w ∷ ws) k = go (greatest (map (λ (v : ℕ × Image). v.0) ws)) k (λ l. greatest_in ws l)
  where
    go : (g : ℕ) → 0 < max w.0 g → (0 < g → list_any (λ (v : ℕ × Image). v.0 == g) ws ≡ true) → list_any (λ (v : ℕ × Image). v.0 == max w.0 g) (w ∷ ws) ≡ true
    go g l later = cases (nat_lt w.0 g)
        (λ e. let is : max w.0 g ≡ g = grind (arith, nat_tests) in
        subst (λ n. list_any (λ (v : ℕ × Image). v.0 == n) (w ∷ ws) ≡ true) (sym is) (or_keeps (w.0 == g) (list_any (λ (v : ℕ × Image). v.0 == g) ws) (later (grind (arith, nat_tests)))))
        (λ e. let is : max w.0 g ≡ w.0 = grind (arith, nat_tests) in
        subst (λ n. list_any (λ (v : ℕ × Image). v.0 == n) (w ∷ ws) ≡ true) (sym is) (ap (λ b. b || list_any (λ (v : ℕ × Image). v.0 == w.0) ws) ((Decides-eqb w.0 w.0).1 refl)))
      where
        or_keeps : (a b : Bool) → b ≡ true → (a || b) ≡ true
        or_keeps true b e = refl
        or_keeps false b e = e

pub shows_newer : (h : History) (at : ℕ) (r : Rid) → at < newest h r → ShowsNewer h at r (newest h r)
shows_newer h at r k = record { over = k; within = newest_most h r; does = greatest_in (writes h r) (omega (arith, k)) }

-- ---- another's open write

opened_is : (j : ℕ) (earlier : List Said) (x : Option Open) (o : Open) → x ≡ opened_in j earlier → x ≡ Some o → (q : Said) × (open_of j earlier ≡ Some q) × (o ≡ open_as j earlier q)
opened_is j earlier x o e f = go (open_of j earlier) refl (sym e ∙ f)
  where
    some_same : (a b : Open) → Some a ≡ Some b → b ≡ a
    some_same a b g = cc

    go : (y : Option Said) → open_of j earlier ≡ y → option_map (open_as j earlier) y ≡ Some o → (q : Said) × (open_of j earlier ≡ Some q) × (o ≡ open_as j earlier q)
    go None g k = absurd (let bad : None ≡ Some o = k in cc)
    go (Some q) g k = (q, g, some_same (open_as j earlier q) o k)

pub opened_at : (j : ℕ) (earlier : List Said) (x : Option Open) (o : Open) → x ≡ opened_in j earlier → x ≡ Some o → (q : Said) × (open_of j earlier ≡ Some q) × (o ≡ open_as j earlier q)
opened_at = opened_is

module _ (s : State) (all : List Said) (now : Said) (shows : Shows (onto all []) s.begun s.opened) where
  abbrev earlier : List Said
  earlier = onto all []

  abbrev after : List Said
  after = all ++ now ∷ []

  open_shown : (k x : ℕ) (r : Rid) (q : Said) → (k ≡ now.session → ⊥) → open_of k earlier ≡ Some q → q.transaction ≡ x → IsSome (image_in r (stored_in k x earlier)) →
      ShowsOpen (stored_in k x after) (numbers_in k x after) now.session now.at r (record { session = k; transaction = x }) × IsStillOpen earlier r (record { session = k; transaction = x })
  open_shown k x r q other e number wrote =
      let goes : list_any ends (filter (is_of k x) earlier) ≡ false = subst (λ n. list_any ends (filter (is_of k n) earlier) ≡ false) number (shows.goes k q e) in
      let none : numbers_in k x earlier ≡ [] = no_numbers (filter (is_of k x) earlier) goes in
      let before : Each (λ c. now.at < c) (numbers_in k x all) = (each_onto (λ c. now.at < c) (numbers_in k x all) [] (subst (Each (λ c. now.at < c)) (sym none ∙ printed_onto k x all) tt)).0 in
      let off : is_of k x now ≡ false = not_session k x now (differs now.session k (λ g. other (sym g))) in
      let here : numbers_in k x (now ∷ []) ≡ [] = ap (λ b. filter_map committed (cond b (now ∷ []) [])) off in (
        record {
          other = differs k now.session other;
          does = subst (λ ws. IsSome (image_in r ws)) (sym (stored_in_append k x all (now ∷ [])))
              (still_written r (stored_in k x all) (stored_in k x (now ∷ [])) (image_of_onto r (stored_in k x all) (subst (λ ws. IsSome (image_in r ws)) (stored_onto k x all) wrote)));
          after = subst (Each (λ c. now.at < c)) (sym (numbers_in_append k x all (now ∷ []))) (each_append (λ c. now.at < c) (numbers_in k x all) (numbers_in k x (now ∷ [])) before
              (subst (Each (λ c. now.at < c)) (sym here) tt));
        },
        record { does = wrote; opened = goes },
      )

  held_shown : (w : Writer) (ws : List Writer) (r : Rid) → image_in r (wrote_by (s.opened now.session)) ≡ None → writers s r ≡ w ∷ ws →
      ShowsOpen (stored_in w.session w.transaction after) (numbers_in w.session w.transaction after) now.session now.at r w × IsStillOpen earlier r w
  held_shown w ws r mine e =
      let first = picked_first (λ j. writer_of r j (s.opened j)) 1 s.sessions w ws e in
      let k : ℕ = first.0 in
      let is = writer_is r k (s.opened k) w first.1 in
      let o : Open = is.0 in
      let at = opened_is k earlier (s.opened k) o (shows.opened k) is.1 in
      let q : Said = at.0 in
      let number : q.transaction ≡ o.transaction = ap (λ (x : Open). x.transaction) (sym at.2) in
      let wrote : IsSome (image_in r (stored_in k o.transaction earlier)) = subst (λ n. IsSome (image_in r (stored_in k n earlier))) number
      (subst (λ (x : Open). IsSome (image_in r x.wrote)) at.2 is.2) in
      let other : k ≡ now.session → ⊥ = λ g. not_none (image_in r (wrote_by (s.opened now.session))) mine (subst (λ x. IsSome (image_in r (wrote_by x))) (sym (ap s.opened (sym g) ∙ is.1)) is.2) in
      let back : record { session = k; transaction = o.transaction } ≡ w = (λ i. record { session = sym is.3 i; transaction = sym is.4 i }) in
      subst (λ (v : Writer). ShowsOpen (stored_in v.session v.transaction after) (numbers_in v.session v.transaction after) now.session now.at r v × IsStillOpen earlier r v) back
      (open_shown k o.transaction r q other at.1 number wrote)

  -- a write of the transaction o, as the line says it
  pub cause_shown : (o : Open) (st : Statement) (r : Rid) → target st ≡ Some r → own_writes earlier now ≡ o.wrote → now.at ≡ o.at →
      (image_in r o.wrote ≡ None → image_in r (wrote_by (s.opened now.session)) ≡ None) → ShowsCause replay s.history after earlier now r (answer_in s o st)
  cause_shown o st r e own at mine =
      target_by (ShowsCause replay s.history after earlier now r) s o r st e tt tt
      (λ a is k. stored a is)
      (λ w ws none f. let shown = held_shown w ws r (mine none) f in (unwritten none, shown.0, shown.1))
      (λ none f k. (unwritten none, subst (λ n. ShowsNewer s.history n r (newest s.history r)) (sym at) (shows_newer s.history o.at r k)))
    where
      stored : (a : Answer) → (a ≡ Stored) ⊎ (a ≡ Gone) → ShowsCause replay s.history after earlier now r a
      stored a (inl g) = subst (ShowsCause replay s.history after earlier now r) (sym g) tt
      stored a (inr g) = subst (ShowsCause replay s.history after earlier now r) (sym g) tt

      unwritten : image_in r o.wrote ≡ None → IsFalse (is_some (image_in r (own_writes earlier now)))
      unwritten none = ap (λ ws. is_some (image_in r ws)) own ∙ ap is_some none

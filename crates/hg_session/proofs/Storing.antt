-- What a write leaves, by its answer.
use Rattle.std.proofs.Common.{◌≡◌, ℕ, ◌<◌, List, ◌++◌, Bool, true, false, cond, Option, Some, None, refl, sym, ap, ◌∙◌, subst, arith}
use Rattle.std.specs.Prelude.{IsFalse, ◌==◌, IfErr, OnOk, OnErr, IfSome, Result, Ok, Err, nat_le, option_and_then, ⊤}
use Rattle.std.proofs.lemmas.Option.{none-some}
use Rattle.std.proofs.lemmas.Bool.Decides.{nat_tests}
use Rattle.hg_base.specs.declared.rid.Rid.{Rid}
use Rattle.hg_base.specs.declared.image.Image.{Image}
use Rattle.hg_base.specs.declared.writer.Writer.{Writer}
use Rattle.hg_base.specs.declared.line.Answer.{Answer}
use Rattle.hg_base.specs.declared.line.Answer.TheVariants as answers
use Rattle.hg_base.specs.declared.value.Value.{Value}
use Rattle.hg_base.specs.Lists.{Each}
use Rattle.hg_core.specs.declared.ask.Ask.TheVariants.{Write}
use Rattle.hg_core.specs.declared.log.LogEntry.TheVariants.{Wrote}
use Rattle.hg_core.specs.Versions.{newest_at, unpublished}
use Rattle.hg_core.specs.Events.{with_refusal}
use Rattle.hg_base.specs.History.{same_writer}
use Rattle.hg_core.specs.Replies.{refused_over, refused_by, refusal}
use Rattle.hg_bucket.specs.declared.refusal.WriteRefusal.{WriteRefusal}
use Rattle.hg_bucket.specs.declared.refusal.WriteRefusal.TheVariants.{Open, Newer, NoMemory}
use Rattle.hg_rule.specs.declared.view.SessionPart.{SessionPart}
use Rattle.hg_rule.specs.declared.view.Sight.{Sight}
use Rattle.hg_rule.specs.declared.view.Sight.TheVariants.{Heard}
use Rattle.hg_rule.specs.declared.view.View.{View}
use Rattle.hg_rule.specs.declared.view.Sizes.{Sizes}
use Rattle.hg_rule.specs.Facts.{IsAmong}
use Rattle.hg_rule.specs.Views.{number, session}
use Rattle.hg_rule.specs.Holding.{held, writer, snapshot}
use Rattle.hg_rule.specs.Writes.{with_log, with_entry, log_asked, Installs}
use Rattle.hg_rule.specs.Places.{without_bucket}
use Rattle.hg_rule.proofs.Lists.{each_left}
use Rattle.hg_bucket.specs.Conflicts.{open_by}
use Rattle.hg_store.specs.Ends.{HasNoEnd}
use Rattle.hg_store.specs.Kept.{refusal_of}
use Rattle.hg_store.specs.Writing.{Writes, IsCause, IsAnothers, OwnerGoesOn}
use Rattle.hg_store.proofs.Refusing.{same_opened}
use Rattle.hg_store.proofs.Storing.{free_at, told_newer}
use Rattle.hg_session.specs.Gains.{entries_of, IsRefusedBy}
use Rattle.hg_session.proofs.Trips.{installed}
use Rattle.hg_cursor.proofs.Trips.{first_number, first_session, Beside, looked}
use Rattle.hg_session.proofs.Settling.{Trip, trip}

told_open : (o : Option Answer) (w : Writer) → option_and_then refusal_of o ≡ Some (open_by w) → o ≡ Some (answers.OpenBy w)
told_open None w e = absurd (none-some (open_by w) e)
told_open (Some (answers.OpenBy x)) w e = let same : x ≡ w = same_opened x w e in ap (λ y. Some (answers.OpenBy y)) same
told_open (Some (answers.Newer n)) w e = absurd cc
told_open (Some _) w e = absurd (none-some (open_by w) e)

-- a number that refuses is over the snapshot
over_snapshot : (n at m : ℕ) (w : Writer) (p : Option (Writer × Image)) (q : Option (ℕ × Image)) → refused_by w p (refused_over at q) ≡ Some (answers.Newer m) → at < m
over_snapshot n at m w None None e = absurd (none-some (answers.Newer m) e)
over_snapshot n at m w None (Some q) e = go (nat_le q.0 at) refl e
  where
    go : (b : Bool) → nat_le q.0 at ≡ b → cond b None (Some (answers.Newer q.0)) ≡ Some (answers.Newer m) → at < m
    go true f e = absurd (none-some (answers.Newer m) e)
    go false f e = let same : q.0 ≡ m = cc in grind (arith, nat_tests, f, same)
over_snapshot n at m w (Some p) q e = go (same_writer p.0 w) e
  where
    go : (b : Bool) → cond b None (Some (answers.OpenBy p.0)) ≡ Some (answers.Newer m) → at < m
    go true e = absurd (none-some (answers.Newer m) e)
    go false e = absurd cc

-- what the look of a write that is refused logs
refused_log : (n : ℕ) (u : View) (rid : Rid) (image : Image) (e : WriteRefusal) (rows : List (ℕ × List Value)) → IsCause n u rid e →
    log_asked u (Write rid) n rows ≡ entries_of {T = Bool} rid image (Err e) ++ (session u).log
refused_log n u rid image (Open j x) rows c = ap (λ o. with_refusal rid o (session u).log) (told_open (refusal n (writer u) (snapshot u) (held u rid)) (record { session = j; transaction = x }) c)
refused_log n u rid image (Newer m) rows c = ap (λ o. with_refusal rid o (session u).log) (told_newer (refusal n (writer u) (snapshot u) (held u rid)) m c)
refused_log n u rid image NoMemory rows c =
    let found : Result Bool WriteRefusal = Ok true in
    ap (λ o. with_refusal rid o (session u).log) (free_at n u rid found true refl (subst (λ o. IfSome o (λ e. found ≡ Err e)) (sym c.0) tt))

-- what a refusal logs, whatever the answer would have been
pub refused_entries : (rid : Rid) (image : Image) (e : WriteRefusal) → entries_of {T = Bool} rid image (Err e) ≡ entries_of {T = ⊤} rid image (Err e)
refused_entries rid image (Open j x) = refl
refused_entries rid image (Newer n) = refl
refused_entries rid image NoMemory = refl

module _ (j b : ℕ) (part : SessionPart) (old : List Sight) (rid : Rid) (image : Image) (answer : Result Bool WriteRefusal) (u w x : View) (h : Beside j part b old u)
    (k : Writes u rid image answer w) (gives : x ≡ without_bucket w) where
  same_part : session u ≡ part
  same_part = first_session u j part _ h.parts

  trip_refused : (e : WriteRefusal) → answer ≡ Err e → Trip j (with_log (entries_of {T = Bool} rid image (Err e) ++ part.log) part) b old w x
  trip_refused e is =
      let cause = subst (λ a. IfErr a (IsCause k.mark u rid)) is k.cause in
      let stays = subst (λ a. OnErr a (w ≡ k.looked)) is k.stays in
      let log = refused_log k.mark u rid image e k.looks.rows cause ∙ ap (λ (p : SessionPart). entries_of {T = Bool} rid image (Err e) ++ p.log) same_part in
      let l = looked j part b k.mark old (Write rid) u k.looked h k.looks in
      let here : Beside j (with_log (entries_of {T = Bool} rid image (Err e) ++ part.log) part) b old w = subst
      (Beside j (with_log (entries_of {T = Bool} rid image (Err e) ++ part.log) part) b old) (sym stays) (subst (λ y. Beside j (with_log y part) b old k.looked) log l.0) in
      let heard = subst (λ (v : View). IsAmong (Heard j (entries_of {T = Bool} rid image (Err e) ++ part.log)) v.sights) (sym stays) (subst (λ y. IsAmong (Heard j y) k.looked.sights) log l.1) in
      trip j b _ old w x here heard gives

  trip_stored : (t : Bool) → answer ≡ Ok t → Trip j (with_entry (Wrote rid image) part) b old w x
  trip_stored t is =
      let none = free_at k.mark u rid answer t is k.refuses in
      let stored = subst (λ a. OnOk a (Installs k.looked rid image w)) is k.stored in
      let log : log_asked u (Write rid) k.mark k.looks.rows ≡ part.log = ap (λ o. with_refusal rid o (session u).log) none ∙ ap (λ (p : SessionPart). p.log) same_part in
      let l = looked j part b k.mark old (Write rid) u k.looked h k.looks in
      let there : Beside j part b old k.looked = subst (λ y. Beside j (with_log y part) b old k.looked) log l.0 in
      let i = installed j part b old rid image k.looked w there stored in
      trip j b _ old w x i.0 i.1 gives

  refused_told : (z : Sizes) (v : View) (at : ℕ) (e : WriteRefusal) → answer ≡ Err e → number v ≡ j → old ≡ v.sights → at ≡ snapshot u →
      IfErr answer (IsAnothers z (number u)) → IsRefusedBy z v at e
  refused_told z v at (Open i y) is n s a owner =
      let o : Writer = record { session = i; transaction = y } in
      let who = subst (λ r. IfErr r (IsAnothers z (number u))) is owner in
      let goes = subst (λ r. IfErr r (OwnerGoesOn u.sights)) is k.goes_on in
      let seen : Each (HasNoEnd o) (v.sights ++ h.kept.0) = subst (Each (HasNoEnd o)) (h.kept.1 ∙ ap (λ l. l ++ h.kept.0) s) goes in
      (who.0, (subst (λ m. IsFalse (o.session == m)) (first_number u j part _ h.parts ∙ sym n) who.1, each_left (HasNoEnd o) v.sights h.kept.0 seen))
  refused_told z v at (Newer m) is n s a owner =
      let cause = subst (λ r. IfErr r (IsCause k.mark u rid)) is k.cause in
      subst (λ y. y < m) (sym a) (over_snapshot k.mark (snapshot u) m (writer u) (unpublished k.mark (held u rid)) (newest_at k.mark (held u rid))
      (told_newer (refusal k.mark (writer u) (snapshot u) (held u rid)) m cause))
  refused_told z v at NoMemory is n s a owner = tt

  pub trip_written : (a : Result Bool WriteRefusal) → answer ≡ a → Trip j (with_log (entries_of {T = Bool} rid image a ++ part.log) part) b old w x
  trip_written (Ok t) is = trip_stored t is
  trip_written (Err e) is = trip_refused e is

  pub told : (z : Sizes) (v : View) (at : ℕ) (a : Result Bool WriteRefusal) → answer ≡ a → number v ≡ j → old ≡ v.sights → at ≡ snapshot u → IfErr answer (IsAnothers z (number u)) →
      IfErr a (IsRefusedBy z v at)
  told z v at (Ok t) is n s same owner = tt
  told z v at (Err e) is n s same owner = refused_told z v at e is n s same owner

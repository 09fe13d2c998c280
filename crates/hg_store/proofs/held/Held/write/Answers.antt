use Rattle.std.proofs.Common.{◌≡◌, ◌+◌, Err, None, refl, sym, ap, ◌∙◌, subst, arith, rules}
use Rattle.std.specs.Prelude.{not, IfOk, IfErr, IfSome, OnOk, OnErr, if◌then◌else◌}
use Rattle.hg_base.specs.declared.writer.Writer.{Writer}
use Rattle.hg_bucket.specs.declared.refusal.WriteRefusal.TheVariants.{Newer}
use Rattle.hg_bucket.specs.Conflicts.{holder, newer, IsCause, open_by}
use Rattle.hg_bucket.specs.BucketModel.{BucketModel, versions_of, installed, begins_open}
use Rattle.hg_rule.specs.Seats.{session_view, sizes_of}
use Rattle.hg_rule.specs.Holding.{writer, snapshot, held}
use Rattle.hg_rule.specs.Writes.{Installs}
use Rattle.hg_core.specs.Versions.{IsFreeFor}
use Rattle.hg_core.specs.Ordered.{IsOrdered}
use Rattle.hg_store.specs.Writing.{refused_at}
use Rattle.hg_store.proofs.Refusing.{free_of}
use Rattle.hg_store.proofs.Deciding.{decided, same_cause}
use Rattle.hg_store.proofs.Firsts.{goes_on, refused_first, stored_first}
use Rattle.hg_store.proofs.Storing.{none_refuses, same_holds, refusal_told, refused_writes, free_at, seen_after, install_holds, writer_same_after, content_after}
use Rattle.hg_store.proofs.Stepping.{look_holds}
use Rattle.hg_store.proofs.Owning.{open_logged, owner_told}
use Rattle.hg_store.proofs.Boxing.{boxed, boxed_holds}
use Rattle.hg_store.proofs.held.Held.write.Goals as goal

pub write-requires : goal.write-requires
write-requires c =
    let d = decided (sizes_of c.args.board.now) c.look-mark.result (session_view c.args.pass.now) (session_view c.look-mark.new.pass) c.args.self.now c.args.rid c.requires.holds.1
    c.look-mark.ensures.step.looks c.look-mark.ensures.step.backed c.requires.here c.requires.open.2 c.requires.open.0 in
    omega (arith, ap (λ (b : BucketModel). b.made) c.deref_mut.ensures.value, d.made c.requires.holds.0.2 c.requires.room, c.requires.holds.1.keeps.made, c.args.board.now.room.begins)

pub returns-in_err-added-clause-step : goal.returns-in_err-added-clause-step
returns-in_err-added-clause-step c =
    let n = c.look-mark.result in
    let v = session_view c.args.pass.now in
    let w = session_view c.look-mark.new.pass in
    let r = c.args.rid in
    let ks = versions_of c.deref_mut.result.now.records r in
    let hold = boxed_holds c.args.self.now c.deref_mut.result.now c.deref_mut.ensures.value c.requires.holds.1 in
    let cause = subst (λ (b : Writer). IfErr c.write.result (IsCause b (snapshot v) n ks)) c.requires.words.0
    (subst (λ s. IfErr c.write.result (IsCause c.args.author.writer s n ks)) c.requires.words.1 c.write.ensures.cause) in
    let d = decided (sizes_of c.args.board.now) n v w (boxed c.args.self.now c.deref_mut.result.now) r
    (boxed_holds c.args.self.now c.deref_mut.result.now c.deref_mut.ensures.value c.requires.holds.1) c.look-mark.ensures.step.looks c.look-mark.ensures.step.backed
    c.requires.here c.requires.open.2 c.requires.open.0 in
    let same : c.from_residual.result ≡ Err c.in_err-added.field-0.0 = search rules in
    let told = refusal_told (sizes_of c.args.board.now) n v (boxed c.args.self.now c.deref_mut.result.now) r c.write.result
    (boxed_holds c.args.self.now c.deref_mut.result.now c.deref_mut.ensures.value c.requires.holds.1) d
    (subst (λ (b : Writer). IfSome (holder b n ks) (λ x. c.write.result ≡ Err (open_by x))) c.requires.words.0 c.write.ensures.open)
    (subst (λ (b : Writer). holder b n ks ≡ None → IfSome (newer (snapshot v) ks) (λ m. c.write.result ≡ Err (Newer m))) c.requires.words.0
    (subst (λ s. holder c.args.author.writer n ks ≡ None → IfSome (newer s ks) (λ m. c.write.result ≡ Err (Newer m))) c.requires.words.1 c.write.ensures.newer)) in
    refused_writes (sizes_of c.args.board.now) n v w (boxed c.args.self.now c.deref_mut.result.now) r c.args.image c.write.result c.from_residual.result c.in_err-added.field-0.0
    (boxed_holds c.args.self.now c.deref_mut.result.now c.deref_mut.ensures.value c.requires.holds.1) d c.look-mark.ensures.step.looks c.in_err-added.was same told
    cause
    (goes_on (sizes_of c.args.board.now) n v w (boxed c.args.self.now c.deref_mut.result.now) r hold c.look-mark.ensures.step)
    (refused_first (sizes_of c.args.board.now) n v w (boxed c.args.self.now c.deref_mut.result.now) r hold c.look-mark.ensures.step c.requires.here c.requires.open.0
    c.requires.open.1 c.requires.table.0 c.from_residual.result c.in_err-added.field-0.0 same
    (same_cause (sizes_of c.args.board.now) n v (boxed c.args.self.now c.deref_mut.result.now) r c.in_err-added.field-0.0 hold d
    (subst (λ x. IfErr x (IsCause (writer v) (snapshot v) n ks)) c.in_err-added.was cause)))

pub returns-in_err-added-clause-holds : goal.returns-in_err-added-clause-holds
returns-in_err-added-clause-holds c =
    let w = session_view c.look-mark.new.pass in
    let hold = look_holds (session_view c.args.pass.now) w (boxed c.args.self.now c.deref_mut.result.now) _ c.look-mark.result
    (boxed_holds c.args.self.now c.deref_mut.result.now c.deref_mut.ensures.value c.requires.holds.1) c.look-mark.ensures.step.looks in (
      (
        search rules,
        same_holds w (boxed c.args.self.now c.deref_mut.result.now) _ hold refl
            (subst (λ o. OnErr o (c.write.new.self ≡ c.deref_mut.result.now)) c.in_err-added.was c.write.ensures.refused),
      ),
      (search rules, search rules),
    )

pub install-requires-clause-free : goal.install-requires-clause-free
install-requires-clause-free c =
    let n = c.look-mark.result in
    let v = session_view c.args.pass.now in
    let w = session_view c.look-mark.new.pass in
    let r = c.args.rid in
    let ks = versions_of c.deref_mut.result.now.records r in
    let d = decided (sizes_of c.args.board.now) n v w (boxed c.args.self.now c.deref_mut.result.now) r
    (boxed_holds c.args.self.now c.deref_mut.result.now c.deref_mut.ensures.value c.requires.holds.1) c.look-mark.ensures.step.looks c.look-mark.ensures.step.backed
    c.requires.here c.requires.open.2 c.requires.open.0 in
    let told = refusal_told (sizes_of c.args.board.now) n v (boxed c.args.self.now c.deref_mut.result.now) r c.write.result
    (boxed_holds c.args.self.now c.deref_mut.result.now c.deref_mut.ensures.value c.requires.holds.1) d
    (subst (λ (b : Writer). IfSome (holder b n ks) (λ x. c.write.result ≡ Err (open_by x))) c.requires.words.0 c.write.ensures.open)
    (subst (λ (b : Writer). holder b n ks ≡ None → IfSome (newer (snapshot v) ks) (λ m. c.write.result ≡ Err (Newer m))) c.requires.words.0
    (subst (λ s. holder c.args.author.writer n ks ≡ None → IfSome (newer s ks) (λ m. c.write.result ≡ Err (Newer m))) c.requires.words.1 c.write.ensures.newer)) in
    seen_after (sizes_of c.args.board.now) n v w r d c.look-mark.ensures.step.looks (free_at n v r c.write.result _ c.in_ok-added.was told)

pub returns-clause-holds : goal.returns-clause-holds
returns-clause-holds c =
    let n = c.look-mark.result in
    let v = session_view c.args.pass.now in
    let w = session_view c.look-mark.new.pass in
    let r = c.args.rid in
    let old = c.deref_mut.result.now in
    let new = c.write.new.self in
    let ks = versions_of old.records r in
    let d = decided (sizes_of c.args.board.now) n v w (boxed c.args.self.now c.deref_mut.result.now) r
    (boxed_holds c.args.self.now c.deref_mut.result.now c.deref_mut.ensures.value c.requires.holds.1) c.look-mark.ensures.step.looks c.look-mark.ensures.step.backed
    c.requires.here c.requires.open.2 c.requires.open.0 in
    let told = refusal_told (sizes_of c.args.board.now) n v (boxed c.args.self.now c.deref_mut.result.now) r c.write.result
    (boxed_holds c.args.self.now c.deref_mut.result.now c.deref_mut.ensures.value c.requires.holds.1) d
    (subst (λ (b : Writer). IfSome (holder b n ks) (λ x. c.write.result ≡ Err (open_by x))) c.requires.words.0 c.write.ensures.open)
    (subst (λ (b : Writer). holder b n ks ≡ None → IfSome (newer (snapshot v) ks) (λ m. c.write.result ≡ Err (Newer m))) c.requires.words.0
    (subst (λ s. holder c.args.author.writer n ks ≡ None → IfSome (newer s ks) (λ m. c.write.result ≡ Err (Newer m))) c.requires.words.1 c.write.ensures.newer)) in
    let free = free_at n v r c.write.result _ c.in_ok-added.was told in
    let by = c.requires.words.0 ∙ sym (writer_same_after n v w r c.look-mark.ensures.step.looks) in
    let stored = subst (λ o. OnOk o (versions_of new.records r ≡ installed c.args.author.writer c.args.image ks)) c.in_ok-added.was c.write.ensures.stored in
    let made = subst (λ o. OnOk o (new ≡ record old { records = new.records; long = new.long; made = old.made + (if begins_open c.args.author.writer ks then 0 else 1) })) c.in_ok-added.was
    c.write.ensures.made in
    let hold = look_holds v w (boxed c.args.self.now c.deref_mut.result.now) _ n (boxed_holds c.args.self.now c.deref_mut.result.now c.deref_mut.ensures.value c.requires.holds.1)
    c.look-mark.ensures.step.looks in
    let content = content_after n v w r c.look-mark.ensures.step.looks in
    let free_for = subst (λ x. IsFreeFor n x (held w r)) (sym (writer_same_after n v w r c.look-mark.ensures.step.looks))
    (subst (IsFreeFor n (writer v)) (sym content) (free_of n (writer v) (snapshot v) (held v r) d.ordered d.unstamped free)) in (
      (
        search rules,
        install_holds n w (session_view c.install.new.pass) (boxed c.args.self.now c.deref_mut.result.now) _ r c.args.image hold refl free_for (subst (IsOrdered n) (sym content) d.ordered)
            (subst (λ x. Installs w r x (session_view c.install.new.pass)) c.of-written.ensures c.install.ensures.step)
            (subst (λ (b : Writer). versions_of new.records r ≡ installed b c.args.image ks) by stored)
            c.write.ensures.others
            (subst (λ (b : Writer). new ≡ record old { records = new.records; long = new.long; made = old.made + (if begins_open b ks then 0 else 1) }) by made),
      ),
      (search rules, search rules),
    )

pub returns-in_err-added-clause-owner : goal.returns-in_err-added-clause-owner
returns-in_err-added-clause-owner c =
    let n = c.look-mark.result in
    let v = session_view c.args.pass.now in
    let w = session_view c.look-mark.new.pass in
    let r = c.args.rid in
    let ks = versions_of c.deref_mut.result.now.records r in
    let d = decided (sizes_of c.args.board.now) n v w (boxed c.args.self.now c.deref_mut.result.now) r
    (boxed_holds c.args.self.now c.deref_mut.result.now c.deref_mut.ensures.value c.requires.holds.1) c.look-mark.ensures.step.looks c.look-mark.ensures.step.backed
    c.requires.here c.requires.open.2 c.requires.open.0 in
    let same : c.from_residual.result ≡ Err c.in_err-added.field-0.0 = search rules in
    owner_told (sizes_of c.args.board.now) n v w (boxed c.args.self.now c.deref_mut.result.now) r
    (boxed_holds c.args.self.now c.deref_mut.result.now c.deref_mut.ensures.value c.requires.holds.1) c.look-mark.ensures.step.looks c.look-mark.ensures.step.backed
    c.look-mark.ensures.own.3 c.requires.here c.write.result c.from_residual.result c.in_err-added.field-0.0 d c.in_err-added.was same
    (subst (λ (b : Writer). IfErr c.write.result (IsCause b (snapshot v) n ks)) c.requires.words.0
    (subst (λ s. IfErr c.write.result (IsCause c.args.author.writer s n ks)) c.requires.words.1 c.write.ensures.cause))

pub returns-clause-added : goal.returns-clause-added
returns-clause-added c =
    let v = session_view c.args.pass.now in
    let w = session_view c.look-mark.new.pass in
    let r = c.args.rid in
    let ks = versions_of c.deref_mut.result.now.records r in
    let told = subst (λ o. IfOk o (λ added. added ≡ not (begins_open c.args.author.writer ks))) c.in_ok-added.was c.write.ensures.added in
    told ∙ ap not (ap (λ b. begins_open b ks) c.requires.words.0 ∙ open_logged (sizes_of c.args.board.now) c.look-mark.result v w (boxed c.args.self.now c.deref_mut.result.now) r
    (boxed_holds c.args.self.now c.deref_mut.result.now c.deref_mut.ensures.value c.requires.holds.1) c.look-mark.ensures.step.looks c.look-mark.ensures.step.backed
    c.look-mark.ensures.own.3 c.requires.here c.requires.open.2)

pub returns-clause-step : goal.returns-clause-step
returns-clause-step c =
    let n = c.look-mark.result in
    let v = session_view c.args.pass.now in
    let w = session_view c.look-mark.new.pass in
    let r = c.args.rid in
    let ks = versions_of c.deref_mut.result.now.records r in
    let hold = boxed_holds c.args.self.now c.deref_mut.result.now c.deref_mut.ensures.value c.requires.holds.1 in
    let d = decided (sizes_of c.args.board.now) n v w (boxed c.args.self.now c.deref_mut.result.now) r hold c.look-mark.ensures.step.looks c.look-mark.ensures.step.backed
    c.requires.here c.requires.open.2 c.requires.open.0 in
    let told = refusal_told (sizes_of c.args.board.now) n v (boxed c.args.self.now c.deref_mut.result.now) r c.write.result hold d
    (subst (λ (b : Writer). IfSome (holder b n ks) (λ x. c.write.result ≡ Err (open_by x))) c.requires.words.0 c.write.ensures.open)
    (subst (λ (b : Writer). holder b n ks ≡ None → IfSome (newer (snapshot v) ks) (λ m. c.write.result ≡ Err (Newer m))) c.requires.words.0
    (subst (λ s. holder c.args.author.writer n ks ≡ None → IfSome (newer s ks) (λ m. c.write.result ≡ Err (Newer m))) c.requires.words.1 c.write.ensures.newer)) in
    record {
      mark = n;
      looked = w;
      looks = c.look-mark.ensures.step.looks;
      refuses = none_refuses (refused_at n v r) c.write.result _ _ c.in_ok-added.was told;
      cause = tt;
      goes_on = tt;
      stored = subst (λ x. Installs w r x (session_view c.install.new.pass)) c.of-written.ensures c.install.ensures.step;
      stays = tt;
      goes = goes_on (sizes_of c.args.board.now) n v w (boxed c.args.self.now c.deref_mut.result.now) r hold c.look-mark.ensures.step;
      first = stored_first (sizes_of c.args.board.now) n v w (boxed c.args.self.now c.deref_mut.result.now) r hold c.look-mark.ensures.step c.requires.here c.requires.open.0
          c.requires.open.1 c.requires.table.0 c.write.result _ c.in_ok-added.was told;
    }

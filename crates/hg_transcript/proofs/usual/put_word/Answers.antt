use Rattle.std.proofs.Common.{ℕ, ◌≡◌, ◌∙◌, ◌++◌, ◌+◌, ◌-◌, length, drop, sym, ap, refl, arith, rules}
use Rattle.std.proofs.lemmas.List.{drop-set}
use borrow.Rule.Slice.PartMut.{put_mid}
use Rattle.hg_transcript.proofs.Backwards.{plain_is, put_long, put_tail}
use Rattle.hg_transcript.proofs.usual.put_word.Goals as goal

pub returns-clause-written : goal.returns-clause-written
returns-clause-written c =
    let word = c.args.word.now in
    let old = c.args.bytes.now in
    let new = c.copy_from_slice.new.self in
    let end = c.args.end in
    let start = end - length word in
    let long : length new ≡ length word = search rules in
    let here : start + 0 ≡ start = omega arith in
    let before : start - 1 + 1 ≡ start = omega arith in
    let copied : drop start (put_mid start (end - start) old new) ≡ word ++ drop end old =
    ap (λ n. drop n (put_mid start (end - start) old new)) (sym here)
    ∙ put_tail old new start (end - start) 0 end (omega arith) (omega arith) (omega arith) (omega arith)
    ∙ ap (λ t. t ++ drop end old) c.copy_from_slice.ensures.after in
    rw (drop-set {X = ℕ} (put_mid start (end - start) old new) (start - 1) 44 (omega (arith, put_long old new start (end - start) (omega arith))), before, copied, plain_is word c.requires.plain) refl

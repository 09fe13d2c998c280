use Rattle.std.proofs.Common.{◌≡◌, ℕ, List, sym, ◌∙◌, subst}
use Rattle.std.specs.Prelude.{map}
use Rattle.hg_base.specs.Script.{Script, replay}
use Rattle.hg_base.specs.Sound.{IsSound}
use Rattle.hg_exact.specs.Replayed.{plain, replayed}
use Rattle.hg_exact.proofs.Totals.{totals_same}
use Rattle.hg_run.specs.Printing.{AreExact, IsPrintedFor}
use Rattle.hg_run.specs.Words.{Settings}
use Rattle.hg_run.proofs.laws.replays_print_the_same.Goals as goal

exact_of : (a : Settings) (script : Script) (text : List ℕ) → a.mode ≡ replay → (p : IsPrintedFor a script text) → map plain p.printed.lines ≡ replayed script
exact_of a script text is p = subst (λ m. AreExact m script p.printed.lines) is p.exact

sound_of : (a : Settings) (script : Script) (text : List ℕ) → a.mode ≡ replay → (p : IsPrintedFor a script text) → IsSound replay script p.printed
sound_of a script text is p = subst (λ m. IsSound m script p.printed) is p.sound

pub returns-clause-lines : goal.returns-clause-lines
returns-clause-lines c a b script text other first second p q = exact_of a script text first p ∙ sym (exact_of b script other second q)

pub returns-clause-totals : goal.returns-clause-totals
returns-clause-totals c a b script text other first second p q =
    totals_same script p.printed.lines q.printed.lines p.printed.totals q.printed.totals (exact_of a script text first p ∙ sym (exact_of b script other second q))
    (sound_of a script text first p).totals (sound_of b script other second q).totals

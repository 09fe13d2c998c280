-- What was printed and does not fail is sound, and nothing else is.
use Rattle.std.proofs.Common.{List, [], ◌∷◌}
use Rattle.hg_base.specs.declared.line.Printed.{Printed}
use Rattle.hg_base.specs.Lists.{EachAfter}
use Rattle.hg_base.specs.Script.{Mode, Script}
use Rattle.hg_base.specs.Transcript.{Said, in_order, history_of}
use Rattle.hg_base.specs.Sound.{IsRight, IsSound, all_said}
use Rattle.hg_base.proofs.ListFacts.{each_after_keeps}
use Rattle.hg_decide.specs.Audit.{IsRightReply, IsKnown}
use Rattle.hg_audit.specs.declared.fault.Found.TheVariants.{Right}
use Rattle.hg_audit.specs.Found.{IsFound}

pub each_after_two : (P Q R : List Said → Said → Type 0) → ((earlier : List Said) (now : Said) → P earlier now → Q earlier now → R earlier now) → (earlier xs : List Said) →
    EachAfter P earlier xs → EachAfter Q earlier xs → EachAfter R earlier xs
each_after_two P Q R f earlier [] p q = tt
each_after_two P Q R f earlier (x ∷ xs) p q = (f earlier x p.0 q.0, each_after_two P Q R f (x ∷ earlier) xs p.1 q.1)

pub sound_of : (mode : Mode) (script : Script) (printed : Printed) → IsFound mode (in_order mode script.records) printed.lines printed.totals Right → IsSound mode script printed
sound_of mode script printed (shape, history, judged) =
    let all = all_said mode script printed.lines in
    record {
      lines = record {
        shape = shape;
        right = record {
          whole = history.0;
          kept = history.1;
          lines = each_after_two (IsRightReply mode all) (IsKnown mode all) (IsRight mode (history_of all) all)
              (λ earlier now a k. record { reply = a.0; conflict = a.1; fresh = k }) [] all judged.0 judged.1;
        };
      };
      totals = judged.2;
    }

pub of_sound : (mode : Mode) (script : Script) (printed : Printed) → IsSound mode script printed → IsFound mode (in_order mode script.records) printed.lines printed.totals Right
of_sound mode script printed sound =
    let s = sound.lines in
    let all = all_said mode script printed.lines in (
      s.shape,
      (s.right.whole, s.right.kept),
      (
        each_after_keeps (IsRight mode (history_of all) all) (IsRightReply mode all) (λ earlier now r. (r.reply, r.conflict)) [] all s.right.lines,
        each_after_keeps (IsRight mode (history_of all) all) (IsKnown mode all) (λ earlier now r. r.fresh) [] all s.right.lines,
        sound.totals,
      ),
    )

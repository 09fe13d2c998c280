use Rattle.std.proofs.Common.{◌≡◌, ℕ, List}
use Rattle.std.specs.Prelude.{Result, Ok, Err, IfOk}
use Rattle.std.specs.List.{flat_map}
use Rattle.hg_base.specs.declared.line.Totals.{Totals}
use Rattle.hg_base.specs.Script.{replay}
use Rattle.hg_base.specs.Text.{totals_records}
use Rattle.hg_records.specs.Bytes.{record_bytes}
use Rattle.hg_run.specs.Printing.{AreTotalsOf, HasTotalsBy}
use Rattle.hg_run.specs.Words.{Settings, settings_in}
use Rattle.hg_run.proofs.load.load.Goals as goal

on_totals : {X E : Type 0} (seed : ℕ) (settings : Settings) (totals : Totals) (r : Result X E) (items : X → List ℕ) → HasTotalsBy seed settings totals →
    IfOk r (λ text. items text ≡ flat_map record_bytes (totals_records totals)) → IfOk r (λ text. AreTotalsOf seed settings (items text))
on_totals seed settings totals (Ok text) items h same = record {
  script = h.script;
  made = h.made;
  printed = record { lines = h.has.lines; totals = totals };
  sound = h.has.sound;
  exact = h.has.exact;
  fit = h.has.fit;
  one_run = h.has.one_run;
  same = same;
}
on_totals seed settings totals (Err e) items h same = tt

pub returns : goal.returns
returns g c = on_totals c.args.seed (settings_in replay c.args.options.now) c.in_ok-totals.totals c.text_of_totals.result (λ text. text.items) c.in_ok-totals.ensures c.text_of_totals.ensures

use Rattle.std.proofs.Common.{◌≡◌, ◌+◌, ◌*◌, ◌∙◌, sym, ap, arith, length, map}
use Rattle.std.proofs.lemmas.List.{length-map}
use Rattle.hg_known.specs.Sequenced.{record_at, shown_of, with_rounds}
use Rattle.hg_known.proofs.Sequencing.{run_length}
use Rattle.hg_known.proofs.sequence.Sequence.of_run.Goals as goal

pub returns-in_default : goal.returns-in_default
returns-in_default c =
    λ n e.
    let s = shown_of c.args.script.now.records in
    let many : length c.in_ok-indices.indices.items ≡ length s = sym (length-map c.in_ok-indices.indices.items (record_at c.args.script.now)) ∙ ap length c.in_ok-indices.ensures.records in
    let all : length s + 3 * n ≡ c.args.lines = sym (run_length s n) ∙ e in
    c.in_default.ensures n (omega (arith, many, all, c.len.ensures))

pub returns : goal.returns
returns c =
    let n = c.in-Some.rounds in
    let is = c.in_ok-indices.indices.items in
    let f = record_at c.args.script.now in
    let many : length (map f is) ≡ length is = length-map is f in
    let all : length (with_rounds (map f is) n) ≡ length (map f is) + 3 * n = run_length (map f is) n in
    (n, ap (λ rs. with_rounds rs n) c.in_ok-indices.ensures.records, omega (arith, many, all, c.len.ensures, c.in-Some.ensures))

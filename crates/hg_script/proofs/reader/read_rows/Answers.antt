use Rattle.std.proofs.Common.{◌≡◌, ◌+◌, Bor, List, ℕ, ◌∙◌, sym, refl, inl, Some, ◌∷◌, [], ◌++◌, arith, length, length-append}
use Rattle.std.proofs.lemmas.Result.{err_from_is_err_and}
use Rattle.csv.specs.Reading.{Reached, default_config, strip_bom}
use Rattle.csv.specs.Records.{fields_of}
use Rattle.csv.specs.declared.parser.State.TheVariants as st
use Rattle.csv.proofs.ReadFacts.{rows-end, rows-more}
use Rattle.hg_script.specs.Meaning.{refusal_from, script_from, first_code, nothing}
use Rattle.hg_script.specs.declared.code.Code.{Code}
use Rattle.hg_script.proofs.Whole.{all-records, first-records}
use Rattle.hg_script.proofs.Rows.{accepts, refuses, script-append, tells}
use Rattle.hg_script.proofs.reader.read_rows.Goals as goal

pub loop-place-init : goal.loop-place-init
unfolding Reached refusal_from script_from
loop-place-init c = record {
  flexible = c.requires.flexible;
  trim = c.requires.trim;
  ready = c.requires.ready;
  config = c.requires.config;
  left = (strip_bom c.args.bytes.now, [], c.requires.source, (sym c.requires.state, refl), omega arith, refl, c.requires.none);
  most = omega arith;
  next = rw c.requires.none (omega arith);
  known = rw c.requires.none c.new-sessions.ensures;
}

pub loop-place-preserved : goal.loop-place-preserved
loop-place-preserved c =
    let inv = c.loop-place.invariant in
    let (y, rows, at_y, reached, count, none, is) = inv.left in
    let call = c.in-Ok-true.ensures in
    let reads = rw c.in-Ok-true.field-0-test at call.reads in
    let f = fields_of c.read_row.new.row in
    let m = rows-more (λ (s : Bor (List ℕ)). Some s.now) c.loop-place.reader c.read_row.new.reader f default_config st.StartRecord (strip_bom c.args.bytes.now) y rows inv.config at_y reached reads in
    let took = c.in_ok-take-in-Ok-true.ensures in
    let passes = rw (← count, is) at took.none in
    let script = rw (← count, is) at took.script in record {
      flexible = call.flexible;
      trim = reads.3 ∙ inv.trim;
      ready = inl call.ready;
      config = reads.2 ∙ inv.config;
      left = (m.0, rows ++ f ∷ [], m.1, m.2, omega (arith, count, length-append rows (f ∷ [])), accepts 1 nothing rows f none passes, script ∙ sym (script-append 1 nothing rows f));
      most = omega (arith, took.most);
      next = took.next;
      known = took.known;
    }

pub returns-in_err-take-in-Ok-true-clause-at : goal.returns-in_err-take-in-Ok-true-clause-at
returns-in_err-take-in-Ok-true-clause-at c =
    let inv = c.loop-place.invariant in
    let (y, rows, at_y, reached, count, none, is) = inv.left in
    let reads = rw c.in-Ok-true.field-0-test at c.in-Ok-true.ensures.reads in
    let f = fields_of c.read_row.new.row in
    let m = rows-more (λ (s : Bor (List ℕ)). Some s.now) c.loop-place.reader c.read_row.new.reader f default_config st.StartRecord (strip_bom c.args.bytes.now) y rows inv.config at_y reached reads in
    let more = first-records default_config (strip_bom c.args.bytes.now) (rows ++ f ∷ []) _ m.0 m.2 in
    let p = err_from_is_err_and c.from_residual.result c.from_residual.ensures.1 in
    rw (p.1, p.2) (tells c.loop-place.place (first_code c.loop-place.place c.loop-place.script f) _ c.in_err-take-in-Ok-true.field-0.0
    (λ (code : Code) e.
    let first : refusal_from 1 nothing ((rows ++ f ∷ []) ++ more.0) ≡ Some (1 + length rows, code) = refuses 1 nothing rows f more.0 code none (rw (← count, is) at e) in
    rw (more.1, ← count) first)
    c.in_err-take-in-Ok-true.ensures.at)

pub returns-in-Ok-false-clause-valid : goal.returns-in-Ok-false-clause-valid
returns-in-Ok-false-clause-valid c =
    let inv = c.loop-place.invariant in
    let (y, rows, at_y, reached, count, none, is) = inv.left in
    let reads = rw c.in-Ok-false.field-0-test at c.in-Ok-false.ensures.reads in
    let end = rows-end (λ (s : Bor (List ℕ)). Some s.now) c.loop-place.reader c.read_row.new.reader _ default_config y inv.config at_y reads in
    rw (all-records default_config (strip_bom c.args.bytes.now) rows _ y reached end) none

pub returns-in-Ok-false-clause-script : goal.returns-in-Ok-false-clause-script
returns-in-Ok-false-clause-script c =
    let inv = c.loop-place.invariant in
    let (y, rows, at_y, reached, count, none, is) = inv.left in
    let reads = rw c.in-Ok-false.field-0-test at c.in-Ok-false.ensures.reads in
    let end = rows-end (λ (s : Bor (List ℕ)). Some s.now) c.loop-place.reader c.read_row.new.reader _ default_config y inv.config at_y reads in
    rw (all-records default_config (strip_bom c.args.bytes.now) rows _ y reached end) is

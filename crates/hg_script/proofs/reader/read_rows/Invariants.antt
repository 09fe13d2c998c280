use Rattle.std.proofs.Common.{◌≡◌, ◌≤◌, ◌+◌, Bor, ℕ, List, Some, None, true, length}
use Rattle.csv.specs.Reading.{Reached, Ready, default_config, source_of, strip_bom, is_flexible, reader_trim, reader_config, reader_state}
use Rattle.csv.specs.declared.parser.State.TheVariants as st
use Rattle.csv.specs.declared.reader.Trim.TheVariants as trim
use Rattle.hg_script.specs.Meaning.{refusal_of, script_of}
use Rattle.hg_script.specs.Numbered.{next_place}
use Rattle.hg_script.specs.Sessions.{KnowsSessions}
use Rattle.hg_script.proofs.reader.read_rows.Given as goal

abbrev pub invariant-loop-place : goal.invariant-loop-place
invariant-loop-place l = record {
  flexible : is_flexible l.reader ≡ true;
  trim : reader_trim l.reader ≡ trim.None;
  ready : Ready l.reader;
  config : reader_config l.reader ≡ default_config;
  left : (y : List ℕ) × (rows : List (List (List ℕ))) × (source_of (λ (s : Bor (List ℕ)). Some s.now) l.reader ≡ Some y)
      × Reached default_config st.StartRecord (strip_bom l.fn.bytes) rows (reader_state l.reader) y
      × (1 + length rows ≡ l.place) × (refusal_of rows ≡ None) × (l.script ≡ script_of rows);
  most : l.place ≤ 1048577;
  next : l.place ≡ next_place l.script;
  known : KnowsSessions l.sessions l.script.records;
}

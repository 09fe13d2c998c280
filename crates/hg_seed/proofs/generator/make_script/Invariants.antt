use Rattle.hg_seed.proofs.Made.{Making}
use Rattle.hg_script.specs.Sessions.{KnowsOpen}
use Rattle.hg_seed.proofs.generator.make_script.Given as goal

abbrev pub invariant-loop-i : goal.invariant-loop-i
invariant-loop-i l = record {
  making : Making l.seed l.i l.draws l.script;
  known : KnowsOpen l.sessions.flags l.script.records;
}

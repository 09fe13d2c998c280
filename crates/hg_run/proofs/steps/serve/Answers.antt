use Rattle.std.proofs.Common.{map}
use Rattle.std.specs.Prelude.{string_bytes}
use Rattle.hg_streams.specs.Streams.{change_of}
use Rattle.hg_run.proofs.Exactly.{bad_script, complete, exact, loaded, long_input, sound, too_long, usage}
use Rattle.hg_run.proofs.steps.serve.Goals as goal

pub returns-clause-sound : goal.returns-clause-sound
returns-clause-sound g c =
    let source = change_of g.So.Source.flow c.args.source.now c.outcome.new.source in
    let sink = change_of g.Si.Sink.flow c.args.sink.now c.outcome.new.sink in
    sound (map string_bytes c.args.words.now) source sink c.outcome.result c.outcome.ensures.comes

pub returns-clause-usage : goal.returns-clause-usage
returns-clause-usage g c =
    let source = change_of g.So.Source.flow c.args.source.now c.outcome.new.source in
    let sink = change_of g.Si.Sink.flow c.args.sink.now c.outcome.new.sink in
    usage (map string_bytes c.args.words.now) source sink c.outcome.result c.outcome.ensures.comes

pub returns-clause-exact : goal.returns-clause-exact
returns-clause-exact g c =
    let source = change_of g.So.Source.flow c.args.source.now c.outcome.new.source in
    let sink = change_of g.Si.Sink.flow c.args.sink.now c.outcome.new.sink in
    exact (map string_bytes c.args.words.now) source sink c.outcome.result c.outcome.ensures.comes

pub returns-clause-decided : goal.returns-clause-decided
returns-clause-decided g c =
    let words = map string_bytes c.args.words.now in
    let source = change_of g.So.Source.flow c.args.source.now c.outcome.new.source in
    let sink = change_of g.Si.Sink.flow c.args.sink.now c.outcome.new.sink in
    record {
      complete = λ bytes script. complete words source sink bytes script c.outcome.result c.outcome.ensures.comes;
      bad_script = λ bytes script line code. bad_script words source sink bytes script line code c.outcome.result c.outcome.ensures.comes;
      too_long = λ bytes script. too_long words source sink bytes script c.outcome.result c.outcome.ensures.comes;
      long_input = λ bytes. long_input words source sink bytes c.outcome.result c.outcome.ensures.comes;
      loaded = loaded words source sink c.outcome.result c.outcome.ensures.comes;
    }

use Rattle.std.proofs.Common.{◌∙◌, ap}
use Rattle.std.specs.Prelude.{option_and_then}
use Rattle.std.specs.Str.Parse.{ParsesUnsigned, ExplainsUnsignedError, HasUnsignedDigitsIfOk}
use Rattle.clap.specs.Words.{found_of, one_text}
use Rattle.clap.proofs.WalkLemmas.{one_text-rows}
use Rattle.hg_words.specs.Options.{number_of}
use Rattle.hg_words.proofs.Numbers.{read_of}
use Rattle.hg_words.proofs.line.short_number.Goals as goal

pub returns : goal.returns
returns c =
    let found = found_of c.args.matches.now in
    read_of 32 (λ text read. ParsesUnsigned 32 10 text read × ExplainsUnsignedError 10 text read × HasUnsignedDigitsIfOk text read) (λ text read gives. gives.0)
    (one_text found c.args.id.now) c.get_one.result c.get_one.ensures.none c.get_one.ensures.value ∙ ap (option_and_then (number_of 32)) (one_text-rows found c.args.id.now)

use Rattle.std.proofs.Common.{inl, inr, List, [], ◌∷◌, None, ◌≡◌, ◌∙◌, ap, ap₂, sym, refl, true, map, string_bytes}
use Rattle.clap.specs.Words.{App, app_of, is_simple, is_simple_and_free, fault_of, matches_of}
use Rattle.clap.specs.Kinds.{Kinds, IsAmong}
use Rattle.clap.specs.Words.{Row}
use Rattle.clap.specs.declared.error.kind.ErrorKind.{ErrorKind}
use Rattle.clap.proofs.OnLiterals.{clap_on_literals}
use Rattle.hg_words.specs.Line.{command_line}
use Rattle.hg_words.specs.declared.options.WordsRefusal.TheVariants.{Usage}
use Rattle.hg_words.specs.Options.{options_unless}
use Rattle.hg_words.proofs.Bounds.{are_within}
use Rattle.hg_words.proofs.line.read_words.Goals as goal

free : is_simple_and_free command_line ≡ true
unfolding clap_on_literals
free = refl

simple : is_simple command_line ≡ true
unfolding clap_on_literals
simple = refl

pub returns-in-Some-clause-taken : goal.returns-in-Some-clause-taken
returns-in-Some-clause-taken c =
    let app : app_of c.in_ok-line.field-0 ≡ command_line = c.in_ok-line.ensures in
    let words = map string_bytes c.args.words.now in
    let faults = c.in-Ok.ensures.kinds (ap is_simple_and_free app ∙ free) in
    let rows = (c.in-Ok.ensures.matches (ap is_simple app ∙ simple)).0 in
    ap₂ options_unless (ap (λ (a : App). fault_of a words) (sym app) ∙ faults) (ap (λ (a : App). matches_of a words) (sym app) ∙ sym rows)
    ∙ sym c.options_from.ensures ∙ c.in-Some.is

pub returns-in-Some-clause-bounds : goal.returns-in-Some-clause-bounds
returns-in-Some-clause-bounds c = are_within c.in_ok-line.field-0 c.in-Ok.matches c.in_ok-line.ensures c.in-Ok.ensures.parsed c.in-Some.options (sym c.options_from.ensures ∙ c.in-Some.is)

pub returns-in-Ok-clause-usage : goal.returns-in-Ok-clause-usage
returns-in-Ok-clause-usage c e =
    let app : app_of c.in_ok-line.field-0 ≡ command_line = c.in_ok-line.ensures in
    let words = map string_bytes c.args.words.now in
    let faults = c.in-Ok.ensures.kinds (ap is_simple_and_free app ∙ free) in
    let rows = (c.in-Ok.ensures.matches (ap is_simple app ∙ simple)).0 in
    ap₂ options_unless (ap (λ (a : App). fault_of a words) (sym app) ∙ faults) (ap (λ (a : App). matches_of a words) (sym app) ∙ sym rows)
    ∙ sym c.options_from.ensures ∙ c.in-None.is

unless-none : (k : ErrorKind) (ks : Kinds) (rows : List Row) → IsAmong k ks → options_unless ks rows ≡ None
unless-none k [] rows h = absurd h
unless-none k (x ∷ xs) rows h = refl

pub returns : goal.returns
returns c =
    let app : app_of c.in_ok-line.field-0 ≡ command_line = c.in_ok-line.ensures in
    let words = map string_bytes c.args.words.now in
    let faults = c.in-Err.ensures.kinds (ap is_simple_and_free app ∙ free) in
    record {
      taken = tt;
      bounds = tt;
      usage = λ e. let refused : c.refusal_of.result ≡ Usage = cc in elim faults [
        | inl memory ↦ absurd (c.refusal_of.ensures refused (c.kind.ensures ∙ memory))
        | inr among ↦ ap (λ (a : App). options_unless (fault_of a words) (matches_of command_line words)) (sym app)
            ∙ unless-none _ (fault_of (app_of c.in_ok-line.field-0) words) (matches_of command_line words) among
      ];
    }

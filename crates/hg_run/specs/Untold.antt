-- What the reports of a conversation say of its collectors, whose other rounds nobody is told of.
use Rattle.std.specs.Prelude.{◌≤◌, List}
use Rattle.hg_base.specs.declared.line.Line.{Line}
use Rattle.hg_base.specs.declared.report.Kind.{Kind}
use Rattle.hg_collectors.specs.declared.collectors.Collectors.{Collectors}
use Rattle.hg_collectors.specs.Collecting.{removed_of}
use Rattle.hg_headline.specs.Following.{told_removed}

-- the collectors removed all that these lines say, or more
abbrev pub HaveTold : Collectors → List Line → Type 0
HaveTold collectors lines = (kind : Kind) → told_removed kind lines ≤ removed_of kind collectors

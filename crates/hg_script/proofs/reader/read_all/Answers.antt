use Rattle.std.proofs.Common.{◌∙◌, inr}
use Rattle.hg_script.proofs.reader.read_all.Goals as goal

pub read_rows-requires : goal.read_rows-requires
read_rows-requires c =
    let fr = c.from_reader-reader.ensures in
    let h = c.has_headers.ensures in
    let f = c.flexible.ensures in record {
      flexible = rw f at fr.flexible;
      trim = rw (f, h) at fr.trim ∙ c.new.ensures.trim;
      ready = inr (inr (rw (f, h) at fr.has_headers, fr.headers));
      config = rw (f, h) at fr.config ∙ c.new.ensures.config;
      state = fr.state;
      source = fr.source;
      none = c.requires.none;
    }

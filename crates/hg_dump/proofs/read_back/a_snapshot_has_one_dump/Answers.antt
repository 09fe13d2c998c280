use Rattle.hg_dump.proofs.RowsShown.{is_the_list}
use Rattle.hg_dump.proofs.read_back.a_snapshot_has_one_dump.Goals as goal

pub returns : goal.returns
returns c = is_the_list

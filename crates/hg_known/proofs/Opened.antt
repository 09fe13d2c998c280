-- What a session's last line left open.
use Rattle.std.proofs.Common.{◌≡◌, ℕ, Bool, true, false, Option, Some, None, refl, cond}
use Rattle.std.specs.Prelude.{option_map}
use Rattle.hg_base.specs.Transcript.{Said, open_after, ends}
use Rattle.hg_base.specs.Freshness.{open_snapshot}
use Rattle.hg_known.specs.declared.said.Last.{Last}
use Rattle.hg_known.specs.declared.said.Last.TheVariants.{Over, Open}
use Rattle.hg_known.specs.Lines.{left_by, open_left, without_rest}

pub open_is : (j : ℕ) (o : Option Said) → open_snapshot j (open_after o) ≡ open_left j (option_map left_by o)
open_is j None = refl
open_is j (Some said) = go (ends said)
  where
    go : (b : Bool) → open_snapshot j (cond b None (Some said)) ≡ open_left j (Some (cond b (Over said.transaction) (Open said.transaction said.at said.scope None)))
    go true = refl
    go false = refl

-- what the cursor has left says nothing of the snapshot
pub open_without : (j : ℕ) (last : Option Last) → open_left j (option_map without_rest last) ≡ open_left j last
open_without j None = refl
open_without j (Some (Over x)) = refl
open_without j (Some (Open x at scope rest)) = refl

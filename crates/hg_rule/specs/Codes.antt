-- A history as plain data, which a seat can carry.
use Rattle.std.specs.Prelude.{ℕ, List}
use Rattle.std.specs.Coded.{Coded, code_by, coded×, coded_ℕ, coded_list}
use mathlib.Core.Path.{refl}
use Rattle.hg_base.specs.declared.rid.Rid.{Rid}
use Rattle.hg_base.specs.declared.image.Image.{Image}
use Rattle.hg_base.specs.contracts.rid.Rid.{the_row as rid_row}
use Rattle.hg_base.specs.contracts.image.Image.{the_row as image_row}
use Rattle.hg_base.specs.History.{Write, Commit, History}

-- a write as the pair of its record and its image
abbrev pub write_code : Coded Write
write_code = code_by (Rid × Image) (coded× rid_row.coded image_row.coded) (λ w. (w.rid, w.image)) (λ p. record { rid = p.0; image = p.1 }) (λ _. refl)

-- a commit as the tuple of its session, its transaction, its snapshot and its writes
abbrev pub commit_code : Coded Commit
commit_code = code_by (ℕ × (ℕ × (ℕ × List Write))) (coded× coded_ℕ (coded× coded_ℕ (coded× coded_ℕ (coded_list write_code))))
    (λ c. (c.session, (c.transaction, (c.at, c.images)))) (λ p. record { session = p.0; transaction = p.1.0; at = p.1.1.0; images = p.1.1.1 }) (λ _. refl)

-- a history as a list of groups, each a list of commits
abbrev pub history_code : Coded History
history_code = coded_list (coded_list commit_code)

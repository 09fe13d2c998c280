-- What a clause says of the word, and of a drawer, which draws from it.
use Rattle.std.specs.Prelude.{◌≡◌, []}
use Rattle.atomic_table.specs.Seated.{TableId}
use Rattle.hg_rounds.specs.declared.draws.Draws.{Draws}
use Rattle.hg_rounds.specs.declared.draws.Drawer.{Drawer}
use Rattle.hg_rounds.specs.declared.draws.Drawn.{Drawn}

-- the identity of the word that helpers draw from
abbrev pub draws_id : Draws → TableId
draws_id d = d.table.shared.table_id

-- what it has drawn
abbrev pub drawn_by : Drawer → Drawn
drawn_by d = d.seat.me.0

-- a drawer's seat is of this word, and carries no slot
abbrev pub IsDrawerOf : TableId → Drawer → Type 0
IsDrawerOf t d = (d.seat.table_id ≡ t) × (d.seat.me.1 ≡ [])

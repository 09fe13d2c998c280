-- The rule of the queue.
use Rattle.std.specs.Prelude.{◌≡◌, ◌⊎◌, ℕ, Bool, true, false, List, [], ◌∷◌, ◌++◌, map}
use mathlib.Core.Option.{some}
use lib.ListN.{get_elem?}
use Rattle.hg_base.specs.Lists.{Each}
use Rattle.hg_rule.specs.Facts.{StartsWith}
use Rattle.hg_rule.specs.Seats.{BoardId}
use Rattle.hg_queue.specs.declared.handed.Handed.{Handed}
use Rattle.hg_queue.specs.declared.known.Known.{Known}
use Rattle.hg_queue.specs.Handing.{IsHandedOf}

-- session and transaction
abbrev pub pair_of : Handed → ℕ × ℕ
pair_of x = (x.tx.writer.session, x.tx.writer.transaction)

-- whether it opens, whether it pops, its board and its pairs
abbrev pub knows : Bool → Bool → BoardId → List (ℕ × ℕ) → Known
knows opens leads t pairs = record { opens = opens; leads = leads; board = record { id = t }; pairs = pairs }

-- in place of a board, until there is one
abbrev pub no_board : BoardId
no_board = record { words = 0; slots = 0; views_name = 0; atom = 0; block = 0; offset = 0; slot_names = [] }

-- the first pass of all, before there is a board
abbrev pub opening : Known
opening = knows true true no_board []

-- the pass of a new queue that pops
abbrev pub leader : BoardId → Known
leader t = knows false true t []

-- a pass of a new queue that pushes
abbrev pub pusher : BoardId → Known
pusher t = knows false false t []

-- a pass may pop
abbrev pub MayPop : Known → Type 0
MayPop v = (v.opens ≡ false) × (v.leads ≡ true)

-- a pass may push
abbrev pub MayPush : Known → Type 0
MayPush v = (v.opens ≡ false) × (v.leads ≡ false)

-- it knows these pairs now
abbrev pub with_pairs : List (ℕ × ℕ) → Known → Known
with_pairs pairs v = record v { pairs = pairs }

-- what the pass with number i knows: the one that pops has number `at` and what was popped, any other a beginning of what was pushed
pub record Fits (board : BoardId) (at : ℕ) (out all : List (ℕ × ℕ)) (i : ℕ) (v : Known) : Type 0 where
  pub opened : v.opens ≡ false
  pub board_is : v.board.id ≡ board
  pub leads : v.leads ≡ true → (i ≡ at) × (v.pairs ≡ out)
  pub pushes : v.leads ≡ false → StartsWith all v.pairs

-- A queue of one board. What was popped is `out`; what was pushed is that, and then what the queue holds.
pub record Queued (items : List Handed) (views : List Known) : Type 0 where
  pub board : BoardId
  pub at : ℕ
  pub out : List (ℕ × ℕ)
  pub good : Each (IsHandedOf board) items
  pub fits : (i : ℕ) (v : Known) → get_elem? views i ≡ some v → Fits board at out (out ++ map pair_of items) i v

-- the rule: nothing was done yet, or there is a board
abbrev pub Ordered : List Handed → List Known → Type 0
Ordered items views = ((items ≡ []) × (views ≡ opening ∷ [])) ⊎ Queued items views

-- ---- what a step makes of a view

-- the list goes on, perhaps by what others pushed, and ends with the pair that was pushed
abbrev pub pushed : Known → Handed → Known → Type 0
pushed v x w = (others : List (ℕ × ℕ)) × (w ≡ with_pairs (v.pairs ++ (others ++ pair_of x ∷ [])) v)

-- one pair more was popped, of a transaction as it was handed over
abbrev pub popped : Known → Handed → Known → Type 0
popped v x w = (w ≡ with_pairs (v.pairs ++ pair_of x ∷ []) v) × IsHandedOf v.board.id x

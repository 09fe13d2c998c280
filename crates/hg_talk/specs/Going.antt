-- In the midst of a conversation, with a framer.
use Rattle.std.specs.Prelude.{ℕ, List, Bool, true, false}
use Rattle.hg_talk.specs.declared.trouble.Trouble.{Trouble}
use Rattle.hg_talk.specs.declared.trouble.Trouble.TheVariants as trouble
use Rattle.hg_talk.specs.Events.{Event}
use Rattle.hg_talk.specs.Framer.{Kept, Keeps}
use Rattle.hg_talk.specs.Talking.{Exchange, IsTalking}

-- The framer keeps what was taken of what was read, and `rest` was not taken yet.
pub record IsGoing (log : List Event) (heard : List Exchange) (kept : Kept) (rest text : List ℕ) : Type 0 where
  pub taken : List ℕ
  pub keeps : Keeps kept taken
  pub talking : IsTalking log heard taken rest text

-- whether the client has no part in a trouble
abbrev pub is_own : Trouble → Bool
is_own trouble.Read = false
is_own trouble.Write = false
is_own trouble.NoMemory = true
is_own (trouble.Stopped stop) = true

-- The rule of the board: its words and views show a state that is reached by a list of steps, and so meets the invariant.
use Rattle.std.specs.Prelude.{◌≡◌, ℕ, suc, ◌*◌, ◌^◌, ◌<◌, ◌≤◌, Bool, true, List, length, slice_index}
use mathlib.Core.Option.{some}
use lib.ListN.{get_elem?}
use Rattle.hg_base.specs.Lists.{Each}
use Rattle.atomic_table.specs.Table.{State}
use Rattle.hg_core.specs.Words.{word_of}
use Rattle.hg_core.specs.Phases.{IsSession}
use Rattle.hg_core.specs.State.{CoreState, opened}
use Rattle.hg_core.specs.Steps.{LeadsTo}
use Rattle.hg_core.specs.Invariant.{IsSteady}
use Rattle.hg_rule.specs.declared.view.View.{View}
use Rattle.hg_rule.specs.declared.view.Sizes.{Sizes}
use Rattle.hg_rule.specs.Keys.{Key, pass_key, count, tally, shares, all_shares, whole_share, expected}
use Rattle.hg_rule.specs.Words.{register_at, mask_at, words_for}
use Rattle.hg_rule.specs.Facts.{Shown, Known, Stands, new_part}

-- the state is of a board of these sizes
pub record IsSized (z : Sizes) (s : CoreState) : Type 0 where
  pub sessions : s.sessions ≡ z.sessions
  pub tables : s.tables ≡ z.tables
  pub buckets : s.buckets ≡ z.buckets
  pub quota : s.quota ≡ z.quota

-- each register and the mark have a word, and each table a bit
pub record HasRoom (z : Sizes) : Type 0 where
  pub tables : z.tables ≤ 64
  pub begins : z.sessions * z.quota ≤ 2 ^ 40

-- word 0 is the mark, and each session has a word for its register and one for its mask
pub record ShowsWords (z : Sizes) (s : CoreState) (words : List ℕ) : Type 0 where
  pub count : length words ≡ words_for z.sessions
  pub mark : slice_index words 0 ≡ s.mark
  pub registers : (j : ℕ) → IsSession z.sessions j → slice_index words (register_at j) ≡ word_of (s.register j)
  pub masks : (j : ℕ) → slice_index words (mask_at j) ≡ s.mask j

-- all that a view says is true of the state
pub record IsTrueOf (s : CoreState) (v : View) : Type 0 where
  -- each part is as it is in the state
  pub parts : Each (Shown s) v.parts
  -- what was seen is still so
  pub sights : Each (Known s) v.sights
  -- the steps that were made agree with the sessions' logs
  pub events : Each (Stands s) v.events

-- which passes are in use, where there are so many
pub record AreUsed (passes : ℕ) (used : ℕ → Bool) : Type 0 where
  -- those in use are below this number
  pub below : (p : ℕ) → used p ≡ true → p < passes
  -- the one before this number is in use
  pub last : (p : ℕ) → suc p ≡ passes → used p ≡ true

-- the state of a new board of these sizes: it has three passes
abbrev pub new_state : Sizes → CoreState
new_state z = opened z.sessions z.tables z.buckets 3 z.quota

-- The rule: there is a state that words and views show, and a list of steps from that of a new board reaches it.
pub record Rule (z : Sizes) (t : State ℕ View) : Type 0 where
  pub state : CoreState
  -- a list of steps reaches the state, so it meets the invariant
  pub reached : LeadsTo (new_state z) state
  -- it is the state of a board of these sizes
  pub sized : IsSized z state
  -- the words show its mark, its registers and its masks
  pub words : ShowsWords z state t.words
  -- the passes in use: one that was split off is in use until it is united with another
  pub used : ℕ → Bool
  pub passes : AreUsed state.passes used
  -- each part of the board is in exactly one view, once, and no view has any other part
  pub exact : (k : Key) → tally k t.views ≡ expected z used k
  -- no share is lost: the shares of all passes add up to that of a new board
  pub shared : all_shares t.views ≡ whole_share
  -- where no view has a part, the state is as that of a new board
  pub outside : (k : Key) → expected z used k ≡ 0 → Shown state (new_part k)
  -- each view is true of the state
  pub shown : (i : ℕ) (v : View) → get_elem? t.views i ≡ some v → IsTrueOf state v

-- What a load of the mark says of a view: some state that is reached and meets the invariant has this mark, and is as the view says. A
-- view that has all shares has all passes.
pub record IsBacked (z : Sizes) (mark : ℕ) (v : View) : Type 0 where
  pub state : CoreState
  pub reached : LeadsTo (new_state z) state
  pub steady : IsSteady state
  pub sized : IsSized z state
  -- the mark that was loaded is that of the state
  pub mark_is : state.mark ≡ mark
  pub used : ℕ → Bool
  pub passes : AreUsed state.passes used
  -- the view has no part more often than there are such parts
  pub most : (k : Key) → count k v.parts ≤ expected z used k
  -- a view that has all shares has all passes that are in use
  pub alone : shares v.parts ≡ whole_share → (p : ℕ) → count (pass_key p) v.parts ≡ expected z used (pass_key p)
  -- where no view has a part, the state is as that of a new board
  pub outside : (k : Key) → expected z used k ≡ 0 → Shown state (new_part k)
  -- the view is true of the state
  pub true_of : IsTrueOf state v

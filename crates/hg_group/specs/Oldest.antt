-- What a collector's pass knows once it has asked for the oldest groups.
use Rattle.std.specs.Prelude.{◌≡◌, ℕ, suc, ◌+◌, ◌-◌, ◌<◌, ◌≤◌, List, [], ◌∷◌, ◌++◌, length, map, drop, Option, Some, None, option_to_list, ⊤}
use Rattle.hg_base.specs.declared.rid.Rid.{Rid}
use Rattle.hg_base.specs.History.{Group, History}
use Rattle.hg_core.specs.declared.journal.PassEntry.{PassEntry}
use Rattle.hg_core.specs.declared.journal.PassEntry.TheVariants as entries
use Rattle.hg_rule.specs.declared.view.Part.TheVariants.{OfPass, OfCommit}
use Rattle.hg_rule.specs.declared.view.Sight.{Sight}
use Rattle.hg_rule.specs.declared.view.Sight.TheVariants.{Saw}
use Rattle.hg_rule.specs.declared.view.Event.{Event}
use Rattle.hg_rule.specs.declared.view.Event.TheVariants.{Take}
use Rattle.hg_rule.specs.declared.view.View.{View}
use Rattle.hg_rule.specs.Facts.{StartsWith, IsAmong, groups}
use Rattle.hg_rule.specs.Views.{number, pass, others, seeing}
use Rattle.hg_rule.specs.Holding.{commit, beyond}
use Rattle.hg_rule.specs.Removes.{Takes}
use Rattle.hg_rule.specs.Rounds.{seen_taken}
use Rattle.hg_group.specs.declared.contexts.GroupContext.{GroupContext}
use Rattle.hg_group.specs.Contexts.{IsContextOf}

-- so many groups stand before this one
abbrev pub StandsBehind : ℕ → Group → History → Type 0
StandsBehind before group h = (later : History) × (drop before h ≡ group ∷ later)

-- the context is that of the group that comes next, once so many were taken
abbrev pub IsNext : ℕ → History → GroupContext → Type 0
IsNext taken h context = (group : Group) × (StandsBehind taken group h × IsContextOf (suc taken) group context)

-- the contexts are those of the groups that come next, in order
abbrev pub AreNext : ℕ → History → List GroupContext → Type 0
AreNext taken h [] = ⊤
AreNext taken h (c ∷ contexts) = IsNext taken h c × AreNext (suc taken) h contexts

-- the records of each context, in order
abbrev pub records_of : List GroupContext → List Rid
records_of [] = []
records_of (c ∷ contexts) = c.records.list ++ records_of contexts

-- the steps by which pass p takes groups, each at a mark
abbrev pub takes_by : ℕ → List ℕ → List Event
takes_by p marks = map (λ mark. Take p mark) marks

-- what a pass notes that takes the groups of these contexts, once so many were taken
abbrev pub took_next : ℕ → List GroupContext → List PassEntry
took_next taken [] = []
took_next taken (c ∷ contexts) = entries.Took (suc taken) ∷ took_next (suc taken) contexts

-- The pass took the next groups, each with one step, noted each, and did nothing else. At least as many were taken before as it had seen, and
-- at most as many as the bound with these. The contexts are those of the groups, in the history that it has seen then.
pub record TakesNext (v : View) (bound : ℕ) (contexts : List GroupContext) (w : View) : Type 0 where
  pub before : ℕ
  pub seen : seen_taken v.sights ≤ before
  pub below : length contexts ≤ bound - before
  pub taken : seen_taken w.sights ≡ before + length contexts
  pub history : History
  pub saw : IsAmong (Saw (groups history)) w.sights
  pub next : AreNext before history contexts
  pub marks : List ℕ
  pub count : length marks ≡ length contexts
  pub parts : w.parts ≡ OfPass (number v) (record (pass v) { journal = (pass v).journal ++ took_next before contexts }) ∷ others v
  pub kept : StartsWith w.sights v.sights
  pub events : w.events ≡ v.events ++ takes_by (number v) marks

-- One group was taken, or none: then as many as the bound or more were, and the pass has seen that.
pub record TakesOldest (v : View) (bound : ℕ) (context : Option GroupContext) (w : View) : Type 0 where
  pub takes : TakesNext v bound (option_to_list context) w
  pub enough : context ≡ None → bound ≤ seen_taken w.sights

-- The records of the groups that were taken are in the list now, after those that were there, but for the last group, where its
-- context is given out. Where none is, as many as the bound or more were taken.
pub record TakesSome (v : View) (bound : ℕ) (old : List Rid) (last : Option GroupContext) (new : List Rid) (w : View) : Type 0 where
  pub contexts : List GroupContext
  pub listed : new ≡ old ++ records_of contexts
  pub takes : TakesNext v bound (contexts ++ option_to_list last) w
  pub enough : last ≡ None → bound ≤ seen_taken w.sights

-- ---- while the committer's part is with the pass

-- the next group's context is given out with one step, where fewer than the bound were taken
abbrev pub PopsBelow : View → ℕ → Option GroupContext → View → Type 0
PopsBelow v bound None w = (bound ≤ (commit v).taken) × (w ≡ v)
PopsBelow v bound (Some context) w = ((commit v).taken < bound) × (IsNext (commit v).taken (commit v).history.list context × ((mark : ℕ) × Takes v mark w))

-- the next groups' contexts were popped, each with one step, and each is noted
pub record PopsNext (v : View) (bound : ℕ) (contexts : List GroupContext) (w : View) : Type 0 where
  pub sights : List Sight
  pub marks : List ℕ
  pub count : length marks ≡ length contexts
  pub is : w ≡ seeing (OfPass (number v) (record (pass v) { journal = (pass v).journal ++ took_next (commit v).taken contexts }) ∷
      OfCommit (record (commit v) { taken = (commit v).taken + length contexts }) ∷ beyond v) (v.sights ++ sights) (v.events ++ takes_by (number v) marks)
  pub most : seen_taken sights ≤ (commit v).taken + length contexts
  pub below : length contexts ≤ bound - (commit v).taken
  pub next : AreNext (commit v).taken (commit v).history.list contexts

-- the same, with their records put into a list, but for the last one, where it is given out
pub record PopsSome (v : View) (bound : ℕ) (old : List Rid) (last : Option GroupContext) (new : List Rid) (w : View) : Type 0 where
  pub contexts : List GroupContext
  pub listed : new ≡ old ++ records_of contexts
  pub pops : PopsNext v bound (contexts ++ option_to_list last) w
  pub enough : last ≡ None → bound ≤ (commit w).taken

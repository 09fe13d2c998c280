-- What a group's context says of the group.
use Rattle.std.specs.Prelude.{◌≡◌, ℕ, suc, List, [], ◌∷◌, drop, is_some, ⊤}
use Rattle.hg_base.specs.declared.rid.Rid.{Rid}
use Rattle.hg_base.specs.History.{Group, History, NoneTwice, is_among, group_image}
use Rattle.hg_queue.specs.Rids.{Rids}
use Rattle.hg_group.specs.declared.contexts.GroupContext.{GroupContext}

-- it has the group's number, and exactly the records that the group writes, each once
pub record IsContextOf (number : ℕ) (group : Group) (context : GroupContext) : Type 0 where
  pub number_is : context.number ≡ number
  pub once : NoneTwice context.records.list
  pub exact : (r : Rid) → is_among r context.records.list ≡ is_some (group_image r group)

-- the context of group n with these records
abbrev pub context_of : ℕ → Rids → GroupContext
context_of n records = record { number = n; records = records }

-- as many lists of records as groups, in order, the first group having number n: each is what the group's context lists
abbrev pub EachContextOf : ℕ → List Group → List Rids → Type 0
EachContextOf n [] [] = ⊤
EachContextOf n [] (l ∷ lists) = ⊥
EachContextOf n (group ∷ groups) [] = ⊥
EachContextOf n (group ∷ groups) (l ∷ lists) = IsContextOf n group (context_of n l) × EachContextOf (suc n) groups lists

-- those of the groups that were not taken out
abbrev pub AreContexts : History → ℕ → List Rids → Type 0
AreContexts h taken lists = EachContextOf (suc taken) (drop taken h) lists

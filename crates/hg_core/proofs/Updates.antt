-- No update is lost: what a new group overwrites, its sessions saw.
use Rattle.std.proofs.Common.{◌≡◌, ℕ, suc, ◌+◌, ◌≤◌, ◌⊎◌, inl, inr, List, [], ◌∷◌, ◌++◌, length, Option, None, Some, Bool, true, false, not, refl, sym, subst, arith}
use Rattle.std.specs.Prelude.{if◌then◌else◌, cond, filter, IsSome, IsTrue, option_map}
use Rattle.std.specs.List.{cons_option}
use Rattle.hg_base.specs.declared.rid.Rid.{Rid}
use Rattle.hg_base.specs.declared.image.Image.{Image}
use Rattle.hg_base.specs.Lists.{Each}
use Rattle.hg_base.specs.History.{Write, Commit, Group, History, EachGroup, same_rid, group_image, writes, NoLostUpdate, LosesNothing}
use Rattle.hg_base.specs.Transcript.{last_images}
use Rattle.hg_base.proofs.HistoryFacts.{same_rid_itself, writes_from_snoc}
use Rattle.hg_base.proofs.ListFacts.{each_keeps, each_append}
use Rattle.hg_base.proofs.Growth.{each_group_snoc as group_more}
use Rattle.hg_core.specs.declared.log.LogEntry.{LogEntry}
use Rattle.hg_core.specs.declared.log.LogEntry.TheVariants.{Began, Saw, Refused, Outside, Wrote, Undid, Published, Over}
use Rattle.hg_core.specs.declared.phase.Phase.{Phase}
use Rattle.hg_core.specs.declared.phase.Phase.TheVariants.{Idle, Declared, Probed, Entered, Fixed, Live}
use Rattle.hg_core.specs.Logs.{current, snapshot_number, is_plain, own_writes, open_in, open_writes, new_group}
use Rattle.hg_core.specs.Phases.{snapshot_in}
use Rattle.hg_core.specs.Covered.{MayCommit, OpenWritesMayCommit}

-- ---- a group more

groups_within : (P Q : ℕ → Group → Type 0) (n top : ℕ) (h : History) → n + length h ≤ suc top → ((m : ℕ) (g : Group) → m ≤ top → P m g → Q m g) → EachGroup P n h → EachGroup Q n h
groups_within P Q n top [] k f e = tt
groups_within P Q n top (g ∷ gs) k f e = (f n g (omega arith) e.0, groups_within P Q (suc n) top gs (omega arith) f e.1)

writes_each : (Q : ℕ × Image → Type 0) (h : History) (g : Group) (r : Rid) → Each Q (writes h r) → ((i : Image) → Q (1 + length h, i)) → Each Q (writes (h ++ g ∷ []) r)
writes_each Q h g r old new = subst (Each Q) (sym (writes_from_snoc 1 h g r)) (each_append Q (writes h r) _ old (go (group_image r g)))
  where
    go : (o : Option Image) → Each Q (cons_option (option_map (λ image. (1 + length h, image)) o) [])
    go None = tt
    go (Some i) = (new i, tt)

-- each write of a record that a commit in group n writes is at or below its snapshot, or at or over n
abbrev pub Sees : History → ℕ → Commit → Type 0
Sees h n c = Each (λ w. Each (λ (other : ℕ × Image). (other.0 ≤ c.at) ⊎ (n ≤ other.0)) (writes h w.rid)) c.images

pub update_more : (h : History) (g : Group) → NoLostUpdate h → Each (LosesNothing h) g → NoLostUpdate (h ++ g ∷ [])
update_more h g old new = group_more (λ n group. Each (Sees (h ++ g ∷ []) n) group) 1 h g
    (groups_within (λ n group. Each (Sees h n) group) (λ n group. Each (Sees (h ++ g ∷ []) n) group) 1 (length h) h (omega arith)
    (λ m group le e. each_keeps (Sees h m) (Sees (h ++ g ∷ []) m) (λ c s. still m le c s) group e) old)
    (each_keeps (LosesNothing h) (Sees (h ++ g ∷ []) (1 + length h)) now g new)
  where
    still : (m : ℕ) → m ≤ length h → (c : Commit) → Sees h m c → Sees (h ++ g ∷ []) m c
    still m le c s = each_keeps _ _ (λ (w : Write) e. writes_each (λ (other : ℕ × Image). (other.0 ≤ c.at) ⊎ (m ≤ other.0)) h g w.rid e (λ i. inr (omega arith))) c.images s

    now : (c : Commit) → LosesNothing h c → Sees (h ++ g ∷ []) (1 + length h) c
    now c l = each_keeps _ _ (λ (w : Write) e. writes_each (λ (other : ℕ × Image). (other.0 ≤ c.at) ⊎ (1 + length h ≤ other.0)) h g w.rid
        (each_keeps (λ (other : ℕ × Image). other.0 ≤ c.at) (λ (other : ℕ × Image). (other.0 ≤ c.at) ⊎ (1 + length h ≤ other.0)) (λ other le. inl le) (writes h w.rid) e)
        (λ i. inr (omega arith))) c.images l

-- ---- what a session commits is open

each_filter : (Q : Write → Type 0) (p : Write → Bool) (ws : List Write) → Each Q ws → Each Q (filter p ws)
each_filter Q p [] e = tt
each_filter Q p (w ∷ ws) e = go (p w) (each_filter Q p ws e.1)
  where
    go : (b : Bool) → Each Q (filter p ws) → Each Q (cond b (w ∷ filter p ws) (filter p ws))
    go true later = (e.0, later)
    go false later = later

pub each_last : (Q : Write → Type 0) (ws : List Write) → Each Q ws → Each Q (last_images ws)
each_last Q [] e = tt
each_last Q (w ∷ ws) e = (e.0, each_filter Q (λ v. not (same_rid w.rid v.rid)) (last_images ws) (each_last Q ws e.1))

pub own_open : (log : List LogEntry) → is_plain log ≡ true → Each (λ w. IsSome (open_in w.rid log)) (own_writes log)
own_open [] p = tt
own_open (Began at scope ∷ log) p = tt
own_open (Over ∷ log) p = tt
own_open (Published n ∷ log) p = cc
own_open (Undid r ∷ log) p = cc
own_open (Wrote r image ∷ log) p = (
  subst (λ b. IsSome (if b then Some image else open_in r log)) (sym (same_rid_itself r)) refl,
  each_keeps _ _
      (λ (w : Write) s. more w s (same_rid r w.rid)) (own_writes log) (own_open log p),
)
  where
    more : (w : Write) → IsSome (open_in w.rid log) → (b : Bool) → IsSome (if b then Some image else open_in w.rid log)
    more w s true = refl
    more w s false = s
own_open (Saw t low high b rows ∷ log) p = own_open log p
own_open (Refused r answer ∷ log) p = own_open log p
own_open (Outside t ∷ log) p = own_open log p

pub some_is : {X : Type 0} (o : Option X) → IsSome o → (x : X) × (o ≡ Some x)
some_is None s = cc
some_is (Some x) s = (x, refl)

at_snapshot : (h : History) (r : Rid) (p : Phase) → MayCommit h r p → Each (λ (w : ℕ × Image). w.0 ≤ snapshot_number (snapshot_in p)) (writes h r)
at_snapshot h r Idle m = absurd m
at_snapshot h r (Declared scope) m = absurd m
at_snapshot h r (Probed scope f) m = absurd m
at_snapshot h r (Entered scope f) m = absurd m
at_snapshot h r (Fixed scope f n) m = absurd m
at_snapshot h r (Live at scope) m = m.1

pub group_loses_nothing : (h : History) (phase : ℕ → Phase) (log : ℕ → List LogEntry) (js : List ℕ) → ((j : ℕ) → current (log j) ≡ snapshot_in (phase j)) →
    OpenWritesMayCommit h phase (open_writes log) → Each (λ j. IsTrue (is_plain (log j))) js → Each (LosesNothing h) (new_group log js)
group_loses_nothing h phase log [] reads may plain = tt
group_loses_nothing h phase log (j ∷ js) reads may plain = (
  each_last (λ w. Each (λ (other : ℕ × Image). other.0 ≤ snapshot_number (current (log j))) (writes h w.rid)) (own_writes (log j))
      (each_keeps _ _ (λ (w : Write) s. one w s) (own_writes (log j)) (own_open (log j) plain.0)),
  group_loses_nothing h phase log js reads may plain.1,
)
  where
    one : (w : Write) → IsSome (open_in w.rid (log j)) → Each (λ (other : ℕ × Image). other.0 ≤ snapshot_number (current (log j))) (writes h w.rid)
    one w s = let o = some_is (open_in w.rid (log j)) s in subst (λ n. Each (λ (other : ℕ × Image). other.0 ≤ snapshot_number n) (writes h w.rid)) (sym (reads j))
        (at_snapshot h w.rid (phase j) (may j w.rid o.0 o.1))

-- There are no more commits than the sessions may begin transactions.
use Rattle.std.proofs.Common.{◌≡◌, ℕ, suc, ◌+◌, ◌*◌, ◌<◌, ◌≤◌, Bool, true, false, ltb, List, [], ◌∷◌, length, inl, inr, refl, sym, ap, subst, arith}
use Rattle.std.specs.Prelude.{◌^◌, ◌⊎◌}
use Rattle.hg_base.specs.Lists.{Each}
use Rattle.hg_core.specs.Phases.{IsSession}
use Rattle.hg_core.specs.Commits.{commits_in, AloneHaveLogs}
use Rattle.hg_core.proofs.Commits.{commits_most}
use Rattle.hg_rule.specs.declared.view.CommitPart.{CommitPart}
use Rattle.hg_rule.specs.declared.view.Part.{Part}
use Rattle.hg_rule.specs.declared.view.Part.TheVariants.{OfCommit}
use Rattle.hg_rule.specs.Facts.{Shown}
use Rattle.hg_rule.specs.declared.view.View.{View}
use Rattle.hg_rule.specs.declared.view.Sizes.{Sizes}
use Rattle.hg_rule.specs.Keys.{session_key, both, one}
use Rattle.hg_rule.specs.Rules.{IsBacked, HasRoom}
use Rattle.hg_rule.proofs.Found.{inside_is}
use Rattle.hg_queue.specs.declared.open_tx.OpenTx.{OpenTx}
use Rattle.hg_group.specs.Batch.{with_room}

alone : (z : Sizes) (n : ℕ) (v : View) (k : IsBacked z n v) → AloneHaveLogs z.sessions k.state.log
alone z n v k j = go (both (ltb 0 j) (ltb j (suc z.sessions))) refl
  where
    go : (b : Bool) → both (ltb 0 j) (ltb j (suc z.sessions)) ≡ b → IsSession z.sessions j ⊎ (k.state.log j ≡ [])
    go true e = inl (inside_is z j e)
    go false e = inr ((k.outside (session_key j) (ap one e)).1.0)

few : (z : Sizes) (n : ℕ) (v : View) (k : IsBacked z n v) → commits_in k.state.history ≤ z.sessions * z.quota
few z n v k = subst {A = ℕ × ℕ} (λ x. commits_in k.state.history ≤ x.0 * x.1) (λ i. (k.sized.sessions i, k.sized.quota i))
    (commits_most k.state k.steady (subst (λ m. AloneHaveLogs m k.state.log) (sym k.sized.sessions) (alone z n v k)))

-- the commits of the committer's part that a view has
pub count_most : (z : Sizes) (n : ℕ) (v : View) (first : Part) (part : CommitPart) (os : List Part) → IsBacked z n v → v.parts ≡ first ∷ OfCommit part ∷ os →
    z.sessions * z.quota ≤ 2 ^ 40 → commits_in part.history.list ≤ 2 ^ 40
count_most z n v first part os k is room =
    let all : Each (Shown k.state) (first ∷ OfCommit part ∷ os) = subst (Each (Shown k.state)) is k.true_of.parts in
    let a : commits_in part.history.list ≤ z.sessions * z.quota = subst (λ h. commits_in h ≤ z.sessions * z.quota) all.1.0.0 (few z n v k) in omega (arith, a, room)

-- ---- a batch more

pub batch_fits : (z : Sizes) (mark count long sessions : ℕ) (w : View) (first : Part) (part : CommitPart) (os : List Part) → IsBacked z mark w → w.parts ≡ first ∷ OfCommit part ∷ os →
    HasRoom z → count ≡ commits_in part.history.list → long ≤ sessions → sessions < 2 ^ 32 → count + long < 2 ^ 64
batch_fits z mark count long sessions w first part os backed is room same le small = let a = count_most z mark w first part os backed is room.begins in omega (arith, a, same, le, small)

pub room_long : (n : ℕ) (txs : List OpenTx) → length (with_room n txs) ≡ length txs
room_long n [] = refl
room_long n (tx ∷ txs) = refl

pub at_most : (long popped most laid sessions : ℕ) → long ≡ popped → popped ≤ most → most ≡ laid → laid ≡ sessions → long ≤ sessions
at_most long popped most laid sessions a b c d = omega (arith, a, b, c, d)

pub low : (a h b k : ℕ) → a ≤ h → b ≡ a → k ≡ suc h → b ≤ k
low a h b k le e f = omega (arith, le, e, f)

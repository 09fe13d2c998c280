-- What a view's own parts say of the state, and what a step on some of them leaves.
use Rattle.std.proofs.Common.{◌≡◌, ℕ, ◌+◌, true, false, eqb, List, ◌∷◌, ◌==◌, refl, sym, ap, ◌∙◌, subst, arith, eq-eqb}
use Rattle.std.specs.Prelude.{if◌then◌else◌, IsSome}
use Rattle.std.proofs.lemmas.Bool.Decides.{nat_tests}
use mathlib.Core.Option.{some}
use lib.ListN.{get_elem?}
use Rattle.hg_base.specs.declared.rid.Rid.{Rid}
use Rattle.hg_base.specs.Lists.{Each}
use Rattle.hg_core.specs.declared.phase.Phase.{Phase}
use Rattle.hg_core.specs.declared.phase.Phase.TheVariants.{Idle, Declared, Probed, Entered, Fixed, Live}
use Rattle.hg_core.specs.declared.log.LogEntry.{LogEntry}
use Rattle.hg_core.specs.declared.version.Version.{Version}
use Rattle.hg_core.specs.Logs.{current, begans, begun_in, snapshot_number}
use Rattle.hg_core.specs.Phases.{declared_in, snapshot_in}
use Rattle.hg_core.specs.Contents.{Content, bucket_of, look, store, versions, stored, has_stamped}
use Rattle.hg_core.specs.OpenWrites.{writer_of}
use Rattle.hg_core.specs.State.{CoreState}
use Rattle.hg_core.specs.Events.{put}
use Rattle.hg_core.specs.Invariant.{IsSteady}
use Rattle.hg_core.proofs.Indices.{by_number}
use Rattle.hg_rule.specs.declared.view.Part.{Part}
use Rattle.hg_rule.specs.declared.view.Part.TheVariants.{OfSession, OfBucket, OfCommit, OfPass, Away, Lent}
use Rattle.hg_rule.specs.declared.view.View.{View}
use Rattle.hg_rule.specs.declared.view.Sizes.{Sizes}
use Rattle.hg_rule.specs.declared.view.SessionPart.{SessionPart}
use Rattle.hg_rule.specs.Keys.{session_key, bucket_key, commit_key, pass_key, home_key, one, count}
use Rattle.hg_rule.specs.Facts.{Shown, EndsWith}
use Rattle.hg_rule.specs.Rules.{Rule}
use Rattle.hg_rule.specs.Views.{number, session, others}
use Rattle.hg_rule.specs.Steps.{loaded_in}
use Rattle.hg_rule.specs.Holding.{bucket, writer, snapshot}
use Rattle.hg_rule.proofs.Counts.{Only}
use Rattle.hg_rule.proofs.Lists.{ends_same}
use Rattle.hg_rule.proofs.Keeps.{Table}

-- ---- what a step leaves: all that it doesn't have in its list of parts

pub record Leaves (c d : CoreState) (qs : List Part) : Type 0 where
  pub phase : (k : ℕ) → count (session_key k) qs ≡ 0 → d.phase k ≡ c.phase k
  pub log : (k : ℕ) → count (session_key k) qs ≡ 0 → d.log k ≡ c.log k
  pub stamped : (k : ℕ) → count (session_key k) qs ≡ 0 → has_stamped k d.stamped_list ≡ has_stamped k c.stamped_list
  pub bucket : (b : ℕ) → count (bucket_key b) qs ≡ 0 → d.bucket b ≡ c.bucket b
  pub counters : (b : ℕ) → count (bucket_key b) qs ≡ 0 → d.counters b ≡ c.counters b
  pub history : count commit_key qs ≡ 0 → d.history ≡ c.history
  pub list : count commit_key qs ≡ 0 → d.stamped_list ≡ c.stamped_list
  pub taken : count commit_key qs ≡ 0 → d.taken ≡ c.taken
  pub pass : (p : ℕ) → count (pass_key p) qs ≡ 0 → d.pass p ≡ c.pass p
  pub visits : (p : ℕ) → count (pass_key p) qs ≡ 0 → d.visits p ≡ c.visits p
  pub home : (k : ℕ) (part : SessionPart) (n : ℕ) → count (home_key k) qs ≡ 0 → Shown c (Away k part n) → Shown d (Away k part n)

pub leaves_only : (c d : CoreState) (qs : List Part) → Leaves c d qs → Only c d qs
leaves_only c d qs h (OfSession k t) away s = (h.phase k away ∙ s.0, (h.log k away ∙ s.1.0, h.stamped k away ∙ s.1.1))
leaves_only c d qs h (OfBucket b t) away s = (h.bucket b away ∙ s.0, h.counters b away ∙ s.1)
leaves_only c d qs h (OfCommit t) away s = (h.history away ∙ s.0, (h.list away ∙ s.1.0, h.taken away ∙ s.1.1))
leaves_only c d qs h (OfPass p t) away s = (h.pass p away ∙ s.0, (h.visits p away ∙ s.1.0, s.1.1))
leaves_only c d qs h (Away k t n) away s = h.home k t n away s
leaves_only c d qs h (Lent k t) away s = (h.phase k away ∙ s.0, (h.log k away ∙ s.1.0, h.stamped k away ∙ s.1.1))

-- another number, where a list that begins with a part of a number has none of it, or one whose second part does
pub not_first : (i k n : ℕ) → one (eqb i k) + n ≡ 0 → k ≡ i → ⊥
not_first i k n z e = let x : ℕ = one (eqb i k) in let t : x ≡ 1 = ap one (eq-eqb i k (sym e)) in let z' : x + n ≡ 0 = z in omega arith

pub not_second : (i k m n : ℕ) → m + (one (eqb i k) + n) ≡ 0 → k ≡ i → ⊥
not_second i k m n z e = let x : ℕ = one (eqb i k) in let t : x ≡ 1 = ap one (eq-eqb i k (sym e)) in let z' : m + (x + n) ≡ 0 = z in omega arith

-- a log that gets longer
pub log_put : (c : CoreState) (j : ℕ) (log : List LogEntry) → EndsWith log (c.log j) → (k : ℕ) → EndsWith (put c.log j log k) (c.log k)
log_put c j log ends = by_number j (λ k b. EndsWith (if b then log else c.log k) (c.log k)) ends (λ k other. ends_same (c.log k))

-- ---- a bucket that is held

module _ (z : Sizes) (t : Table) (r : Rule z t) (id : ℕ) (v : View) (at : get_elem? t.views id ≡ some v) where
  pub own_second : (p q : Part) (ps : List Part) → v.parts ≡ p ∷ others v → others v ≡ q ∷ ps → Shown r.state q
  own_second p q ps first second = (subst (Each (Shown r.state)) (first ∙ ap (λ (l : List Part). p ∷ l) second) (r.shown id v at).parts).1.0

  pub own_third : (p q x : Part) (ps : List Part) → v.parts ≡ p ∷ others v → others v ≡ q ∷ x ∷ ps → Shown r.state x
  own_third p q x ps first second = (subst (Each (Shown r.state)) (first ∙ ap (λ (l : List Part). p ∷ l) second) (r.shown id v at).parts).1.1.0

-- the versions of a record are those in the bucket held
pub held_versions : (c : CoreState) (z buckets b : ℕ) (content : Content) (rid : Rid) → c.buckets ≡ buckets → bucket_of buckets rid ≡ b → c.bucket b ≡ content →
    versions c.buckets c.bucket rid ≡ look rid content
held_versions c z buckets b content rid same at is = ap (λ n. look rid (c.bucket (bucket_of n rid))) same ∙ (ap (λ n. look rid (c.bucket n)) at ∙ ap (look rid) is)

-- and where they are stored anew, no other bucket changes
pub stored_else : (buckets : ℕ) (bucket : ℕ → Content) (rid : Rid) (vs : List Version) (b k : ℕ) → bucket_of buckets rid ≡ b → (k ≡ b → ⊥) → stored buckets bucket rid vs k ≡ bucket k
stored_else buckets bucket rid vs b k at other = let e : (k == bucket_of buckets rid) ≡ false = ap (λ n. k == n) at ∙ unlike in
    ap (λ x. if x then store rid vs (bucket (bucket_of buckets rid)) else bucket k) e
  where
    unlike : (k == b) ≡ false
    unlike = grind (arith, nat_tests)

pub stored_here : (buckets : ℕ) (bucket : ℕ → Content) (rid : Rid) (vs : List Version) (b : ℕ) (content : Content) → bucket_of buckets rid ≡ b → bucket b ≡ content →
    stored buckets bucket rid vs b ≡ store rid vs content
stored_here buckets bucket rid vs b content at is = let e : (b == bucket_of buckets rid) ≡ true = ap (λ n. b == n) at ∙ alike in
    ap (λ x. if x then store rid vs (bucket (bucket_of buckets rid)) else bucket b) e ∙ (ap (λ n. store rid vs (bucket n)) at ∙ ap (store rid vs) is)
  where
    alike : (b == b) ≡ true
    alike = grind (arith, nat_tests)

-- ---- a live session

pub live_is : (p : Phase) → IsSome (snapshot_in p) → p ≡ Live (loaded_in p) (declared_in p)
live_is Idle e = absurd (let x = e in cc)
live_is (Declared scope) e = absurd (let x = e in cc)
live_is (Probed scope f) e = absurd (let x = e in cc)
live_is (Entered scope f) e = absurd (let x = e in cc)
live_is (Fixed scope f m) e = absurd (let x = e in cc)
live_is (Live at scope) e = refl

-- its transaction, as the state has it
pub writer_is : (c : CoreState) (v : View) → c.log (number v) ≡ (session v).log → writer_of (begun_in c.log) (number v) ≡ writer v
writer_is c v log = λ i. record { session = number v; transaction = begans (log i) }

-- and its snapshot
pub snapshot_is : (c : CoreState) (v : View) → IsSteady c → c.phase (number v) ≡ (session v).phase → IsSome (snapshot_in (session v).phase) → snapshot_number (current (c.log (number v))) ≡ snapshot v
snapshot_is c v h phase live = ap snapshot_number (h.logs_answer.reads (number v) ∙ ap snapshot_in (phase ∙ live_is (session v).phase live))

-- A record that has no version is written and stamped, and those with greater keys have none still. Its transaction may be published.
use Rattle.std.proofs.Common.{◌≡◌, ℕ, ◌+◌, ◌<◌, Bool, true, false, List, [], ◌∷◌, ◌==◌, refl, sym, ap, ◌∙◌, subst, arith}
use Rattle.std.specs.Prelude.{if◌then◌else◌, IsSome, IsTrue, ◌&&◌, ◌||◌}
use Rattle.std.proofs.lemmas.Bool.Decides.{nat_tests}
use Rattle.hg_base.specs.declared.rid.Rid.{Rid}
use Rattle.hg_base.specs.declared.image.Image.{Image}
use Rattle.hg_base.specs.declared.writer.Writer.{Writer}
use Rattle.hg_base.specs.History.{same_rid}
use Rattle.hg_base.proofs.HistoryFacts.{same_rid_equal, same_rid_itself}
use Rattle.hg_core.specs.declared.version.Version.{Version}
use Rattle.hg_core.specs.Versions.{IsOpenBy, installed}
use Rattle.hg_core.specs.Contents.{Content, bucket_of, look, store}
use Rattle.hg_core.specs.Logs.{is_plain, open_in}
use Rattle.hg_core.specs.Phases.{snapshot_in}
use Rattle.hg_core.proofs.Records.{look_store}
use Rattle.hg_core.proofs.NewGroup.{first_in as in_first}
use Rattle.hg_rule.specs.declared.view.SessionPart.{SessionPart}
use Rattle.hg_rule.specs.declared.view.CommitPart.{CommitPart}
use Rattle.hg_rule.specs.declared.view.BucketPart.{BucketPart}
use Rattle.hg_rule.specs.Writes.{installing, stamping, listing, with_stamp}
use Rattle.hg_rule.specs.Handing.{flag, MayPublish}
use Rattle.hg_trials.specs.Between.{IsFreeFrom}

-- the only bucket has each record
pub one_bucket : (buckets : ℕ) (rid : Rid) → buckets ≡ 1 → bucket_of buckets rid ≡ 0
unfolding bucket_of
one_bucket buckets rid one = subst (λ n. bucket_of n rid ≡ 0) (sym one) (omega arith)

pub opened : (w : Writer) (rid : Rid) (image : Image) (part : BucketPart) → look rid part.content ≡ [] → IsOpenBy w (look rid (installing w rid image part).content)
opened w rid image part free =
    let vs : List Version = installed w image (look rid part.content) in
    subst (IsOpenBy w) (sym (look_store rid rid vs part.content ∙ ap (λ b. if b then vs else look rid part.content) (same_rid_itself rid)))
    (subst (λ xs. IsOpenBy w (installed w image xs)) (sym free) refl)

look_else : (q r : Rid) (vs : List Version) (content : Content) → r.key < q.key → look q (store r vs content) ≡ look q content
look_else q r vs content less = look_store q r vs content ∙ go (same_rid q r) refl
  where
    go : (b : Bool) → same_rid q r ≡ b → (if b then vs else look q content) ≡ look q content
    go true e = absurd (let same : q.key ≡ r.key = ap (λ (x : Rid). x.key) (same_rid_equal q r e) in omega arith)
    go false e = refl

pub free_after : (key n : ℕ) (w : Writer) (rid : Rid) (image : Image) (part : BucketPart) → rid.key ≡ key → IsFreeFrom key part.content →
    IsFreeFrom (key + 1) (stamping n w rid (installing w rid image part)).content
free_after key n w rid image part is free q from = look_else q rid _ _ (omega arith) ∙ (look_else q rid _ _ (omega arith) ∙ free q (omega arith))

-- ---- a group of one

-- a session that is alone, of whose one open write this is the record, may be published once that is stamped
pub may_alone : (j : ℕ) (s : SessionPart) (h : CommitPart) (rid : Rid) → IsSome (snapshot_in s.phase) → IsTrue (is_plain s.log) →
    ((r : Rid) → IsSome (open_in r s.log) → same_rid rid r ≡ true) → h.stamped ≡ []
    → MayPublish (flag j ((j, s) ∷ [])) (listing j rid h).stamped
may_alone j s h rid live plain only none =
    let itself : (j == j) ≡ true = grind (arith, nat_tests) in
    subst (λ (list : List (ℕ × Rid)). MayPublish (flag j ((j, s) ∷ [])) ((j, rid) ∷ list)) (sym none)
    (subst (λ (t : SessionPart). MayPublish ((j, t) ∷ []) ((j, rid) ∷ [])) (sym (ap (λ b. if b then with_stamp s else s) itself)) record {
      some = omega arith;
      live = (live, tt);
      plain = (plain, tt);
      flagged = (refl, tt);
      alone = (in_first j [], tt);
      every = (λ r opened. ap (λ b. (b && same_rid rid r) || false) itself ∙ ap (λ b. b || false) (only r opened), tt);
    })

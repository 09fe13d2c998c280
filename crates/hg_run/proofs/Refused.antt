-- A call keeps its session's number, where it is refused too.
use Rattle.std.proofs.Common.{◌≡◌, ℕ, inl, inr, refl, Bool, Option, Some, None}
use Rattle.std.specs.Prelude.{Result, Ok, Err, IfSome}
use Rattle.hg_base.specs.declared.rid.Rid.{Rid}
use Rattle.hg_base.specs.declared.rid.TableId.{TableId}
use Rattle.hg_base.specs.declared.image.Image.{Image}
use Rattle.hg_base.specs.declared.scope.Snapshot.{Snapshot}
use Rattle.hg_base.specs.declared.statement.Statement.{Statement}
use Rattle.hg_rule.specs.declared.view.View.{View}
use Rattle.hg_rule.specs.declared.view.Sizes.{Sizes}
use Rattle.hg_rule.specs.Views.{number}
use Rattle.hg_session.specs.declared.answers.Read.{Read}
use Rattle.hg_session.specs.declared.answers.Scanned.{Scanned}
use Rattle.hg_session.specs.declared.answers.Written.{Written}
use Rattle.hg_session.specs.declared.answers.Deleted.{Deleted}
use Rattle.hg_session.specs.declared.answers.GetRefusal.{GetRefusal}
use Rattle.hg_session.specs.declared.answers.GetRefusal.TheVariants as get
use Rattle.hg_session.specs.declared.answers.PutRefusal.{PutRefusal}
use Rattle.hg_session.specs.declared.answers.PutRefusal.TheVariants as put
use Rattle.hg_session.specs.Replies.{Answers, get_reply, scan_reply, put_reply, del_reply}
use Rattle.hg_session.specs.Refused.{LeavesLooks, LeavesNoWrite}

module _ (z : Sizes) (s : Statement) (v w : View) where
  looked : (o : Option Snapshot) (table : TableId) (low high : ℕ) → LeavesLooks o table low high v w → number w ≡ number v
  looked None table low high h = h.gains.number_is
  looked (Some snapshot) table low high h = h.gains.number_is

  unwritten : (o : Option Snapshot) (rid : Rid) (image : Image) → LeavesNoWrite o rid image v w → number w ≡ number v
  unwritten None rid image (inl h) = h.gains.number_is
  unwritten None rid image (inr h) = h.gains.number_is
  unwritten (Some snapshot) rid image h = h.gains.number_is

  pub number_got : (o : Option Snapshot) (table : TableId) (low high : ℕ) (alone : Bool) (result : Result Read GetRefusal) →
      IfSome (get_reply alone result) (λ reply. Answers z v s reply w) → (result ≡ Err get.NoMemory → LeavesLooks o table low high v w) → number w ≡ number v
  number_got o table low high alone (Ok read) a refused = a.number_is
  number_got o table low high alone (Err (get.Undeclared t)) a refused = a.number_is
  number_got o table low high alone (Err get.NoMemory) a refused = looked o table low high (refused refl)

  pub number_scanned : (o : Option Snapshot) (table : TableId) (low high : ℕ) (alone : Bool) (result : Result Scanned GetRefusal) →
      IfSome (scan_reply alone result) (λ reply. Answers z v s reply w) → (result ≡ Err get.NoMemory → LeavesLooks o table low high v w) → number w ≡ number v
  number_scanned o table low high alone (Ok scanned) a refused = a.number_is
  number_scanned o table low high alone (Err (get.Undeclared t)) a refused = a.number_is
  number_scanned o table low high alone (Err get.NoMemory) a refused = looked o table low high (refused refl)

  pub number_put : (o : Option Snapshot) (rid : Rid) (image : Image) (alone : Bool) (result : Result Written PutRefusal) →
      IfSome (put_reply alone result) (λ reply. Answers z v s reply w) → (result ≡ Err put.NoMemory → LeavesNoWrite o rid image v w) → number w ≡ number v
  number_put o rid image alone (Ok written) a refused = a.number_is
  number_put o rid image alone (Err (put.Undeclared t)) a refused = a.number_is
  number_put o rid image alone (Err (put.Open at session transaction)) a refused = a.number_is
  number_put o rid image alone (Err (put.Newer at n)) a refused = a.number_is
  number_put o rid image alone (Err put.NoMemory) a refused = unwritten o rid image (refused refl)

  pub number_deleted : (o : Option Snapshot) (rid : Rid) (image : Image) (alone : Bool) (result : Result Deleted PutRefusal) →
      IfSome (del_reply alone result) (λ reply. Answers z v s reply w) → (result ≡ Err put.NoMemory → LeavesNoWrite o rid image v w) → number w ≡ number v
  number_deleted o rid image alone (Ok deleted) a refused = a.number_is
  number_deleted o rid image alone (Err (put.Undeclared t)) a refused = a.number_is
  number_deleted o rid image alone (Err (put.Open at session transaction)) a refused = a.number_is
  number_deleted o rid image alone (Err (put.Newer at n)) a refused = a.number_is
  number_deleted o rid image alone (Err put.NoMemory) a refused = unwritten o rid image (refused refl)

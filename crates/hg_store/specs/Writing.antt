-- What a write to a bucket that is held answers, and what it makes of the view.
use Rattle.std.specs.Prelude.{◌≡◌, ℕ, List, Option, None, Some, option_and_then, Result, Ok, Err, OnOk, OnErr, IfErr, IfSome, IsFalse, ◌==◌, ⊤}
use Rattle.hg_base.specs.declared.rid.Rid.{Rid}
use Rattle.hg_base.specs.declared.image.Image.{Image}
use Rattle.hg_base.specs.declared.line.Answer.TheVariants as answers
use Rattle.hg_base.specs.Lists.{Each}
use Rattle.hg_core.specs.declared.ask.Ask.TheVariants.{Write}
use Rattle.hg_core.specs.declared.log.LogEntry.{LogEntry}
use Rattle.hg_core.specs.Shown.{IsFirstAt}
use Rattle.hg_core.specs.Versions.{IsOpenBy}
use Rattle.hg_core.specs.Replies.{refusal}
use Rattle.hg_bucket.specs.declared.refusal.WriteRefusal.{WriteRefusal}
use Rattle.hg_bucket.specs.declared.refusal.WriteRefusal.TheVariants.{Open, Newer, NoMemory}
use Rattle.hg_rule.specs.declared.view.Sight.{Sight}
use Rattle.hg_rule.specs.declared.view.Sight.TheVariants.{Heard}
use Rattle.hg_rule.specs.Facts.{EndsWith, IsAmong}
use Rattle.hg_rule.specs.Views.{number, session}
use Rattle.hg_core.specs.Phases.{IsSession}
use Rattle.hg_rule.specs.declared.view.Sizes.{Sizes}
use Rattle.hg_rule.specs.declared.view.View.{View}
use Rattle.hg_rule.specs.Holding.{held, writer, snapshot}
use Rattle.hg_rule.specs.Writes.{Looks, Installs}
use Rattle.hg_store.specs.Kept.{refusal_of}
use Rattle.hg_store.specs.Ends.{HasNoEnd}

-- how the content held refuses a write at that mark, if it does
abbrev pub refused_at : ℕ → View → Rid → Option WriteRefusal
refused_at mark v rid = option_and_then refusal_of (refusal mark (writer v) (snapshot v) (held v rid))

-- a refusal for a conflict is that of the content; memory is asked for only where the record isn't refused and isn't held open
abbrev pub IsCause : ℕ → View → Rid → WriteRefusal → Type 0
IsCause mark v rid (Open session transaction) = refused_at mark v rid ≡ Some (Open session transaction)
IsCause mark v rid (Newer n) = refused_at mark v rid ≡ Some (Newer n)
IsCause mark v rid NoMemory = (refused_at mark v rid ≡ None) × (IsOpenBy (writer v) (held v rid) → ⊥)

-- the transaction that has the record open goes on, by what was seen
abbrev pub OwnerGoesOn : List Sight → WriteRefusal → Type 0
OwnerGoesOn sights (Open session transaction) = Each (HasNoEnd (record { session = session; transaction = transaction })) sights
OwnerGoesOn sights (Newer n) = ⊤
OwnerGoesOn sights NoMemory = ⊤

-- the session that has the record open is another one of the board
abbrev pub IsAnothers : Sizes → ℕ → WriteRefusal → Type 0
IsAnothers z j (Open session transaction) = IsSession z.sessions session × IsFalse (session == j)
IsAnothers z j (Newer n) = ⊤
IsAnothers z j NoMemory = ⊤

-- By the logs that the look heard, the answer is the first cause: a write is stored only over what the transaction saw or wrote, and
-- a newer commit is named only where no other session has the record open, and then it is the newest.
abbrev pub ShowsAnswer : {T : Type 0} → (ℕ → List LogEntry) → List LogEntry → ℕ → ℕ → Rid → Result T WriteRefusal → Type 0
ShowsAnswer logs own j at r (Ok added) = IsFirstAt logs own j at r answers.Stored
ShowsAnswer logs own j at r (Err (Newer n)) = IsFirstAt logs own j at r (answers.Newer n)
ShowsAnswer logs own j at r (Err (Open session transaction)) = ⊤
ShowsAnswer logs own j at r (Err NoMemory) = ⊤

-- the logs go on from all that was heard before
abbrev pub GoOn : (ℕ → List LogEntry) → List Sight → Type 0
GoOn logs sights = (k : ℕ) (log : List LogEntry) → IsAmong (Heard k log) sights → EndsWith (logs k) log

-- One look, whose mark decides with the content held; and where the answer is Ok, one install.
pub record Writes {T : Type 0} (v : View) (rid : Rid) (image : Image) (answer : Result T WriteRefusal) (w : View) : Type 0 where
  pub mark : ℕ
  pub looked : View
  pub looks : Looks v (Write rid) mark looked
  pub refuses : IfSome (refused_at mark v rid) (λ e. answer ≡ Err e)
  pub cause : IfErr answer (IsCause mark v rid)
  pub goes_on : IfErr answer (OwnerGoesOn v.sights)
  pub stored : OnOk answer (Installs looked rid image w)
  pub stays : OnErr answer (w ≡ looked)
  pub goes : GoOn looks.logs v.sights
  pub first : ShowsAnswer looks.logs (session v).log (number v) (snapshot v) rid answer

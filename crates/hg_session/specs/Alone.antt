-- A transaction that is one write.
use Rattle.std.specs.Prelude.{◌≡◌, ◌⊎◌, ℕ, ◌<◌, ◌==◌, [], ◌∷◌, ◌++◌, Option, IsSome, IsFalse, IfSome}
use Rattle.hg_base.specs.declared.rid.Rid.{Rid}
use Rattle.hg_base.specs.declared.image.Image.{Image}
use Rattle.hg_base.specs.declared.line.Answer.TheVariants as answers
use Rattle.hg_base.specs.Lists.{Each}
use Rattle.hg_core.specs.declared.log.LogEntry.TheVariants.{Refused, Wrote, Over}
use Rattle.hg_core.specs.Phases.{IsSession}
use Rattle.hg_core.specs.Reading.{close}
use Rattle.hg_rule.specs.declared.view.Sizes.{Sizes}
use Rattle.hg_rule.specs.declared.view.View.{View}
use Rattle.hg_rule.specs.Views.{number}
use Rattle.hg_store.specs.Ends.{HasNoEnd}
use Rattle.hg_session.specs.declared.answers.PutRefusal.{PutRefusal}
use Rattle.hg_session.specs.declared.answers.PutRefusal.TheVariants as put
use Rattle.hg_session.specs.Gains.{Gains, IsAfter}
use Rattle.hg_session.specs.Refused.{taken_back}

-- it is stored and committed
pub record WritesAlone (old : View) (rid : Rid) (image : Image) (at : ℕ) (new : View) (n : Option ℕ) : Type 0 where
  pub gains : Gains old (close n ++ Wrote rid image ∷ []) new
  pub some : IsSome n
  pub after : IfSome n (IsAfter old.sights at)

-- or refused for a conflict at its snapshot, and over; or for want of memory, and then it was not stored, or was taken back
abbrev pub IsRefusedAlone : Sizes → View → Rid → Image → ℕ → View → PutRefusal → Type 0
IsRefusedAlone z old rid image at new (put.Undeclared table) = ⊥
IsRefusedAlone z old rid image at new (put.Open s j x) = (s ≡ at) × (Gains old (Over ∷ Refused rid (answers.OpenBy (record { session = j; transaction = x })) ∷ []) new ×
    (IsSession z.sessions j × (IsFalse (j == number old) × Each (HasNoEnd (record { session = j; transaction = x })) old.sights)))
IsRefusedAlone z old rid image at new (put.Newer s n) = (s ≡ at) × (Gains old (Over ∷ Refused rid (answers.Newer n) ∷ []) new × (at < n))
IsRefusedAlone z old rid image at new put.NoMemory = Gains old (Over ∷ []) new ⊎ Gains old (Over ∷ taken_back rid image) new

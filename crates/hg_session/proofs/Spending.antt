-- A statement, in the open transaction or in one of its own: what holds by the transaction that is open, and what is counted.
use Rattle.std.proofs.Common.{◌≡◌, ◌+◌, Bool, Option, None, sym, ◌∙◌, subst}
use Rattle.std.specs.Prelude.{is_none, IfSome}
use Rattle.hg_base.specs.declared.line.Reply.{Reply}
use Rattle.hg_base.specs.declared.scope.Snapshot.{Snapshot}
use Rattle.hg_rule.specs.declared.view.View.{View}
use Rattle.hg_session.specs.declared.engine.Engine.{Engine}
use Rattle.hg_session.specs.declared.session.Session.{Session}
use Rattle.hg_session.specs.Frames.{KeepsCounts, KeepsOpened, SpendsWithin}
use Rattle.hg_session.specs.Sessions.{IsIn, IsOf, is_alone, view_of, open_of, left_of, retries_of, opened_of}
use Rattle.hg_session.proofs.Cursors.{between}

-- what is open is what the session keeps of it, also once the statement is counted
pub opened_now : (e : Engine) (s t : Session) (o : Option Snapshot) → IsOf e s → opened_of t ≡ opened_of s → opened_of t ≡ o → open_of s ≡ o
opened_now e s t o own same is = own.ties.opens ∙ (sym same ∙ is)

module _ (s t : Session) (o : Option Snapshot) (is : open_of s ≡ o) (seen : view_of t ≡ view_of s) where
  -- a reply, as one in the open transaction or as one outside
  pub replies : {R : Type 0} (reply : Bool → R → Option Reply) (result : R) (P : View → Reply → Type 0) → IfSome (reply (is_none o) result) (P (view_of t)) →
      IfSome (reply (is_alone s) result) (P (view_of s))
  replies reply result P h = subst (λ (p : Option Snapshot). IfSome (reply (is_none p) result) (P (view_of s))) (sym is) (subst (λ v. IfSome (reply (is_none o) result) (P v)) seen h)

  -- any other fact of the transaction and of the view before the statement
  pub by_opened : (P : Option Snapshot → View → Type 0) → P o (view_of t) → P (open_of s) (view_of s)
  by_opened P h = subst (λ (p : Option Snapshot). P p (view_of s)) (sym is) (subst (P o) seen h)

-- one statement less is left, and what was open is open
pub spends : (e : Engine) (s t u : Session) → IsOf e s → opened_of t ≡ opened_of s → left_of t + 1 ≡ left_of s → retries_of t ≡ retries_of s → KeepsOpened t u → IsIn e 0 0 u → SpendsWithin e s u
spends e s t u own opened left retries kept after = (
  between e u after,
  after.ties.opens ∙ (kept.0 ∙ (opened ∙ sym own.ties.opens)),
  subst (λ n. n + 1 ≡ left_of s) (sym kept.1) left,
  kept.2 ∙ retries,
)

-- the same where none was open
pub spends_alone : (e : Engine) (s t u : Session) → IsOf e s → opened_of t ≡ opened_of s → left_of t + 1 ≡ left_of s → retries_of t ≡ retries_of s → opened_of t ≡ None →
    opened_of u ≡ None → KeepsCounts t u → IsIn e 0 0 u → SpendsWithin e s u
spends_alone e s t u own opened left retries closed over kept after = spends e s t u own opened left retries (over ∙ sym closed, kept.0, kept.1) after

-- An engine that was opened with one session more than the script has.
use Rattle.std.proofs.Common.{◌≡◌, ℕ, zero, suc, List, [], ◌∷◌, ◌++◌, length, refl, sym, ap, ◌∙◌, arith}
use Rattle.hg_dump.specs.Reader.{reader_of}
use Rattle.hg_base.specs.Script.{Script}
use Rattle.hg_rule.specs.New.{EachFrom}
use Rattle.hg_session.specs.declared.engine.Engine.{Engine}
use Rattle.hg_session.specs.declared.session.Session.{Session}
use Rattle.hg_session.specs.Engines.{engine_sizes}
use Rattle.hg_session.specs.Finished.{logs_of}
use Rattle.hg_session.specs.Opened.{IsNewOf}
use Rattle.hg_session.specs.Sessions.{log_of}
use Rattle.hg_collectors.specs.declared.collectors.Collectors.{Collectors}
use Rattle.hg_run.specs.Driven.{IsOpenedWith, sessions_in}

pub length_more : (list : List Session) (s : Session) → length (list ++ s ∷ []) ≡ suc (length list)
length_more [] s = refl
length_more (x ∷ list) s = ap (λ n. suc n) (length_more list s)

-- the log of the one that is added, and of each other
pub log_last : (list : List Session) (s : Session) → logs_of (list ++ s ∷ []) (suc (length list)) ≡ log_of s
log_last [] s = refl
log_last (x ∷ list) s = log_last list s

pub log_else : (list : List Session) (s : Session) (j : ℕ) → (j ≡ suc (length list) → ⊥) → logs_of (list ++ s ∷ []) j ≡ logs_of list j
log_else list s zero e = refl
log_else [] s (suc zero) e = absurd (e refl)
log_else [] s (suc (suc k)) e = refl
log_else (x ∷ list) s (suc zero) e = refl
log_else (x ∷ list) s (suc (suc k)) e = log_else list s (suc k) (λ q. e (ap (λ n. suc n) q))

row_first : (e : Engine) (q i : ℕ) (list : List Session) (s : Session) → EachFrom (IsNewOf e q) i (list ++ s ∷ []) → EachFrom (IsNewOf e q) i list
row_first e q i [] s r = tt
row_first e q i (x ∷ list) s r = (r.0, row_first e q (suc i) list s r.1)

module _ (script : Script) (buckets : ℕ) (e : Engine) (list : List Session) (last : Session) (collectors : Collectors)
    (o : IsOpenedWith (reader_of script) script buckets e (list ++ last ∷ []) collectors) where
  pub more_is : (engine_sizes e).sessions ≡ suc (length list)
  more_is = sym o.all ∙ length_more list last

  pub own_many : length list ≡ sessions_in script
  own_many = let all : (engine_sizes e).sessions ≡ suc (sessions_in script) = o.sessions_are in let more = more_is in omega (arith, more, all)

  pub own_new : EachFrom (IsNewOf e (engine_sizes e).quota) 1 list
  own_new = row_first e (engine_sizes e).quota 1 list last o.new

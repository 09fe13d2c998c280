-- The sessions of a new engine, and its collectors' passes.
use Rattle.std.proofs.Common.{◌≡◌, ℕ, suc, ◌+◌, ◌<◌, ◌≤◌, List, [], ◌∷◌, length, map, refl, sym, ap, ◌∙◌, subst, inl, arith}
use Rattle.std.specs.declared.alloc.Global.{Global}
use Rattle.std.specs.Prelude.{is_some}
use Rattle.hg_core.specs.Logs.{current, begans, wrotes, is_plain, open_in}
use Rattle.hg_core.specs.Phases.{IsSession}
use Rattle.hg_rule.specs.declared.passes.SessionPass.{SessionPass}
use Rattle.hg_rule.specs.declared.view.View.{View}
use Rattle.hg_rule.specs.Views.{seeing, number, session, pass, HasSession, HasOnlySession, HasPass}
use Rattle.hg_rule.specs.declared.passes.CollectorPass.{CollectorPass}
use Rattle.hg_rule.specs.declared.view.Part.TheVariants.{OfPass}
use Rattle.hg_rule.specs.Moves.{session_part, pass_part}
use Rattle.hg_rule.specs.New.{EachFrom, IsNewSession, IsNewPass}
use Rattle.hg_rule.specs.Seats.{BoardId, session_view, pass_view}
use Rattle.hg_session.specs.declared.engine.Engine.{Engine}
use Rattle.hg_session.specs.declared.session.Session.{Session}
use Rattle.hg_session.specs.Engines.{engine_board_id, engine_sizes}
use Rattle.hg_session.specs.Opened.{seated, IsNewOf}
use Rattle.hg_session.specs.Passing.{IsAlonePass}

pub seated_is : (e : Engine) (alloc : Global) (quota j : ℕ) (p : SessionPass) → quota ≤ (engine_sizes e).quota → IsSession (engine_sizes e).sessions j →
    IsNewSession (engine_board_id e) j p → IsNewOf e quota j (seated alloc quota p)
seated_is e alloc quota j p most inside new =
    let is : session_view p ≡ seeing (session_part j ∷ []) [] [] = ap (λ m. m.0) new.2.1 in
    let at : number (session_view p) ≡ j = ap number is in record {
      own = record {
        pass = (
          (new.2.0, ap (λ m. m.1) new.2.1),
          (at ∙ sym new.0, new.1 ∙ sym (ap (λ v. begans (session v).log) is)),
          subst (IsSession (engine_sizes e).sessions) (sym at) inside,
          subst HasSession (sym is) refl,
        );
        only = subst HasOnlySession (sym is) refl;
        ties = record {
          phase = ap (λ v. (session v).phase) is;
          unstamped = ap (λ v. (session v).stamped) is;
          opens = ap (λ v. current (session v).log) is;
          plain = ap (λ v. is_plain (session v).log) is;
          written_is = record { once = tt; each = λ r. ap (λ v. is_some (open_in r (session v).log)) (sym is) };
          rests = λ e. refl;
          begun = let b : ℕ = begans (session (session_view p)).log in let z : b ≡ 0 = ap (λ v. begans (session v).log) is in omega (arith, z, most);
          wrote = let b : ℕ = wrotes (session (session_view p)).log in let z : b ≡ 0 = ap (λ v. wrotes (session v).log) is in omega (arith, z, most);
        };
        heard = inl (ap (λ v. (session v).log) is);
        cursor = tt;
      };
      number_is = at;
      log = ap (λ v. (session v).log) is;
      seen = ap (λ (v : View). v.sights) is;
      left = refl;
      retries = refl;
      cursor = refl;
    }

pub seated_row : (e : Engine) (alloc : Global) (quota i : ℕ) (ps : List SessionPass) → quota ≤ (engine_sizes e).quota → 0 < i → i + length ps ≤ suc (engine_sizes e).sessions →
    EachFrom (IsNewSession (engine_board_id e)) i ps → EachFrom (IsNewOf e quota) i (map (seated alloc quota) ps)
seated_row e alloc quota i [] most first last row = tt
seated_row e alloc quota i (p ∷ ps) most first last row = (
  seated_is e alloc quota i p most (record { first = first; last = omega (arith, last) }) row.0,
  seated_row e alloc quota (suc i) ps most (omega (arith, first)) (omega (arith, last)) row.1,
)

-- all sessions of an engine on a board
pub opened_row : (e : Engine) (alloc : Global) (quota : ℕ) (ps : List SessionPass) (sessions : List Session) → sessions ≡ map (seated alloc quota) ps →
    quota ≤ (engine_sizes e).quota → length ps ≤ (engine_sizes e).sessions → EachFrom (IsNewSession (engine_board_id e)) 1 ps → EachFrom (IsNewOf e quota) 1 sessions
opened_row e alloc quota ps sessions are most all row = subst (EachFrom (IsNewOf e quota) 1) (sym are) (seated_row e alloc quota 1 ps most (omega arith) (omega (arith, all)) row)

-- a new pass has its own part alone, with all of its share
pub new_alone : (t : BoardId) (p : ℕ) (c : CollectorPass) → IsNewPass t p c → IsAlonePass t p c
new_alone t p c new =
    let is : pass_view c ≡ seeing (pass_part p ∷ []) [] [] = ap (λ m. m.0) new.1 in record {
      own = ((new.0, ap (λ m. m.1) new.1), subst HasPass (sym is) refl);
      only = subst (λ (v : View). v.parts ≡ OfPass p (pass v) ∷ []) (sym is) refl;
      share = ap (λ v. (pass v).share) is;
    }

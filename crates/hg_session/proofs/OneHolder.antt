-- A list of sessions, where the others' parts are with the pass of the first.
use Rattle.std.proofs.Common.{◌≡◌, ℕ, zero, suc, ◌+◌, ◌<◌, false, List, [], ◌∷◌, ◌++◌, length, map, take, drop, refl, sym, ap, ◌∙◌, subst, arith}
use Rattle.std.specs.Prelude.{get_or}
use Rattle.hg_base.specs.declared.line.Totals.{Totals}
use Rattle.hg_rule.specs.declared.passes.SessionPass.{SessionPass}
use Rattle.hg_rule.specs.declared.view.Part.TheVariants.{OfSession, Lent}
use Rattle.hg_rule.specs.declared.view.View.{View}
use Rattle.hg_rule.specs.Facts.{StartsWith}
use Rattle.hg_rule.specs.Rules.{IsBacked}
use Rattle.hg_rule.specs.Seats.{session_view, IsSessionOf}
use Rattle.hg_rule.specs.Views.{number, part_number, session, session_there, others, first_in, after_first}
use Rattle.hg_rule.proofs.Lists.{starts_on}
use Rattle.hg_session.specs.declared.engine.Engine.{Engine}
use Rattle.hg_session.specs.declared.session.Session.{Session}
use Rattle.hg_session.specs.Engines.{engine_board_id, engine_sizes}
use Rattle.hg_session.specs.Finished.{AreAmong, logs_of}
use Rattle.hg_session.specs.Lent.{lent_of, HasLent, HasBack, HasSeenMore}
use Rattle.hg_session.specs.Sessions.{IsOf, view_of, number_of, seen_by}
use Rattle.hg_session.specs.SoFar.{ShowLogs, CountLogs, AreSoFar}
use Rattle.hg_session.proofs.AllBack.{is_again, came_back, front_is, back_is, back_long, parts_show, logs_none, saw_among}
use Rattle.hg_session.proofs.Handovers.{map_same, among_kept}
use Rattle.hg_session.proofs.SoFar.{logs_whole, history_logged, history_saw}
use Rattle.hg_tracker.specs.Begun.{SawGroups}

module _ (e : Engine) (list fs bs ms : List Session) (x : Session) (u : View) (front : fs ≡ take 1 list) (back : bs ≡ drop 1 list) (some : 0 < length list)
    (many : length list ≡ (engine_sizes e).sessions) (own : (d : Session) (k : ℕ) → k < length list → IsOf e (get_or list k d))
    (numbers : (d : Session) (k : ℕ) → k < length list → number_of (get_or list k d) ≡ suc k) where
  -- the first
  first_own : IsOf e (get_or fs 0 x)
  first_own = subst (IsOf e) (sym (front_is list fs x x front some)) (own x 0 some)

  -- the others
  within_back : (k : ℕ) → k < length bs → suc k < length list
  within_back k within = let long = back_long list bs back some in omega (arith, long, within)

  pub back_own : (d : Session) (k : ℕ) → k < length bs → IsOf e (get_or bs k d)
  back_own d k within = subst (IsOf e) (sym (back_is list bs d k back)) (own d (suc k) (within_back k within))

  module _ (same : length ms ≡ length bs) (lent : (d : Session) (k : ℕ) → k < length bs → HasLent e (get_or bs k d) (get_or ms k d))
      (parts : u.parts ≡ (view_of (get_or fs 0 x)).parts ++ map lent_of bs) (kept : StartsWith u.sights (seen_by (get_or fs 0 x)))
      (heard : (d : Session) (k : ℕ) → k < length bs → AreAmong (seen_by (get_or bs k d)) u.sights) where
    pub held_parts : u.parts ≡ OfSession (number_of (get_or fs 0 x)) (session (view_of (get_or fs 0 x))) ∷ map lent_of bs
    held_parts = parts ∙ ap (λ ps. ps ++ map lent_of bs) first_own.only

    pub show_logs : ShowLogs (engine_sizes e) u.parts (logs_of list)
    show_logs = parts_show (engine_sizes e) list fs bs x u.parts front back many numbers held_parts

    -- as they are away
    within_mid : (k : ℕ) → k < length ms → k < length bs
    within_mid k within = omega (arith, within, same)

    pub mid_numbers : (d : Session) (k : ℕ) → k < length ms → number_of (get_or ms k d) ≡ k + 2
    mid_numbers d k within =
        let q = within_mid k within in
        ap part_number (lent d k q).away ∙ ap number_of (back_is list bs d k back) ∙ numbers d (suc k) (within_back k q) ∙ two k
      where
        two : (k : ℕ) → suc (suc k) ≡ k + 2
        two k = omega arith

    pub mid_alone : (d : Session) (k : ℕ) → k < length ms → others (view_of (get_or ms k d)) ≡ []
    mid_alone d k within = ap after_first (lent d k (within_mid k within)).away

    pub mid_unstamped : (d : Session) (k : ℕ) → k < length ms → (session (view_of (get_or ms k d))).stamped ≡ false
    mid_unstamped d k within =
        let q = within_mid k within in
        ap (λ ps. (session_there (first_in ps)).stamped) (lent d k q).away ∙ (back_own d k q).ties.unstamped

    pub mid_parts : (w : View) → w.parts ≡ u.parts → others w ≡ map lent_of ms
    mid_parts w is = ap after_first (is ∙ held_parts)
        ∙ sym (map_same lent_of bs ms same (λ d k within. (λ i. Lent (part_number ((lent d k within).away i)) (session_there (first_in ((lent d k within).away i))))))

    -- and all are back, where the pass is p now
    module _ (w : View) (p : SessionPass) (ns : List Session) (is : w.parts ≡ u.parts) (more : StartsWith w.sights u.sights) (long : length ns ≡ length ms)
        (backs : (d : Session) (k : ℕ) → k < length ms → HasBack e (get_or ms k d) (get_or ns k d)) (left : (session_view p).parts ≡ OfSession (number w) (session w) ∷ [])
        (saw : (session_view p).sights ≡ w.sights) (pass : IsSessionOf (engine_board_id e) (engine_sizes e) p) where
      first_back : HasSeenMore e (get_or fs 0 x) (record (get_or fs 0 x) { pass = p })
      first_back = is_again e (get_or fs 0 x) (record (get_or fs 0 x) { pass = p }) first_own
          (left ∙ (λ i. OfSession (part_number ((is ∙ held_parts) i)) (session_there (first_in ((is ∙ held_parts) i))) ∷ []) ∙ sym first_own.only)
          (record { kept = subst (λ l. StartsWith l (seen_by (get_or fs 0 x))) (sym saw) (starts_on w.sights u.sights (seen_by (get_or fs 0 x)) kept more); same = refl }) pass

      pub all_back : (d : Session) (k : ℕ) → k < length list → HasSeenMore e (get_or list k d) (get_or (record (get_or fs 0 x) { pass = p } ∷ ns) k d)
      all_back d zero within = subst (λ s. HasSeenMore e s (record (get_or fs 0 x) { pass = p })) (front_is list fs x d front some) first_back
      all_back d (suc k) within =
          let q : k < length bs = (let n = back_long list bs back some in omega (arith, n, within)) in
          subst (λ s. HasSeenMore e s (get_or ns k d)) (back_is list bs d k back) (came_back e (get_or bs k d) (get_or ms k d) (get_or ns k d) (back_own d k q) (lent d k q)
          (backs d k (omega (arith, q, same))))

      pub all_there : suc (length ns) ≡ length list
      all_there = let n = back_long list bs back some in omega (arith, n, long, same)

    -- what it counts then
    pub are_so_far : (mark : ℕ) (l : View) → l ≡ u → IsBacked (engine_sizes e) mark l → 0 < (engine_sizes e).buckets → (totals : Totals) →
        CountLogs (engine_sizes e).sessions (logs_of list) totals → AreSoFar e list totals
    are_so_far mark l same_view k buckets totals counted =
        let z = engine_sizes e in
        let show : ShowLogs z l.parts (logs_of list) = subst (λ (y : View). ShowLogs z y.parts (logs_of list)) (sym same_view) show_logs in
        record {
          history = k.state.history;
          logged = history_logged z l mark k (logs_of list) buckets (logs_whole z l mark k (logs_of list) show (logs_none z list many));
          saw = λ d i n within seen. history_saw z l mark k n (subst (λ (y : View). SawGroups n y.sights) (sym same_view) (among d i n within seen));
          counted = counted;
        }
      where
        among : (d : Session) (i n : ℕ) → i < length list → SawGroups n (seen_by (get_or list i d)) → SawGroups n u.sights
        among d zero n within seen = saw_among n (seen_by (get_or fs 0 x)) u.sights (among_kept (seen_by (get_or fs 0 x)) u.sights kept)
            (subst (λ s. SawGroups n (seen_by s)) (sym (front_is list fs x d front some)) seen)
        among d (suc i) n within seen =
            let q : i < length bs = (let m = back_long list bs back some in omega (arith, m, within)) in
            saw_among n (seen_by (get_or bs i d)) u.sights (heard d i q) (subst (λ s. SawGroups n (seen_by s)) (sym (back_is list bs d i back)) seen)

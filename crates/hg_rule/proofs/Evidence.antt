-- What the own part of a view says of the state, and what a load of the mark shows.
use Rattle.std.proofs.Common.{◌≡◌, ℕ, ◌<◌, List, [], ◌∷◌, ◌++◌, length, get_or, refl, sym, ap, ◌∙◌, subst, arith}
use Rattle.std.specs.Prelude.{if◌then◌else◌, ◌^◌}
use mathlib.Core.Option.{some, none}
use lib.Seq.{set-get_or}
use lib.ListN.{get_elem?}
use Rattle.atomic_table.proofs.Lists.{set_again}
use Rattle.atomic_table.specs.Table.{step, keeps, Allows}
use Rattle.hg_base.specs.Lists.{Each}
use Rattle.hg_core.specs.declared.log.LogEntry.{LogEntry}
use Rattle.hg_core.specs.declared.log.LogEntry.TheVariants.{Began, Saw, Refused, Outside, Wrote, Undid, Published, Over}
use Rattle.hg_core.specs.Logs.{UpTo}
use Rattle.hg_core.specs.Phases.{IsSession}
use Rattle.hg_core.specs.State.{CoreState}
use Rattle.hg_core.specs.Events.{put}
use Rattle.hg_core.specs.Invariant.{IsSteady}
use Rattle.hg_core.proofs.Indices.{by_number}
use Rattle.hg_rule.specs.declared.view.Part.{Part}
use Rattle.hg_rule.specs.declared.view.Part.TheVariants.{OfSession, OfCommit}
use Rattle.hg_rule.specs.declared.view.Sight.{Sight}
use Rattle.hg_rule.specs.declared.view.Sight.TheVariants as sights
use Rattle.hg_rule.specs.declared.view.View.{View}
use Rattle.hg_rule.specs.declared.view.Sizes.{Sizes}
use Rattle.hg_rule.specs.Facts.{EndsWith, record_of, Shown, Known}
use Rattle.hg_rule.specs.Words.{register_at}
use Rattle.hg_rule.specs.Rules.{IsSized, HasRoom, Rule, IsBacked}
use Rattle.hg_rule.specs.Holding.{beyond, commit}
use Rattle.hg_rule.specs.Places.{HoldsCommit}
use Rattle.hg_rule.specs.Views.{first_in, number, session, pass, HasSession, HasPass}
use Rattle.hg_rule.specs.Steps.{Seated, Within, IsHistoryAt}
use Rattle.hg_rule.specs.Steps.{looked}
use Rattle.hg_rule.proofs.Lists.{starts_same, ends_same, each_map}
use Rattle.hg_rule.proofs.Growing.{Grows}
use Rattle.hg_rule.proofs.Keeps.{Table, backs}
use Rattle.hg_rule.proofs.Registers.{mark_small}
use Rattle.hg_rule.proofs.Reached.{steady}

pub own_session : (z : Sizes) (t : Table) (r : Rule z t) (id : ℕ) (v : View) → get_elem? t.views id ≡ some v → HasSession v → Shown r.state (OfSession (number v) (session v))
own_session z t r id v at is = (subst (Each (Shown r.state)) is (r.shown id v at).parts).0

pub own_pass : (z : Sizes) (t : Table) (r : Rule z t) (id : ℕ) (v : View) → get_elem? t.views id ≡ some v → HasPass v → (r.state.pass (number v) ≡ record_of (pass v)) ×
    ((r.state.visits (number v) ≡ (pass v).visits) × (0 < (pass v).share))
own_pass z t r id v at is = (subst (Each (Shown r.state)) is (r.shown id v at).parts).0

pub at_board : (z : Sizes) (s : CoreState) (j : ℕ) → IsSized z s → IsSession z.sessions j → IsSession s.sessions j
at_board z s j sized inside = subst (λ n. IsSession n j) (sym sized.sessions) inside

-- the older entries of a log have no higher numbers
up_to_end : (n : ℕ) (later log : List LogEntry) → UpTo n (later ++ log) → UpTo n log
up_to_end n [] log h = h
up_to_end n (Began at scope ∷ later) log h = up_to_end n later log h.1
up_to_end n (Refused rid answer ∷ later) log h = up_to_end n later log h.1
up_to_end n (Published m ∷ later) log h = up_to_end n later log h.1
up_to_end n (Saw t low high b rows ∷ later) log h = up_to_end n later log h
up_to_end n (Outside t ∷ later) log h = up_to_end n later log h
up_to_end n (Wrote rid image ∷ later) log h = up_to_end n later log h
up_to_end n (Undid rid ∷ later) log h = up_to_end n later log h
up_to_end n (Over ∷ later) log h = up_to_end n later log h

pub within : (s : CoreState) → IsSteady s → (x : Sight) → Known s x → Within s.history x
within s h (sights.Saw g) k = k
within s h (sights.Heard j log) k = up_to_end (length s.history) k.0 log (subst (UpTo (length s.history)) k.1 (h.logs_answer.within j))
within s h (sights.Took n) k = omega (arith, h.taken_at_most_mark, h.mark_is_length.is_length)
within s h (sights.Did e) k = tt

-- at a load of the mark the whole history is seen
pub history_at : (z : Sizes) (t : Table) (r : Rule z t) (id : ℕ) (v : View) → HasRoom z → get_elem? t.views id ≡ some v → IsHistoryAt v (get_or t.words 0 0) r.state.history
history_at z t r id v room at = record {
  is_length = sym (steady r).mark_is_length.is_length ∙ sym r.words.mark;
  number = subst (λ n. n < 2 ^ 44) (sym r.words.mark) (mark_small z r.state room r.sized (steady r));
  within = each_map (Known r.state) (Within r.state.history) (within r.state (steady r)) v.sights (r.shown id v at).sights;
}

-- the same of a view that a load backs, which has the committer's part
pub history_held : (z : Sizes) (n : ℕ) (v : View) → HasRoom z → IsBacked z n v → HoldsCommit v → IsHistoryAt v n (commit v).history.list
history_held z n v room b holds = let s = b.state in
    let parts : Each (Shown s) (first_in v.parts ∷ OfCommit (commit v) ∷ beyond v) = subst (Each (Shown s)) (holds.0 ∙ ap (λ (l : List Part). first_in v.parts ∷ l) holds.1) b.true_of.parts in
    subst (λ h. IsHistoryAt v n h) parts.1.0.0 record {
      is_length = sym b.steady.mark_is_length.is_length ∙ b.mark_is;
      number = subst (λ n. n < 2 ^ 44) b.mark_is (mark_small z s room b.sized b.steady);
      within = each_map (Known s) (Within s.history) (within s b.steady) v.sights b.true_of.sights;
    }

-- a word is one session's register
pub one_register : (j k : ℕ) → register_at j ≡ register_at k → j ≡ k
one_register j k e = omega arith

-- only the phase, or the log too
pub log_stays : (c : CoreState) → Grows c c
log_stays c = record { history = starts_same c.history; logs = λ k. ends_same (c.log k); taken = omega arith }

pub log_grows : (c : CoreState) (j : ℕ) (e : LogEntry) (k : ℕ) → EndsWith (put c.log j (e ∷ c.log j) k) (c.log k)
log_grows c j e = by_number j (λ k b. EndsWith (if b then e ∷ c.log j else c.log k) (c.log k)) (e ∷ [], refl) (λ k other. ends_same (c.log k))

pub looks : (z y : Sizes) (slots id : ℕ) (m : Seated) → y ≡ z → Allows (Rule z) slots id m 0 (λ n. n) (looked y (step slots 0 0 0 none) m)
looks z y slots id m same = subst (λ (y : Sizes). Allows (Rule z) slots id m 0 (λ n. n) (looked y (step slots 0 0 0 none) m)) (sym same) at_z
  where
    at_z : Allows (Rule z) slots id m 0 (λ n. n) (looked z (step slots 0 0 0 none) m)
    at_z t r deep at small = (
      m.0,
      keeps,
      tt,
      subst (λ (p : List ℕ × List View). Rule z record { words = p.0; homes = t.homes; views = p.1 }) (λ u. (sym (set-get_or t.words 0 0) u, sym (set_again t.views id m.0 at) u)) r,
      (backs z t r id m.0 (get_or t.words 0 0) at (sym r.words.mark), refl, refl),
    )

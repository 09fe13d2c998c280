-- The words once the mark is stored; and a group may be counted as taken.
use Rattle.std.proofs.Common.{◌≡◌, ℕ, suc, ◌<◌, ◌≤◌, List, [], ◌∷◌, ◌++◌, length, get_or, set, refl, sym, ap, ◌∙◌, subst, arith, length-set, get_or-set_other, get_or-set_same, le_refl}
use mathlib.Core.Option.{none}
use Rattle.atomic_table.specs.Table.{step, keeps, Allows}
use Rattle.hg_base.specs.History.{History}
use Rattle.hg_core.specs.declared.register.Register.{Register}
use Rattle.hg_core.specs.Words.{word_of}
use Rattle.hg_core.specs.Contents.{has_stamped}
use Rattle.hg_core.specs.declared.journal.PassEntry.TheVariants as entries
use Rattle.hg_core.specs.State.{CoreState}
use Rattle.hg_core.specs.Events.{happens, Take}
use Rattle.hg_rule.specs.declared.view.CommitPart.{CommitPart}
use Rattle.hg_rule.specs.declared.view.PassPart.{PassPart}
use Rattle.hg_rule.specs.declared.view.Part.{Part}
use Rattle.hg_rule.specs.declared.view.Part.TheVariants.{OfCommit, OfPass}
use Rattle.hg_rule.specs.declared.view.Sight.TheVariants as sights
use Rattle.hg_rule.specs.declared.view.Event.TheVariants as events
use Rattle.hg_rule.specs.declared.view.View.{View}
use Rattle.hg_rule.specs.declared.view.Sizes.{Sizes}
use Rattle.hg_rule.specs.Facts.{StartsWith, Shown}
use Rattle.hg_rule.specs.Words.{register_at, mask_at, words_for}
use Rattle.hg_rule.specs.Rules.{HasRoom, ShowsWords, Rule}
use Rattle.hg_rule.specs.Views.{number, pass, HasPass, then_has}
use Rattle.hg_rule.specs.Steps.{Seated, IsHistoryAt}
use Rattle.hg_rule.specs.Holding.{beyond, HasCommit, commit}
use Rattle.hg_rule.specs.Removes.{noting, taking, took}
use Rattle.hg_core.proofs.Indices.{put_here, put_else}
use Rattle.hg_rule.proofs.Lists.{starts_same}
use Rattle.hg_rule.proofs.Counts.{away_same}
use Rattle.hg_rule.proofs.Keeps.{keep}
use Rattle.hg_rule.proofs.Registers.{loaded_words}
use Rattle.hg_rule.proofs.Owned.{Leaves, leaves_only, not_first, own_second}
use Rattle.hg_rule.proofs.Evidence.{own_pass, history_at, log_stays}
use Rattle.hg_rule.proofs.Records.{pass_low}
use Rattle.hg_rule.proofs.Reached.{steady, acted}

-- the words after the mark was stored
pub marked_words : (z : Sizes) (c d : CoreState) (ws : List ℕ) (x : ℕ) → d.mark ≡ x → d.register ≡ c.register → d.mask ≡ c.mask → ShowsWords z c ws → ShowsWords z d (set ws 0 x)
marked_words z c d ws x is same masks w = record {
  count = length-set ws 0 x ∙ w.count;
  mark = get_or-set_same ws 0 x 0 (let n : ℕ = length ws in let e : n ≡ words_for z.sessions = w.count in omega arith) ∙ sym is;
  registers = λ j h. get_or-set_other ws 0 (register_at j) x 0 (λ (e : register_at j ≡ 0). let l = h.first in omega arith) ∙ (w.registers j h ∙ ap (λ (f : ℕ → Register). word_of (f j)) (sym same));
  masks = λ j. get_or-set_other ws 0 (mask_at j) x 0 (λ (e : mask_at j ≡ 0). omega arith) ∙ (w.masks j ∙ (λ i. sym masks i j));
}

pub history_is : (v : View) (n : ℕ) (h g : History) → h ≡ g → IsHistoryAt v n h → IsHistoryAt v (length g) g
history_is v n h g e is = subst (λ g. IsHistoryAt v (length g) g) e (subst (λ n. IsHistoryAt v n h) (sym is.is_length) is)

-- ---- a group is taken

take_leaves : (c d : CoreState) (p : ℕ) (old : PassPart) (h : CommitPart) → d.phase ≡ c.phase → d.log ≡ c.log → d.stamped_list ≡ c.stamped_list → d.bucket ≡ c.bucket →
    d.counters ≡ c.counters → d.history ≡ c.history → ((q : ℕ) → (q ≡ p → ⊥) → d.pass q ≡ c.pass q) → d.visits ≡ c.visits → c.mark ≤ d.mark
    → Leaves c d (OfPass p old ∷ OfCommit h ∷ [])
take_leaves c d p old h phase logs list bucket counters history pass visits more = record {
  phase = λ k away i. phase i k;
  log = λ k away i. logs i k;
  stamped = λ k away. ap (has_stamped k) list;
  bucket = λ k away i. bucket i k;
  counters = λ k away i. counters i k;
  history = λ away. history;
  list = λ away. list;
  taken = λ away. absurd (omega (arith, away));
  pass = λ q away. pass q (not_first p q _ away);
  visits = λ q away i. visits i q;
  home = λ k part n away s. away_same c d k part n (λ i. phase i k) (λ i. logs i k) more s;
}

pub takes : (z : Sizes) (slots id : ℕ) (m : Seated) → HasRoom z → HasPass m.0 → HasCommit m.0 → (commit m.0).taken < length (commit m.0).history.list →
    Allows (Rule z) slots id m 0 (λ n. n) (took (step slots 0 0 0 none) m)
takes z slots id m room is held left t r deep at small =
    let v : View = m.0 in
    let c = r.state in
    let p : ℕ = number v in
    let h : CommitPart = commit v in
    let n : ℕ = get_or t.words 0 0 in
    let own = own_pass z t r id v at is in
    let list : Shown c (OfCommit h) = own_second z t r id v at _ _ _ is held in
    let d : CoreState = happens c (Take p) in
    let new : PassPart = noting (suc h.taken) (pass v) in
    let w = loaded_words z c t.words 0 r.words in
    let grows = log_stays c in
    let more : suc c.taken ≡ suc h.taken = ap suc list.1.1 in
    let may : c.taken < c.mark = omega (arith, left, list.1.1, (steady r).mark_is_length.is_length, ap length list.0) in (
      then_has v (OfPass p new ∷ OfCommit (taking h) ∷ beyond v) (sights.Saw h.history ∷ sights.Took (suc h.taken) ∷ []) (events.Take p n),
      keeps,
      tt,
      keep z t r id v (OfPass p (pass v) ∷ OfCommit h ∷ []) (OfPass p new ∷ OfCommit (taking h) ∷ []) (beyond v) (sights.Saw h.history ∷ sights.Took (suc h.taken) ∷ []) (events.Take p n) 0 n d at
          (is ∙ ap (λ (l : List Part). OfPass p (pass v) ∷ l) held) record {
            reached = acted z c (Take p) r.reached record { there = pass_low z t r id v at is; left = may };
            sized = record { sessions = r.sized.sessions; tables = r.sized.tables; buckets = r.sized.buckets; quota = r.sized.quota };
            passes = refl;
            shows = record { count = w.count; mark = w.mark; registers = w.registers; masks = w.masks };
            grows = record { history = grows.history; logs = grows.logs; taken = omega arith };
            only = leaves_only c d _ (take_leaves c d p (pass v) h refl refl refl refl refl refl (λ q other. put_else c.pass p q _ other) refl (le_refl _));
            counts = λ k. refl;
            shared = refl;
            shown = ((put_here c.pass p _ ∙ (λ i. record (own.0 i) { journal = (own.0 i).journal ++ entries.Took (more i) ∷ [] }), own.1), ((list.0, (list.1.0, more)), tt));
            known = (subst (λ g. StartsWith c.history g) list.0 (starts_same c.history), (omega (arith, more), tt));
            stands = tt;
          },
      ((subst (λ g. IsHistoryAt v n g) list.0 (history_at z t r id v room at), refl), refl),
    )

-- A batch that was published went through whole.
use Rattle.std.proofs.Common.{◌≡◌, inr, ℕ, List, [], ◌∷◌, ◌++◌, map, refl, sym, ap, ◌∙◌, subst, append_assoc}
use Rattle.hg_base.specs.Lists.{Each}
use Rattle.hg_rule.specs.declared.view.Event.{Event}
use Rattle.hg_rule.specs.declared.view.Event.TheVariants.{Publish}
use Rattle.hg_rule.specs.declared.view.Sight.TheVariants.{Saw}
use Rattle.hg_rule.specs.declared.view.View.{View}
use Rattle.hg_rule.specs.Facts.{IsAmong, groups}
use Rattle.hg_rule.specs.Handing.{Members, who, group_of}
use Rattle.hg_queue.specs.declared.open_tx.OpenTx.{OpenTx}
use Rattle.hg_group.specs.Batch.{IsStamp, HasGroup, LaysAll, sessions_of, backs}
use Rattle.hg_group.specs.Turns.{TakesTurn}

group_whose : (ms : Members) → map (λ c. c.session) (group_of ms) ≡ who ms
group_whose [] = refl
group_whose (m ∷ ms) = ap (λ js. m.0 ∷ js) (group_whose ms)

pub published_whole : (v w x y u r : View) (stamps : List Event) (n place sessions : ℕ) (txs : List OpenTx) → w.events ≡ v.events → Each IsStamp stamps →
    x.events ≡ w.events ++ stamps → y.events ≡ x.events ++ Publish n ∷ [] → u.events ≡ y.events → HasGroup sessions u txs n place → LaysAll u txs r → TakesTurn v r
published_whole v w x y u r stamps n place sessions txs none only stamped published left g laid =
    let js = sessions_of txs in
    let whose : map (λ c. c.session) (group_of g.ms) ≡ js = group_whose g.ms ∙ g.whose in
    let then : u.events ≡ (v.events ++ stamps) ++ Publish n ∷ [] = left ∙ (published ∙ ap (λ l. l ++ Publish n ∷ []) (stamped ∙ ap (λ l. l ++ stamps) none)) in
    record {
      steps = stamps ++ Publish n ∷ backs js;
      events = laid.events ∙ (ap (λ l. l ++ backs js) then ∙ (append_assoc (v.events ++ stamps) (Publish n ∷ []) (backs js) ∙ append_assoc v.events stamps (Publish n ∷ backs js)));
      whole = inr record {
        stamps = stamps;
        only = only;
        before = g.history;
        group = group_of g.ms;
        saw = subst (IsAmong (Saw (groups (g.history ++ group_of g.ms ∷ [])))) (sym laid.sights) g.saw;
        steps_are = λ i. stamps ++ Publish (g.number_is i) ∷ backs (sym whose i);
      };
    }

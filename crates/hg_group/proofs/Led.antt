-- A leader's turn leaves it with its own place alone, and with more that was seen and done.
use Rattle.std.proofs.Common.{◌≡◌, inl, List, [], ◌∷◌, ◌++◌, length, refl, sym, ap, ◌∙◌, subst, arith, append_assoc, append-nil}
use Rattle.hg_rule.specs.declared.view.CommitPart.{CommitPart}
use Rattle.hg_rule.specs.declared.view.Event.{Event}
use Rattle.hg_rule.specs.declared.view.Part.{Part}
use Rattle.hg_rule.specs.declared.view.Part.TheVariants.{Away}
use Rattle.hg_rule.specs.declared.view.Sight.{Sight}
use Rattle.hg_rule.specs.declared.view.View.{View}
use Rattle.hg_rule.specs.Facts.{StartsWith}
use Rattle.hg_rule.specs.Views.{number, session, since, first_in, after_first, seeing}
use Rattle.hg_rule.specs.Places.{without_commit}
use Rattle.hg_rule.specs.Handing.{Members, lent}
use Rattle.hg_queue.specs.declared.open_tx.OpenTx.{OpenTx}
use Rattle.hg_group.specs.Batch.{AreTaken, LaysAll, backs, sessions_of}
use Rattle.hg_group.specs.Leading.{Leads}
use Rattle.hg_group.specs.Turns.{TakesTurn}
use Rattle.hg_group.proofs.Joint.{InHand}

starts_more : (xs ys zs : List Sight) → StartsWith ys xs → StartsWith zs ys → StartsWith zs xs
starts_more xs ys zs h k = (h.0 ++ k.0, k.1 ∙ (ap (λ l. l ++ k.0) h.1 ∙ append_assoc xs h.0 k.0))

-- ---- nothing was popped

none_taken : (txs : List OpenTx) (ms : Members) → length txs ≡ 0 → AreTaken txs ms → ms ≡ []
none_taken [] [] e h = refl
none_taken [] (m ∷ ms) e h = absurd h
none_taken (tx ∷ txs) ms e h = absurd (omega (arith, e))

pub no_items : (txs : List OpenTx) → length txs ≡ 0 → txs ≡ []
no_items [] e = refl
no_items (tx ∷ txs) e = absurd (omega (arith, e))

pub alone_led : (v w : View) (ms : Members) (txs : List OpenTx) → length txs ≡ 0 → AreTaken txs ms → w.parts ≡ Away (number v) (session v) (since v) ∷ lent ms → StartsWith w.sights v.sights →
    w.events ≡ v.events → Leads v w
alone_led v w ms txs none taken parts kept events = record {
  parts = parts ∙ ap (λ k. Away (number v) (session v) (since v) ∷ lent k) (none_taken txs ms none taken);
  kept = kept;
  events = ([], events ∙ sym (append-nil v.events));
}

-- ---- a batch was laid down

pub laid_led : (v u w : View) (ms : Members) (txs : List OpenTx) → u.parts ≡ Away (number v) (session v) (since v) ∷ lent ms → StartsWith u.sights v.sights → LaysAll u txs w →
    TakesTurn v w → Leads v w
laid_led v u w ms txs parts kept l turn = record {
  parts = l.parts ∙ (λ i. Away (number_is i) (session_is i) (since_is i) ∷ []);
  kept = subst (λ (s : List Sight). StartsWith s v.sights) (sym l.sights) kept;
  events = (turn.steps, turn.events);
}
  where
    number_is : number u ≡ number v
    number_is = ap (λ (ps : List Part). number (seeing ps u.sights u.events)) parts

    session_is : session u ≡ session v
    session_is = ap (λ (ps : List Part). session (seeing ps u.sights u.events)) parts

    since_is : since u ≡ since v
    since_is = ap (λ (ps : List Part). since (seeing ps u.sights u.events)) parts

-- ---- it was refused

pub split_parts : (v w u : View) (part : CommitPart) (ms : Members) → InHand v w part ms → u ≡ without_commit w → u.parts ≡ Away (number v) (session v) (since v) ∷ lent ms
split_parts v w u part ms o left = ap (λ (z : View). z.parts) left ∙ ap (λ (ps : List Part). first_in ps ∷ after_first (after_first ps)) o.parts

pub kept_back : (v g w u : View) (more rest : List Sight) → StartsWith g.sights v.sights → w.sights ≡ g.sights ++ more → u.sights ≡ w.sights ++ rest → StartsWith u.sights v.sights
kept_back v g w u more rest h a b = starts_more v.sights w.sights u.sights (starts_more v.sights g.sights w.sights h (more, a)) (rest, b)

pub refused_whole : (v w u t : View) (txs : List OpenTx) → w.events ≡ v.events → u.events ≡ w.events → LaysAll u txs t → TakesTurn v t
refused_whole v w u t txs a b l = record {
  steps = backs (sessions_of txs);
  events = l.events ∙ ap (λ (es : List Event). es ++ backs (sessions_of txs)) (b ∙ a);
  whole = inl (sessions_of txs, refl);
}

-- ---- it was published

pub kept_through : (v g w x u : View) (more seen rest : List Sight) → StartsWith g.sights v.sights → w.sights ≡ g.sights ++ more → StartsWith x.sights w.sights →
    u.sights ≡ (x.sights ++ seen) ++ rest → StartsWith u.sights v.sights
kept_through v g w x u more seen rest h a k b =
    starts_more v.sights w.sights u.sights (starts_more v.sights g.sights w.sights h (more, a)) (starts_more w.sights x.sights u.sights k (seen ++ rest, b ∙ append_assoc x.sights seen rest))

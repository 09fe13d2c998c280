-- The places of commits.
use Rattle.std.proofs.Common.{◌≡◌, inl, inr, ℕ, ◌+◌, List, [], ◌∷◌, ◌++◌, length, refl, sym, ap, ◌∙◌, subst, append_assoc, length-append}
use Rattle.hg_base.specs.History.{Commit, Group, History}
use Rattle.hg_base.specs.Lists.{Each}
use Rattle.hg_core.specs.Commits.{commits_in}
use Rattle.hg_core.specs.Logs.{begans}
use Rattle.hg_rule.specs.declared.view.Sight.{Sight}
use Rattle.hg_rule.specs.declared.view.Sight.TheVariants.{Saw}
use Rattle.hg_rule.specs.declared.view.Sizes.{Sizes}
use Rattle.hg_rule.specs.declared.view.View.{View}
use Rattle.hg_rule.specs.Facts.{StartsWith, IsAmong, Known, groups}
use Rattle.hg_rule.specs.Rules.{IsBacked}
use Rattle.hg_rule.specs.Steps.{Ends}
use Rattle.hg_rule.specs.Views.{number, session}
use Rattle.hg_rule.specs.Writes.{with_published}
use Rattle.hg_group.specs.declared.receipt.Receipt.{Receipt}
use Rattle.hg_group.specs.Order.{StandsIn, flat}
use Rattle.hg_group.specs.Submitting.{HasCommitted}
use Rattle.hg_session.specs.Finished.{AreAmong}
use Rattle.hg_session.specs.Gains.{HasPlace}
use Rattle.hg_rule.proofs.Lists.{among_left}
use Rattle.hg_session.proofs.Trips.{alone_only, ended}

-- ---- a commit, and the end behind it

pub has_place : (v u w : View) (receipt : Receipt) → HasCommitted v receipt u → Ends u w → HasPlace v w receipt
has_place v u w receipt h k =
    let only = alone_only u (number v) (with_published receipt.number (session v)) v.sights (record { parts = h.parts; kept = h.kept }) in
    let kept = (ended u w only k).0.kept in
    record {
      history = h.history;
      saw = subst (IsAmong (Saw (groups h.history))) (sym kept.1) (among_left (Saw (groups h.history)) u.sights kept.0 h.saw);
      stands = h.stands;
    }

-- ---- all commits of a history in a row

flat_append : (g h : History) → flat (g ++ h) ≡ flat g ++ flat h
flat_append [] h = refl
flat_append (x ∷ g) h = ap (λ l. x ++ l) (flat_append g h) ∙ sym (append_assoc x (flat g) (flat h))

length_flat : (h : History) → length (flat h) ≡ commits_in h
length_flat [] = refl
length_flat (x ∷ h) = length-append x (flat h) ∙ ap (λ n. length x + n) (length_flat h)

-- a commit with so many before it
record IsAt (n : ℕ) (c : Commit) (commits : Group) : Type 0 where
  pub before : Group
  pub after : Group
  pub is : commits ≡ before ++ c ∷ after
  pub many : length before ≡ n

same_at : (a b x y : Group) (c d : Commit) → a ++ c ∷ x ≡ b ++ d ∷ y → length a ≡ length b → c ≡ d
same_at [] [] x y c d e l = cc
same_at [] (f ∷ b) x y c d e l = absurd (let q = l in cc)
same_at (f ∷ a) [] x y c d e l = absurd (let q = l in cc)
same_at (f ∷ a) (g ∷ b) x y c d e l = same_at a b x y c d (let q = e in cc) (let q = l in cc)

stands_at : (h g : History) (p : Receipt) (c : Commit) → StartsWith h g → StandsIn g p c → IsAt p.place c (flat h)
stands_at h g p c starts s = record {
  before = flat s.before ++ s.earlier;
  after = s.others ++ (flat s.after ++ flat starts.0);
  is = ap flat starts.1 ∙ (flat_append g starts.0 ∙ (ap (λ l. flat l ++ flat starts.0) s.is ∙
      (ap (λ l. l ++ flat starts.0) (flat_append s.before ((s.earlier ++ c ∷ s.others) ∷ s.after)) ∙ regroup (flat s.before) s.earlier s.others (flat s.after) (flat starts.0))));
  many = length-append (flat s.before) s.earlier ∙ (ap (λ n. n + length s.earlier) (length_flat s.before) ∙ sym s.place_is);
}
  where
    regroup : (a b x y z : Group) → (a ++ ((b ++ c ∷ x) ++ y)) ++ z ≡ (a ++ b) ++ c ∷ (x ++ (y ++ z))
    regroup a b x y z = simp append_assoc

pub places_apart : (h g k : History) (p q : Receipt) (c d : Commit) → StartsWith h g → StartsWith h k → StandsIn g p c → StandsIn k q d → p.place ≡ q.place → c ≡ d
places_apart h g k p q c d first second s t same =
    let a = stands_at h g p c first s in
    let b = stands_at h k q d second t in
    same_at a.before b.before a.after b.after c d (sym a.is ∙ b.is) (a.many ∙ (same ∙ sym b.many))

-- ---- what a backed view has seen

pub known_sight : (P : Sight → Type 0) (x : Sight) (xs : List Sight) → Each P xs → IsAmong x xs → P x
known_sight P x [] each among = absurd among
known_sight P x (y ∷ xs) each (inl e) = subst P e each.0
known_sight P x (y ∷ xs) each (inr among) = known_sight P x xs each.1 among

pub sessions_apart : (z : Sizes) (mark : ℕ) (v a b c d : View) (p q : Receipt) → IsBacked z mark v → AreAmong b.sights v.sights → AreAmong d.sights v.sights → HasPlace a b p →
    HasPlace c d q → p.place ≡ q.place → (number a ≡ number c) × (begans (session a).log ≡ begans (session c).log)
sessions_apart z mark v a b c d p q backed first second s t same =
    let g : StartsWith backed.state.history s.history = known_sight (Known backed.state) (Saw (groups s.history)) v.sights backed.true_of.sights (first _ s.saw) in
    let k : StartsWith backed.state.history t.history = known_sight (Known backed.state) (Saw (groups t.history)) v.sights backed.true_of.sights (second _ t.saw) in
    let one = places_apart backed.state.history s.history t.history p q _ _ g k s.stands t.stands same in
    (ap (λ (x : Commit). x.session) one, ap (λ (x : Commit). x.transaction) one)

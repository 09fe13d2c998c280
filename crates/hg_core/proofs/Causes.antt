-- What a run had when something came about: a snapshot was the mark, and a refused write had its cause.
use Rattle.std.proofs.Common.{◌≡◌, ℕ, Bool, true, false, List, [], ◌∷◌, ◌++◌, inl, inr, refl, sym, ap, ◌∙◌, subst}
use Rattle.std.specs.Prelude.{◌⊎◌, Option, Some, None, if◌then◌else◌}
use Rattle.hg_base.specs.declared.rid.Rid.{Rid}
use Rattle.hg_base.specs.declared.line.Answer.{Answer}
use Rattle.hg_base.specs.declared.value.Value.{Value}
use Rattle.hg_core.specs.declared.ask.Ask.{Ask}
use Rattle.hg_core.specs.declared.ask.Ask.TheVariants.{Read}
use Rattle.hg_core.specs.declared.ask.Ask.TheVariants as asks
use Rattle.hg_core.specs.declared.log.LogEntry.{LogEntry}
use Rattle.hg_core.specs.declared.log.LogEntry.TheVariants.{Published}
use Rattle.hg_core.specs.declared.phase.Phase.{Phase}
use Rattle.hg_core.specs.declared.phase.Phase.TheVariants.{Idle, Declared, Probed, Entered, Fixed, Live}
use Rattle.hg_core.specs.Phases.{declared_in}
use Rattle.hg_core.specs.Logs.{begun_in, current, snapshot_number, is_in}
use Rattle.hg_core.specs.Contents.{versions}
use Rattle.hg_core.specs.OpenWrites.{writer_of}
use Rattle.hg_core.specs.Replies.{refusal}
use Rattle.hg_core.specs.State.{CoreState, opened}
use Rattle.hg_core.specs.Events.{Event, Declare, Probe, Enter, Fix, GoLive, End, Mark, Sample, SampleMask, Move, Miss, Install, Undo, Stamp, Publish, Reclaim, Take, Look, put, noting, begun_record, sampled, masked, moved_at, with_refusal, looked, happens, May}
use Rattle.hg_core.specs.Steps.{Step, Act, Arrive, Leave, Split, Unite, with_journal, step, Can, Run, run}
use Rattle.hg_core.specs.declared.journal.PassEntry.{PassEntry}
use Rattle.hg_core.specs.declared.journal.PassEntry.TheVariants.{Marked, Sampled, Masked, Tried, Took}
use Rattle.hg_core.specs.declared.register.Register.TheVariants as registers
use Rattle.hg_core.specs.Words.{number_of}
use Rattle.hg_core.specs.Passes.{PassRecord, no_record}
use Rattle.hg_core.specs.Causes.{AtSome, BeganAt, WasRefused, IsRefused, WasMoved, IsMovable}
use Rattle.hg_core.proofs.Indices.{by_number}

-- what holds after a list of steps held before it, or came about at one of them
pub came : (Has Q : CoreState → Type 0) → ((s : CoreState) (e : Step) → Can s e → Has (step s e) → Has s ⊎ Q s) → (s : CoreState) (steps : List Step) → Run s steps →
    Has (run s steps) → Has s ⊎ AtSome s steps Q
came Has Q one s [] r h = inl h
came Has Q one s (e ∷ steps) r h = later (came Has Q one (step s e) steps r.1 h)
  where
    now : Has s ⊎ Q s → Has s ⊎ AtSome s (e ∷ steps) Q
    now (inl had) = inl had
    now (inr q) = inr record { before = []; after = e ∷ steps; parts = refl; there = q }

    later : Has (step s e) ⊎ AtSome (step s e) steps Q → Has s ⊎ AtSome s (e ∷ steps) Q
    later (inl has) = now (one s e r.0 has)
    later (inr a) = inr record { before = e ∷ a.before; after = a.after; parts = ap (λ l. e ∷ l) a.parts; there = a.there }

-- one log of a family is another
log_put : (P : List LogEntry → Type 0) (Z : ℕ → Type 0) (log : ℕ → List LogEntry) (i : ℕ) (l : List LogEntry) → (P l → P (log i) ⊎ Z i) → (j : ℕ) → P (put log i l j) → P (log j) ⊎ Z j
log_put P Z log i l f = by_number i (λ k b. P (if b then l else log k) → P (log k) ⊎ Z k) f (λ k other x. inl x)

refused_less : (P : List LogEntry → Type 0) → ((r : Rid) (a : Answer) (log : List LogEntry) → P (with_refusal r (Some a) log) → P log) → (r : Rid) (o : Option Answer) (log : List LogEntry) →
    P (with_refusal r o log) → P log
refused_less P f r None log x = x
refused_less P f r (Some a) log x = f r a log x

-- ---- a snapshot was the mark

-- a session fixed the number n
abbrev FixedAt : ℕ → Phase → Type 0
FixedAt n Idle = ⊥
FixedAt n (Declared scope) = ⊥
FixedAt n (Probed scope f) = ⊥
FixedAt n (Entered scope f) = ⊥
FixedAt n (Fixed scope f m) = m ≡ n
FixedAt n (Live at scope) = ⊥

abbrev HasSnapshot : ℕ → ℕ → CoreState → Type 0
HasSnapshot j n s = BeganAt n (s.log j) ⊎ FixedAt n (s.phase j)

abbrev WasMark : ℕ → CoreState → Type 0
WasMark n s = s.mark ≡ n

-- another phase of session i, at which no number is fixed
phase_put : (n : ℕ) (phase : ℕ → Phase) (i : ℕ) (p : Phase) → (FixedAt n p → ⊥) → (j : ℕ) → FixedAt n (put phase i p j) → FixedAt n (phase j)
phase_put n phase i p none = by_number i (λ k b. FixedAt n (if b then p else phase k) → FixedAt n (phase k)) (λ x. absurd (none x)) (λ k other x. x)

begun_less : (n : ℕ) (s : CoreState) (i : ℕ) (ask : Ask) (b : ℕ) (rows : List (ℕ × List Value)) → BeganAt n (looked s i ask b rows) → BeganAt n (s.log i)
begun_less n s i (Read table low high) b rows x = x
begun_less n s i (asks.Write r) b rows x = refused_less (BeganAt n) (λ r a log y. y) r (refusal s.mark (writer_of (begun_in s.log) i) (snapshot_number (current (s.log i))) (versions s.buckets s.bucket r)) (s.log i) x
begun_less n s i (asks.Outside table) b rows x = x

module _ (j n : ℕ) where
  stays : (s : CoreState) (log : ℕ → List LogEntry) (i : ℕ) (l : List LogEntry) → (BeganAt n l → BeganAt n (s.log i)) → BeganAt n (put s.log i l j) → BeganAt n (s.log j)
  stays s log i l f x = pick (log_put (BeganAt n) (λ k. ⊥) s.log i l (λ y. inl (f y)) j x)
    where
      pick : BeganAt n (s.log j) ⊎ ⊥ → BeganAt n (s.log j)
      pick (inl y) = y
      pick (inr none) = absurd none

  published_less : (number : ℕ) (l : List LogEntry) (b : Bool) → BeganAt n (if b then Published number ∷ l else l) → BeganAt n l
  published_less number l true x = x
  published_less number l false x = x

  snapshot_act : (s : CoreState) (e : Event) → May s e → HasSnapshot j n (happens s e) → HasSnapshot j n s ⊎ WasMark n s
  snapshot_act s (Declare i scope) may (inl x) = inl (inl x)
  snapshot_act s (Declare i scope) may (inr x) = inl (inr (phase_put n s.phase i (Declared scope) (λ y. y) j x))
  snapshot_act s (Probe i) may (inl x) = inl (inl x)
  snapshot_act s (Probe i) may (inr x) = inl (inr (phase_put n s.phase i _ (λ y. y) j x))
  snapshot_act s (Enter i f) may (inl x) = inl (inl x)
  snapshot_act s (Enter i f) may (inr x) = inl (inr (phase_put n s.phase i _ (λ y. y) j x))
  snapshot_act s (Fix i f) may (inl x) = inl (inl x)
  snapshot_act s (Fix i f) may (inr x) = by_number i (λ k b. FixedAt n (if b then Fixed (declared_in (s.phase i)) f s.mark else s.phase k) → HasSnapshot k n s ⊎ WasMark n s) (λ y. inr y) (λ k other y. inl (inr y)) j x
  snapshot_act s (GoLive i m scope) may (inl x) = pick (log_put (BeganAt n) (λ k. FixedAt n (s.phase k)) s.log i _ now j x)
    where
      now : (m ≡ n) ⊎ BeganAt n (s.log i) → BeganAt n (s.log i) ⊎ FixedAt n (s.phase i)
      now (inl e) = inr (subst (FixedAt n) (sym may.1) e)
      now (inr y) = inl y

      pick : BeganAt n (s.log j) ⊎ FixedAt n (s.phase j) → HasSnapshot j n s ⊎ WasMark n s
      pick y = inl y
  snapshot_act s (GoLive i m scope) may (inr x) = inl (inr (phase_put n s.phase i (Live m scope) (λ y. y) j x))
  snapshot_act s (End i) may (inl x) = inl (inl (stays s s.log i _ (λ y. y) x))
  snapshot_act s (End i) may (inr x) = inl (inr (phase_put n s.phase i Idle (λ y. y) j x))
  snapshot_act s (Mark p known) may x = inl x
  snapshot_act s (Sample p i) may x = inl x
  snapshot_act s (SampleMask p i) may x = inl x
  snapshot_act s (Move p i) may x = inl x
  snapshot_act s (Miss p i m) may x = inl x
  snapshot_act s (Install i r image) may (inl x) = inl (inl (stays s s.log i _ (λ y. y) x))
  snapshot_act s (Install i r image) may (inr x) = inl (inr x)
  snapshot_act s (Undo i r) may (inl x) = inl (inl (stays s s.log i _ (λ y. y) x))
  snapshot_act s (Undo i r) may (inr x) = inl (inr x)
  snapshot_act s (Stamp i r) may x = inl x
  snapshot_act s (Publish js) may (inl x) = inl (inl (published_less _ (s.log j) (is_in js j) x))
  snapshot_act s (Publish js) may (inr x) = inl (inr x)
  snapshot_act s (Reclaim p kind r) may x = inl x
  snapshot_act s (Take p) may x = inl x
  snapshot_act s (Look i ask b rows) may (inl x) = inl (inl (stays s s.log i _ (begun_less n s i ask b rows) x))
  snapshot_act s (Look i ask b rows) may (inr x) = inl (inr x)

  snapshot_step : (s : CoreState) (e : Step) → Can s e → HasSnapshot j n (step s e) → HasSnapshot j n s ⊎ WasMark n s
  snapshot_step s (Act e) can x = snapshot_act s e can x
  snapshot_step s (Arrive p b) can x = inl x
  snapshot_step s (Leave p) can x = inl x
  snapshot_step s (Split p) can x = inl x
  snapshot_step s (Unite p q m) can x = inl x

pub each_snapshot : (sessions tables buckets passes quota : ℕ) (steps : List Step) → Run (opened sessions tables buckets passes quota) steps → (j n : ℕ) →
    BeganAt n ((run (opened sessions tables buckets passes quota) steps).log j) → AtSome (opened sessions tables buckets passes quota) steps (λ s. s.mark ≡ n)
each_snapshot sessions tables buckets passes quota steps r j n x = pick (came (HasSnapshot j n) (WasMark n) (snapshot_step j n) (opened sessions tables buckets passes quota) steps r (inl x))
  where
    pick : HasSnapshot j n (opened sessions tables buckets passes quota) ⊎ AtSome (opened sessions tables buckets passes quota) steps (WasMark n) →
        AtSome (opened sessions tables buckets passes quota) steps (λ s. s.mark ≡ n)
    pick (inl (inl none)) = absurd none
    pick (inl (inr none)) = absurd none
    pick (inr a) = a

-- ---- a refused write had its cause

module _ (j : ℕ) (r : Rid) (answer : Answer) where
  abbrev HasRefusal : CoreState → Type 0
  HasRefusal s = WasRefused r answer (s.log j)

  keeps : (s : CoreState) (i : ℕ) (l : List LogEntry) → (WasRefused r answer l → WasRefused r answer (s.log i)) → WasRefused r answer (put s.log i l j) → HasRefusal s
  keeps s i l f x = pick (log_put (WasRefused r answer) (λ k. ⊥) s.log i l (λ y. inl (f y)) j x)
    where
      pick : HasRefusal s ⊎ ⊥ → HasRefusal s
      pick (inl y) = y
      pick (inr none) = absurd none

  not_published : (number : ℕ) (l : List LogEntry) (b : Bool) → WasRefused r answer (if b then Published number ∷ l else l) → WasRefused r answer l
  not_published number l true x = x
  not_published number l false x = x

  -- a write that is tried now
  tried : (s : CoreState) (i : ℕ) (rid : Rid) (o : Option Answer) →
      o ≡ refusal s.mark (writer_of (begun_in s.log) i) (snapshot_number (current (s.log i))) (versions s.buckets s.bucket rid) →
      WasRefused r answer (with_refusal rid o (s.log i)) → WasRefused r answer (s.log i) ⊎ IsRefused i r answer s
  tried s i rid None is x = inl x
  tried s i rid (Some why) is (inr x) = inl x
  tried s i rid (Some why) is (inl x) = inr
      (ap (λ k. refusal s.mark (writer_of (begun_in s.log) i) (snapshot_number (current (s.log i))) (versions s.buckets s.bucket k)) (sym x.0) ∙ (sym is ∙ ap Some x.1))

  refusal_look : (s : CoreState) (i : ℕ) (ask : Ask) (b : ℕ) (rows : List (ℕ × List Value)) → HasRefusal (happens s (Look i ask b rows)) → HasRefusal s ⊎ IsRefused j r answer s
  refusal_look s i (Read table low high) b rows x = inl (keeps s i _ (λ y. y) x)
  refusal_look s i (asks.Write rid) b rows x = log_put (WasRefused r answer) (λ k. IsRefused k r answer s) s.log i _ (tried s i rid _ refl) j x
  refusal_look s i (asks.Outside table) b rows x = inl (keeps s i _ (λ y. y) x)

  refusal_act : (s : CoreState) (e : Event) → HasRefusal (happens s e) → HasRefusal s ⊎ IsRefused j r answer s
  refusal_act s (Declare i scope) x = inl x
  refusal_act s (Probe i) x = inl x
  refusal_act s (Enter i f) x = inl x
  refusal_act s (Fix i f) x = inl x
  refusal_act s (GoLive i m scope) x = inl (keeps s i _ (λ y. y) x)
  refusal_act s (End i) x = inl (keeps s i _ (λ y. y) x)
  refusal_act s (Mark p known) x = inl x
  refusal_act s (Sample p i) x = inl x
  refusal_act s (SampleMask p i) x = inl x
  refusal_act s (Move p i) x = inl x
  refusal_act s (Miss p i m) x = inl x
  refusal_act s (Install i rid image) x = inl (keeps s i _ (λ y. y) x)
  refusal_act s (Undo i rid) x = inl (keeps s i _ (λ y. y) x)
  refusal_act s (Stamp i rid) x = inl x
  refusal_act s (Publish js) x = inl (not_published _ (s.log j) (is_in js j) x)
  refusal_act s (Reclaim p kind rid) x = inl x
  refusal_act s (Take p) x = inl x
  refusal_act s (Look i ask b rows) x = refusal_look s i ask b rows x

  refusal_step : (s : CoreState) (e : Step) → Can s e → HasRefusal (step s e) → HasRefusal s ⊎ IsRefused j r answer s
  refusal_step s (Act e) can x = refusal_act s e x
  refusal_step s (Arrive p b) can x = inl x
  refusal_step s (Leave p) can x = inl x
  refusal_step s (Split p) can x = inl x
  refusal_step s (Unite p q m) can x = inl x

pub each_refusal : (sessions tables buckets passes quota : ℕ) (steps : List Step) → Run (opened sessions tables buckets passes quota) steps → (j : ℕ) (r : Rid) (answer : Answer) →
    WasRefused r answer ((run (opened sessions tables buckets passes quota) steps).log j) → AtSome (opened sessions tables buckets passes quota) steps (IsRefused j r answer)
each_refusal sessions tables buckets passes quota steps t j r answer x =
    pick (came (HasRefusal j r answer) (IsRefused j r answer) (refusal_step j r answer) (opened sessions tables buckets passes quota) steps t x)
  where
    pick : HasRefusal j r answer (opened sessions tables buckets passes quota) ⊎ AtSome (opened sessions tables buckets passes quota) steps (IsRefused j r answer) →
        AtSome (opened sessions tables buckets passes quota) steps (IsRefused j r answer)
    pick (inl none) = absurd none
    pick (inr a) = a

-- ---- a moved snapshot was live, with declared tables

module _ (j n : ℕ) where
  moved_either : (xs ys : List PassEntry) → WasMoved j n (xs ++ ys) → WasMoved j n xs ⊎ WasMoved j n ys
  moved_either [] ys x = inr x
  moved_either (Marked mark ∷ xs) ys x = moved_either xs ys x
  moved_either (Took group ∷ xs) ys x = moved_either xs ys x
  moved_either (Sampled i register ∷ xs) ys x = moved_either xs ys x
  moved_either (Masked i mask ∷ xs) ys x = moved_either xs ys x
  moved_either (Tried i number false ∷ xs) ys x = moved_either xs ys x
  moved_either (Tried i number true ∷ xs) ys (inl x) = inl (inl x)
  moved_either (Tried i number true ∷ xs) ys (inr x) = more (moved_either xs ys x)
    where
      more : WasMoved j n xs ⊎ WasMoved j n ys → WasMoved j n (Tried i number true ∷ xs) ⊎ WasMoved j n ys
      more (inl y) = inl (inr y)
      more (inr y) = inr y

  -- some pass moved it
  abbrev pub HasMove : CoreState → Type 0
  HasMove s = (p : ℕ) × WasMoved j n (s.pass p).journal

  -- the record of pass i is another
  move_put : (s : CoreState) (i : ℕ) (r : PassRecord) → (WasMoved j n r.journal → HasMove s ⊎ IsMovable j n s) → (p : ℕ) → WasMoved j n (put s.pass i r p).journal → HasMove s ⊎ IsMovable j n s
  move_put s i r f = by_number i (λ k b. WasMoved j n (if b then r else s.pass k).journal → HasMove s ⊎ IsMovable j n s) f (λ k other x. inl (k, x))

  -- an entry more, which is no such try
  move_more : (s : CoreState) (i : ℕ) (entry : PassEntry) → (WasMoved j n (entry ∷ []) → IsMovable j n s) → WasMoved j n ((s.pass i).journal ++ entry ∷ []) → HasMove s ⊎ IsMovable j n s
  move_more s i entry f x = pick (moved_either (s.pass i).journal (entry ∷ []) x)
    where
      pick : WasMoved j n (s.pass i).journal ⊎ WasMoved j n (entry ∷ []) → HasMove s ⊎ IsMovable j n s
      pick (inl y) = inl (i, y)
      pick (inr y) = inr (f y)

  -- the try that succeeded
  moved_now : (s : CoreState) (p i : ℕ) → May s (Move p i) → WasMoved j n (Tried i (number_of (s.register i)) true ∷ []) → IsMovable j n s
  moved_now s p i may (inr none) = absurd none
  moved_now s p i may (inl x) = ap s.register (sym x.0) ∙ (may.2.shown ∙ ap (λ m. registers.Live m true false) (sym (ap number_of may.2.shown) ∙ x.1))

  move_act : (s : CoreState) (e : Event) → May s e → HasMove (happens s e) → HasMove s ⊎ IsMovable j n s
  move_act s (Declare i scope) may x = inl x
  move_act s (Probe i) may x = inl x
  move_act s (Enter i f) may x = inl x
  move_act s (Fix i f) may x = inl x
  move_act s (GoLive i m scope) may x = inl x
  move_act s (End i) may x = inl x
  move_act s (Mark p known) may x = move_put s p _ (move_more s p _ (λ y. absurd y)) x.0 x.1
  move_act s (Sample p i) may x = move_put s p _ (move_more s p _ (λ y. absurd y)) x.0 x.1
  move_act s (SampleMask p i) may x = move_put s p _ (move_more s p _ (λ y. absurd y)) x.0 x.1
  move_act s (Move p i) may x = move_put s p _ (move_more s p _ (moved_now s p i may)) x.0 x.1
  move_act s (Miss p i m) may x = move_put s p _ (move_more s p _ (λ y. absurd y)) x.0 x.1
  move_act s (Install i r image) may x = inl x
  move_act s (Undo i r) may x = inl x
  move_act s (Stamp i r) may x = inl x
  move_act s (Publish js) may x = inl x
  move_act s (Reclaim p kind r) may x = inl x
  move_act s (Take p) may x = move_put s p _ (move_more s p _ (λ y. absurd y)) x.0 x.1
  move_act s (Look i ask b rows) may x = inl x

  -- two passes become one
  move_united : (s : CoreState) (p q x : ℕ) → WasMoved j n (put (put s.pass p (with_journal s p q)) q no_record x).journal → HasMove s
  move_united s p q = by_number q (λ k b. WasMoved j n (if b then no_record else put s.pass p (with_journal s p q) k).journal → HasMove s) (λ none. absurd none)
      (λ k other. by_number p (λ k b. WasMoved j n (if b then with_journal s p q else s.pass k).journal → HasMove s) both (λ k away y. (k, y)) k)
    where
      pick : WasMoved j n (s.pass p).journal ⊎ WasMoved j n (s.pass q).journal → HasMove s
      pick (inl y) = (p, y)
      pick (inr y) = (q, y)

      both : WasMoved j n ((s.pass p).journal ++ (s.pass q).journal) → HasMove s
      both y = pick (moved_either (s.pass p).journal (s.pass q).journal y)

  move_step : (s : CoreState) (e : Step) → Can s e → HasMove (step s e) → HasMove s ⊎ IsMovable j n s
  move_step s (Act e) can x = move_act s e can x
  move_step s (Arrive p b) can x = inl x
  move_step s (Leave p) can x = inl x
  move_step s (Split p) can x = move_put s s.passes (record (s.pass p) { journal = [] }) (λ none. absurd none) x.0 x.1
  move_step s (Unite p q m) can x = inl (move_united s p q x.0 x.1)

pub each_move : (sessions tables buckets passes quota : ℕ) (steps : List Step) → Run (opened sessions tables buckets passes quota) steps → (p j n : ℕ) →
    WasMoved j n ((run (opened sessions tables buckets passes quota) steps).pass p).journal → AtSome (opened sessions tables buckets passes quota) steps (IsMovable j n)
each_move sessions tables buckets passes quota steps t p j n x =
    pick (came (HasMove j n) (IsMovable j n) (move_step j n) (opened sessions tables buckets passes quota) steps t (p, x))
  where
    pick : HasMove j n (opened sessions tables buckets passes quota) ⊎ AtSome (opened sessions tables buckets passes quota) steps (IsMovable j n) →
        AtSome (opened sessions tables buckets passes quota) steps (IsMovable j n)
    pick (inl none) = absurd none.1
    pick (inr a) = a

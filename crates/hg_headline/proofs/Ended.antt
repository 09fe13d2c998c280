-- Own writes, and the line that ends a transaction: it says what its entries say.
use Rattle.std.proofs.Common.{◌≡◌, ℕ, suc, ◌<◌, ◌≤◌, ◌⊎◌, List, [], ◌∷◌, ◌++◌, Bool, true, Option, Some, None, refl, sym, ap, ◌∙◌, subst, arith}
use Rattle.std.specs.Prelude.{◌==◌, cond}
use Rattle.std.specs.List.{cons_option}
use Rattle.hg_base.specs.declared.scope.Snapshot.{Snapshot}
use Rattle.hg_base.specs.declared.report.Told.{Told}
use Rattle.hg_base.specs.declared.line.Answer.{Answer}
use Rattle.hg_base.specs.declared.line.Answer.TheVariants.{Begun, Newer}
use Rattle.hg_base.specs.Lists.{Each, present}
use Rattle.hg_base.specs.History.{Write}
use Rattle.hg_base.specs.Transcript.{Said, last_images, stored, committed}
use Rattle.hg_base.specs.Freshness.{numbers_of}
use Rattle.hg_base.proofs.ListFacts.{append_nil}
use Rattle.hg_core.specs.declared.log.LogEntry.{LogEntry}
use Rattle.hg_core.specs.declared.log.LogEntry.TheVariants.{Began, Saw, Refused, Outside, Wrote, Undid, Published, Over}
use Rattle.hg_core.specs.Logs.{current, begans, own_writes, snapshot_number, commit_in, published, UpTo}
use Rattle.hg_core.specs.Replies.{writes_in, numbers_in}
use Rattle.hg_core.specs.Reading.{close}
use Rattle.hg_headline.specs.Gathered.{began_at}
use Rattle.hg_headline.proofs.Words.{cond_same, same_number, differs, none_is_not_some}
use Rattle.hg_headline.proofs.Ties.{Says, shows_begun, made_at}

pub each_present : (P : ℕ → Type 0) (o : Option ℕ) (xs : List (Option ℕ)) → Each P (cons_option o []) → Each P (present xs) → Each P (present (o ∷ xs))
each_present P None xs h k = k
each_present P (Some x) xs h k = (h.0, k)

pub each_none : (P : ℕ → Type 0) (o : Option ℕ) → o ≡ None → Each P (cons_option o [])
each_none P o e = subst (λ p. Each P (cons_option p [])) (sym e) tt

pub each_some : (P : ℕ → Type 0) (o : Option ℕ) (n : ℕ) → o ≡ Some n → P n → Each P (cons_option o [])
each_some P o n e h = subst (λ p. Each P (cons_option p [])) (sym e) (h, tt)

abbrev pub newer_in : Answer → Option ℕ
newer_in a = elim a [ Newer c ↦ Some c | _ ↦ None ]

abbrev pub snapshot_in : Answer → Option ℕ → Option ℕ
snapshot_in a at = elim a [ Begun s ↦ Some s | _ ↦ at ]

-- ---- own writes

pub writes_above : (x : ℕ) (l : List LogEntry) → begans l < x → writes_in x l ≡ []
writes_above x [] h = refl
writes_above x (Began at scope ∷ l) h = writes_above x l (omega (arith, h))
writes_above x (Wrote r image ∷ l) h = ap (λ b. cond b (record { rid = r; image = image } ∷ writes_in x l) (writes_in x l)) (differs (begans l) x h) ∙ writes_above x l h
writes_above x (Saw t low high b rows ∷ l) h = writes_above x l h
writes_above x (Refused r a ∷ l) h = writes_above x l h
writes_above x (Outside t ∷ l) h = writes_above x l h
writes_above x (Undid r ∷ l) h = writes_above x l h
writes_above x (Published n ∷ l) h = writes_above x l h
writes_above x (Over ∷ l) h = writes_above x l h

pub own_is : (l : List LogEntry) (c : Snapshot) → current l ≡ Some c → own_writes l ≡ writes_in (begans l) l
own_is [] c e = refl
own_is (Began at scope ∷ l) c e = sym (writes_above (suc (begans l)) l (omega arith))
own_is (Wrote r image ∷ l) c e =
    let w : Write = record { rid = r; image = image } in
    ap (λ ws. w ∷ ws) (own_is l c e) ∙ sym (ap (λ b. cond b (w ∷ writes_in (begans l) l) (writes_in (begans l) l)) (same_number (begans l)))
own_is (Saw t low high b rows ∷ l) c e = own_is l c e
own_is (Refused r a ∷ l) c e = own_is l c e
own_is (Outside t ∷ l) c e = own_is l c e
own_is (Undid r ∷ l) c e = own_is l c e
own_is (Published n ∷ l) c e = own_is l c e
own_is (Over ∷ l) c e = absurd (none_is_not_some c e)

pub begans_positive : (l : List LogEntry) (c : Snapshot) → current l ≡ Some c → 0 < begans l
begans_positive [] c e = absurd (none_is_not_some c e)
begans_positive (Began at scope ∷ l) c e = omega arith
begans_positive (Wrote r image ∷ l) c e = begans_positive l c e
begans_positive (Saw t low high b rows ∷ l) c e = begans_positive l c e
begans_positive (Refused r a ∷ l) c e = begans_positive l c e
begans_positive (Outside t ∷ l) c e = begans_positive l c e
begans_positive (Undid r ∷ l) c e = begans_positive l c e
begans_positive (Published n ∷ l) c e = begans_positive l c e
begans_positive (Over ∷ l) c e = absurd (none_is_not_some c e)

-- ---- a transaction that ends

pub close_count : (o : Option ℕ) (l : List LogEntry) → begans (close o ++ l) ≡ begans l
close_count None l = refl
close_count (Some c) l = refl

pub close_current : (o : Option ℕ) (l : List LogEntry) → current (close o ++ l) ≡ None
close_current None l = refl
close_current (Some c) l = refl

pub close_writes : (o : Option ℕ) (x : ℕ) (l : List LogEntry) → writes_in x (close o ++ l) ≡ writes_in x l
close_writes None x l = refl
close_writes (Some c) x l = refl

pub close_numbers : (o : Option ℕ) (x : ℕ) (l : List LogEntry) → numbers_in x (close o ++ l) ≡ cond (begans l == x) (cons_option o (numbers_in x l)) (numbers_in x l)
close_numbers None x l = sym (cond_same (begans l == x) (numbers_in x l))
close_numbers (Some c) x l = refl

pub close_known : (o : Option ℕ) (n : ℕ) (l : List LogEntry) → UpTo n (close o ++ l) → UpTo n l × Each (λ m. m ≤ n) (cons_option o [])
close_known None n l h = (h, tt)
close_known (Some c) n l h = (h.1, (h.0, tt))

pub close_begun : (o : Option ℕ) (d : Bool) (n : ℕ) (l : List LogEntry) → began_at d n (close o ++ l) ≡ began_at d n l
close_begun None d n l = refl
close_begun (Some c) d n l = refl

pub close_made : (o : Option ℕ) (n j : ℕ) (l : List LogEntry) → published n j (close o ++ l) ≡ published n j l ++ made_at n o (commit_in j l)
close_made None n j l = sym (append_nil (published n j l))
close_made (Some c) n j l = refl

-- the line that ends a transaction, whose entries before the end give l1
pub says_close : (j : ℕ) (now : Said) (l l1 : List LogEntry) (o : Option ℕ) (c : Snapshot) → now.session ≡ j → committed now ≡ o → now.transaction ≡ begans l1 → current l1 ≡ Some c → now.at ≡ c.at →
    ((x : ℕ) → writes_in x l1 ≡ cond (now.transaction == x) (cons_option (stored now) (writes_in x l)) (writes_in x l)) → ((x : ℕ) → numbers_in x l1 ≡ numbers_in x l) →
    ((n : ℕ) → UpTo n l1 → Each (λ m. m ≤ n) (cons_option o []) → UpTo n l × Each (λ m. m ≤ n) (numbers_of now)) →
    ((d : Bool) (told : Told) → told.session ≡ j → began_at d told.number l1 ≡ true → (shows_begun d told now ≡ true) ⊎ (began_at d told.number l ≡ true)) →
    ((n : ℕ) → published n j l1 ≡ published n j l) → Says j now l (close o ++ l1)
says_close j now l l1 o c mine ends_by tr cur at own numbers known begun made = record {
  mine = mine;
  own = λ x. close_writes o x l1 ∙ own x;
  numbers = λ x.
      close_numbers o x l1 ∙ ap (λ n. cond (n == x) (cons_option o (numbers_in x l1)) (numbers_in x l1)) (sym tr)
      ∙ (λ i. cond (now.transaction == x) (cons_option (sym ends_by i) (numbers x i)) (numbers x i));
  known = λ n h. let k = close_known o n l1 h in known n k.0 k.1;
  begun = λ d told e h. begun d told e (sym (close_begun o d told.number l1) ∙ h);
  published = λ n.
      close_made o n j l1 ∙ ap (λ cs. cs ++ made_at n o (commit_in j l1)) (made n)
      ∙ (λ i. published n j l ++ made_at n (sym ends_by i) (record {
        session = sym mine i;
        transaction = sym tr i;
        at = (ap snapshot_number cur ∙ sym at) i;
        images = last_images ((own_is l1 c cur ∙ ap (λ m. writes_in m l1) (sym tr) ∙ sym (close_writes o now.transaction l1)) i);
      }));
}

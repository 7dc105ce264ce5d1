-- What undo comes to in a good state: it is accepted or loses power, and leaves a server that serves with no job open.
use Rattle.std.proofs.Common.{◌≡◌, ℕ, Bool, true, false, ◌||◌, List, [], ◌∷◌, map, length, get_or, replicate, Some, None, Ok, Err, Option, Result, sym, refl, ap, ◌∙◌, subst, ⊎_elim, arith}
use Rattle.std.proofs.lemmas.Bool.{false≢true, or_cases, both_ways}
use Rattle.format.specs.declared.page.Page.{Page}
use Rattle.format.specs.declared.slot.Slot.{Slot}
use Rattle.format.specs.declared.slot.Slot.TheVariants.{Record, Job, Checkpoint}
use Rattle.format.specs.declared.slot.JobEvent.TheVariants.{Open, Commit, End}
use Rattle.format.specs.Changes.{Meaning, Lawful}
use Rattle.format.specs.Pages.{page_of}
use Rattle.device.specs.PageStores.{PageModel}
use Rattle.recovery_log.specs.Log.{Log, is_open, is_committed, Numbered}
use Rattle.rules.specs.declared.refusal.Refusal.{Refusal}
use Rattle.rules.specs.declared.refusal.Refusal.TheVariants.{NotTheNextPass}
use Rattle.rules.specs.Ledger.{Ledger}
use Rattle.rules.specs.Numbers.{number_of}
use Rattle.rules.specs.Plans.{force, Performed, Does}
use Rattle.rules.specs.Restart.{whole, undone, undone_plan, undo_plan}
use Rattle.rules.specs.Service.{copy_of, appends}
use Rattle.rules.specs.State.{Devices, Working, Memory, out, analysed, redone, serving, World, size, log_length}
use Rattle.rules.specs.Tables.{Jobs}
use Rattle.promises.proofs.Appends.{Plain, safe_appends, dids_appends}
use Rattle.promises.proofs.Asking.{asked, answered, performing, readied}
use Rattle.promises.proofs.Cuts.{older_up_to}
use Rattle.promises.proofs.Images.{image_lrc}
use Rattle.promises.proofs.Invariants.{live, entry_of, pile_by, Durable, Kept, Settled, Redone, Copy, Serving, Entered, Stage, Good}
use Rattle.promises.proofs.Legal.{count, pile, image, whole_page, open_jobs, Older, same, more}
use Rattle.promises.proofs.Membership.{In, here, there}
use Rattle.promises.proofs.Operations.{Forced, did_force, performed_safe}
use Rattle.promises.proofs.PageCounts.{count_older}
use Rattle.promises.proofs.Piles.{pile_live}
use Rattle.promises.proofs.Safety.{Dids, Ended, onto, Grown, SafeOps}
use Rattle.promises.proofs.Serves.{first_older, entries_alike}
use Rattle.promises.proofs.Undoing.{Closes, AllUndone, undo_true}

module _ {C : Type 0} where
  pub closes_plain : (ss : List (Slot C)) → Closes ss → Plain ss
  closes_plain [] c = tt
  closes_plain (Record r ∷ ss) c = (tt, closes_plain ss c.1)
  closes_plain (Job Open k ∷ ss) c = (tt, closes_plain ss c.1)
  closes_plain (Job Commit k ∷ ss) c = let e = c.0 in let z : ◌≡◌ {A = ℕ} 0 1 = cc in absurd (omega arith)
  closes_plain (Job End k ∷ ss) c = (tt, closes_plain ss c.1)
  closes_plain (Checkpoint c ∷ ss) e = absurd e

  onto_older : (ss : List (Slot C)) (L : Log C) → Older L (onto ss L)
  onto_older [] L = same
  onto_older (s ∷ ss) L = more (onto_older ss L)

  pile_all : (test : ℕ → Bool) (xs : List (Numbered C)) → ((x : Numbered C) → In x xs → test x.record'.job ≡ true) → pile_by test xs ≡ map entry_of xs
  pile_all test [] h = refl
  pile_all test (x ∷ xs) h = rw (h x (here refl)) (ap (λ es. entry_of x ∷ es) (pile_all test xs (λ y i. h y (there i))))

module _ {C : Type 0} (m : Meaning C) (law : Lawful m) where
  -- where no job is open, the entries of kept jobs are all that stands
  pub entered_closed : (h : Ledger C) (d : Devices) → Kept m h d → ((j : ℕ) → is_open (whole m d) j ≡ false) → Entered m h d
  entered_closed h d k closed p =
      let L = whole m d in
      entries_alike (live L) (is_committed L) p h.entries (λ e i. ap (λ (b : Bool). b || is_committed L e.job) (closed e.job))
      ∙ (k.book.entries p ∙ pile_all (is_committed L) (pile L p) (λ x i. ⊎_elim (λ o. absurd (both_ways _ (closed x.record'.job) o)) (λ c. c)
      (or_cases (is_open L x.record'.job) (is_committed L x.record'.job) (pile_live (size d) d.log.capacity L p x k.durable.legal k.durable.exclusive i))))

  -- what undo leaves when it is done
  pub record Undoes (d : Devices) (x : Working) (r : Result (ℕ × ℕ) Refusal) (v : World) : Type 0 where
    pub true' : AllUndone m (size d) d.log.capacity (whole m d) x.copies (undone m d x)
    pub answer : r ≡ Ok ((undone m d x).state.compensations, (undone m d x).state.ends)
    pub memory : v.memory ≡ serving (record { copies = (undone m d x).state.work.copies; jobs = []; first = x.first })
    pub log : whole m v.devices ≡ onto true'.slots (whole m d)
    pub pages : v.devices.pages ≡ d.pages
    pub capacity : v.devices.log.capacity ≡ d.log.capacity
    pub all_forced : v.devices.log.forced ≡ log_length v.devices
    pub power : v.devices.log.powered ≡ true

  -- the server that undo leaves serves
  finished_serving : (d e : Devices) (x : Working) (a : AllUndone m (size d) d.log.capacity (whole m d) x.copies (undone m d x)) → Redone m d x → Durable m e
      → whole m e ≡ onto a.slots (whole m d) → e.pages ≡ d.pages → e.log.powered ≡ true → Serving m e (record { copies = (undone m d x).state.work.copies; jobs = []; first = x.first })
  finished_serving d e x a r h grown pages power = record {
    power = record { pages = ap (λ (s : PageModel). s.powered) pages ∙ r.power.pages; log = power };
    jobs = sym (ap open_jobs grown ∙ a.table);
    one = λ j k p i. absurd (false≢true i);
    changed = λ j y o. absurd (both_ways _ (closed j) o);
    many = a.many ∙ (r.many ∙ ap (λ (s : PageModel). length s.pages) (sym pages));
    copies = copied;
    first = first_older m d e (subst (Older (whole m d)) (sym grown) (onto_older a.slots (whole m d))) x.first
        (λ p. omega (arith, ap (λ (s : PageModel). (page_of (get_or s.pages p (replicate 256 0))).lrc) pages)) r.first;
    young = λ j o. absurd (both_ways _ (closed j) o);
    opened = λ j o. absurd (both_ways _ (closed j) o);
  }
    where
      closed : (j : ℕ) → is_open (whole m e) j ≡ false
      closed j = ap (λ (L : Log C). is_open L j) grown ∙ a.opened j

      copied : (p : ℕ) → Copy m e (record { copies = (undone m d x).state.work.copies; jobs = []; first = x.first }) p
      copied p =
          let K = whole m e in
          let is : copy_of (undone m d x).state.work.copies p ≡ whole_page m K p = a.copies p ∙ ap (λ (L : Log C). whole_page m L p) (sym grown) in
          let lrc : (copy_of (undone m d x).state.work.copies p).lrc ≡ count K p = ap (λ (q : Page). q.lrc) is ∙ image_lrc (size e) e.log.capacity m K p (count K p) h.legal (omega arith) in
          let ahead = h.ahead p in
          let less = count_older _ K p (older_up_to e.log.forced K) in
          record {
            image = is ∙ ap (image m K p) (sym lrc);
            above = omega arith;
            below = omega arith;
            complete = λ i. lrc;
          }

  -- after redo it loses power or finishes the restart
  pub undo_next : (Q : Result (ℕ × ℕ) Refusal → World → Type 0) (h : Ledger C) (d : Devices) (x : Working) (v : World) (r : Result (ℕ × ℕ) Refusal) → Good m h (record { devices = d; memory = redone x })
      → ((why : Refusal) → r ≡ Err why → number_of why ≡ 17 → v.memory ≡ out → Kept m h v.devices → Q r v)
      → (Undoes d x r v → Kept m h v.devices → Stage m h v.devices v.memory → Q r v)
      → Does m (undo_plan m (record { devices = d; memory = redone x })) (record { devices = d; memory = redone x }) r v → Q r v
  undo_next Q h d x v r g lost aye y = go (undone m d x).why t.why (readied m g.stage.1.power (answered m refl y))
    where
      t : AllUndone m (size d) d.log.capacity (whole m d) x.copies (undone m d x)
      t = undo_true m d x g.kept.durable g.stage.1

      answer : Result (ℕ × ℕ) Refusal
      answer = Ok ((undone m d x).state.compensations, (undone m d x).state.ends)

      after : Memory
      after = serving (record { copies = (undone m d x).state.work.copies; jobs = (undone m d x).state.jobs; first = x.first })

      plain : Plain t.slots
      plain = closes_plain t.slots t.closes

      safe : SafeOps m h (appends t.slots (force ∷ [])) d
      safe = safe_appends m law h t.slots (force ∷ []) d g.kept plain t.legal t.exclusive (λ e a k. (tt, λ f b. tt))

      finish : (e f : Devices) → Grown m t.slots d e → Dids m (force ∷ []) e f → Forced m e f
      finish e f a (Dids.next b Dids.none) = did_force m law e f b

      ended : Ended m h answer after (appends t.slots (force ∷ [])) d r v → Q r v
      ended (Ended.lost why is num mem k) = lost why is num mem k
      ended (Ended.all_done is mem ops k) =
          let z = dids_appends m law h t.slots (force ∷ []) d v.devices g.kept plain t.legal t.exclusive ops in
          let f = finish z.0 v.devices z.1 z.3 in
          let grown = f.log ∙ z.1.log in
          let pages = f.pages ∙ z.1.pages in
          let memory : v.memory ≡ serving (record { copies = (undone m d x).state.work.copies; jobs = []; first = x.first })
          = mem ∙ ap (λ (jobs : Jobs). serving (record { copies = (undone m d x).state.work.copies; jobs = jobs; first = x.first })) t.jobs in
          let closed : (j : ℕ) → is_open (whole m v.devices) j ≡ false = λ j. ap (λ (L : Log C). is_open L j) grown ∙ t.opened j in
          aye
          (record { true' = t; answer = is; memory = memory; log = grown; pages = pages; capacity = f.capacity ∙ z.1.capacity; all_forced = f.all; power = f.power }) k
          (subst (Stage m h v.devices) (sym memory) (
            record { none = g.stage.0.none; exact = λ j. g.stage.0.exact j ∙ (sym (t.committed j) ∙ ap (λ (L : Log C). is_committed L j) (sym grown)) },
            finished_serving d v.devices x t g.stage.1 k.durable grown pages f.power,
            entered_closed h v.devices k closed,
          ))

      go : (o : Option Refusal) → o ≡ None → Does m (undone_plan m x (undone m d x).state o) (record { devices = d; memory = redone x }) r v → Q r v
      go (Some why) e z = let c : ◌≡◌ {A = ℕ} 0 1 = cc in absurd (omega arith)
      go None e z = ended (performed_safe m law h answer after (appends t.slots (force ∷ [])) d r v g.kept safe
          (subst (λ (ss : List (Slot C)). Performed m answer after (appends ss (force ∷ [])) d r v) t.appended (performing m z)))

  -- in every stage: it is refused where it is not the next pass
  pub undo_comes : (Q : Result (ℕ × ℕ) Refusal → World → Type 0) (h : Ledger C) (d : Devices) (memory : Memory) (v : World) (r : Result (ℕ × ℕ) Refusal) → Good m h (record { devices = d; memory = memory })
      → Q (Err NotTheNextPass) (record { devices = d; memory = memory })
      → ((why : Refusal) → Settled m h d → r ≡ Err why → number_of why ≡ 17 → v.memory ≡ out → Kept m h v.devices → Q r v)
      → ((x : Working) → Settled m h d → memory ≡ redone x → Redone m d x → Undoes d x r v → Kept m h v.devices → Stage m h v.devices v.memory → Q r v)
      → Does m (undo_plan m (record { devices = d; memory = memory })) (record { devices = d; memory = memory }) r v → Q r v
  undo_comes Q h d out v r g nay lost aye x = asked m Q nay (λ e y. absurd (false≢true e)) x
  undo_comes Q h d (analysed s) v r g nay lost aye x = asked m Q nay (λ e y. absurd (false≢true e)) x
  undo_comes Q h d (serving s) v r g nay lost aye x = asked m Q nay (λ e y. absurd (false≢true e)) x
  undo_comes Q h d (redone s) v r g nay lost aye x = undo_next Q h d s v r g (λ why. lost why g.stage.0) (aye s g.stage.0 refl g.stage.1) x
